-- Lines whose words are easily mistaken for others, computed over the definitions.
--   same-words       `big 00 big 00 0 5`: TYPE and VALUE are the same word, at 4 and at 11
--   no-characters    `big  big  0 5`: TYPE and VALUE have no characters, and stand at 4 and at 9 all the same
use Rattle.std.specs.Prelude.{Option, Some}
use mathlib.Core.Path.{◌≡◌, refl}
use mathlib.Core.List.{[], ◌∷◌}
use Prim.Native.Nat.{ℕ}
use Rattle.choices.specs.Branch.{choose}
use Rattle.cdr.specs.declared.Order.TheVariants.{Big}
use Rattle.decimals.specs.Numerals.{all_numerals, number_upto, number_from, number_word}
use Rattle.ask_words.specs.Words.{words_from, same_word, order_word}
use Rattle.ask_words.specs.Fields.{coded_first, subject_first, value_fields}
use Rattle.ask_words.specs.Places.{word_place, fields_in}
use Rattle.ask_words.specs.declared.Asked.{Asked}

abbrev standing : (typed typed_end value value_end : ℕ) → Option Asked
standing typed typed_end value value_end =
    Some (record {
      subject = record {
        typed = record { order = Big; from = typed; end = typed_end };
        value = record { order = Big; from = value; end = value_end };
        start = 0;
      };
      number = 5;
    })

pub same-words : fields_in (98 ∷ 105 ∷ 103 ∷ 32 ∷ 48 ∷ 48 ∷ 32 ∷ 98 ∷ 105 ∷ 103 ∷ 32 ∷ 48 ∷ 48 ∷ 32 ∷ 48 ∷ 32 ∷ 53 ∷ []) ≡ standing 4 6 11 13
unfolding fields_in word_place value_fields subject_first coded_first order_word same_word words_from choose number_word number_from number_upto all_numerals
same-words = refl

pub no-characters : fields_in (98 ∷ 105 ∷ 103 ∷ 32 ∷ 32 ∷ 98 ∷ 105 ∷ 103 ∷ 32 ∷ 32 ∷ 48 ∷ 32 ∷ 53 ∷ []) ≡ standing 4 4 9 9
unfolding fields_in word_place value_fields subject_first coded_first order_word same_word words_from choose number_word number_from number_upto all_numerals
no-characters = refl
