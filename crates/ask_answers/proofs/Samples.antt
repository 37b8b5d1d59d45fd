-- The definitions at small inputs, computed.
use mathlib.Core.Path.{◌≡◌, refl}
use mathlib.Core.List.{List, [], ◌∷◌, ◌++◌}
use Prim.Native.Nat.{ℕ}
use Rattle.choices.specs.Branch.{choose}
use Rattle.cdr.specs.declared.Order.TheVariants.{Big, Little}
use Rattle.decimals.specs.Numerals.{all_numerals, number_upto, number_from, number_word}
use Rattle.hexline.specs.Digit.{is_digit, digit_value}
use Rattle.hexline.specs.Decoding.{octet_of, all_digits, line_octets}
use Rattle.cdr.specs.Align.{index_of}
use Rattle.value_meaning.specs.Sinks.{source}
use Rattle.ask_words.specs.Words.{words_from, same_word, order_word}
use Rattle.ask_words.specs.Fields.{coded_first, subject_first, value_fields, rewrite_fields_of, numbered_fields_of}
use Rattle.rewrite_meaning.specs.Written.{target}
use Rattle.ask_octets.specs.Octets.{octets_word}
use Rattle.ask_answers.specs.Questions.{value_word, item_word, rewrite_word, profile_word, component_word, type_asked, value_asked, item_asked, rewrite_asked, profile_asked, component_asked, no_question, about_of, word_question, question_of}

-- `type ` and `type big `
abbrev behind_type : List ℕ → List ℕ
behind_type rest = 116 ∷ 121 ∷ 112 ∷ 101 ∷ 32 ∷ rest

abbrev behind_big : List ℕ → List ℕ
behind_big rest = behind_type (98 ∷ 105 ∷ 103 ∷ 32 ∷ rest)

-- `type big 0aF9`, `type little 00`, `type big -`
pub asked :
    (question_of (behind_big (48 ∷ 97 ∷ 70 ∷ 57 ∷ [])) ≡ type_asked Big (10 ∷ 249 ∷ []))
    × (question_of (behind_type (108 ∷ 105 ∷ 116 ∷ 116 ∷ 108 ∷ 101 ∷ 32 ∷ 48 ∷ 48 ∷ [])) ≡ type_asked Little (0 ∷ []))
    × (question_of (behind_big (45 ∷ [])) ≡ type_asked Big [])
unfolding choose is_digit digit_value octet_of all_digits line_octets words_from same_word order_word octets_word word_question question_of
asked = (refl, refl, refl)

-- an empty line, `type big `, `type big 0`, `type big 0g`, `type big 00 `, `type  big 00`, `type big 00` and a CR
pub not-asked :
    (question_of [] ≡ no_question)
    × (question_of (behind_big []) ≡ no_question)
    × (question_of (behind_big (48 ∷ [])) ≡ no_question)
    × (question_of (behind_big (48 ∷ 103 ∷ [])) ≡ no_question)
    × (question_of (behind_big (48 ∷ 48 ∷ 32 ∷ [])) ≡ no_question)
    × (question_of (behind_type (32 ∷ 98 ∷ 105 ∷ 103 ∷ 32 ∷ 48 ∷ 48 ∷ [])) ≡ no_question)
    × (question_of (behind_big (48 ∷ 48 ∷ 13 ∷ [])) ≡ no_question)
unfolding choose is_digit digit_value octet_of all_digits line_octets words_from same_word order_word octets_word word_question question_of
not-asked = (refl, refl, refl, refl, refl, refl, refl)

-- `value big 00 little 0A 7 ROOM`, and `item` with NUMBER
abbrev behind_word : List ℕ → List ℕ → List ℕ
behind_word word rest =
    word ++ (32 ∷ 98 ∷ 105 ∷ 103 ∷ 32 ∷ 48 ∷ 48 ∷ 32 ∷ 108 ∷ 105 ∷ 116 ∷ 116 ∷ 108 ∷ 101 ∷ 32 ∷ 48 ∷ 65 ∷ 32 ∷ 55 ∷ 32 ∷ rest)

abbrev behind_value : List ℕ → List ℕ
behind_value rest = behind_word value_word rest

abbrev behind_item : List ℕ → List ℕ
behind_item rest = behind_word item_word rest

-- a room of 007; an item 18446744073709551615; one more is no question, nor is a room that is missing, has a sign, or has a word behind it
pub asked-values :
    (question_of (behind_value (48 ∷ 48 ∷ 55 ∷ [])) ≡ value_asked Big (0 ∷ []) (source (10 ∷ []) Little (index_of 7)) 7)
    × (question_of (behind_item (49 ∷ 56 ∷ 52 ∷ 52 ∷ 54 ∷ 55 ∷ 52 ∷ 52 ∷ 48 ∷ 55 ∷ 51 ∷ 55 ∷ 48 ∷ 57 ∷ 53 ∷ 53 ∷ 49 ∷ 54 ∷ 49 ∷ 53 ∷ []))
    ≡ item_asked Big (0 ∷ []) (source (10 ∷ []) Little (index_of 7)) 18446744073709551615)
    × (question_of (behind_item (49 ∷ 56 ∷ 52 ∷ 52 ∷ 54 ∷ 55 ∷ 52 ∷ 52 ∷ 48 ∷ 55 ∷ 51 ∷ 55 ∷ 48 ∷ 57 ∷ 53 ∷ 53 ∷ 49 ∷ 54 ∷ 49 ∷ 54 ∷ [])) ≡ no_question)
    × (question_of (behind_value []) ≡ no_question)
    × (question_of (behind_value (45 ∷ 55 ∷ [])) ≡ no_question)
    × (question_of (behind_value (55 ∷ 32 ∷ 55 ∷ [])) ≡ no_question)
unfolding choose is_digit digit_value octet_of all_digits line_octets words_from same_word order_word octets_word coded_first subject_first value_fields about_of all_numerals number_upto number_from number_word word_question question_of
asked-values = (refl, refl, refl, refl, refl, refl)

-- `rewrite` and the same words, with `big 3 ROOM`; without ROOM, with another order, and with a word behind it
abbrev behind_rewrite : List ℕ → List ℕ
behind_rewrite rest = behind_word rewrite_word rest

pub asked-rewrites :
    (question_of (behind_rewrite (98 ∷ 105 ∷ 103 ∷ 32 ∷ 51 ∷ 32 ∷ 49 ∷ 56 ∷ 52 ∷ 52 ∷ 54 ∷ 55 ∷ 52 ∷ 52 ∷ 48 ∷ 55 ∷ 51 ∷ 55 ∷ 48 ∷ 57 ∷ 53 ∷ 53 ∷ 49 ∷ 54 ∷ 49 ∷ 53 ∷ []))
    ≡ rewrite_asked Big (0 ∷ []) (source (10 ∷ []) Little (index_of 7)) (target Big (index_of 3)) 18446744073709551615)
    × (question_of (behind_rewrite (98 ∷ 105 ∷ 103 ∷ 32 ∷ 51 ∷ [])) ≡ no_question)
    × (question_of (behind_rewrite (98 ∷ 105 ∷ 32 ∷ 51 ∷ 32 ∷ 49 ∷ [])) ≡ no_question)
    × (question_of (behind_rewrite (98 ∷ 105 ∷ 103 ∷ 32 ∷ 51 ∷ 32 ∷ 49 ∷ 32 ∷ [])) ≡ no_question)
unfolding choose is_digit digit_value octet_of all_digits line_octets words_from same_word order_word octets_word coded_first subject_first rewrite_fields_of about_of all_numerals number_upto number_from number_word word_question question_of
asked-rewrites = (refl, refl, refl, refl)

-- `profile 0aF9`, `profile -`; without octets, with an odd digit, and with a word behind them
pub asked-profiles :
    (question_of (profile_word ++ (32 ∷ 48 ∷ 97 ∷ 70 ∷ 57 ∷ [])) ≡ profile_asked (10 ∷ 249 ∷ []))
    × (question_of (profile_word ++ (32 ∷ 45 ∷ [])) ≡ profile_asked [])
    × (question_of (profile_word ++ (32 ∷ [])) ≡ no_question)
    × (question_of (profile_word ++ (32 ∷ 48 ∷ [])) ≡ no_question)
    × (question_of (profile_word ++ (32 ∷ 48 ∷ 48 ∷ 32 ∷ [])) ≡ no_question)
unfolding choose is_digit digit_value octet_of all_digits line_octets words_from same_word octets_word word_question question_of
asked-profiles = (refl, refl, refl, refl, refl)

-- `component 0A 007`; without NUMBER, with one that has a sign, and with a word behind it
pub asked-components :
    (question_of (component_word ++ (32 ∷ 48 ∷ 65 ∷ 32 ∷ 48 ∷ 48 ∷ 55 ∷ [])) ≡ component_asked (10 ∷ []) 7)
    × (question_of (component_word ++ (32 ∷ 48 ∷ 65 ∷ [])) ≡ no_question)
    × (question_of (component_word ++ (32 ∷ 48 ∷ 65 ∷ 32 ∷ 45 ∷ 55 ∷ [])) ≡ no_question)
    × (question_of (component_word ++ (32 ∷ 48 ∷ 65 ∷ 32 ∷ 55 ∷ 32 ∷ [])) ≡ no_question)
unfolding choose is_digit digit_value octet_of all_digits line_octets words_from same_word octets_word numbered_fields_of all_numerals number_upto number_from number_word word_question question_of
asked-components = (refl, refl, refl, refl)
