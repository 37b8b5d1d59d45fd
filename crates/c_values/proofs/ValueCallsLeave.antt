-- What the calls for a value and an item leave, by the answer's case.
use Rattle.std.specs.Prelude.{Result, Ok, Err}
use mathlib.Core.Path.{◌≡◌, sym, ap, subst, ◌∙◌}
use mathlib.Core.List.{List, [], ◌∷◌}
use mathlib.Core.Bool.{Bool}
use Prim.Native.Nat.{ℕ}
use Rattle.cdr.specs.declared.Order.{Order}
use Rattle.cdr.specs.Align.{index_of}
use Rattle.cdr.specs.Orders.{order_of_flag}
use Rattle.value_items.specs.declared.ItemValue.{ItemValue}
use Rattle.value_items.specs.Items.{item_case, bits_of}
use Rattle.value_meaning.specs.declared.ValueAnswer.{ValueAnswer}
use Rattle.value_meaning.specs.Sinks.{source}
use Rattle.value_meaning.specs.Value.{room_in, value_number, visits_in, used_in, value_answer, table_after}
use Rattle.value.specs.Single.{item_number, given_in, item_answer}
use Rattle.c_values.specs.Values.{value_at, ReadsValueC, PicksC}

module _ (t : List ℕ) (little : Bool) (v : List ℕ) (order : Bool) (start : ℕ) (to vo : Order) (te : to ≡ order_of_flag little) (ve : vo ≡ order_of_flag order) where
  module _ (table numbers : List ℕ) (answer : ValueAnswer) (last : List ℕ)
      (q : (answer ≡ value_answer t to (source v vo (index_of start)) (room_in table)) × (last ≡ table_after t to (source v vo (index_of start)) table)) where
    -- the answer with the orders that the flags say
    named : (answer ≡ value_answer t (order_of_flag little) (value_at v order start) (room_in table))
        × (last ≡ table_after t (order_of_flag little) (value_at v order start) table)
    named =
        subst
        (λ (o : Order). (answer ≡ value_answer t (order_of_flag little) (source v o (index_of start)) (room_in table))
        × (last ≡ table_after t (order_of_flag little) (source v o (index_of start)) table))
        ve
        (subst
        (λ (o : Order). (answer ≡ value_answer t o (source v vo (index_of start)) (room_in table))
        × (last ≡ table_after t o (source v vo (index_of start)) table))
        te q)

    -- what the lent numbers hold is what the answer's case says
    pub reads_as : (a : ValueAnswer) → answer ≡ a → ReadsValueC t little (value_at v order start) table numbers (value_number a) last (used_in a numbers) (visits_in a)
    reads_as a e =
        let f = sym e ∙ named.0 in
        record { number = ap value_number f; table_is = named.1; numbers-are = ap (λ (r : ValueAnswer). used_in r numbers) f; visits-are = ap visits_in f }

  module _ (n : ℕ) (given : List ℕ) (answer : Result ItemValue ℕ) (q : answer ≡ item_answer t to (source v vo (index_of start)) n) where
    named-item : answer ≡ item_answer t (order_of_flag little) (value_at v order start) n
    named-item =
        subst (λ (o : Order). answer ≡ item_answer t (order_of_flag little) (source v o (index_of start)) n) ve
        (subst (λ (o : Order). answer ≡ item_answer t o (source v vo (index_of start)) n) te q)

    pub picks-refused : (number : ℕ) → answer ≡ Err number → PicksC t little (value_at v order start) n given number given
    picks-refused number e =
        let f = sym e ∙ named-item in
        record { number = ap item_number f; given_is = ap (λ (r : Result ItemValue ℕ). given_in r given) f }

    pub picks-given : (i : ItemValue) (c b : ℕ) → answer ≡ Ok i → c ≡ item_case i → b ≡ bits_of i → PicksC t little (value_at v order start) n given 0 (c ∷ b ∷ [])
    picks-given i c b e ce be =
        let f = sym e ∙ named-item in
        record {
          number = ap item_number f;
          given_is = ap (λ (z : ℕ). z ∷ b ∷ []) ce ∙ ap (λ (z : ℕ). item_case i ∷ z ∷ []) be ∙ ap (λ (r : Result ItemValue ℕ). given_in r given) f;
        }
