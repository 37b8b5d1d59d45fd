-- The lowest free place, stores in one place that leave the others alone, what a place holds of an open message, and records that are not refused.
use Rattle.std.specs.Prelude.{Option, Some, None}
use mathlib.Core.Path.{◌≡◌, refl, sym, ap, ◌∙◌}
use mathlib.Core.List.{List, [], ◌∷◌, ◌++◌, append-nil, append_assoc}
use mathlib.Core.Bool.{Bool, true, false, not, ◌&&◌, ◌||◌}
use Prim.Native.Nat.{ℕ, ◌+◌, ◌-◌, ◌≤◌, ◌<◌}
use native.Mathlib.Decide.{dec_lt}
use native.Mathlib.Omega.{arith}
use lib.Dec.{ltb, eqb}
use lib.ListN.{length, take, drop, length-drop}
use lib.Seq.{sets}
use borrow.Author.Tests.{le-ltb, ne_eqb, not-true, not-false}
use Rattle.choices.proofs.Choices.{clash, and-true, and-false, or-false}
use Rattle.join_places.specs.declared.Record.{Record}
use Rattle.join_places.specs.Places.{places_count, place_size, place_start, places_size, least_length, is_open, id_of, length_of, held_in, first_with, lowest_free}
use Rattle.join_places.specs.Places.{both_open, open_before, id_open_twice, length_wrong, some_length_wrong, bad_record}
use Rattle.join_message.specs.Message.{id_end, body_after_id, bodies}
use Rattle.join_steps.specs.Steps.{length_after}
use Rattle.join_laws.specs.Sequence.{with_one, held_of, Lowest}
use Rattle.join_places.proofs.FoldsChanged.{none-some, FirstOf, first-is}
use Rattle.join_laws.proofs.PartsAfterStores.{part-before, part-behind, part_filled, part-longer}

-- a place that is free is the lowest, and nowhere is one free only where all are open
abbrev pub Freed : Record → Option ℕ → Type 0
Freed r (Some i) = Lowest r i
Freed r None = (i : ℕ) → i < places_count → is_open r i ≡ true

pub lowest-free : (r : Record) → Freed r (lowest_free r)
unfolding lowest_free
lowest-free r = by_first (first_with free places_count) (first-is free places_count)
  where
    free : ℕ → Bool
    free i = not (is_open r i)

    by_first : (f : Option ℕ) → FirstOf free places_count f → Freed r f
    by_first (Some i) f =
        record { place = f.place; free = not-true (is_open r i) f.here; below = λ j h. not-false (is_open r j) (f.below j h) }
    by_first None each = λ i h. not-false (is_open r i) (each i h)

-- stores inside one place leave the parts of the others alone
module _ (l : List ℕ) (i j at n : ℕ) (vs : List ℕ) (apart : j ≡ i → ⊥) (start : place_start i ≤ at)
    (end : at + length vs ≤ place_start i + place_size) (most : n ≤ place_size) where
  other-by : Dec (j < i) → take n (drop (place_start j) (sets l at vs)) ≡ take n (drop (place_start j) l)
  other-by (yes h) = part-before n (place_start j) l at vs (omega arith)
  other-by (no h) = part-behind n (place_start j) l at vs (omega arith)

  pub other_place : take n (drop (place_start j) (sets l at vs)) ≡ take n (drop (place_start j) l)
  other_place = other-by (dec_lt j i)

-- one more fragment adds its body after the id
bodies-more : (fragments : List (List ℕ)) (v : List ℕ) → bodies (fragments ++ (v ∷ [])) ≡ bodies fragments ++ body_after_id v
unfolding bodies
bodies-more [] v = append-nil (body_after_id v)
bodies-more (x ∷ fragments) v =
    ap (λ (l : List ℕ). body_after_id x ++ l) (bodies-more fragments v) ∙ sym (append_assoc (body_after_id x) (bodies fragments) (body_after_id v))

one_more : (now : List (List ℕ)) (v : List ℕ) → (now ≡ [] → ⊥) → with_one now v ≡ now ++ (v ∷ [])
one_more [] v some = absurd (some refl)
one_more (first ∷ fragments) v some = refl

pub held_more : (now : List (List ℕ)) (v : List ℕ) → (now ≡ [] → ⊥) → held_of (now ++ (v ∷ [])) ≡ held_of now ++ body_after_id v
held_more [] v some = absurd (some refl)
held_more (first ∷ fragments) v some =
    ap (λ (l : List ℕ). first ++ l) (bodies-more fragments v) ∙ sym (append_assoc first (bodies fragments) (body_after_id v))

pub held_first : (v : List ℕ) → held_of (v ∷ []) ≡ v
unfolding bodies
held_first v = append-nil v

pub more-some : (now : List (List ℕ)) (v : List ℕ) → now ++ (v ∷ []) ≡ [] → ⊥
more-some [] v e = clash cc
more-some (x ∷ now) v e = clash cc

-- a place with an open message of these parts
pub record HoldsAt (r : Record) (places : List ℕ) (now : List (List ℕ)) (i : ℕ) : Type 0 where
  pub least : id_end ≤ length_of r i
  pub most : length_of r i ≤ place_size
  pub held : held_in r places i ≡ held_of now
  pub some : now ≡ [] → ⊥

-- it holds them still where its length, its octets and they are as they were
pub holds-still : (r q : Record) (places last : List ℕ) (now new : List (List ℕ)) (i : ℕ) → length_of q i ≡ length_of r i
    → take (length_of r i) (drop (place_start i) last) ≡ held_in r places i → new ≡ now → HoldsAt r places now i → HoldsAt q last new i
holds-still r q places last now new i e f g h =
    let a = h.least in
    let b = h.most in
    record {
      least = omega arith;
      most = omega arith;
      held = ap (λ (n : ℕ). take n (drop (place_start i) last)) e ∙ f ∙ h.held ∙ ap held_of (sym g);
      some = λ k. h.some (sym g ∙ k);
    }

-- a first fragment's octets from the start on
pub holds-first : (q : Record) (places : List ℕ) (new : List (List ℕ)) (i : ℕ) (v : List ℕ) → i < places_count → places_size ≤ length places
    → id_end ≤ length v → length v ≤ place_size → length_of q i ≡ length v → new ≡ v ∷ [] → HoldsAt q (sets places (place_start i) v) new i
holds-first q places new i v h lent least most e g =
    record {
      least = omega arith;
      most = omega arith;
      held = ap (λ (n : ℕ). take n (drop (place_start i) (sets places (place_start i) v))) e
          ∙ part_filled places (place_start i) v (omega arith)
          ∙ sym (held_first v)
          ∙ ap held_of (sym g);
      some = λ k. more-some [] v (sym g ∙ k);
    }

-- a fragment's body after the id behind what is held
pub holds_more : (r q : Record) (places : List ℕ) (now new : List (List ℕ)) (i : ℕ) (v : List ℕ) → i < places_count → places_size ≤ length places
    → length_after r i (length v) ≤ place_size → length_of q i ≡ length_after r i (length v) → new ≡ with_one now v → HoldsAt r places now i
    → HoldsAt q (sets places (place_start i + length_of r i) (body_after_id v)) new i
holds_more r q places now new i v h lent most e g at =
    let a = at.least in
    let b : length (body_after_id v) ≡ length v - id_end = length-drop id_end v in
    let f : length_of q i ≡ length_of r i + length (body_after_id v) = omega arith in
    record {
      least = omega arith;
      most = omega arith;
      held = ap (λ (n : ℕ). take n (drop (place_start i) (sets places (place_start i + length_of r i) (body_after_id v)))) f
          ∙ part-longer (length_of r i) (place_start i) places (body_after_id v) (omega arith)
          ∙ ap (λ (l : List ℕ). l ++ body_after_id v) at.held
          ∙ sym (held_more now v at.some)
          ∙ ap held_of (sym (g ∙ one_more now v at.some));
      some = λ k. more-some now v (sym (g ∙ one_more now v at.some) ∙ k);
    }

-- a record that 28 does not refuse
module _ (r : Record) (lent : ℕ) (enough : places_size ≤ lent)
    (once : (i j : ℕ) → i < places_count → j < places_count → is_open r i ≡ true → is_open r j ≡ true → id_of r i ≡ id_of r j → i ≡ j)
    (least : (i : ℕ) → i < places_count → is_open r i ≡ true → id_end ≤ length_of r i)
    (most : (i : ℕ) → i < places_count → is_open r i ≡ true → length_of r i ≤ place_size) where
  not-both : (i j : ℕ) → i < places_count → j < places_count → (i ≡ j → ⊥) → both_open r i j ≡ false
  unfolding both_open
  not-both i j h k apart =
      and-false (is_open r i && is_open r j) (eqb (id_of r i) (id_of r j)) (λ e.
      let both = and-true (is_open r i) (is_open r j) e in
      ne_eqb (id_of r i) (id_of r j) (λ same. apart (once i j h k both.0 both.1 same)))

  not-wrong : (i : ℕ) → i < places_count → length_wrong r i ≡ false
  unfolding length_wrong
  not-wrong i h =
      and-false (is_open r i) (ltb (length_of r i) least_length || ltb place_size (length_of r i)) (λ e.
      or-false _ _ (le-ltb (length_of r i) least_length (least i h e)) (le-ltb place_size (length_of r i) (most i h e)))

  not-before : (i : ℕ) → i < places_count → open_before r i ≡ false
  unfolding open_before
  not-before i h = none-some (both_open r i) i (λ j l. not-both i j h (omega arith) (λ e. omega arith))

  not-twice : id_open_twice r ≡ false
  unfolding id_open_twice
  not-twice = none-some (open_before r) places_count not-before

  not-some-wrong : some_length_wrong r ≡ false
  unfolding some_length_wrong
  not-some-wrong = none-some (length_wrong r) places_count not-wrong

  pub not-bad : bad_record r lent ≡ false
  unfolding bad_record
  not-bad = or-false _ _ (or-false _ _ not-twice (le-ltb lent places_size enough)) not-some-wrong
