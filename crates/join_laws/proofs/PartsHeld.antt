-- Lines one after another: each step keeps what the places hold of the parts, and so do all calls from a fresh record on.
use Rattle.std.specs.Prelude.{Some, None, Result, Ok, Err}
use mathlib.Core.Path.{◌≡◌, refl, sym, ap, subst, fun_ext, ◌∙◌}
use mathlib.Core.List.{List, [], ◌∷◌, ◌++◌}
use mathlib.Core.Bool.{true, false}
use Prim.Native.Nat.{ℕ, ◌+◌, ◌≤◌, ◌<◌}
use native.Mathlib.Decide.{ℕ_discrete}
use native.Mathlib.Omega.{arith}
use lib.ListN.{length, replicate, get_or-replicate, length-set, length-drop}
use lib.Seq.{sets, length-sets, get_or-set_same, get_or-set_other}
use Rattle.choices.proofs.Choices.{never_both}
use Rattle.join_places.specs.declared.Record.{Record}
use Rattle.join_answers.specs.declared.Refusal.{Refusal}
use Rattle.join_answers.specs.declared.Refusal.TheVariants.{BadRecord, NoPlaceFree, NoRoom}
use Rattle.join_places.specs.Places.{places_count, place_size, place_start, places_size, is_open, id_of, length_of, place_of_id, bad_record}
use Rattle.join_message.specs.Message.{id_end, body_after_id, corrected}
use Rattle.join_steps.specs.Steps.{LineStep, Passes, Opens, Extends, Completes, Frees, length_after}
use Rattle.join_places.specs.Places.{closed, opened, lengthened}
use Rattle.joining.specs.Answers.{message_written, record_after, places_after}
use Rattle.join_laws.specs.Sequence.{Call, JoinState, step_in, state_after, after_all, accepted_line, accepted, parts_after, parts_from, parts_of, held_of, Fresh, HoldsParts, JoinsParts, Lowest}
use Rattle.join_places.proofs.OpenCounts.{count-full}
use Rattle.join_places.proofs.PlaceOfId.{OpenNowhere, place_found, place-nowhere}
use Rattle.join_laws.proofs.StepFacts.{Passed, Opened, Extended, Ended, Facts, own-parts, other-parts, within-says}
use Rattle.join_laws.proofs.HeldParts.{Freed, lowest-free, other_place, HoldsAt, holds-still, holds-first, holds_more, held_more, not-bad}

-- the open places of a state hold the parts of their request ids, and a request id that is open nowhere has none
pub record Keeps (s : JoinState) (now : ℕ → List (List ℕ)) : Type 0 where
  pub ids : length s.messages.ids ≡ places_count
  pub lengths : length s.messages.lengths ≡ places_count
  pub opened : length s.messages.opened ≡ places_count
  pub lent : places_size ≤ length s.places
  pub once : (i j : ℕ) → i < places_count → j < places_count → is_open s.messages i ≡ true → is_open s.messages j ≡ true → id_of s.messages i ≡ id_of s.messages j → i ≡ j
  pub holds : (i : ℕ) → i < places_count → is_open s.messages i ≡ true → HoldsAt s.messages s.places (now (id_of s.messages i)) i
  pub none : (id : ℕ) → OpenNowhere s.messages id → now id ≡ []

abbrev pub parts_then : (ℕ → List (List ℕ)) → List ℕ → ℕ → List (List ℕ)
parts_then now v id = parts_after id (now id) v

module _ (r : Record) (places : List ℕ) (now : ℕ → List (List ℕ)) (k : Keeps (record { messages = r; places = places }) now) (v : List ℕ) where
  passes-keeps : Passed v r → Keeps (record { messages = r; places = places }) (parts_then now v)
  passes-keeps f =
      subst (Keeps (record { messages = r; places = places })) (fun_ext (λ id. sym (f.parts id (now id) (k.none id)))) k

  -- a first fragment in the lowest free place
  module _ (i x : ℕ) (f : Opened v r i x) where
    low : Lowest r i
    low = subst (Freed r) f.lowest (lowest-free r)

    abbrev with_first : Record
    with_first = opened r i x (length v)

    first-opened : is_open with_first i ≡ true
    first-opened = let h = low.place in let l = k.opened in get_or-set_same r.opened i true false (omega arith)

    first-id : id_of with_first i ≡ x
    first-id = let h = low.place in let l = k.ids in get_or-set_same r.ids i x 0 (omega arith)

    first-length : length_of with_first i ≡ length v
    first-length = let h = low.place in let l = k.lengths in get_or-set_same r.lengths i (length v) 0 (omega arith)

    module _ (j : ℕ) (n : j ≡ i → ⊥) where
      others-opened : is_open with_first j ≡ is_open r j
      others-opened = get_or-set_other r.opened i j true false n

      others-id : id_of with_first j ≡ id_of r j
      others-id = get_or-set_other r.ids i j x 0 n

      others-length : length_of with_first j ≡ length_of r j
      others-length = get_or-set_other r.lengths i j (length v) 0 n

      others_apart : j < places_count → is_open with_first j ≡ true → x ≡ id_of r j → ⊥
      others_apart h o e = f.nowhere j h (sym others-opened ∙ o) (sym e)

    first_holds : (j : ℕ) → j < places_count → is_open with_first j ≡ true → Dec (j ≡ i)
        → HoldsAt with_first (sets places (place_start i) v) (parts_then now v (id_of with_first j)) j
    first_holds j h o (yes e) =
        subst (λ j. HoldsAt with_first (sets places (place_start i) v) (parts_then now v (id_of with_first j)) j) (sym e)
        (let most = f.most in
        holds-first with_first places _ i v low.place k.lent f.least (omega arith) first-length
        (ap (parts_then now v) first-id ∙ own-parts v (now x) x f.id ∙ f.parts (now x)))
    first_holds j h o (no n) =
        let before = k.holds j h (sym (others-opened j n) ∙ o) in
        let most = f.most in
        holds-still r with_first places (sets places (place_start i) v) (now (id_of r j)) _ j (others-length j n)
        (other_place places i j (place_start i) (length_of r j) v n (omega arith) (omega arith) before.most)
        (ap (parts_then now v) (others-id j n) ∙ other-parts v (now (id_of r j)) x f.id (id_of r j) (others_apart j n h o))
        before

    first-once : (j m : ℕ) → j < places_count → m < places_count → is_open with_first j ≡ true → is_open with_first m ≡ true → id_of with_first j ≡ id_of with_first m
        → Dec (j ≡ i) → Dec (m ≡ i) → j ≡ m
    first-once j m h l o p e (yes a) (yes b) = a ∙ sym b
    first-once j m h l o p e (yes a) (no b) =
        absurd (others_apart m b l p (sym first-id ∙ ap (id_of with_first) (sym a) ∙ e ∙ others-id m b))
    first-once j m h l o p e (no a) (yes b) =
        absurd (others_apart j a h o (sym first-id ∙ ap (id_of with_first) (sym b) ∙ sym e ∙ others-id j a))
    first-once j m h l o p e (no a) (no b) =
        k.once j m h l (sym (others-opened j a) ∙ o) (sym (others-opened m b) ∙ p) (sym (others-id j a) ∙ e ∙ others-id m b)

    first-none : (id : ℕ) → OpenNowhere with_first id → parts_then now v id ≡ []
    first-none id w =
        other-parts v (now id) x f.id id (λ e. w i low.place first-opened (first-id ∙ e))
        ∙ k.none id (λ j h o e.
        let n : j ≡ i → ⊥ = λ same. never_both (is_open r i) (subst (λ j. is_open r j ≡ true) same o) low.free in
        w j h (others-opened j n ∙ o) (others-id j n ∙ e))

    opens-keeps : Keeps (record { messages = with_first; places = sets places (place_start i) v }) (parts_then now v)
    opens-keeps =
        record {
          ids = length-set r.ids i x ∙ k.ids;
          lengths = length-set r.lengths i (length v) ∙ k.lengths;
          opened = length-set r.opened i true ∙ k.opened;
          lent = let l = k.lent in let e = length-sets places (place_start i) v in omega arith;
          once = λ j m h l o p e. first-once j m h l o p e (ℕ_discrete j i) (ℕ_discrete m i);
          holds = λ j h o. first_holds j h o (ℕ_discrete j i);
          none = first-none;
        }

  -- a middle fragment behind what its place holds
  module _ (i : ℕ) (f : Extended v r i) where
    abbrev with-more : Record
    with-more = lengthened r i (length_after r i (length v))

    abbrev stored : List ℕ
    stored = sets places (place_start i + length_of r i) (body_after_id v)

    more-length : length_of with-more i ≡ length_after r i (length v)
    more-length = let h = f.place in let l = k.lengths in get_or-set_same r.lengths i (length_after r i (length v)) 0 (omega arith)

    more-holds : (j : ℕ) → j < places_count → is_open r j ≡ true → Dec (j ≡ i) → HoldsAt with-more stored (parts_then now v (id_of r j)) j
    more-holds j h o (yes e) =
        subst (λ j. HoldsAt with-more stored (parts_then now v (id_of r j)) j) (sym e)
        (holds_more r with-more places (now (id_of r i)) _ i v f.place k.lent f.most more-length
        (own-parts v (now (id_of r i)) (id_of r i) f.id ∙ f.parts (now (id_of r i)))
        (k.holds i f.place f.opened))
    more-holds j h o (no n) =
        let before = k.holds j h o in
        let most = f.most in
        let body = length-drop id_end v in
        holds-still r with-more places stored (now (id_of r j)) _ j (get_or-set_other r.lengths i j (length_after r i (length v)) 0 n)
        (other_place places i j (place_start i + length_of r i) (length_of r j) (body_after_id v) n (omega arith) (omega arith) before.most)
        (other-parts v (now (id_of r j)) (id_of r i) f.id (id_of r j) (λ e. n (k.once j i h f.place o f.opened (sym e))))
        before

    extends-keeps : Keeps (record { messages = with-more; places = stored }) (parts_then now v)
    extends-keeps =
        record {
          ids = k.ids;
          lengths = length-set r.lengths i (length_after r i (length v)) ∙ k.lengths;
          opened = k.opened;
          lent = let l = k.lent in let e = length-sets places (place_start i + length_of r i) (body_after_id v) in omega arith;
          once = k.once;
          holds = λ j h o. more-holds j h o (ℕ_discrete j i);
          none = λ id w. other-parts v (now id) (id_of r i) f.id id (w i f.place f.opened) ∙ k.none id w;
        }

  -- a last fragment or a cancel, which frees its place
  module _ (n i : ℕ) (f : Ended v r n i) where
    freed : is_open (closed r i) i ≡ false
    freed = let h = f.place in let l = k.opened in get_or-set_same r.opened i false false (omega arith)

    not-freed : (j : ℕ) → is_open (closed r i) j ≡ true → j ≡ i → ⊥
    not-freed j o e = never_both (is_open (closed r i) i) (subst (λ j. is_open (closed r i) j ≡ true) e o) freed

    left-opened : (j : ℕ) → is_open (closed r i) j ≡ true → is_open r j ≡ true
    left-opened j o = sym (get_or-set_other r.opened i j false false (not-freed j o)) ∙ o

    left-parts : (j : ℕ) → j < places_count → is_open (closed r i) j ≡ true → parts_then now v (id_of r j) ≡ now (id_of r j)
    left-parts j h o =
        other-parts v (now (id_of r j)) (id_of r i) f.id (id_of r j) (λ e.
        not-freed j o (k.once j i h f.place (left-opened j o) f.opened (sym e)))

    left-none : (id : ℕ) → OpenNowhere (closed r i) id → Dec (id_of r i ≡ id) → parts_then now v id ≡ []
    left-none id w (yes e) =
        subst (λ id. parts_then now v id ≡ []) e (own-parts v (now (id_of r i)) (id_of r i) f.id ∙ f.parts (now (id_of r i)))
    left-none id w (no n) =
        other-parts v (now id) (id_of r i) f.id id n
        ∙ k.none id (λ j h o e. w j h (get_or-set_other r.opened i j false false (λ same. n (ap (id_of r) (sym same) ∙ e)) ∙ o) e)

    ends-keeps : Keeps (record { messages = closed r i; places = places }) (parts_then now v)
    ends-keeps =
        record {
          ids = k.ids;
          lengths = k.lengths;
          opened = length-set r.opened i false ∙ k.opened;
          lent = k.lent;
          once = λ j m h l o p e. k.once j m h l (left-opened j o) (left-opened m p) e;
          holds = λ j h o.
              holds-still r (closed r i) places places (now (id_of r j)) _ j refl refl (left-parts j h o) (k.holds j h (left-opened j o));
          none = λ id w. left-none id w (ℕ_discrete (id_of r i) id);
        }

pub step_keeps : (r : Record) (places : List ℕ) (now : ℕ → List (List ℕ)) → Keeps (record { messages = r; places = places }) now
    → (v : List ℕ) (room : ℕ) (step : Result LineStep Refusal) → Facts v r (length places) room step
    → Keeps (record { messages = record_after step r v; places = places_after step r v places }) (λ id. parts_from id (now id) (accepted_line step v))
unfolding parts_from
step_keeps r places now k v room (Ok Passes) f = passes-keeps r places now k v f
step_keeps r places now k v room (Ok (Opens i x)) f = opens-keeps r places now k v i x f
step_keeps r places now k v room (Ok (Extends i)) f = extends-keeps r places now k v i f
step_keeps r places now k v room (Ok (Completes i)) f = ends-keeps r places now k v (length_after r i (length v)) i f
step_keeps r places now k v room (Ok (Frees i)) f = ends-keeps r places now k v (length v) i f
step_keeps r places now k v room (Err why) f = k

parts-append : (id : ℕ) (now lines more : List (List ℕ)) → parts_from id now (lines ++ more) ≡ parts_from id (parts_from id now lines) more
unfolding parts_from
parts-append id now [] more = refl
parts-append id now (v ∷ lines) more = parts-append id (parts_after id now v) lines more

all-keeps : (calls : List Call) (s : JoinState) (now : ℕ → List (List ℕ)) → Keeps s now
    → Keeps (after_all s calls) (λ id. parts_from id (now id) (accepted s calls))
unfolding after_all accepted parts_from
all-keeps [] s now k = k
all-keeps (c ∷ calls) s now k =
    subst (Keeps (after_all (state_after s c) calls))
    (fun_ext (λ id. sym (parts-append id (now id) (accepted_line (step_in s c) c.octets) (accepted (state_after s c) calls))))
    (all-keeps calls (state_after s c) _
    (step_keeps s.messages s.places now k c.octets (length c.out) (step_in s c)
    (within-says c.octets s.messages s.places (length c.out))))

pub fresh_keeps : (s : JoinState) → Fresh s → Keeps s (λ _. [])
fresh_keeps s f =
    record {
      ids = f.ids;
      lengths = f.lengths;
      opened = f.opened;
      lent = f.lent;
      once = λ i j h l o p e. absurd (never_both (is_open s.messages i) o (f.none i h));
      holds = λ i h o. absurd (never_both (is_open s.messages i) o (f.none i h));
      none = λ id w. refl;
    }

-- what a call says that takes a step
says_of : (s : JoinState) (c : Call) (step : Result LineStep Refusal) → step_in s c ≡ step → Facts c.octets s.messages (length s.places) (length c.out) step
says_of s c step e =
    subst (Facts c.octets s.messages (length s.places) (length c.out)) e
    (within-says c.octets s.messages s.places (length c.out))

-- places that are not open, whatever ids and lengths they had
pub fresh_start : (ids lengths places : List ℕ) → length ids ≡ places_count → length lengths ≡ places_count → places_size ≤ length places
    → Fresh (record { messages = record { ids = ids; lengths = lengths; opened = replicate places_count false }; places = places })
fresh_start ids lengths places e f h =
    record { ids = e; lengths = f; opened = refl; none = λ i l. get_or-replicate places_count i false false l; lent = h }

-- what calls from a fresh record on leave, and what one more call writes
module _ (s : JoinState) (fresh : Fresh s) (calls : List Call) where
  kept-all : Keeps (after_all s calls) (λ id. parts_of id (accepted s calls))
  kept-all = all-keeps calls s (λ _. []) (fresh_keeps s fresh)

  pub held-parts : (i : ℕ) → i < places_count → is_open (after_all s calls).messages i ≡ true → HoldsParts (after_all s calls) (accepted s calls) i
  held-parts i h o = let at = kept-all.holds i h o in record { held = at.held; some = at.some }

  pub open-parts : (id i : ℕ) → place_of_id (after_all s calls).messages id ≡ Some i → parts_of id (accepted s calls) ≡ [] → ⊥
  open-parts id i e =
      let at = place_found (after_all s calls).messages id i e in
      subst (λ x. parts_of x (accepted s calls) ≡ [] → ⊥) at.id (held-parts i at.place at.opened).some

  pub closed_parts : (id : ℕ) → place_of_id (after_all s calls).messages id ≡ None → parts_of id (accepted s calls) ≡ []
  closed_parts id e = kept-all.none id (place-nowhere (after_all s calls).messages id e)

  pub never-28 : bad_record (after_all s calls).messages (length (after_all s calls).places) ≡ false
  never-28 =
      not-bad (after_all s calls).messages (length (after_all s calls).places) kept-all.lent kept-all.once
      (λ i h o. (kept-all.holds i h o).least)
      (λ i h o. (kept-all.holds i h o).most)

  pub not-refused-28 : (c : Call) → step_in (after_all s calls) c ≡ Err BadRecord → ⊥
  not-refused-28 c e = never_both _ (says_of (after_all s calls) c (Err BadRecord) e) never-28

  pub joined-parts : (c : Call) (i : ℕ) → step_in (after_all s calls) c ≡ Ok (Completes i) → JoinsParts (after_all s calls) (accepted s calls) c i
  joined-parts c i e = joined_by (parts_of (id_of (after_all s calls).messages i) (accepted s calls)) refl
    where
      f : Ended c.octets (after_all s calls).messages (length_after (after_all s calls).messages i (length c.octets)) i
      f = says_of (after_all s calls) c (Ok (Completes i)) e

      at : HoldsParts (after_all s calls) (accepted s calls) i
      at = held-parts i f.place f.opened

      joined_by : (now : List (List ℕ)) → parts_of (id_of (after_all s calls).messages i) (accepted s calls) ≡ now
          → JoinsParts (after_all s calls) (accepted s calls) c i
      joined_by [] none = absurd (at.some none)
      joined_by (first ∷ fragments) some =
          record {
            id = f.id;
            first = first;
            fragments = fragments;
            opened = some;
            message = ap (λ step. message_written step (after_all s calls).messages c.octets (after_all s calls).places) e
                ∙ ap (λ l. corrected (l ++ body_after_id c.octets)) (at.held ∙ ap held_of some)
                ∙ ap corrected (sym (held_more (first ∷ fragments) c.octets (λ none. at.some (some ∙ none))));
          }

-- "Freed places are used again, the lowest free one first"
pub lowest-first : (s : JoinState) (c : Call) (i id : ℕ) → step_in s c ≡ Ok (Opens i id) → Lowest s.messages i
lowest-first s c i id e =
    let f = says_of s c (Ok (Opens i id)) e in
    subst (Freed s.messages) f.lowest (lowest-free s.messages)

-- 23 is given only "when four are open"
pub all-are-open : (s : JoinState) (c : Call) → step_in s c ≡ Err NoPlaceFree → (i : ℕ) → i < places_count → is_open s.messages i ≡ true
all-are-open s c e = count-full s.messages (says_of s c (Err NoPlaceFree) e)

-- 27 is not given where the output has the octets of the longest message
pub not-refused-27 : (s : JoinState) (c : Call) → place_size ≤ length c.out → step_in s c ≡ Err NoRoom → ⊥
not-refused-27 s c h e = let l = says_of s c (Err NoRoom) e in omega arith
