-- What each step says of the line that took it: one record of facts for each kind of step, found by one walk through the choices.
use Rattle.std.specs.Prelude.{Option, Some, None, Result, Ok, Err}
use mathlib.Core.Path.{◌≡◌, refl, sym, ap, subst, ◌∙◌}
use mathlib.Core.List.{List, [], ◌∷◌, ◌++◌}
use mathlib.Core.Bool.{Bool, true, false, cond}
use Prim.Native.Nat.{ℕ, ◌≤◌, ◌<◌, zero-le}
use native.Mathlib.Nat.{min-le_left}
use native.Mathlib.Omega.{arith}
use lib.Dec.{ltb, leb}
use lib.ListN.{length, length-append, length-take, length-drop}
use borrow.Author.Tests.{ltb-true, ltb-false, leb-true, eqb-true, eq-eqb, ne_eqb}
use Rattle.choices.proofs.Choices.{chosen, clash}
use Rattle.frame.specs.declared.Header.{Header}
use Rattle.frame.specs.declared.Refusal.{Refusal as FrameRefusal}
use Rattle.frame.specs.Messages.{is_cancel, is_fragment}
use Rattle.frame.specs.Header.{minor_at, message_type_at, more_at, size_at, id_at, header_of}
use Rattle.frame.specs.Frames.{message_limit, frame_of}
use Rattle.frame.proofs.Accepts.{Accepts, frame-accepts}
use Rattle.frame.proofs.RowsPassed.{id-fits}
use Rattle.join_places.specs.declared.Record.{Record}
use Rattle.join_answers.specs.declared.Refusal.{Refusal}
use Rattle.join_answers.specs.declared.Refusal.TheVariants.{Frame as Row, BadRecord, IdOpen, NoPlaceFree, IdNotOpen, FirstDiffers, TooLong, NoRoom}
use Rattle.join_places.specs.Places.{places_count, place_size, is_open, id_of, length_of, held_in, place_of_id, lowest_free, open_count, bad_record}
use Rattle.join_message.specs.Message.{id_end, body_after_id, corrected}
use Rattle.join_steps.specs.Steps.{LineStep, Passes, Opens, Extends, Completes, Frees, cancelled, differs, length_after, continued}
use Rattle.join_steps.specs.Steps.{fragment_of, opens_at, first_of, starting_of, with_id, by_id, message_step, frame_step, step_of}
use Rattle.joining.specs.Answers.{message_written, roomed, step_within}
use Rattle.join_laws.specs.Sequence.{is_id, with_one, parts_with, parts_after}
use Rattle.join_places.proofs.PlaceOfId.{FoundAt, OpenNowhere, Placed, place_is}
use Rattle.join_places.proofs.OpenCounts.{none_free}
use Rattle.join_message.proofs.HeaderCorrected.{corrected-length}

-- what a line makes of the parts of its own request id, and of those of any other
module _ (v : List ℕ) (held : List (List ℕ)) where
  cancel-parts : is_cancel (message_type_at v) ≡ true → parts_with held v ≡ []
  unfolding parts_with
  cancel-parts c = rw c

  module _ (c : is_cancel (message_type_at v) ≡ false) where
    middle-parts : is_fragment (message_type_at v) ≡ true → more_at v ≡ true → parts_with held v ≡ with_one held v
    unfolding parts_with
    middle-parts f m = rw (c, f, m)

    last-parts : is_fragment (message_type_at v) ≡ true → more_at v ≡ false → parts_with held v ≡ []
    unfolding parts_with
    last-parts f m = rw (c, f, m)

    first-parts : is_fragment (message_type_at v) ≡ false → more_at v ≡ true → parts_with held v ≡ v ∷ []
    unfolding parts_with
    first-parts f m = rw (c, f, m)

    whole_parts : is_fragment (message_type_at v) ≡ false → more_at v ≡ false → parts_with held v ≡ held
    unfolding parts_with
    whole_parts f m = rw (c, f, m)

  module _ (x : ℕ) (e : id_at v ≡ Some x) where
    pub own-parts : parts_after x held v ≡ parts_with held v
    unfolding parts_after
    own-parts = rw (e, eq-eqb x x refl)

    pub other-parts : (id : ℕ) → (x ≡ id → ⊥) → parts_after id held v ≡ held
    unfolding parts_after
    other-parts id n = rw (e, ne_eqb x id n)

  id-less-parts : (id : ℕ) → id_at v ≡ None → parts_after id held v ≡ held
  unfolding parts_after
  id-less-parts id e = rw e

  -- a line that leaves the parts of its own request id leaves those of every one
  same_parts : (id : ℕ) → (is_id id (id_at v) ≡ true → parts_with held v ≡ held) → parts_after id held v ≡ held
  unfolding parts_after
  same_parts id h = chosen (λ l. l ≡ held) (is_id id (id_at v)) _ _ h (λ _. refl)

-- a message is written as it is, and parts stay where a request id that is open nowhere has none
pub record Passed (v : List ℕ) (r : Record) : Type 0 where
  pub most : length v ≤ place_size
  pub parts : (id : ℕ) (held : List (List ℕ)) → (OpenNowhere r id → held ≡ []) → parts_after id held v ≡ held

-- a first fragment opens a place
pub record Opened (v : List ℕ) (r : Record) (i x : ℕ) : Type 0 where
  pub id : id_at v ≡ Some x
  pub nowhere : OpenNowhere r x
  pub lowest : lowest_free r ≡ Some i
  pub least : id_end ≤ length v
  pub most : length v ≤ message_limit
  pub parts : (held : List (List ℕ)) → parts_with held v ≡ v ∷ []

-- a middle fragment makes an open message longer
pub record Extended (v : List ℕ) (r : Record) (i : ℕ) : Type 0 where
  pub place : i < places_count
  pub opened : is_open r i ≡ true
  pub id : id_at v ≡ Some (id_of r i)
  pub least : id_end ≤ length v
  pub most : length_after r i (length v) ≤ place_size
  pub parts : (held : List (List ℕ)) → parts_with held v ≡ with_one held v

-- a message of at most n octets is written, and its place is freed
pub record Ended (v : List ℕ) (r : Record) (n i : ℕ) : Type 0 where
  pub place : i < places_count
  pub opened : is_open r i ≡ true
  pub id : id_at v ≡ Some (id_of r i)
  pub most : n ≤ place_size
  pub parts : (held : List (List ℕ)) → parts_with held v ≡ []

-- 23 is for as many open messages as there are places, 27 for an output that is shorter than a message may be, and 28 for a bad record
abbrev pub Refusing : Record → ℕ → ℕ → Refusal → Type 0
Refusing r lent room (Row row) = Unit {0}
Refusing r lent room IdOpen = Unit {0}
Refusing r lent room NoPlaceFree = places_count ≤ open_count r
Refusing r lent room IdNotOpen = Unit {0}
Refusing r lent room FirstDiffers = Unit {0}
Refusing r lent room TooLong = Unit {0}
Refusing r lent room NoRoom = room < place_size
Refusing r lent room BadRecord = bad_record r lent ≡ true

abbrev pub Facts : List ℕ → Record → ℕ → ℕ → Result LineStep Refusal → Type 0
Facts v r lent room (Ok Passes) = Passed v r
Facts v r lent room (Ok (Opens i id)) = Opened v r i id
Facts v r lent room (Ok (Extends i)) = Extended v r i
Facts v r lent room (Ok (Completes i)) = Ended v r (length_after r i (length v)) i
Facts v r lent room (Ok (Frees i)) = Ended v r (length v) i
Facts v r lent room (Err why) = Refusing r lent room why

has-id : (b : Bool) (x y : ℕ) → cond b (Some x) None ≡ Some y → b ≡ true
has-id true x y e = refl
has-id false x y e = clash cc

module _ (v : List ℕ) (r : Record) (places : List ℕ) (room : ℕ) where
  abbrev Said : Result LineStep Refusal → Type 0
  Said = Facts v r (length places) room

  id-less-says : length v ≤ message_limit → id_at v ≡ None → Said (Ok Passes)
  id-less-says h e = record { most = omega arith; parts = λ id held _. id-less-parts v held id e }

  module _ (most : length v ≤ message_limit) (x : ℕ) (e : id_at v ≡ Some x) (least : id_end ≤ length v) where
    ended : (i n : ℕ) → FoundAt r x i → ((held : List (List ℕ)) → parts_with held v ≡ []) → n ≤ place_size → Ended v r n i
    ended i n f p l = record { place = f.place; opened = f.opened; id = e ∙ ap Some (sym f.id); most = l; parts = p }

    cancel-says : is_cancel (message_type_at v) ≡ true → (at : Option ℕ) → Placed r x at → Said (cancelled at)
    cancel-says c (Some i) f = ended i (length v) f (λ held. cancel-parts v held c) (omega arith)
    cancel-says c None f =
        record {
          most = omega arith;
          parts = λ id held h. same_parts v held id (λ b.
              let same : x ≡ id = eqb-true x id (rw e at b) in
              cancel-parts v held c ∙ sym (h (subst (OpenNowhere r) same f)));
        }

    module _ (c : is_cancel (message_type_at v) ≡ false) where
      fragment-says : is_fragment (message_type_at v) ≡ true → (at : Option ℕ) → Placed r x at → Said (fragment_of r places (length v) (header_of v) at)
      unfolding continued
      fragment-says g (Some i) f =
          chosen Said (differs (held_in r places i) (header_of v)) _ _ (λ _. tt) (λ _.
          chosen Said (ltb place_size (length_after r i (length v))) _ _ (λ _. tt) (λ l.
          let short = ltb-false place_size (length_after r i (length v)) l in
          chosen Said (more_at v) _ _
          (λ m. record {
            place = f.place;
            opened = f.opened;
            id = e ∙ ap Some (sym f.id);
            least = least;
            most = short;
            parts = λ held. middle-parts v held c g m;
          })
          (λ m. ended i (length_after r i (length v)) f (λ held. last-parts v held c g m) short)))
      fragment-says g None f = tt

      opens-says : is_fragment (message_type_at v) ≡ false → more_at v ≡ true → OpenNowhere r x → (at : Option ℕ) → lowest_free r ≡ at → Said (opens_at x at)
      opens-says g m f (Some i) l =
          record { id = e; nowhere = f; lowest = l; least = least; most = most; parts = λ held. first-parts v held c g m }
      opens-says g m f None l = none_free r l

      first_says : is_fragment (message_type_at v) ≡ false → more_at v ≡ true → OpenNowhere r x → Said (first_of r x)
      unfolding first_of
      first_says g m f =
          chosen Said (leb places_count (open_count r)) _ _ (leb-true places_count (open_count r)) (λ _. opens-says g m f (lowest_free r) refl)

      start-says : is_fragment (message_type_at v) ≡ false → (at : Option ℕ) → Placed r x at → Said (starting_of r (header_of v) x at)
      start-says g (Some i) f = tt
      start-says g None f =
          chosen Said (more_at v) _ _
          (λ m. first_says g m f)
          (λ m. record { most = omega arith; parts = λ id held _. same_parts v held id (λ _. whole_parts v held c g m) })

    with-id-says : Said (with_id r places (length v) (header_of v) x)
    unfolding with_id
    with-id-says =
        chosen Said (is_cancel (message_type_at v)) _ _ (λ c. cancel-says c (place_of_id r x) (place_is r x)) (λ c.
        chosen Said (is_fragment (message_type_at v)) _ _
        (λ g. fragment-says c g (place_of_id r x) (place_is r x))
        (λ g. start-says c g (place_of_id r x) (place_is r x)))

  id-end : (h : Header) → Accepts v h → (x : ℕ) → id_at v ≡ Some x → id_end ≤ length v
  id-end h a x e =
      let size = id-fits (minor_at v) (message_type_at v) (size_at v) a.size (has-id _ _ x e) in
      let octets = a.octets in
      omega arith

  by-id-says : (h : Header) → (length v ≤ message_limit) × Accepts v h → (id : Option ℕ) → id_at v ≡ id
      → Said (by_id r places (length v) (header_of v) id)
  by-id-says h a None e = id-less-says a.0 e
  by-id-says h a (Some x) e = with-id-says a.0 x e (id-end h a.1 x e)

  frame-says : (f : Result Header FrameRefusal) → frame_of v ≡ f → Said (frame_step r places (length v) f)
  unfolding message_step
  frame-says (Ok h) e =
      let a = frame-accepts v h e in
      subst (λ (g : Header). Said (message_step r places (length v) g)) (sym a.1.says)
      (chosen Said (bad_record r (length places)) _ _ (λ b. b) (λ _. by-id-says h a (id_at v) refl))
  frame-says (Err row) e = tt

  pub step-says : Said (step_of v r places)
  unfolding step_of
  step-says = frame-says (frame_of v) refl

  -- a message that is written is not longer than a place
  pub length-joined : (i : ℕ) → length (corrected (held_in r places i ++ body_after_id v)) ≤ length_after r i (length v)
  length-joined i =
      let a = corrected-length (held_in r places i ++ body_after_id v) in
      let b = length-append (held_in r places i) (body_after_id v) in
      let c : length (held_in r places i) ≤ length_of r i = simp length-take (min-le_left _ _) in
      let d = length-drop id_end v in
      omega arith

  message-most : (step : Result LineStep Refusal) → Said step → length (message_written step r v places) ≤ place_size
  message-most (Ok Passes) f = f.most
  message-most (Ok (Opens i id)) f = zero-le
  message-most (Ok (Extends i)) f = zero-le
  message-most (Ok (Completes i)) f = let l = length-joined i in let m = f.most in omega arith
  message-most (Ok (Frees i)) f = f.most
  message-most (Err why) f = zero-le

  roomed-says : (step : Result LineStep Refusal) → Said step → Said (roomed room step (message_written step r v places))
  roomed-says step f =
      chosen Said (ltb room (length (message_written step r v places))) _ _
      (λ e. let l = ltb-true room (length (message_written step r v places)) e in let m = message-most step f in omega arith)
      (λ _. f)

  pub within-says : Said (step_within v r places room)
  within-says = roomed-says (step_of v r places) step-says
