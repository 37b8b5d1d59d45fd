-- Two readings side by side, of two sources with two sinks, under one type: what relates them at each single step relates them over a
-- whole reading. E says of a state of the first reading that what it led to is as wanted; it holds earlier where it holds later. R
-- relates the states, Q the places of what was read.
use Rattle.std.specs.Prelude.{Option, Some, None}
use mathlib.Core.Path.{◌≡◌, refl, sym, ap, subst, ◌∙◌}
use mathlib.Core.List.{List}
use mathlib.Core.Bool.{Bool, true, false}
use Prim.Native.Nat.{ℕ, zero, suc, ◌+◌, ◌-◌, ◌<◌, ◌≤◌}
use native.Mathlib.Omega.{arith}
use lib.Dec.{eqb, ltb, leb}
use lib.ListN.{length}
use borrow.Author.Tests.{ltb-true, ltb-false, lt-ltb, le-ltb}
use Rattle.choices.specs.Branch.{choose}
use Rattle.cdr.specs.declared.Size.{Size}
use Rattle.cdr.specs.declared.Size.TheVariants.{Four}
use Rattle.cdr_text.specs.Text.{over_bound, ends_text}
use Rattle.type_kinds.specs.declared.Inert.{Inert}
use Rattle.type_kinds.specs.declared.Inert.TheVariants.{Leaf, Text, Objref, Enum}
use Rattle.type_unions.specs.Shapes.{Shape}
use Rattle.value_meaning.specs.Sinks.{Source, Item, item, Piece, Sink, St, failed, and_then, repeats, on_read, begun, taken, put_in, done}
use Rattle.value_meaning.specs.Sinks.{read_at, took_number, number_taken, octets_at, took_octets, octets_step}
use Rattle.value_meaning.specs.Visit.{Checked, size_of, content_of, leaf_done, leaf_at, enum_done, enum_at, text_done, text_got, text_at}
use Rattle.value_meaning.specs.Visit.{count_done, count_at, tag_done, tag_at, run_done, run_got, run_at, profile_at, profiles_at, objref_at}
use Rattle.value_meaning.specs.Visit.{inert_at}
use Rattle.value_meaning.specs.Opens.{Node, node, node_at, Open, Next, on_next, next, entries, Own, own_of, own_at, opens, closes, shuts}
use Rattle.value_meaning.specs.Opens.{enter_node, reads_node}
use Rattle.value_meaning.specs.Opens.Next.{over, into}
use Rattle.value_meaning.specs.Opens.Own.{nothing, inert, count_up_to}
use Rattle.value_meaning.specs.Reading.{reads}

module _ {A A' : Type 0} (k : Sink A) (k' : Sink A') (x x' : Source)
    (E : St A → Type 0) (R : St A → St A' → Type 0) (Q : ℕ → ℕ → Type 0) where
  -- the second reading takes the number n too, at a place that goes with p
  pub record SameNumber (size : Size) (p n : ℕ) (s : St A) (s' : St A') : Type 0 where
    pub second : ℕ
    pub read : read_at k' x' size s' ≡ Some (second, n)
    pub place : Q p second
    pub then : R (took_number k size p n s) (took_number k' size second n s')

  -- the second reading takes the same n octets too
  pub record SameOctets (n : ℕ) (s : St A) (s' : St A') : Type 0 where
    pub fits : s'.at + n ≤ length x'.octets
    pub these : octets_at k' x' s'.at n ≡ octets_at k x s.at n
    pub place : Q s.at s'.at
    pub then : R (took_octets k x n s) (took_octets k' x' n s')

  -- what is asked of each single step
  pub record Steps : Type 0 where
    pub q-refl : (p : ℕ) → Q p p
    pub same-fault : (s : St A) (s' : St A') → R s s' → s.fault ≡ s'.fault
    pub same-last : (s : St A) (s' : St A') → R s s' → s.last ≡ s'.last
    pub back-fail : (n : ℕ) (s : St A) → 0 < n → E (failed n s) → E s
    pub back-visit : (s : St A) → E (begun k s) → E s
    pub back-took : (p : Piece) (next : ℕ) (s : St A) → E (taken k p next s) → E s
    pub back-put : (i : Item) (s : St A) → E (put_in k i s) → E s
    pub by-fail : (n : ℕ) (s : St A) (s' : St A') → 0 < n → R s s' → R (failed n s) (failed n s')
    pub by-visit : (s : St A) (s' : St A') → R s s' → E (begun k s) → R (begun k s) (begun k' s')
    pub same_full : (i : Item) (s : St A) (s' : St A') → R s s' → E (done k i s) → k.full s.kept ≡ k'.full s'.kept
    pub by-put : (kind p p' n : ℕ) (s : St A) (s' : St A') → Q p p' → R s s' → k.full s.kept ≡ false → E (put_in k (item kind p n) s)
        → R (put_in k (item kind p n) s) (put_in k' (item kind p' n) s')
    pub by_number : (size : Size) (p n : ℕ) (s : St A) (s' : St A') → R s s' → read_at k x size s ≡ Some (p, n) → E (took_number k size p n s)
        → SameNumber size p n s s'
    pub by-no-number : (size : Size) (s : St A) (s' : St A') → R s s' → read_at k x size s ≡ None → E (failed 50 s)
        → read_at k' x' size s' ≡ None
    pub by-octets : (n : ℕ) (s : St A) (s' : St A') → R s s' → s.at + n ≤ length x.octets → E (took_octets k x n s) → SameOctets n s s'
    pub by-no-octets : (n : ℕ) (s : St A) (s' : St A') → R s s' → length x.octets < s.at + n → E (failed 50 s)
        → length x'.octets < s'.at + n

  -- what a whole step does
  pub record Step (f : St A → St A) (f' : St A' → St A') : Type 0 where
    pub back : (s : St A) → E (f s) → E s
    pub both : (s : St A) (s' : St A') → R s s' → E (f s) → R (f s) (f' s')

  back-choose : (b : Bool) {y z : St A} {T : Type 0} → (E y → T) → (E z → T) → E (choose b (λ _. y) (λ _. z)) → T
  unfolding choose
  back-choose true p q e = p e
  back-choose false p q e = q e

  both-choose : (b b' : Bool) {y z : St A} {y' z' : St A'}
      → (b ≡ true → E y → (b' ≡ true) × R y y') → (b ≡ false → E z → (b' ≡ false) × R z z')
      → E (choose b (λ _. y) (λ _. z)) → R (choose b (λ _. y) (λ _. z)) (choose b' (λ _. y') (λ _. z'))
  unfolding choose
  both-choose true b' {y} {z} {y'} {z'} p q e =
      let r = p refl e in
      subst (λ (c : Bool). R y (choose c (λ _. y') (λ _. z'))) (sym r.0) r.1
  both-choose false b' {y} {z} {y'} {z'} p q e =
      let r = q refl e in
      subst (λ (c : Bool). R z (choose c (λ _. y') (λ _. z'))) (sym r.0) r.1

  module _ (S : Steps) where
    choose-step : (b : Bool) {f g : St A → St A} {f' g' : St A' → St A'} → Step f f' → Step g g'
        → Step (λ s. choose b (λ _. f s) (λ _. g s)) (λ s. choose b (λ _. f' s) (λ _. g' s))
    unfolding choose
    choose-step true y z = y
    choose-step false y z = z

    none-step : Step (λ s. s) (λ s. s)
    none-step = record { back = λ s e. e; both = λ s s' r e. r }

    fail-step : (n : ℕ) → 0 < n → Step (failed n) (failed n)
    fail-step n h = record { back = λ s e. S.back-fail n s h e; both = λ s s' r e. S.by-fail n s s' h r }

    done-step : (kind p p' n : ℕ) → Q p p' → Step (done k (item kind p n)) (done k' (item kind p' n))
    unfolding done
    done-step kind p p' n q = record {
      back = λ s e. back-choose (k.full s.kept) (λ e. S.back-fail 56 s (omega arith) e) (λ e. S.back-put (item kind p n) s e) e;
      both = λ s s' r e.
          let z : k.full s.kept ≡ k'.full s'.kept = S.same_full (item kind p n) s s' r e in
          both-choose (k.full s.kept) (k'.full s'.kept) (λ b e. (sym z ∙ b, S.by-fail 56 s s' (omega arith) r))
          (λ b e. (sym z ∙ b, S.by-put kind p p' n s s' q r b e)) e;
    }

    after-step : {f g : St A → St A} {f' g' : St A' → St A'} → Step f f' → Step g g' → Step (λ s. and_then (f s) g) (λ s. and_then (f' s) g')
    unfolding and_then
    after-step {f} {g} {f'} {g'} y z = record {
      back = λ s e. y.back s (back-choose (eqb (f s).fault 0) (z.back (f s)) (λ e. e) e);
      both = λ s s' r e.
          let mid : R (f s) (f' s') = y.both s s' r (back-choose (eqb (f s).fault 0) (z.back (f s)) (λ e. e) e) in
          let c : eqb (f' s').fault 0 ≡ eqb (f s).fault 0 = ap (λ (n : ℕ). eqb n 0) (sym (S.same-fault (f s) (f' s') mid)) in
          both-choose (eqb (f s).fault 0) (eqb (f' s').fault 0) (λ b e. (c ∙ b, z.both (f s) (f' s') mid e)) (λ b e. (c ∙ b, mid)) e;
    }

    repeats-step : {f : St A → St A} {f' : St A' → St A'} → Step f f' → (n : ℕ) → Step (repeats f n) (repeats f' n)
    unfolding repeats
    repeats-step h zero = none-step
    repeats-step h (suc n) = after-step h (repeats-step h n)

    -- what depends on the number taken last, which is the same
    last_step : {f : ℕ → St A → St A} {f' : ℕ → St A' → St A'} → ((n : ℕ) → Step (f n) (f' n))
        → Step (λ s. f s.last s) (λ s. f' s.last s)
    last_step {f} {f'} h = record {
      back = λ s e. (h s.last).back s e;
      both = λ s s' r e. subst (λ (n : ℕ). R (f s.last s) (f' n s')) (S.same-last s s' r) ((h s.last).both s s' r e);
    }

    module _ (size : Size) {f : ℕ → ℕ → St A → St A} {f' : ℕ → ℕ → St A' → St A'} (h : (p p' n : ℕ) → Q p p' → Step (f p n) (f' p' n)) where
      took : (p n : ℕ) (s : St A) → E (f p n (took_number k size p n s)) → E (took_number k size p n s)
      took p n s e = (h p p n (S.q-refl p)).back (took_number k size p n s) e

      number-back : (g : Option (ℕ × ℕ)) (s : St A) → E (on_read g s (λ p n. f p n (took_number k size p n s))) → E s
      number-back (Some (p, n)) s e = S.back-took _ _ s (took p n s e)
      number-back None s e = S.back-fail 50 s (omega arith) e

      number-both : (g : Option (ℕ × ℕ)) (s : St A) (s' : St A') → read_at k x size s ≡ g → R s s'
          → E (on_read g s (λ p n. f p n (took_number k size p n s)))
          → R (on_read g s (λ p n. f p n (took_number k size p n s))) (number_taken k' x' size f' s')
      unfolding number_taken
      number-both (Some (p, n)) s s' g r e =
          let a = S.by_number size p n s s' r g (took p n s e) in
          subst (λ (g : Option (ℕ × ℕ)). R (f p n (took_number k size p n s)) (on_read g s' (λ p n. f' p n (took_number k' size p n s')))) (sym a.read)
          ((h p a.second n a.place).both (took_number k size p n s) (took_number k' size a.second n s') a.then e)
      number-both None s s' g r e =
          subst (λ (g : Option (ℕ × ℕ)). R (failed 50 s) (on_read g s' (λ p n. f' p n (took_number k' size p n s'))))
          (sym (S.by-no-number size s s' r g e))
          (S.by-fail 50 s s' (omega arith) r)

      number_step : Step (number_taken k x size f) (number_taken k' x' size f')
      unfolding number_taken
      number_step = record {
        back = λ s e. number-back (read_at k x size s) s e;
        both = λ s s' r e. number-both (read_at k x size s) s s' refl r e;
      }

    module _ (n : ℕ) {f : ℕ → List ℕ → St A → St A} {f' : ℕ → List ℕ → St A' → St A'}
        (h : (p p' : ℕ) (these : List ℕ) → Q p p' → Step (f p these) (f' p' these)) where
      took-run : (s : St A) → E (f s.at (octets_at k x s.at n) (took_octets k x n s)) → E (took_octets k x n s)
      took-run s e = (h s.at s.at (octets_at k x s.at n) (S.q-refl s.at)).back (took_octets k x n s) e

      run-both : (s : St A) (s' : St A') → SameOctets n s s' → E (f s.at (octets_at k x s.at n) (took_octets k x n s))
          → R (f s.at (octets_at k x s.at n) (took_octets k x n s)) (f' s'.at (octets_at k' x' s'.at n) (took_octets k' x' n s'))
      run-both s s' a e =
          subst (λ (these : List ℕ). R (f s.at (octets_at k x s.at n) (took_octets k x n s)) (f' s'.at these (took_octets k' x' n s')))
          (sym a.these)
          ((h s.at s'.at (octets_at k x s.at n) a.place).both (took_octets k x n s) (took_octets k' x' n s') a.then e)

      octets-step : Step (octets_step k x n f) (octets_step k' x' n f')
      unfolding octets_step
      octets-step = record {
        back = λ s e.
            back-choose (ltb (length x.octets) (s.at + n)) (λ e. S.back-fail 50 s (omega arith) e)
            (λ e. S.back-took _ _ s (took-run s e)) e;
        both = λ s s' r e.
            both-choose (ltb (length x.octets) (s.at + n)) (ltb (length x'.octets) (s'.at + n))
            (λ b e. (lt-ltb _ _ (S.by-no-octets n s s' r (ltb-true _ _ b) e), S.by-fail 50 s s' (omega arith) r))
            (λ b e. let a = S.by-octets n s s' r (ltb-false _ _ b) (took-run s e) in (le-ltb _ _ a.fits, run-both s s' a e))
            e;
      }

    leaf-step : (kind : ℕ) → Step (leaf_at k x kind) (leaf_at k' x' kind)
    unfolding leaf_at leaf_done
    leaf-step kind =
        choose-step (ltb kind 2) none-step (number_step (size_of kind) (λ p p' n q.
        choose-step (eqb kind 8)
        (choose-step (ltb 1 n) (fail-step 51 (omega arith)) (done-step kind p p' n q))
        (done-step kind p p' (content_of kind n) q)))

    enum-step : (names : ℕ) → Step (enum_at k x names) (enum_at k' x' names)
    unfolding enum_at enum_done
    enum-step names = number_step Four (λ p p' n q. choose-step (leb names n) (fail-step 52 (omega arith)) (done-step 17 p p' n q))

    text-step : (bound : ℕ) → Step (text_at k x bound) (text_at k' x' bound)
    unfolding text_at text_got text_done
    text-step bound =
        number_step Four (λ p p' n q.
        choose-step (eqb n 0) (fail-step 53 (omega arith))
        (choose-step (over_bound (n - 1) bound) (fail-step 54 (omega arith))
        (octets-step n (λ p p' these q. choose-step (ends_text these) (done-step 18 p p' (n - 1) q) (fail-step 53 (omega arith))))))

    count-step : (bound : ℕ) → Step (count_at k x bound) (count_at k' x' bound)
    unfolding count_at count_done
    count-step bound = number_step Four (λ p p' n q. choose-step (over_bound n bound) (fail-step 54 (omega arith)) (done-step 19 p p' n q))

    tag-step : Step (tag_at k x) (tag_at k' x')
    unfolding tag_at tag_done
    tag-step = number_step Four (done-step 5)

    run_step : Step (run_at k x) (run_at k' x')
    unfolding run_at run_got run_done
    run_step = number_step Four (λ p p' n q. octets-step n (λ p p' these q. done-step 256 p p' n q))

    profile-step : Step (profile_at k x) (profile_at k' x')
    unfolding profile_at
    profile-step = after-step tag-step run_step

    objref-step : Step (objref_at k x) (objref_at k' x')
    unfolding objref_at profiles_at
    objref-step = after-step (text-step 0) (after-step (count-step 0) (last_step (repeats-step profile-step)))

    -- a step and then another, and what depends on the refusal's number, which is the same
    then-step : {f g : St A → St A} {f' g' : St A' → St A'} → Step f f' → Step g g' → Step (λ s. g (f s)) (λ s. g' (f' s))
    then-step {f} {g} {f'} {g'} y z = record {
      back = λ s e. y.back s (z.back (f s) e);
      both = λ s s' r e. z.both (f s) (f' s') (y.both s s' r (z.back (f s) e)) e;
    }

    fault-step : {f : ℕ → St A → St A} {f' : ℕ → St A' → St A'} → ((n : ℕ) → Step (f n) (f' n))
        → Step (λ s. f s.fault s) (λ s. f' s.fault s)
    fault-step {f} {f'} h = record {
      back = λ s e. (h s.fault).back s e;
      both = λ s s' r e. subst (λ (n : ℕ). R (f s.fault s) (f' n s')) (S.same-fault s s' r) ((h s.fault).both s s' r e);
    }

    -- what is read of a kind that holds no other
    inert-step : (i : Inert) → Step (inert_at k x i) (inert_at k' x' i)
    unfolding inert_at
    inert-step (Leaf kind) = leaf-step kind
    inert-step (Text bound) = text-step bound
    inert-step Objref = objref-step
    inert-step (Enum names) = enum-step names

    own-step : (o : Own) → Step (own_at k x o) (own_at k' x' o)
    own-step nothing = none-step
    own-step (inert i) = inert-step i
    own-step (count_up_to bound) = count-step bound

    -- f and f' visit what is inside
    module _ {f : Node → St A → St A} {f' : Node → St A' → St A'} (h : (q : Node) → Step (f q) (f' q)) where
      next-step : (t : Checked) (a : Next) {m : Open → St A → St A} {m' : Open → St A' → St A'} → ((o : Open) → Step (m o) (m' o))
          → Step (λ s. on_next a s (λ y o. and_then (f (node_at t y) s) (m o))) (λ s. on_next a s (λ y o. and_then (f' (node_at t y) s) (m' o)))
      next-step t over z = none-step
      next-step t (into y o) z = after-step (h (node_at t y)) (z o)

      closes-step : (t : Checked) (n : ℕ) (o : Open) → Step (closes f t n o) (closes f' t n o)
      unfolding closes
      closes-step t zero o = none-step
      closes-step t (suc n) o = last_step (λ last. next-step t (next o last) (closes-step t n))

      enter_step : (q : Node) → Step (enter_node k x f q) (enter_node k' x' f' q)
      unfolding enter_node shuts
      enter_step q =
          then-step (own-step (own_of q.at)) (fault-step (λ fault. last_step (λ last.
          closes-step q.type (entries (opens q.at fault last)) (opens q.at fault last))))

    node-step : (l : ℕ) (q : Node) → Step (reads_node k x l q) (reads_node k' x' l q)
    unfolding reads_node
    node-step zero q = fail-step 55 (omega arith)
    node-step (suc l) q =
        then-step (record { back = S.back-visit; both = λ s s' r e. S.by-visit s s' r e }) (enter_step (node-step l) q)

    pub reads-step : (t : Checked) (l : ℕ) (p : Shape) → Step (reads k x t l p) (reads k' x' t l p)
    unfolding reads
    reads-step t l p = node-step l (node t p)
