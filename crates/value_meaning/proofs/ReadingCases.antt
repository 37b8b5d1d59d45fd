-- The ways that a reading takes, for any sink.
use Rattle.std.specs.Prelude.{Option, Some, None, Result, Ok, Err}
use mathlib.Core.Path.{◌≡◌, refl, sym, ap, ◌∙◌}
use mathlib.Core.List.{List}
use mathlib.Core.Bool.{true, false}
use Prim.Native.Nat.{ℕ, zero, suc, ◌+◌, ◌-◌, ◌<◌, ◌≤◌}
use native.Mathlib.Omega.{arith}
use native.Mathlib.Numerals.{sub-one}
use lib.Dec.{eqb, ltb}
use lib.ListN.{length}
use borrow.Author.Tests.{eq-eqb, ne_eqb, lt-ltb, le-ltb, le-leb, lt-leb, ltb-false}
use Rattle.choices.specs.Branch.{choose}
use Rattle.choices.proofs.Choices.{by-test, clash}
use Rattle.cdr.specs.declared.Size.{Size}
use Rattle.cdr.specs.Align.{octets}
use Rattle.cdr_text.specs.Text.{over_bound, ends_text, text_of, run_of}
use Rattle.cdr_text.proofs.TextEnds.{run-facts, run_short}
use Rattle.type_kinds.specs.declared.Inert.{Inert}
use Rattle.type_unions.specs.Shapes.{Shape}
use Rattle.type_unions.specs.Shapes.Shape.{flat}
use Rattle.value_meaning.specs.Sinks.{Source, Item, item, number, run, Sink, St, failed, and_then, repeats, on_read, begun, taken, put_in}
use Rattle.value_meaning.specs.Sinks.{done, read_at, took_number, number_taken, octets_at, took_octets, octets_step}
use Rattle.value_meaning.specs.Visit.{Checked, size_of, content_of, leaf_done, leaf_at, enum_done, text_done, text_got, count_done, run_done, run_got, inert_at}
use Rattle.value_meaning.specs.Opens.{Node, node, Open, own_of, unless, opens, entries, closes, shuts, enter_node, reads_node}
use Rattle.value_meaning.specs.Reading.{reads}
use Rattle.cdr_text.specs.declared.TextFault.TheVariants.{Empty, Over, Short, Zeros}
use Rattle.cdr_text.specs.declared.TextFault.{TextFault}

-- a step after which nothing is refused, or something is
module _ {A : Type 0} where
  pub after-go : (f : St A → St A) (s : St A) → s.fault ≡ 0 → and_then s f ≡ f s
  unfolding and_then choose
  after-go f s e = rw (eq-eqb s.fault 0 e)

  pub after_stop : (f : St A → St A) (s : St A) → (s.fault ≡ 0 → ⊥) → and_then s f ≡ s
  unfolding and_then choose
  after_stop f s e = rw (ne_eqb s.fault 0 e)

  -- the same where the state is known by another name
  pub goes_on : (f : St A → St A) (s r : St A) → r ≡ s → r.fault ≡ 0 → and_then s f ≡ f r
  goes_on f s r e z = ap (λ (u : St A). and_then u f) (sym e) ∙ after-go f r z

  pub stops : (f : St A → St A) (s r : St A) → r ≡ s → (r.fault ≡ 0 → ⊥) → and_then s f ≡ r
  stops f s r e z = ap (λ (u : St A). and_then u f) (sym e) ∙ after_stop f r z

-- steps that are the same one after the other
pub after_same : {A : Type 0} (a b : St A) (f g : St A → St A) → a ≡ b → ((s : St A) → f s ≡ g s) → and_then a f ≡ and_then b g
unfolding and_then
after_same {A} a b f g e same = ap (λ (u : St A). and_then u f) e ∙ ap (λ (u : St A). choose (eqb b.fault 0) (λ _. u) (λ _. b)) (same b)

-- nothing more to do behind a step
pub after_none : {A : Type 0} (r : St A) (g : St A → St A) → ((s : St A) → g s ≡ s) → and_then r g ≡ r
unfolding and_then choose
after_none r g h = by-test (eqb r.fault 0) (λ e. rw e (h r)) (λ e. rw e)

-- n times a step, of which j are done
module _ {A : Type 0} (f : St A → St A) where
  pub repeats-end : (n j : ℕ) (s : St A) → n ≤ j → repeats f (n - j) s ≡ s
  unfolding repeats
  repeats-end n j s h = let e : n - j ≡ 0 = omega arith in rw e

  repeats-one : (n j : ℕ) (s : St A) → j < n → repeats f (n - j) s ≡ and_then (f s) (repeats f (n - (j + 1)))
  unfolding repeats
  repeats-one n j s h = let e : n - j ≡ suc (n - (j + 1)) = omega arith in rw e

  pub repeats-go : (n j : ℕ) (s r : St A) → j < n → r ≡ f s → r.fault ≡ 0 → repeats f (n - j) s ≡ repeats f (n - (j + 1)) r
  repeats-go n j s r h e z = repeats-one n j s h ∙ goes_on (repeats f (n - (j + 1))) (f s) r e z

  pub repeats-stop : (n j : ℕ) (s r : St A) → j < n → r ≡ f s → (r.fault ≡ 0 → ⊥) → repeats f (n - j) s ≡ r
  repeats-stop n j s r h e z = repeats-one n j s h ∙ stops (repeats f (n - (j + 1))) (f s) r e z

-- steps that are the same step by step are the same repeated
pub repeats-same : {A : Type 0} (f g : St A → St A) → ((s : St A) → f s ≡ g s) → (n : ℕ) (s : St A) → repeats f n s ≡ repeats g n s
unfolding repeats
repeats-same f g e zero s = refl
repeats-same {A} f g e (suc n) s =
    after_same (f s) (g s) (repeats f n) (repeats g n) (e s) (repeats-same f g e n)

-- an item for which there is no room, or some
module _ {A : Type 0} (k : Sink A) (i : Item) (s : St A) where
  pub done_full : k.full s.kept ≡ true → done k i s ≡ failed 56 s
  unfolding done choose
  done_full e = rw e

  pub done-room : k.full s.kept ≡ false → done k i s ≡ put_in k i s
  unfolding done choose
  done-room e = rw e

module _ {A : Type 0} (k : Sink A) (x : Source) where
  -- a number that was read, or not
  module _ (size : Size) (f : ℕ → ℕ → St A → St A) (s : St A) where
    pub number-some : (p n : ℕ) → read_at k x size s ≡ Some (p, n) → number_taken k x size f s ≡ f p n (took_number k size p n s)
    unfolding number_taken
    number-some p n e = ap (λ (r : Option (ℕ × ℕ)). on_read r s (λ q y. f q y (took_number k size q y s))) e

    pub number-none : read_at k x size s ≡ None → number_taken k x size f s ≡ failed 50 s
    unfolding number_taken
    number-none e = ap (λ (r : Option (ℕ × ℕ)). on_read r s (λ q y. f q y (took_number k size q y s))) e

  -- a kind without parameters
  module _ (kind : ℕ) where
    pub leaf-nothing : (s : St A) → kind < 2 → leaf_at k x kind s ≡ s
    unfolding leaf_at choose
    leaf-nothing s h = rw (lt-ltb kind 2 h)

    pub leaf-number : (s : St A) → 2 ≤ kind → leaf_at k x kind s ≡ number_taken k x (size_of kind) (leaf_done k x kind) s
    unfolding leaf_at choose
    leaf-number s h = rw (le-ltb kind 2 h)

    -- a primitive's number that was read, or not, by its size and its octets
    pub leaf-read : (z : Size) (p n w : ℕ) (s : St A) → 2 ≤ kind → z ≡ size_of kind → w ≡ octets z → read_at k x z s ≡ Some (p, n)
        → leaf_at k x kind s ≡ leaf_done k x kind p n (taken k (number (p - s.at) p (octets z) n) (p + w) s)
    leaf-read z p n w s h ez ew e =
        leaf-number s h
        ∙ ap (λ (y : Size). number_taken k x y (leaf_done k x kind) s) (sym ez)
        ∙ number-some z (leaf_done k x kind) s p n e
        ∙ ap (λ (i : ℕ). leaf_done k x kind p n (taken k (number (p - s.at) p (octets z) n) (p + i) s)) (sym ew)

    pub leaf-ends : (z : Size) (s : St A) → 2 ≤ kind → z ≡ size_of kind → read_at k x z s ≡ None → leaf_at k x kind s ≡ failed 50 s
    leaf-ends z s h ez e =
        leaf-number s h ∙ ap (λ (y : Size). number_taken k x y (leaf_done k x kind) s) (sym ez) ∙ number-none z (leaf_done k x kind) s e

    module _ (p n : ℕ) (s : St A) where
      pub leaf-above : kind ≡ 8 → 1 < n → leaf_done k x kind p n s ≡ failed 51 s
      unfolding leaf_done choose
      leaf-above e h = rw (eq-eqb kind 8 e, lt-ltb 1 n h)

      pub leaf-boolean : kind ≡ 8 → n ≤ 1 → leaf_done k x kind p n s ≡ done k (item kind p n) s
      unfolding leaf_done choose
      leaf-boolean e h = rw (eq-eqb kind 8 e, le-ltb 1 n h)

      pub leaf-other : (kind ≡ 8 → ⊥) → leaf_done k x kind p n s ≡ done k (item kind p (content_of kind n)) s
      unfolding leaf_done choose
      leaf-other e = rw (ne_eqb kind 8 e)

  module _ (names p n : ℕ) (s : St A) where
    pub enum-above : names ≤ n → enum_done k x names p n s ≡ failed 52 s
    unfolding enum_done choose
    enum-above h = rw (le-leb names n h)

    pub enum-named : n < names → enum_done k x names p n s ≡ done k (item 17 p n) s
    unfolding enum_done choose
    enum-named h = rw (lt-leb names n h)

  module _ (bound p n : ℕ) (s : St A) where
    pub count-over : over_bound n bound ≡ true → count_done k x bound p n s ≡ failed 54 s
    unfolding count_done choose
    count-over e = rw e

    pub count_under : over_bound n bound ≡ false → count_done k x bound p n s ≡ done k (item 19 p n) s
    unfolding count_done choose
    count_under e = rw e

  -- octets that are there, or not
  module _ (n : ℕ) (f : ℕ → List ℕ → St A → St A) (s : St A) where
    pub octets-some : s.at + n ≤ length x.octets → octets_step k x n f s ≡ f s.at (octets_at k x s.at n) (took_octets k x n s)
    unfolding octets_step choose
    octets-some h = rw (le-ltb (length x.octets) (s.at + n) h)

    pub octets-none : length x.octets < s.at + n → octets_step k x n f s ≡ failed 50 s
    unfolding octets_step choose
    octets-none h = rw (lt-ltb (length x.octets) (s.at + n) h)

  -- a run of octets, by what was found
  module _ (p n : ℕ) (s : St A) where
    pub run-some : (e : ℕ) → run_of x.octets s.at n ≡ Some e
        → run_got k x p n s ≡ done k (item 256 s.at n) (taken k (run s.at (octets_at k x s.at n)) e s)
    unfolding run_got run_done
    run-some e r =
        let h = run-facts x.octets s.at n e r in
        octets-some n (λ q these. done k (item 256 q n)) s h.1
        ∙ ap (λ (i : ℕ). done k (item 256 s.at n) (taken k (run s.at (octets_at k x s.at n)) i s)) (sym h.0)

    pub run_none : run_of x.octets s.at n ≡ None → run_got k x p n s ≡ failed 50 s
    unfolding run_got run_done
    run_none r = octets-none n (λ q these. done k (item 256 q n)) s (run_short x.octets s.at n r)

  -- a text, by what the text rule finds
  abbrev text_by : ℕ → St A → Result ℕ TextFault → St A
  text_by n s (Ok c) = done k (item 18 s.at c) (took_octets k x n s)
  text_by n s (Err Empty) = failed 53 s
  text_by n s (Err Over) = failed 54 s
  text_by n s (Err Short) = failed 50 s
  text_by n s (Err Zeros) = failed 53 (took_octets k x n s)

  pub text-found : (bound p n : ℕ) (s : St A) → text_got k x bound p n s ≡ text_by n s (text_of x.octets s.at n bound)
  unfolding text_got text_of octets_step text_done choose
  text-found bound p n s =
      by-test (eqb n 0) (λ a. rw a) (λ a.
      by-test (over_bound (n - 1) bound) (λ b. rw (a, b)) (λ b.
      by-test (ltb (length x.octets) (s.at + n)) (λ c. rw (a, b, c)) (λ c.
      by-test (ends_text (octets_at k x s.at n)) (λ d. rw (a, b, c, d)) (λ d. rw (a, b, c, d)))))

  pub text-is : (bound p n : ℕ) (s : St A) (r : Result ℕ TextFault) → r ≡ text_of x.octets s.at n bound → text_got k x bound p n s ≡ text_by n s r
  text-is bound p n s r e = text-found bound p n s ∙ ap (text_by n s) (sym e)

-- where a text is judged by its zeros, its octets are there
pub chars-fit : (v : List ℕ) (at n bound c : ℕ) → text_of v at n bound ≡ Ok c → at + n ≤ length v
unfolding text_of
chars-fit v at n bound c e =
    by-test (eqb n 0) (λ a. let q : (Err Empty) ≡ Ok c = rw a at e in clash cc) (λ a.
    by-test (over_bound (n - 1) bound) (λ b. let q : (Err Over) ≡ Ok c = rw (a, b) at e in clash cc) (λ b.
    by-test (ltb (length v) (at + n)) (λ d. let q : (Err Short) ≡ Ok c = rw (a, b, d) at e in clash cc) (λ d. ltb-false _ _ d)))

pub zeros-fit : (v : List ℕ) (at n bound : ℕ) → text_of v at n bound ≡ Err Zeros → at + n ≤ length v
unfolding text_of
zeros-fit v at n bound e =
    by-test (eqb n 0) (λ a. let q : (Err Empty) ≡ Err Zeros = rw a at e in clash cc) (λ a.
    by-test (over_bound (n - 1) bound) (λ b. let q : (Err Over) ≡ Err Zeros = rw (a, b) at e in clash cc) (λ b.
    by-test (ltb (length v) (at + n)) (λ d. let q : (Err Short) ≡ Err Zeros = rw (a, b, d) at e in clash cc) (λ d. ltb-false _ _ d)))

-- what is open only if nothing is refused
pub unless-is : {A : Type 0} (f : Node → St A → St A) (t : Checked) (u : St A) (o : Open) (g : St A → St A) → shuts f t o u ≡ g u
    → shuts f t (unless u.fault o) u ≡ and_then u g
unfolding shuts entries closes and_then choose
unless-is f t u o g h = by-test (eqb u.fault 0) (λ e. rw e h) (λ e. rw e)

-- a visit with no level left, or some
module _ {A : Type 0} (k : Sink A) (x : Source) (t : Checked) where
  pub reads_none : (p : Shape) (s : St A) → reads k x t 0 p s ≡ failed 55 s
  unfolding reads reads_node
  reads_none p s = refl

  pub reads-some : (l : ℕ) (p : Shape) (s : St A) → (l ≡ 0 → ⊥)
      → reads k x t l p s ≡ enter_node k x (reads_node k x (l - 1)) (node t p) (begun k s)
  unfolding reads reads_node
  reads-some zero p s h = absurd (h refl)
  reads-some (suc l) p s h = rw (sub-one (suc l))

  -- a visit of a kind that holds no other
  pub reads-flat : (l : ℕ) (i : Inert) (s : St A) → (l ≡ 0 → ⊥) → reads k x t l (flat i) s ≡ inert_at k x i (begun k s)
  unfolding enter_node own_of opens shuts entries closes
  reads-flat l i s h = reads-some l (flat i) s h
