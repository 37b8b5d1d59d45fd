-- The parts of a reading that hold no visit: a number or octets first, then perhaps octets, then an item or a refusal.
use Rattle.std.specs.Prelude.{Option, Some, None}
use mathlib.Core.Path.{◌≡◌, refl}
use mathlib.Core.List.{List}
use mathlib.Core.Bool.{true}
use Prim.Native.Nat.{ℕ, ◌+◌, ◌-◌, ◌<◌, ◌≤◌}
use native.Mathlib.Omega.{arith}
use lib.Dec.{eqb, ltb, leb}
use lib.ListN.{length}
use borrow.Author.Tests.{ltb-false}
use Rattle.cdr.specs.declared.Size.{Size}
use Rattle.cdr.specs.declared.Size.TheVariants.{Four}
use Rattle.cdr_text.specs.Text.{over_bound, ends_text}
use Rattle.choices.specs.Lists.{any_of}
use Rattle.value_meaning.specs.Refusals.{is_value_refusal, room_refusal}
use Rattle.value_meaning.specs.Sinks.{Source, Item, item, Sink, St, failed, on_read, done, read_at, took_number, number_taken, octets_at}
use Rattle.value_meaning.specs.Sinks.{took_octets, octets_step}
use Rattle.value_meaning.specs.Visit.{size_of, content_of, leaf_done, leaf_at, enum_done, enum_at, text_done, text_got, text_at, count_done}
use Rattle.value_meaning.specs.Visit.{count_at, tag_done, tag_at, run_done, run_got, run_at}
use Rattle.value_meaning.proofs.ByChoice.{by-choice}

-- a part that begins at s: Q holds wherever octets are taken, P at its end
pub record Part {A : Type 0} (k : Sink A) (x : Source) (s : St A) (Q P : St A → Type 0) : Type 0 where
  pub ended : P (failed 50 s)
  pub first : (size : Size) (p n : ℕ) → read_at k x size s ≡ Some (p, n) → Q (took_number k size p n s)
  pub run : (n : ℕ) → 0 < n → s.at + n ≤ length x.octets → Q (took_octets k x n s)
  pub more : (n : ℕ) (r : St A) → r.at + n ≤ length x.octets → Q r → Q (took_octets k x n r)
  pub refused : (n : ℕ) (r : St A) → is_value_refusal n ≡ true → (n ≡ room_refusal → ⊥) → Q r → P (failed n r)
  pub finished : (i : Item) (r : St A) → Q r → P (done k i r)

module _ {A : Type 0} (k : Sink A) (x : Source) (s : St A) (Q P : St A → Type 0) (C : Part k x s Q P) where
  on-read : (size : Size) (f : ℕ → ℕ → St A → St A) → ((p n : ℕ) (r : St A) → Q r → P (f p n r))
      → (a : Option (ℕ × ℕ)) → read_at k x size s ≡ a → P (on_read a s (λ p n. f p n (took_number k size p n s)))
  on-read size f h None t = C.ended
  on-read size f h (Some (p, n)) t = h p n (took_number k size p n s) (C.first size p n t)

  number-gives : (size : Size) (f : ℕ → ℕ → St A → St A) → ((p n : ℕ) (r : St A) → Q r → P (f p n r)) → P (number_taken k x size f s)
  unfolding number_taken
  number-gives size f h = on-read size f h (read_at k x size s) refl

  octets-give : (n : ℕ) (f : ℕ → List ℕ → St A → St A) → ((p : ℕ) (these : List ℕ) (u : St A) → Q u → P (f p these u)) → (r : St A) → Q r
      → P (octets_step k x n f r)
  unfolding octets_step is_value_refusal any_of
  octets-give n f h r a =
      by-choice P (ltb (length x.octets) (r.at + n))
      (λ t. C.refused 50 r refl (λ z. omega arith) a)
      (λ t. h r.at (octets_at k x r.at n) (took_octets k x n r) (C.more n r (ltb-false (length x.octets) (r.at + n) t) a))

  leaf-done : (kind p n : ℕ) (r : St A) → Q r → P (leaf_done k x kind p n r)
  unfolding leaf_done is_value_refusal any_of
  leaf-done kind p n r a =
      by-choice P (eqb kind 8)
      (λ _. by-choice P (ltb 1 n) (λ _. C.refused 51 r refl (λ z. omega arith) a) (λ _. C.finished (item kind p n) r a))
      (λ _. C.finished (item kind p (content_of kind n)) r a)

  pub leaf-gives : (kind : ℕ) → (ltb kind 2 ≡ true → P s) → P (leaf_at k x kind s)
  unfolding leaf_at
  leaf-gives kind h = by-choice P (ltb kind 2) h (λ _. number-gives (size_of kind) (leaf_done k x kind) (leaf-done kind))

  enum-done : (names p n : ℕ) (r : St A) → Q r → P (enum_done k x names p n r)
  unfolding enum_done is_value_refusal any_of
  enum-done names p n r a = by-choice P (leb names n) (λ _. C.refused 52 r refl (λ z. omega arith) a) (λ _. C.finished (item 17 p n) r a)

  pub enum-gives : (names : ℕ) → P (enum_at k x names s)
  unfolding enum_at
  enum-gives names = number-gives Four (enum_done k x names) (enum-done names)

  text-done : (n p : ℕ) (these : List ℕ) (r : St A) → Q r → P (text_done k x n p these r)
  unfolding text_done is_value_refusal any_of
  text-done n p these r a =
      by-choice P (ends_text these) (λ _. C.finished (item 18 p (n - 1)) r a) (λ _. C.refused 53 r refl (λ z. omega arith) a)

  text-got : (bound p n : ℕ) (r : St A) → Q r → P (text_got k x bound p n r)
  unfolding text_got is_value_refusal any_of
  text-got bound p n r a =
      by-choice P (eqb n 0) (λ _. C.refused 53 r refl (λ z. omega arith) a) (λ _.
      by-choice P (over_bound (n - 1) bound) (λ _. C.refused 54 r refl (λ z. omega arith) a) (λ _.
      octets-give n (text_done k x n) (text-done n) r a))

  pub text-gives : (bound : ℕ) → P (text_at k x bound s)
  unfolding text_at
  text-gives bound = number-gives Four (text_got k x bound) (text-got bound)

  count-done : (bound p n : ℕ) (r : St A) → Q r → P (count_done k x bound p n r)
  unfolding count_done is_value_refusal any_of
  count-done bound p n r a = by-choice P (over_bound n bound) (λ _. C.refused 54 r refl (λ z. omega arith) a) (λ _. C.finished (item 19 p n) r a)

  pub count_gives : (bound : ℕ) → P (count_at k x bound s)
  unfolding count_at
  count_gives bound = number-gives Four (count_done k x bound) (count-done bound)

  pub tag-gives : P (tag_at k x s)
  unfolding tag_at tag_done
  tag-gives = number-gives Four (tag_done k x) (λ p n r a. C.finished (item 5 p n) r a)

  pub run-gives : P (run_at k x s)
  unfolding run_at run_got run_done
  run-gives = number-gives Four (run_got k x) (λ p n r a. octets-give n (run_done k x n) (λ b these u c. C.finished (item 256 b n) u c) r a)
