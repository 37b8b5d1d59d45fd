-- What a part of a reading spends: visits and items against the octets that it takes. K are the visits that an octet pays for, x the value.
use Rattle.std.specs.Prelude.{Some}
use mathlib.Core.Path.{◌≡◌, refl, subst}
use mathlib.Core.List.{[], ◌∷◌}
use mathlib.Core.Bool.{Bool, false}
use Prim.Native.Nat.{ℕ, zero, suc, ◌+◌, ◌*◌, ◌<◌, ◌≤◌}
use native.Mathlib.Nat.{mul-le-mul_left, mul-suc}
use native.Mathlib.Omega.{arith}
use lib.Dec.{eqb, ltb}
use lib.ListN.{length, length-append}
use borrow.Author.Tests.{eqb-true}
use Rattle.choices.proofs.Choices.{never_both}
use Rattle.cdr.specs.declared.Size.{Size}
use Rattle.cdr.specs.Align.{octets}
use Rattle.cdr.proofs.GapsBounded.{gap-small, read-facts}
use Rattle.type_kinds.specs.declared.Inert.{Inert}
use Rattle.type_kinds.specs.declared.Inert.TheVariants.{Leaf, Text, Objref, Enum}
use Rattle.value_meaning.specs.Sinks.{Source, Item, Sink, St, failed, and_then, repeats, taken, put_in, done, read_at, took_number, took_octets}
use Rattle.value_meaning.specs.Visit.{leaf_at, enum_at, text_at, count_at, tag_at, run_at, profile_at, profiles_at, objref_at, inert_at}
use Rattle.value_meaning.specs.Reading.{Log, logging}
use Rattle.value_meaning.proofs.ByChoice.{by-choice}
use Rattle.value_meaning.proofs.RefusalKnown.{refusal-some}
use Rattle.value_meaning.proofs.PartsOfVisits.{Part, leaf-gives, enum-gives, text-gives, count_gives, tag-gives, run-gives}

abbrev pub items_of : St Log → ℕ
items_of s = length s.kept.items

abbrev pub visits_of : St Log → ℕ
visits_of s = s.kept.visits

abbrev pub Within : Source → St Log → Type 0
Within x s = s.at ≤ length x.octets

-- from s to r: K visits for each octet taken and q besides, and an octet at least was taken where nothing is refused; with K for q,
-- perhaps none was
pub record Spent (K : ℕ) (x : Source) (q : ℕ) (s r : St Log) : Type 0 where
  pub ends : Within x r
  pub ok : r.fault ≡ 0 → visits_of r + K * s.at + K ≤ visits_of s + q + K * r.at
  pub any : visits_of r + K * s.at ≤ visits_of s + q + K * r.at
  pub rows : items_of r + s.at ≤ items_of s + r.at

-- from s to r: an octet at least is taken, for which nothing is told yet
pub record Paid (x : Source) (s r : St Log) : Type 0 where
  pub ends : Within x r
  pub more : s.at < r.at
  pub visits : visits_of r ≡ visits_of s
  pub items : items_of r ≡ items_of s

more-octets : (K a b : ℕ) → a < b → K * a + K ≤ K * b
more-octets K a b h = subst (λ (x : ℕ). x ≤ K * b) (mul-suc K a) (mul-le-mul_left K h)

module _ {K : ℕ} {x : Source} {s : St Log} where
  pub weaker : {p q : ℕ} {r : St Log} → p ≤ q → Spent K x p s r → Spent K x q s r
  weaker h c = record { ends = c.ends; ok = λ z. let y = c.ok z in omega arith; any = let y = c.any in omega arith; rows = c.rows }

  pub nothing-spent : Within x s → Spent K x K s s
  nothing-spent e = record { ends = e; ok = λ z. omega arith; any = omega arith; rows = omega arith }

  pub refused-here : (q m : ℕ) → Within x s → 0 < m → Spent K x q s (failed m s)
  refused-here q m e h = record { ends = e; ok = λ z. absurd (omega arith); any = omega arith; rows = omega arith }

  -- what follows may spend K of its own
  pub spent-then : {q : ℕ} {r u : St Log} → Spent K x q s r → r.fault ≡ 0 → Spent K x K r u → Spent K x q s u
  spent-then c e d =
      let a = c.ok e in
      record {
        ends = d.ends;
        ok = λ z. let b = d.ok z in omega arith;
        any = let b = d.any in omega arith;
        rows = let b = d.rows in let g = c.rows in omega arith;
      }

  pub after-spent : {q : ℕ} (r : St Log) (f : St Log → St Log) → Spent K x q s r → (Within x r → Spent K x K r (f r)) → Spent K x q s (and_then r f)
  unfolding and_then
  after-spent {q} r f c d =
      by-choice (Spent K x q s) (eqb r.fault 0) (λ t. spent-then c (eqb-true r.fault 0 t) (d c.ends)) (λ t. c)

-- the same step again and again, at least once
module _ {K : ℕ} {x : Source} (f : St Log → St Log) (step : (s : St Log) → Within x s → Spent K x K s (f s)) where
  pub repeats-loose : (c : ℕ) (s : St Log) → Within x s → Spent K x K s (repeats f c s)
  unfolding repeats
  repeats-loose zero s e = nothing-spent e
  repeats-loose (suc c) s e = after-spent (f s) (repeats f c) (step s e) (repeats-loose c (f s))

  pub repeats-spent : {q : ℕ} (c : ℕ) (s : St Log) → 0 < c → Spent K x q s (f s) → Spent K x q s (repeats f c s)
  unfolding repeats
  repeats-spent zero s h a = absurd (omega arith)
  repeats-spent (suc c) s h a = after-spent (f s) (repeats f c) a (repeats-loose c (f s))

-- ---- what is read without another visit

module _ (K : ℕ) (full : ℕ → Bool) (x : Source) where
  abbrev sink : Sink Log
  sink = logging full

  module _ (q : ℕ) (s r : St Log) (a : Paid x s r) where
    refused-paid : (m : ℕ) → 0 < m → Spent K x q s (failed m r)
    refused-paid m h =
        let y = more-octets K s.at r.at a.more in
        record { ends = a.ends; ok = λ z. absurd (omega arith); any = omega arith; rows = omega arith }

    put-paid : (i : Item) → Spent K x q s (put_in sink i r)
    put-paid i =
        let y = more-octets K s.at r.at a.more in
        record { ends = a.ends; ok = λ z. omega arith; any = omega arith; rows = rw (length-append r.kept.items (i ∷ [])) (omega arith) }

    done-paid : (i : Item) → Spent K x q s (done sink i r)
    unfolding done
    done-paid i = by-choice (Spent K x q s) (full (items_of r)) (λ t. refused-paid 56 (omega arith)) (λ t. put-paid i)

    octets-paid : (m : ℕ) → r.at + m ≤ length x.octets → Paid x s (took_octets sink x m r)
    unfolding taken
    octets-paid m h = let y = a.more in record { ends = h; more = omega arith; visits = a.visits; items = a.items }

  number-paid : (s : St Log) (size : Size) (p m : ℕ) → read_at sink x size s ≡ Some (p, m) → Paid x s (took_number sink size p m s)
  unfolding taken
  number-paid s size p m t =
      let d = read-facts x.octets x.start s.at size x.order p m t in
      let g = gap-small size (x.start.0 + s.at) in
      record { ends = d.fits; more = omega arith; visits = refl; items = refl }

  run-paid : (s : St Log) (n : ℕ) → 0 < n → s.at + n ≤ length x.octets → Paid x s (took_octets sink x n s)
  unfolding taken
  run-paid s n some l = record { ends = l; more = omega arith; visits = refl; items = refl }

  pub paid-part : (q : ℕ) (s : St Log) → Within x s → Part sink x s (Paid x s) (Spent K x q s)
  paid-part q s e =
      record {
        ended = refused-here q 50 e (omega arith);
        first = number-paid s;
        run = λ n some l. run-paid s n some l;
        more = λ m r h a. octets-paid q s r a m h;
        refused = λ m r h l a. refused-paid q s r a m (refusal-some m h);
        finished = λ i r a. done-paid q s r a i;
      }

  module _ (q : ℕ) (s : St Log) (e : Within x s) where
    pub leaf-spent : (kind : ℕ) → ltb kind 2 ≡ false → Spent K x q s (leaf_at sink x kind s)
    leaf-spent kind h = leaf-gives sink x s (Paid x s) (Spent K x q s) (paid-part q s e) kind (λ t. absurd (never_both (ltb kind 2) t h))

    pub enum-spent : (names : ℕ) → Spent K x q s (enum_at sink x names s)
    enum-spent = enum-gives sink x s (Paid x s) (Spent K x q s) (paid-part q s e)

    pub text-spent : (bound : ℕ) → Spent K x q s (text_at sink x bound s)
    text-spent = text-gives sink x s (Paid x s) (Spent K x q s) (paid-part q s e)

    pub count-spent : (bound : ℕ) → Spent K x q s (count_at sink x bound s)
    count-spent = count_gives sink x s (Paid x s) (Spent K x q s) (paid-part q s e)

    tag-spent : Spent K x q s (tag_at sink x s)
    tag-spent = tag-gives sink x s (Paid x s) (Spent K x q s) (paid-part q s e)

    run-spent : Spent K x q s (run_at sink x s)
    run-spent = run-gives sink x s (Paid x s) (Spent K x q s) (paid-part q s e)

  profile-spent : (s : St Log) → Within x s → Spent K x K s (profile_at sink x s)
  unfolding profile_at
  profile-spent s e = after-spent (tag_at sink x s) (run_at sink x) (tag-spent K s e) (run-spent K (tag_at sink x s))

  profiles-spent : (s : St Log) → Within x s → Spent K x K s (profiles_at sink x s)
  unfolding profiles_at
  profiles-spent s e =
      let u : St Log = count_at sink x 0 s in
      after-spent u (λ r. repeats (profile_at sink x) r.last r) (count-spent K s e 0) (repeats-loose (profile_at sink x) profile-spent u.last u)

  pub objref-spent : (q : ℕ) (s : St Log) → Within x s → Spent K x q s (objref_at sink x s)
  unfolding objref_at
  objref-spent q s e = after-spent (text_at sink x 0 s) (profiles_at sink x) (text-spent q s e 0) (profiles-spent (text_at sink x 0 s))

  -- a kind that holds no other, but for null and void
  pub inert-spent : (q : ℕ) (s : St Log) → Within x s → (i : Inert) → ((kind : ℕ) → i ≡ Leaf kind → ltb kind 2 ≡ false)
      → Spent K x q s (inert_at sink x i s)
  unfolding inert_at
  inert-spent q s e (Leaf kind) h = leaf-spent q s e kind (h kind refl)
  inert-spent q s e (Text bound) h = text-spent q s e bound
  inert-spent q s e Objref h = objref-spent q s e
  inert-spent q s e (Enum names) h = enum-spent q s e names
