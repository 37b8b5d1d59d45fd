-- A reading beside itself, but for the sink's room: what each single step keeps a whole reading keeps, and where the other room answers the
-- same at each item the reading is the same. P holds later where it holds earlier, E earlier where it holds later.
use Rattle.std.specs.Prelude.{Some}
use mathlib.Core.Path.{◌≡◌, refl, sym, ap, subst, ◌∙◌}
use mathlib.Core.Bool.{Bool, false}
use Prim.Native.Nat.{ℕ, ◌+◌, ◌<◌, ◌≤◌}
use lib.ListN.{length}
use Rattle.cdr.specs.declared.Size.{Size}
use Rattle.type_unions.specs.Shapes.{Shape}
use Rattle.value_meaning.specs.Sinks.{Source, Item, item, Piece, Sink, St, failed, begun, taken, put_in, done, read_at, took_number, octets_at, took_octets}
use Rattle.value_meaning.specs.Visit.{Checked}
use Rattle.value_meaning.specs.Reading.{reads}
use Rattle.value_meaning.proofs.SideBySide.{Steps, reads-step}

-- the sink with another room
abbrev pub roomed : {A : Type 0} → Sink A → (A → Bool) → Sink A
roomed k full = record { visit = k.visit; took = k.took; full = full; put = k.put }

module _ {A : Type 0} (P : St A → Type 0) where
  -- the same state, of which P holds
  pub record Twice (s s' : St A) : Type 0 where
    pub alike : s ≡ s'
    pub holds : P s

  again : (f : St A → St A) {s s' : St A} → Twice s s' → P (f s) → Twice (f s) (f s')
  again f r p = record { alike = ap f r.alike; holds = p }

module _ {A : Type 0} (k : Sink A) (full : A → Bool) (x : Source) (E P : St A → Type 0) where
  -- what is asked of each single step
  pub record Keeps : Type 0 where
    pub back-fail : (n : ℕ) (s : St A) → 0 < n → E (failed n s) → E s
    pub back-visit : (s : St A) → E (begun k s) → E s
    pub back-took : (p : Piece) (next : ℕ) (s : St A) → E (taken k p next s) → E s
    pub back-put : (i : Item) (s : St A) → E (put_in k i s) → E s
    pub same_full : (i : Item) (s : St A) → P s → E (done k i s) → k.full s.kept ≡ full s.kept
    pub by-fail : (n : ℕ) (s : St A) → 0 < n → P s → P (failed n s)
    pub by-visit : (s : St A) → P s → E (begun k s) → P (begun k s)
    pub by-put : (i : Item) (s : St A) → P s → k.full s.kept ≡ false → E (put_in k i s) → P (put_in k i s)
    pub by_number : (size : Size) (p n : ℕ) (s : St A) → P s → read_at k x size s ≡ Some (p, n) → E (took_number k size p n s)
        → P (took_number k size p n s)
    pub by-octets : (n : ℕ) (s : St A) → P s → s.at + n ≤ length x.octets → E (took_octets k x n s) → P (took_octets k x n s)

  twice : Keeps → Steps k (roomed k full) x x E (Twice P) ◌≡◌
  unfolding taken
  twice K = record {
    q-refl = λ p. refl;
    same-fault = λ s s' r. ap (λ (u : St A). u.fault) r.alike;
    same-last = λ s s' r. ap (λ (u : St A). u.last) r.alike;
    back-fail = K.back-fail;
    back-visit = K.back-visit;
    back-took = K.back-took;
    back-put = K.back-put;
    by-fail = λ n s s' h r. again P (failed n) r (K.by-fail n s h r.holds);
    by-visit = λ s s' r e. again P (begun k) r (K.by-visit s r.holds e);
    same_full = λ i s s' r e. K.same_full i s r.holds e ∙ ap (λ (u : St A). full u.kept) r.alike;
    by-put = λ kind p p' n s s' q r b e. record {
      alike = ap (λ (a : ℕ). put_in k (item kind a n) s) q ∙ ap (put_in k (item kind p' n)) r.alike;
      holds = K.by-put (item kind p n) s r.holds b e;
    };
    by_number = λ size p n s s' r g e. record {
      second = p;
      read = subst (λ (u : St A). read_at k x size u ≡ Some (p, n)) r.alike g;
      place = refl;
      then = again P (took_number k size p n) r (K.by_number size p n s r.holds g e);
    };
    by-no-number = λ size s s' r g e. ap (read_at k x size) (sym r.alike) ∙ g;
    by-octets = λ n s s' r h e. record {
      fits = subst (λ (u : St A). u.at + n ≤ length x.octets) r.alike h;
      these = ap (λ (u : St A). octets_at k x u.at n) (sym r.alike);
      place = ap (λ (u : St A). u.at) r.alike;
      then = again P (took_octets k x n) r (K.by-octets n s r.holds h e);
    };
    by-no-octets = λ n s s' r h e. subst (λ (u : St A). length x.octets < u.at + n) r.alike h;
  }

  pub reads-keep : Keeps → (t : Checked) (l : ℕ) (p : Shape) (s : St A) → P s → E (reads k x t l p s)
      → Twice P (reads k x t l p s) (reads (roomed k full) x t l p s)
  reads-keep K t l p s h e =
      (reads-step k (roomed k full) x x E (Twice P) ◌≡◌ (twice K) t l p).both s s (record { alike = refl; holds = h }) e
