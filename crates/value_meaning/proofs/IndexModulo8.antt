-- "Starting index (taken modulo 8)": two readings whose indices are equal modulo 8 are the same.
use mathlib.Core.Path.{◌≡◌, refl, sym, ap, subst, ◌∙◌}
use mathlib.Core.List.{List}
use mathlib.Core.Bool.{Bool}
use Prim.Native.Nat.{ℕ, ◌+◌, ◌%◌, ◌<◌, ◌≤◌}
use lib.ListN.{length}
use Rattle.cdr.specs.declared.Order.{Order}
use Rattle.cdr.specs.declared.Size.{Size}
use Rattle.cdr.specs.Align.{octets, gap, index_of}
use Rattle.cdr.specs.Number.{read_of}
use Rattle.cdr.proofs.GapsBounded.{gap-modulo-8}
use Rattle.value_meaning.specs.Sinks.{Source, source, item, St, failed, begun, put_in, read_at, took_number, octets_at, took_octets}
use Rattle.value_meaning.specs.Visit.{Checked}
use Rattle.value_meaning.specs.Reading.{Log, logging, levels, at_start, top_of, reading}
use Rattle.value_meaning.proofs.SideBySide.{Steps, reads-step}

module _ (v : List ℕ) (order : Order) (i j : ℕ) (alike : i % 8 ≡ j % 8) where
  read_alike : (at : ℕ) (size : Size) → read_of v (index_of i) at size order ≡ read_of v (index_of j) at size order
  unfolding read_of
  read_alike at size =
      let e : gap (i + at) (octets size) ≡ gap (j + at) (octets size) =
      sym (gap-modulo-8 size i at) ∙ ap (λ (n : ℕ). gap (n + at) (octets size)) alike ∙ gap-modulo-8 size j at in
      rw e

  module _ (full : ℕ → Bool) where
    abbrev x : Source
    x = source v order (index_of i)

    abbrev y : Source
    y = source v order (index_of j)

    steps : Steps (logging full) (logging full) x y (λ s. Unit) ◌≡◌ ◌≡◌
    steps = record {
      q-refl = λ p. refl;
      same-fault = λ s s' r. ap (λ (u : St Log). u.fault) r;
      same-last = λ s s' r. ap (λ (u : St Log). u.last) r;
      back-fail = λ n s h e. tt;
      back-visit = λ s e. tt;
      back-took = λ p n s e. tt;
      back-put = λ k s e. tt;
      by-fail = λ n s s' h r. ap (failed n) r;
      by-visit = λ s s' r e. ap (begun (logging full)) r;
      same_full = λ k s s' r e. ap (λ (u : St Log). full (length u.kept.items)) r;
      by-put = λ kind p p' n s s' q r f e. ap (λ (a : ℕ). put_in (logging full) (item kind a n) s) q ∙ ap (put_in (logging full) (item kind p' n)) r;
      by_number = λ size p n s s' r h e. record {
        second = p;
        read = sym (read_alike s'.at size) ∙ ap (λ (u : St Log). read_at (logging full) x size u) (sym r) ∙ h;
        place = refl;
        then = ap (took_number (logging full) size p n) r;
      };
      by-no-number = λ size s s' r h e. sym (read_alike s'.at size) ∙ ap (λ (u : St Log). read_at (logging full) x size u) (sym r) ∙ h;
      by-octets = λ n s s' r h e. record {
        fits = subst (λ (u : St Log). u.at + n ≤ length v) r h;
        these = ap (λ (u : St Log). octets_at (logging full) x u.at n) (sym r);
        place = ap (λ (u : St Log). u.at) r;
        then = ap (took_octets (logging full) x n) r;
      };
      by-no-octets = λ n s s' r h e. subst (λ (u : St Log). length v < u.at + n) r h;
    }

    pub index-modulo-8 : (t : Checked) → reading full x t ≡ reading full y t
    unfolding reading
    index-modulo-8 t = (reads-step (logging full) (logging full) x y (λ s. Unit) ◌≡◌ ◌≡◌ steps t levels (top_of t)).both at_start at_start refl tt
