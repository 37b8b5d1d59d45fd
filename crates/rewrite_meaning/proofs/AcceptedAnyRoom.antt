-- A reading that accepts with some room is the reading with any room.
use mathlib.Core.Path.{◌≡◌, refl}
use mathlib.Core.Bool.{Bool, true, false}
use Prim.Native.Nat.{ℕ, ◌<◌}
use native.Mathlib.Omega.{arith}
use lib.ListN.{length}
use Rattle.choices.specs.Branch.{choose}
use Rattle.value_meaning.specs.Sinks.{Source, St, failed, put_in, taken, done}
use Rattle.value_meaning.specs.Visit.{Checked}
use Rattle.value_meaning.specs.Reading.{Log, logging, any_room, levels, at_start, top_of, reading}
use Rattle.value_meaning.proofs.SameButForRoom.{Keeps, reads-keep}

not-failed : (b : Bool) (y z : St Log) → 0 < y.fault → (choose b (λ _. y) (λ _. z)).fault ≡ 0 → b ≡ false
unfolding choose
not-failed true y z h e = absurd (omega arith)
not-failed false y z h e = refl

module _ (full : ℕ → Bool) (x : Source) where
  abbrev Accepting : St Log → Type 0
  Accepting s = s.fault ≡ 0

  accepting : Keeps (logging full) (logging any_room).full x Accepting (λ s. Unit)
  unfolding taken done
  accepting = record {
    back-fail = λ n s h e. absurd (omega arith);
    back-visit = λ s e. e;
    back-took = λ p next s e. e;
    back-put = λ i s e. e;
    same_full = λ i s h e. not-failed (full (length s.kept.items)) (failed 56 s) (put_in (logging full) i s) (omega arith) e;
    by-fail = λ n s l h. tt;
    by-visit = λ s h e. tt;
    by-put = λ i s h b e. tt;
    by_number = λ size p n s h g e. tt;
    by-octets = λ n s h l e. tt;
  }

  pub accepted-any : (t : Checked) → (reading full x t).fault ≡ 0 → reading full x t ≡ reading any_room x t
  unfolding reading
  accepted-any t e =
      (reads-keep (logging full) (logging any_room).full x Accepting (λ s. Unit) accepting t levels (top_of t) at_start tt e).alike
