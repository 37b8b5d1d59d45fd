-- What each piece that a reading takes keeps, of where the reading is and of the pieces taken, the whole reading keeps.
use mathlib.Core.Path.{refl}
use mathlib.Core.List.{List, [], ◌∷◌, ◌++◌}
use mathlib.Core.Bool.{Bool}
use Prim.Native.Nat.{ℕ, ◌+◌, ◌-◌, ◌≤◌}
use lib.ListN.{length, take, drop}
use Rattle.cdr.specs.declared.Size.{Size}
use Rattle.cdr.specs.Align.{octets}
use Rattle.cdr.proofs.GapsBounded.{NumberRead, read-facts}
use Rattle.value_meaning.specs.Sinks.{Source, Piece, number, run, St, taken}
use Rattle.value_meaning.specs.Visit.{Checked}
use Rattle.value_meaning.specs.Reading.{Log, logging, levels, at_start, top_of, reading}
use Rattle.value_meaning.proofs.SameButForRoom.{Keeps, reads-keep}

-- what is asked of each piece: P says something of the next octet's place and the pieces taken before it
pub record EachKeeps (x : Source) (P : ℕ → List Piece → Type 0) : Type 0 where
  pub number-keeps : (size : Size) (at p n : ℕ) (ps : List Piece) → NumberRead x.octets x.start at size x.order p n → P at ps
      → P (p + octets size) (ps ++ (number (p - at) p (octets size) n ∷ []))
  pub run-keeps : (at n : ℕ) (ps : List Piece) → at + n ≤ length x.octets → P at ps
      → P (at + n) (ps ++ (run at (take n (drop at x.octets)) ∷ []))

module _ (full : ℕ → Bool) (x : Source) (P : ℕ → List Piece → Type 0) where
  abbrev Kept : St Log → Type 0
  Kept s = P s.at s.kept.pieces

  keeps : EachKeeps x P → Keeps (logging full) (logging full).full x (λ s. Unit) Kept
  unfolding taken
  keeps K = record {
    back-fail = λ n s h e. tt;
    back-visit = λ s e. tt;
    back-took = λ p next s e. tt;
    back-put = λ i s e. tt;
    same_full = λ i s h e. refl;
    by-fail = λ n s l h. h;
    by-visit = λ s h e. h;
    by-put = λ i s h b e. h;
    by_number = λ size p n s h g e.
        K.number-keeps size s.at p n s.kept.pieces (read-facts x.octets x.start s.at size x.order p n g) h;
    by-octets = λ n s h l e. K.run-keeps s.at n s.kept.pieces l h;
  }

  pub reading-keeps : EachKeeps x P → P 0 [] → (t : Checked) → P (reading full x t).at (reading full x t).kept.pieces
  unfolding reading
  reading-keeps K h t =
      (reads-keep (logging full) (logging full).full x (λ s. Unit) Kept (keeps K) t levels (top_of t) at_start h tt).holds
