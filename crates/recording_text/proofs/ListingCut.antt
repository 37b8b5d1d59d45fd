-- The listing does not see the characters of a line beyond the 8,193rd, so no more of them need be kept.
use Rattle.std.proofs.Common.{◌≡◌, ℕ, ◌<◌, Bool, true, false, ltb, List, ◌∷◌, length, take, sym, refl, ap, ◌∙◌, arith, length-take-le, take_all, ltb-false, ltb-true}
use Rattle.hexline.specs.Decoding.{line_limit}
use Rattle.hexline.proofs.Answers.{too_long}
use Rattle.lines.specs.Lines.{lines_from}
use Rattle.lines.proofs.BegunCut.{begun-cut as cut}
use Rattle.join_places.specs.declared.Record.{Record}
use Rattle.recording_text.specs.Listing.{octets_most, entry_of, listing_from}

module _ (n : ℕ) (h : line_limit < n) where
  cut_by : (line : List ℕ) (r : Record) (places : List ℕ) (a : Bool) → ltb n (length line) ≡ a → entry_of (take n line) r places ≡ entry_of line r places
  unfolding entry_of
  cut_by line r places true e =
      let l = ltb-true n (length line) e in
      let k = length-take-le n line (omega arith) in
      rw (too_long (take n line) octets_most (omega arith), too_long line octets_most (omega arith))
  cut_by line r places false e = ap (λ (l : List ℕ). entry_of l r places) (take_all n line (ltb-false n (length line) e))

  -- a line is answered by its first 8,193 characters, and by any more
  pub entry-cut : (line : List ℕ) (r : Record) (places : List ℕ) → entry_of (take n line) r places ≡ entry_of line r places
  entry-cut line r places = cut_by line r places _ refl

  pub entry-same : (a b : List ℕ) (r : Record) (places : List ℕ) → take n a ≡ take n b → entry_of a r places ≡ entry_of b r places
  entry-same a b r places e = sym (entry-cut a r places) ∙ ap (λ (l : List ℕ). entry_of l r places) e ∙ entry-cut b r places

  -- by its first line
  listing-first : (k : ℕ) (r : Record) (places a b : List ℕ) (rest : List (List ℕ)) → take n a ≡ take n b
      → listing_from k r places (a ∷ rest) ≡ listing_from k r places (b ∷ rest)
  unfolding listing_from
  listing-first k r places a b rest e = rw (entry-same a b r places e)

  -- of a line that has been begun, no more than that need be kept
  pub begun-cut : (k : ℕ) (r : Record) (places l input : List ℕ)
      → listing_from k r places (lines_from (take n l) input) ≡ listing_from k r places (lines_from l input)
  begun-cut k r places = cut n (omega arith) (listing_from k r places) (listing-first k r places)
