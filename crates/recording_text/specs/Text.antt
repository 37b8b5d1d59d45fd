-- The text that the program writes, as characters.
--   dash           the text `-`
--   line_text       "line number, answer, and the message, in upper case, or `-`"
--   end_text        "then lines read and messages open": `end LINES OPEN`
use Rattle.std.specs.Prelude.{ℕ, List, [], ◌∷◌, ◌++◌}
use Rattle.decimals.specs.Decimal.{decimal}
use Rattle.lines.specs.Lines.{lf, hyphen}
pub use Rattle.lines.specs.Lines.{space}

abbrev pub dash : List ℕ
dash = hyphen ∷ []

unfoldable pub line_text : ℕ → ℕ → List ℕ → List ℕ
line_text line answer shown = decimal line ++ (space ∷ (decimal answer ++ (space ∷ (shown ++ (lf ∷ [])))))

unfoldable pub end_text : ℕ → ℕ → List ℕ
end_text lines count = 101 ∷ 110 ∷ 100 ∷ space ∷ (decimal lines ++ (space ∷ (decimal count ++ (lf ∷ []))))
