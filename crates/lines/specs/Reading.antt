-- What a program that reads the lines relies on: a line ends at its first newline, and has no space in front of that.
-- proofs/LineLaws.antt shows it of every line, and proofs/ReadingLaws.antt that the lines are determined by all their bytes one behind the other.
use Rattle.std.specs.Prelude.{◌≡◌, List, [], ◌∷◌, ◌++◌, ℕ, ◌<◌}
use Rattle.lines.specs.Line.{Line, line_bytes}

-- every byte is above the space: letters and digits are
abbrev pub Visible : List ℕ → Type 0
Visible [] = Unit {0}
Visible (b ∷ l) = (32 < b) × Visible l

-- b does not occur in l
abbrev pub Lacks : ℕ → List ℕ → Type 0
Lacks b [] = Unit {0}
Lacks b (c ∷ l) = (c ≡ b → ⊥) × Lacks b l

-- the last byte of l, or d where there is none
abbrev pub last_of : ℕ → List ℕ → ℕ
last_of d [] = d
last_of d (b ∷ l) = last_of b l

-- l is a text without a newline, not ending in a space, and behind it one newline
pub record OneLine (l : List ℕ) : Type 0 where
  pub front : List ℕ
  pub whole : l ≡ front ++ (10 ∷ [])
  pub no_newline : Lacks 10 front
  pub no_trailing_space : last_of 0 front ≡ 32 → ⊥

-- all that the service writes
unfoldable pub output_bytes : List Line → List ℕ
output_bytes [] = []
output_bytes (x ∷ xs) = line_bytes x ++ output_bytes xs
