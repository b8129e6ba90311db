-- The number at a place of a list of bytes, and what a list of bytes is. Rests on specs/Bytes.antt.
use Rattle.std.specs.Prelude.{List, [], ◌∷◌, ℕ, ◌+◌, ◌<◌, get_or}
use Rattle.endian.specs.Bytes.{be16, be32}

-- what lies past the end reads as zeros
abbrev pub word16 : List ℕ → ℕ → ℕ
word16 s at = be16 (get_or s at 0) (get_or s (at + 1) 0)

abbrev pub word32 : List ℕ → ℕ → ℕ
word32 s at = be32 (get_or s at 0) (get_or s (at + 1) 0) (get_or s (at + 2) 0) (get_or s (at + 3) 0)

-- every entry is below m: a list of bytes is `Below 256`
abbrev pub Below : ℕ → List ℕ → Type 0
Below m [] = Unit {0}
Below m (x ∷ l) = (x < m) × Below m l
