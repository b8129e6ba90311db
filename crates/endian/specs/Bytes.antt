-- Numbers as bytes, the largest part first. Definitions only; that reading and writing undo each other is in proofs/BytesLaws.antt.
use Rattle.std.specs.Prelude.{List, [], ◌∷◌, ◌++◌, ℕ, ◌+◌, ◌*◌, ◌/◌, ◌%◌}

-- the number that two bytes, or four, are
abbrev pub be16 : ℕ → ℕ → ℕ
be16 a b = a * 256 + b

abbrev pub be32 : ℕ → ℕ → ℕ → ℕ → ℕ
be32 a b c d = be16 (be16 (be16 a b) c) d

-- the bytes of a number below 2 ^ 16, and below 2 ^ 32
abbrev pub bytes16 : ℕ → List ℕ
bytes16 x = (x / 256) ∷ (x % 256) ∷ []

abbrev pub bytes32 : ℕ → List ℕ
bytes32 x = (x / 16777216) ∷ (x / 65536 % 256) ∷ (x / 256 % 256) ∷ (x % 256) ∷ []

-- the numbers of a list of bytes, four bytes each; one to three bytes left over are no number
unfoldable pub words : List ℕ → List ℕ
words [] = []
words (a ∷ []) = []
words (a ∷ b ∷ []) = []
words (a ∷ b ∷ c ∷ []) = []
words (a ∷ b ∷ c ∷ d ∷ l) = be32 a b c d ∷ words l

-- the bytes of a list of numbers
unfoldable pub word_bytes : List ℕ → List ℕ
word_bytes [] = []
word_bytes (n ∷ l) = bytes32 n ++ word_bytes l
