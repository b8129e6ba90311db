-- A line of text: a word, and numbers behind it. Rests on `decimal`.
use Rattle.std.specs.Prelude.{List, [], ◌∷◌, ◌++◌, ℕ}
use Rattle.decimal.specs.Decimal.{decimal}

-- a space before each number, and none behind the last
unfoldable pub spaced : List ℕ → List ℕ
spaced [] = []
spaced (n ∷ l) = 32 ∷ (decimal n ++ spaced l)

-- a word, its numbers and one newline
abbrev pub text_of : List ℕ → List ℕ → List ℕ
text_of w l = w ++ (spaced l ++ (10 ∷ []))
