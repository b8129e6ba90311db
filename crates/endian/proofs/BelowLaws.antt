-- Ranges: the bytes of a number of 32 bits are below 256, and the number of four bytes is below 2 ^ 32. Assumes nothing.
use mathlib.Core.List.{List, [], ◌∷◌, ◌++◌}
use Prim.Native.Nat.{ℕ, zero, suc, ◌<◌, ◌^◌}
use native.Mathlib.Omega.{arith}
use lib.ListN.{get_or, take, drop}
use Rattle.endian.specs.Bytes.{be32, bytes32, words, word_bytes}
use Rattle.endian.specs.Places.{Below}

pub below_append : (m : ℕ) (l r : List ℕ) → Below m l → Below m r → Below m (l ++ r)
below_append m [] r h g = g
below_append m (x ∷ l) r h g = (h.0, below_append m l r h.1 g)

pub below_of_append : (m : ℕ) (l r : List ℕ) → Below m (l ++ r) → Below m l × Below m r
below_of_append m [] r h = (tt, h)
below_of_append m (x ∷ l) r h = let g = below_of_append m l r h.1 in ((h.0, g.0), g.1)

pub below_take : (m n : ℕ) (l : List ℕ) → Below m l → Below m (take n l)
below_take m zero l h = tt
below_take m (suc n) [] h = tt
below_take m (suc n) (x ∷ l) h = (h.0, below_take m n l h.1)

pub below_drop : (m n : ℕ) (l : List ℕ) → Below m l → Below m (drop n l)
below_drop m zero l h = h
below_drop m (suc n) [] h = tt
below_drop m (suc n) (x ∷ l) h = below_drop m n l h.1

-- what the prover says of a slice is said of every index
pub below_of_get_or : (m : ℕ) (l : List ℕ) → ((i : ℕ) → get_or l i 0 < m) → Below m l
below_of_get_or m [] h = tt
below_of_get_or m (x ∷ l) h = (h 0, below_of_get_or m l (λ i. h (suc i)))

pub get_or_of_below : (m : ℕ) (l : List ℕ) → zero < m → Below m l → (i : ℕ) → get_or l i 0 < m
get_or_of_below m [] z h i = z
get_or_of_below m (x ∷ l) z h zero = h.0
get_or_of_below m (x ∷ l) z h (suc i) = get_or_of_below m l z h.1 i

pub below_bytes32 : (x : ℕ) → x < 2 ^ 32 → Below 256 (bytes32 x)
below_bytes32 x h = (omega arith, (omega arith, (omega arith, (omega arith, tt))))

pub below_word_bytes : (l : List ℕ) → Below (2 ^ 32) l → Below 256 (word_bytes l)
unfolding word_bytes
below_word_bytes [] h = tt
below_word_bytes (n ∷ l) h = below_append 256 (bytes32 n) (word_bytes l) (below_bytes32 n h.0) (below_word_bytes l h.1)

pub be32_lt : (a b c d : ℕ) → a < 256 → b < 256 → c < 256 → d < 256 → be32 a b c d < 2 ^ 32
be32_lt a b c d ha hb hc hd = omega arith

pub below_words : (s : List ℕ) → Below 256 s → Below (2 ^ 32) (words s)
unfolding words
below_words [] h = tt
below_words (a ∷ []) h = tt
below_words (a ∷ b ∷ []) h = tt
below_words (a ∷ b ∷ c ∷ []) h = tt
below_words (a ∷ b ∷ c ∷ d ∷ l) h =
    (be32_lt a b c d h.0 h.1.0 h.1.1.0 h.1.1.1.0, below_words l h.1.1.1.1)
