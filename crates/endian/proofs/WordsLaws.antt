-- Lists of numbers and lists of bytes determine each other, and a number is read where its four bytes stand. Assumes nothing.
use mathlib.Core.Path.{◌≡◌, ◌∙◌, refl, ap, sym}
use mathlib.Core.List.{List, [], ◌∷◌, ◌++◌}
use Prim.Native.Nat.{ℕ, zero, suc, ◌+◌, ◌*◌, ◌/◌, ◌%◌, ◌≤◌, ◌<◌}
use native.Mathlib.Omega.{arith}
use lib.ListN.{length, get_or, take, drop, set, length-drop}
use lib.Seq.{paste, take_at, take-suc, take-suc-set}
use Rattle.endian.specs.Bytes.{words, word_bytes}
use Rattle.endian.specs.Places.{Below, word32}
use Rattle.endian.specs.Laid.{stored}
use Rattle.endian.proofs.BytesLaws.{be32_of_bytes32, bytes32_of_be32}
use Rattle.endian.proofs.PlacesLaws.{word32_of_drop}
use Rattle.endian.proofs.LaidLaws.{stored_of_room}
use Rattle.endian.proofs.PartLaws.{paste_more}
use native.Mathlib.Numerals.{add-one}

pub words_of_append : (l s : List ℕ) → words (word_bytes l ++ s) ≡ l ++ words s
unfolding words word_bytes
words_of_append [] s = refl
words_of_append (n ∷ l) s = rw (be32_of_bytes32 n, words_of_append l s)

pub words_of_word_bytes : (l : List ℕ) → words (word_bytes l) ≡ l
unfolding words word_bytes
words_of_word_bytes [] = refl
words_of_word_bytes (n ∷ l) = rw (be32_of_bytes32 n, words_of_word_bytes l)

pub word_bytes_of_words : (s : List ℕ) → length s % 4 ≡ 0 → Below 256 s → word_bytes (words s) ≡ s
unfolding words word_bytes
word_bytes_of_words [] e h = refl
word_bytes_of_words (a ∷ []) e h = absurd (omega arith)
word_bytes_of_words (a ∷ b ∷ []) e h = absurd (omega arith)
word_bytes_of_words (a ∷ b ∷ c ∷ []) e h = absurd (omega arith)
word_bytes_of_words (a ∷ b ∷ c ∷ d ∷ l) e h =
    ap (λ (r : List ℕ). r ++ word_bytes (words l)) (bytes32_of_be32 a b c d h.1.0 h.1.1.0 h.1.1.1.0) ∙ rw (word_bytes_of_words l (omega arith) h.1.1.1.1)

pub length_word_bytes : (l : List ℕ) → length (word_bytes l) ≡ 4 * length l
unfolding word_bytes
length_word_bytes [] = refl
length_word_bytes (n ∷ l) = let e = length_word_bytes l in omega arith

pub length_words : (s : List ℕ) → length (words s) ≡ length s / 4
unfolding words
length_words [] = refl
length_words (a ∷ []) = refl
length_words (a ∷ b ∷ []) = refl
length_words (a ∷ b ∷ c ∷ []) = refl
length_words (a ∷ b ∷ c ∷ d ∷ l) = let e = length_words l in omega arith

-- n numbers from a place to the end
pub length_words_of_drop : (s : List ℕ) (at n : ℕ) → length s ≡ at + 4 * n → length (words (drop at s)) ≡ n
length_words_of_drop s at n h = length_words (drop at s) ∙ simp length-drop (omega arith)

words_of_front : (s : List ℕ) → 4 ≤ length s → words s ≡ word32 s 0 ∷ words (drop 4 s)
unfolding words
words_of_front [] h = absurd (omega arith)
words_of_front (a ∷ []) h = absurd (omega arith)
words_of_front (a ∷ b ∷ []) h = absurd (omega arith)
words_of_front (a ∷ b ∷ c ∷ []) h = absurd (omega arith)
words_of_front (a ∷ b ∷ c ∷ d ∷ l) h = refl

pub get_d_words : (s : List ℕ) (i : ℕ) → 4 * i + 4 ≤ length s → get_or (words s) i 0 ≡ word32 s (4 * i)
get_d_words s zero h = rw (words_of_front s (omega arith))
get_d_words s (suc i) h =
    let e : 4 + 4 * i ≡ 4 * suc i = omega arith in
    rw (words_of_front s (omega arith), ← e, ← word32_of_drop s 4 (4 * i)) (get_d_words (drop 4 s) i (simp length-drop (omega arith)))

-- the same of the numbers that begin at a place
pub get_or_words_of_drop : (s : List ℕ) (a i : ℕ) → a + (4 * i + 4) ≤ length s → get_or (words (drop a s)) i 0 ≡ word32 s (a + 4 * i)
get_or_words_of_drop s a i h = get_d_words (drop a s) i (simp length-drop (omega arith)) ∙ word32_of_drop s a (4 * i)

-- one number more at the front of a list that is being filled: the whole list, and its front
pub paste_words_more : (l s : List ℕ) (i : ℕ) → i < length l → 4 * i + 4 ≤ length s →
    set (paste l 0 (words s) i) i (word32 s (4 * i)) ≡ paste l 0 (words s) (i + 1)
paste_words_more l s i k h = rw (← get_d_words s i h) (paste_more l (words s) i k (omega (arith, length_words s)))

pub take_words_more : (l s : List ℕ) (i : ℕ) → i < length l → 4 * i + 4 ≤ length s → take i l ≡ take i (words s) →
    take (i + 1) (set l i (word32 s (4 * i))) ≡ take (i + 1) (words s)
take_words_more l s i k h e =
    rw (add-one i, take-suc-set l i (word32 s (4 * i)) k, take-suc (words s) i 0 (omega (arith, length_words s)), get_d_words s i h, e)

-- numbers that were read into the front of a list with room for them stand there
module _ (l t s : List ℕ) (e : t ≡ stored l 0 (words s)) (h : length s / 4 ≤ length l) where
  pub words_of_stored : take (length s / 4) t ≡ words s
  words_of_stored =
      let r : 0 + length (words s) ≤ length l = omega (arith, length_words s) in
      rw (e, ← (stored_of_room l (words s) 0 r).1, ← length_words s) (take_at (words s) (drop (0 + length (words s)) l) (length (words s)) refl)

  pub length_of_stored : length s / 4 ≡ length (take (length s / 4) t)
  length_of_stored = rw words_of_stored (sym (length_words s))
