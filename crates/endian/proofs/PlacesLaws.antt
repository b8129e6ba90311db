-- What is read at a place, past the end too, is what is read at the front of the rest. Assumes nothing.
use mathlib.Core.Path.{◌≡◌, ◌∙◌, sym, ap}
use mathlib.Core.List.{List, [], ◌∷◌, ◌++◌}
use Prim.Native.Nat.{ℕ, ◌+◌, ◌≤◌, ◌<◌, ◌^◌}
use native.Mathlib.Nat.{add-zero, add_assoc}
use native.Mathlib.Omega.{arith}
use lib.ListN.{length, get_or, take, drop, length-drop, take-append-drop, get_or-eq_default}
use lib.Seq.{get_or-drop, drop-drop}
use Rattle.endian.specs.Bytes.{bytes16, bytes32}
use Rattle.endian.specs.Places.{Below, word16, word32}
use Rattle.endian.proofs.BytesLaws.{bytes16_of_be16, bytes32_of_be32}
use Rattle.endian.proofs.BelowLaws.{below_drop, get_or_of_below, be32_lt}

module _ (s : List ℕ) (at : ℕ) (h : length s ≤ at) where
  zero_past : (k : ℕ) → get_or s (at + k) 0 ≡ 0
  zero_past k = get_or-eq_default s 0 (omega arith)

  pub word16_past : word16 s at ≡ 0
  word16_past = rw (get_or-eq_default s 0 h, zero_past 1)

  pub word32_past : word32 s at ≡ 0
  word32_past = rw (get_or-eq_default s 0 h, zero_past 1, zero_past 2, zero_past 3)

pub word16_of_drop : (s : List ℕ) (n at : ℕ) → word16 (drop n s) at ≡ word16 s (n + at)
word16_of_drop s n at = simp (get_or-drop, add_assoc)

pub word32_of_drop : (s : List ℕ) (n at : ℕ) → word32 (drop n s) at ≡ word32 s (n + at)
word32_of_drop s n at = simp (get_or-drop, add_assoc)

pub word16_at : (s : List ℕ) (at : ℕ) → word16 s at ≡ word16 (drop at s) 0
word16_at s at = rw (word16_of_drop s at 0, add-zero at)

pub word32_at : (s : List ℕ) (at : ℕ) → word32 s at ≡ word32 (drop at s) 0
word32_at s at = rw (word32_of_drop s at 0, add-zero at)

-- the bytes of the number that is read are those that stand there
bytes16_of_front : (s : List ℕ) → 2 ≤ length s → Below 256 s → bytes16 (word16 s 0) ≡ take 2 s
bytes16_of_front [] h b = absurd (omega arith)
bytes16_of_front (x ∷ []) h b = absurd (omega arith)
bytes16_of_front (x ∷ y ∷ s) h b = bytes16_of_be16 x y b.1.0

bytes32_of_front : (s : List ℕ) → 4 ≤ length s → Below 256 s → bytes32 (word32 s 0) ≡ take 4 s
bytes32_of_front [] h b = absurd (omega arith)
bytes32_of_front (x ∷ []) h b = absurd (omega arith)
bytes32_of_front (x ∷ y ∷ []) h b = absurd (omega arith)
bytes32_of_front (x ∷ y ∷ z ∷ []) h b = absurd (omega arith)
bytes32_of_front (x ∷ y ∷ z ∷ w ∷ s) h b = bytes32_of_be32 x y z w b.1.0 b.1.1.0 b.1.1.1.0

pub bytes16_of_word16 : (s : List ℕ) (at : ℕ) → at + 2 ≤ length s → Below 256 s → bytes16 (word16 s at) ≡ take 2 (drop at s)
bytes16_of_word16 s at h b = rw (word16_at s at) (bytes16_of_front (drop at s) (simp length-drop (omega arith)) (below_drop 256 at s b))

pub bytes32_of_word32 : (s : List ℕ) (at : ℕ) → at + 4 ≤ length s → Below 256 s → bytes32 (word32 s at) ≡ take 4 (drop at s)
bytes32_of_word32 s at h b = rw (word32_at s at) (bytes32_of_front (drop at s) (simp length-drop (omega arith)) (below_drop 256 at s b))

-- the list from a place on, as its first number and the rest
pub drop_of_word32 : (s : List ℕ) (at : ℕ) → at + 4 ≤ length s → Below 256 s → drop at s ≡ bytes32 (word32 s at) ++ drop (at + 4) s
drop_of_word32 s at h b =
    sym (ap (λ (r : List ℕ). r ++ drop (at + 4) s) (bytes32_of_word32 s at h b) ∙ rw (← drop-drop 4 at s) (take-append-drop 4 (drop at s)))

pub word32_lt : (s : List ℕ) (at : ℕ) → Below 256 s → word32 s at < 2 ^ 32
word32_lt s at b =
    let g = get_or_of_below 256 s (omega arith) b in
    be32_lt (get_or s at 0) (get_or s (at + 1) 0) (get_or s (at + 2) 0) (get_or s (at + 3) 0) (g at) (g (at + 1)) (g (at + 2)) (g (at + 3))
