-- Bytes and numbers determine each other, one number at a time. Each law on 32 bits is the law on 16 at three places. Assumes nothing.
use mathlib.Core.Path.{◌≡◌}
use mathlib.Core.List.{[], ◌∷◌}
use Prim.Native.Nat.{ℕ, ◌*◌, ◌/◌, ◌%◌, ◌<◌}
use native.Mathlib.Nat.{div-div-eq-div-mul, div-add-mod'}
use native.Mathlib.Omega.{arith}
use Rattle.endian.specs.Bytes.{be16, be32, bytes16, bytes32}

-- the last byte of x / k, behind all that is above it
be16_of_div : (x k : ℕ) → be16 (x / (k * 256)) (x / k % 256) ≡ x / k
be16_of_div x k = rw (← div-div-eq-div-mul x k 256) (div-add-mod' (x / k) 256)

pub be16_of_bytes16 : (x : ℕ) → be16 (x / 256) (x % 256) ≡ x
be16_of_bytes16 x = div-add-mod' x 256

pub be32_of_bytes32 : (x : ℕ) → be32 (x / 16777216) (x / 65536 % 256) (x / 256 % 256) (x % 256) ≡ x
be32_of_bytes32 x = rw (be16_of_div x 65536, be16_of_div x 256) (be16_of_bytes16 x)

high_of_be16 : (a b : ℕ) → b < 256 → be16 a b / 256 ≡ a
high_of_be16 a b h = omega arith

low_of_be16 : (a b : ℕ) → b < 256 → be16 a b % 256 ≡ b
low_of_be16 a b h = omega arith

pub bytes16_of_be16 : (a b : ℕ) → b < 256 → bytes16 (be16 a b) ≡ a ∷ b ∷ []
bytes16_of_be16 a b h = rw (high_of_be16 a b h, low_of_be16 a b h)

pub bytes32_of_be32 : (a b c d : ℕ) → b < 256 → c < 256 → d < 256 → bytes32 (be32 a b c d) ≡ a ∷ b ∷ c ∷ d ∷ []
bytes32_of_be32 a b c d hb hc hd =
    let x = be32 a b c d in
    let q1 : x / 256 ≡ be16 (be16 a b) c = high_of_be16 (be16 (be16 a b) c) d hd in
    let q2 : x / 65536 ≡ be16 a b = omega arith in
    let q3 : x / 16777216 ≡ a = omega arith in
    rw (q3, q2, q1, low_of_be16 a b hb, low_of_be16 (be16 a b) c hc, low_of_be16 (be16 (be16 a b) c) d hd)
