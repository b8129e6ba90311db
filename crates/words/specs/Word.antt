-- A set of numbers below 32 as a word: bit i says whether i is in it. No public contract of a crate that a user meets cites it.
use Rattle.std.specs.Prelude.{◌≡◌, Bool, true, false, cond, ℕ, zero, suc, ◌+◌, ◌-◌, ◌/◌, ◌%◌, ◌^◌, ◌<◌, eqb}
use Rattle.std.specs.Int.Bits.{bit_or}

-- i is in the set
abbrev pub has : ℕ → ℕ → Bool
has w i = eqb (w / 2 ^ i % 2) 1

-- the set with i
abbrev pub with : ℕ → ℕ → ℕ
with w i = bit_or w (2 ^ i)

-- the numbers below 32 that are not in it: `!w`
abbrev pub others : ℕ → ℕ
others w = 2 ^ 32 - 1 - w

-- the numbers below n that pass
unfoldable pub word_of : (ℕ → Bool) → ℕ → ℕ
word_of f zero = 0
word_of f (suc n) = cond (f n) (2 ^ n + word_of f n) (word_of f n)

-- t is the lowest number in the set
pub record Lowest (w t : ℕ) : Type 0 where
  pub bit : has w t ≡ true
  pub below : (i : ℕ) → i < t → has w i ≡ false
