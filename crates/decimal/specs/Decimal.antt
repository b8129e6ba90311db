-- A number as text: its decimal digits as bytes, the highest first. Rests on the library's lists.
use Rattle.std.specs.Prelude.{◌≡◌, true, false, List, [], ◌∷◌, ◌++◌, ℕ, zero, suc, ◌+◌, ◌-◌, ◌*◌, ◌/◌, ◌%◌, ◌<◌, ◌≤◌, ltb, length, get_or}

-- the byte of a digit: 48 is '0'
abbrev pub digit_byte : ℕ → ℕ
digit_byte d = 48 + d

-- the digits of n in at most k turns of taking off the last one
unfoldable pub decimal_by : ℕ → ℕ → List ℕ
decimal_by zero n = []
decimal_by (suc k) n = elim (ltb n 10) [ true ↦ digit_byte n ∷ [] | false ↦ decimal_by k (n / 10) ++ (digit_byte (n % 10) ∷ []) ]

-- more turns than n are always enough: each makes what is left smaller
unfoldable pub decimal : ℕ → List ℕ
decimal n = decimal_by (suc n) n

-- What that means, without a computation: l is a text of n. `decimal n` is one (proofs/DecimalLaws.antt), and the only one
-- (proofs/TextLaws.antt).

-- the number that the digits l stand for, behind others that stand for a
abbrev pub value_behind : ℕ → List ℕ → ℕ
value_behind a [] = a
value_behind a (b ∷ l) = value_behind (10 * a + (b - 48)) l

abbrev pub Digits : List ℕ → Type 0
Digits [] = Unit {0}
Digits (b ∷ l) = (48 ≤ b) × (b < 58) × Digits l

pub record DecimalOf (n : ℕ) (l : List ℕ) : Type 0 where
  pub some_digit : zero < length l
  pub all_digits : Digits l
  -- '0' stands first only in the text of 0
  pub no_leading_zero : get_or l 0 0 ≡ 48 → length l ≡ 1
  pub value : value_behind 0 l ≡ n
