-- `decimal n` is a text of n, and no other number has it. All goes by one induction, from n / 10 to n. Assumes nothing.
use mathlib.Core.Path.{◌≡◌, ◌∙◌, refl, sym}
use mathlib.Core.Bool.{Bool, true, false}
use mathlib.Core.List.{List, [], ◌∷◌, ◌++◌}
use Prim.Native.Nat.{ℕ, zero, suc, ◌+◌, ◌-◌, ◌*◌, ◌/◌, ◌%◌, ◌^◌, ◌<◌, ◌≤◌}
use native.Mathlib.Omega.{arith}
use lib.Dec.{ltb}
use lib.ListN.{length, get_or, length-append, get_or-append}
use borrow.Author.Tests.{lt-ltb, le-ltb, ltb-true, ltb-false}
use Rattle.decimal.specs.Decimal.{digit_byte, decimal_by, decimal, value_behind, Digits, DecimalOf}

pub decimal_by_small : (k n : ℕ) → n < 10 → decimal_by (suc k) n ≡ digit_byte n ∷ []
unfolding decimal_by
decimal_by_small k n h = rw (lt-ltb n 10 h, decimal_by)

pub decimal_by_more : (k n : ℕ) → 10 ≤ n → decimal_by (suc k) n ≡ decimal_by k (n / 10) ++ (digit_byte (n % 10) ∷ [])
unfolding decimal_by
decimal_by_more k n h = rw (le-ltb n 10 h, decimal_by)

-- a number below 10, or one whose last digit can be taken off
pub by_last_digit : (P : Type 0) (n : ℕ) → (n < 10 → P) → (10 ≤ n → P) → P
by_last_digit P n f g = go (ltb n 10) refl where
  go : (b : Bool) → ltb n 10 ≡ b → P
  go true e = f (ltb-true n 10 e)
  go false e = g (ltb-false n 10 e)

-- any number of turns above n gives the same
decimal_by_enough : (k j n : ℕ) → n < k → n < j → decimal_by k n ≡ decimal_by j n
decimal_by_enough zero j n h g = absurd (omega arith)
decimal_by_enough (suc k) zero n h g = absurd (omega arith)
decimal_by_enough (suc k) (suc j) n h g =
    by_last_digit (decimal_by (suc k) n ≡ decimal_by (suc j) n) n
    (λ s. decimal_by_small k n s ∙ sym (decimal_by_small j n s))
    (λ m. rw (decimal_by_more k n m, decimal_by_more j n m, decimal_by_enough k j (n / 10) (omega arith) (omega arith)))

pub decimal_of_small : (n : ℕ) → n < 10 → decimal n ≡ digit_byte n ∷ []
unfolding decimal
decimal_of_small n h = decimal_by_small n n h

pub decimal_of_more : (n : ℕ) → 10 ≤ n → decimal n ≡ decimal (n / 10) ++ (digit_byte (n % 10) ∷ [])
unfolding decimal
decimal_of_more n h = decimal_by_more n n h ∙ rw (decimal_by_enough n (suc (n / 10)) (n / 10) (omega arith) (omega arith))

-- the induction
module _ (P : ℕ → Type 0) (small : (n : ℕ) → n < 10 → P n) (more : (n : ℕ) → 10 ≤ n → P (n / 10) → P n) where
  below : (k n : ℕ) → n < k → P n
  below zero n h = absurd (omega arith)
  below (suc k) n h = by_last_digit (P n) n (small n) (λ m. more n m (below k (n / 10) (omega arith)))

  pub decimal_induction : (n : ℕ) → P n
  decimal_induction n = below (suc n) n (omega arith)

-- digits
digits_append : (l r : List ℕ) → Digits l → Digits r → Digits (l ++ r)
digits_append [] r h g = g
digits_append (b ∷ l) r h g = (h.0, h.1, digits_append l r h.2 g)

pub digits_decimal : (n : ℕ) → Digits (decimal n)
digits_decimal =
    decimal_induction (λ n. Digits (decimal n))
    (λ n h. rw (decimal_of_small n h) (omega arith, omega arith, tt))
    (λ n h d. rw (decimal_of_more n h) (digits_append (decimal (n / 10)) (digit_byte (n % 10) ∷ []) d (omega arith, omega arith, tt)))

-- how many
pub length_decimal_small : (n : ℕ) → n < 10 → length (decimal n) ≡ 1
length_decimal_small n h = rw (decimal_of_small n h)

pub length_decimal_more : (n : ℕ) → 10 ≤ n → length (decimal n) ≡ length (decimal (n / 10)) + 1
length_decimal_more n h = rw (decimal_of_more n h) (length-append (decimal (n / 10)) (digit_byte (n % 10) ∷ []))

pub length_decimal_pos : (n : ℕ) → zero < length (decimal n)
length_decimal_pos n =
    by_last_digit (zero < length (decimal n)) n (λ h. omega (arith, length_decimal_small n h)) (λ h. omega (arith, length_decimal_more n h))

pub length_decimal_le : (k n : ℕ) → n < 10 ^ suc k → length (decimal n) ≤ suc k
length_decimal_le zero n h = omega (arith, length_decimal_small n (omega arith))
length_decimal_le (suc k) n h =
    by_last_digit (length (decimal n) ≤ suc (suc k)) n
    (λ s. omega (arith, length_decimal_small n s))
    (λ m. omega (arith, length_decimal_more n m, length_decimal_le k (n / 10) (omega arith)))

pub length_decimal_32 : (n : ℕ) → n < 2 ^ 32 → length (decimal n) ≤ 10
length_decimal_32 n h = length_decimal_le 9 n (omega arith)

-- the value
pub value_append : (a : ℕ) (l : List ℕ) (b : ℕ) → value_behind a (l ++ (b ∷ [])) ≡ 10 * value_behind a l + (b - 48)
value_append a [] b = refl
value_append a (c ∷ l) b = value_append (10 * a + (c - 48)) l b

pub value_decimal : (n : ℕ) → value_behind 0 (decimal n) ≡ n
value_decimal =
    decimal_induction (λ n. value_behind 0 (decimal n) ≡ n)
    (λ n h. rw (decimal_of_small n h) (omega arith))
    (λ n h e. rw (decimal_of_more n h) (value_append 0 (decimal (n / 10)) (digit_byte (n % 10)) ∙ rw e (omega arith)))

pub decimal_injective : (m n : ℕ) → decimal m ≡ decimal n → m ≡ n
decimal_injective m n e = sym (value_decimal m) ∙ rw e (value_decimal n)

-- no leading zero
zero_of_first : (n : ℕ) → get_or (decimal n) 0 0 ≡ 48 → n ≡ 0
zero_of_first =
    decimal_induction (λ n. get_or (decimal n) 0 0 ≡ 48 → n ≡ 0)
    (λ n h e. let g : 48 + n ≡ 48 = rw (decimal_of_small n h) at e in omega arith)
    (λ n h f e.
    let g : get_or (decimal (n / 10) ++ (digit_byte (n % 10) ∷ [])) 0 0 ≡ 48 = rw (decimal_of_more n h) at e in
    let z = f (sym (get_or-append (decimal (n / 10)) (digit_byte (n % 10) ∷ []) 0 0 (length_decimal_pos (n / 10))) ∙ g) in
    absurd (omega arith))

pub decimal_no_leading_zero : (n : ℕ) → get_or (decimal n) 0 0 ≡ 48 → length (decimal n) ≡ 1
decimal_no_leading_zero n e = length_decimal_small n (omega (arith, zero_of_first n e))

pub decimal_is_decimal : (n : ℕ) → DecimalOf n (decimal n)
decimal_is_decimal n =
    record {
      some_digit = length_decimal_pos n;
      all_digits = digits_decimal n;
      no_leading_zero = decimal_no_leading_zero n;
      value = value_decimal n;
    }
