-- What a row of tests that gave an answer says of each of them, and a proof by cases below a bound. Assumes nothing.
use Rattle.std.proofs.Common.{◌≡◌, refl, Bool, true, false, cond, ◌&&◌, ℕ, zero, suc, ◌<◌, ◌≤◌, Option, None, Some, arith}
use Rattle.std.proofs.lemmas.Option.{none-some}

module _ {A : Type 0} where
  -- a test that would have refused did not hold
  pub some_of_cond : (b : Bool) (x : Option A) (a : A) → cond b None x ≡ Some a → (b ≡ false) × (x ≡ Some a)
  some_of_cond true x a e = absurd (none-some a e)
  some_of_cond false x a e = (refl, e)

  -- a test that had to hold did
  pub some_of_cond_true : (b : Bool) (x : Option A) (a : A) → cond b x None ≡ Some a → (b ≡ true) × (x ≡ Some a)
  some_of_cond_true true x a e = (refl, e)
  some_of_cond_true false x a e = absurd (none-some a e)

pub and_left : (a b : Bool) → a && b ≡ true → a ≡ true
and_left true b e = refl
and_left false b e = e

pub and_right : (a b : Bool) → a && b ≡ true → b ≡ true
and_right true b e = e
and_right false true e = refl
and_right false false e = e

-- a number that is at least m and is not m
pub above : {m k : ℕ} → m ≤ k → (k ≡ m → ⊥) → suc m ≤ k
above h e = omega arith

-- a proof for each number below n
abbrev Each : (ℕ → Type 0) → ℕ → Type 0
Each P zero = Unit {0}
Each P (suc n) = P 0 × Each (λ (k : ℕ). P (suc k)) n

each_below : (P : ℕ → Type 0) (n : ℕ) → Each P n → (k : ℕ) → k < n → P k
each_below P zero c k h = absurd (omega arith)
each_below P (suc n) c zero h = c.0
each_below P (suc n) c (suc k) h = each_below (λ (j : ℕ). P (suc j)) n c.1 k (omega arith)

-- an argument by kinds, with a line for each
pub by_kind : (P : ℕ → Type 0) → P 0 → P 1 → P 2 → P 3 → P 4 → P 5 → P 6 → P 7 → P 8 → P 9 → (k : ℕ) → k < 10 → P k
by_kind P a b c d e f g h i j = each_below P 10 (a, (b, (c, (d, (e, (f, (g, (h, (i, (j, tt))))))))))
