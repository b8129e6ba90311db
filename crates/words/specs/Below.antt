-- A search among the numbers below a bound. Proofs and the contracts of inner functions use it.
use Rattle.std.specs.Prelude.{Bool, false, ◌||◌, ℕ, zero, suc}

-- some number below n passes
unfoldable pub any_below : (ℕ → Bool) → ℕ → Bool
any_below f zero = false
any_below f (suc n) = any_below f n || f n
