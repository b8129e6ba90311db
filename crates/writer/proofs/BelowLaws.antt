-- A search among the places below a bound for the one that has the smallest number. Assumes nothing.
use Rattle.std.proofs.Common.{◌≡◌, Bool, true, false, ℕ, zero, suc, ◌+◌, ◌<◌, ◌≤◌, Option, Some, None, refl, add-one, arith}
use Rattle.std.specs.Prelude.{cond}
use native.Mathlib.Decide.{ℕ_discrete}
use lib.Dec.{ltb}
use borrow.Author.Tests.{ltb-true, ltb-false}
use Rattle.graph.proofs.TestLaws.{true_not_false}
use Rattle.writer.specs.Next.{Least, lower, least_below}

below_suc : (P : ℕ → Type 0) (k : ℕ) → ((j : ℕ) → j < k → P j) → P k → (j : ℕ) → j < suc k → P j
below_suc P k h p j l = elim (ℕ_discrete j k) [ yes e ↦ rw e p | no e ↦ h j (omega arith) ]

module _ (may : ℕ → Bool) (num : ℕ → ℕ) where
  least_of_more : (b : Option ℕ) (k : ℕ) → Least may num k b → (c : Bool) → may k ≡ c → Least may num (suc k) (cond c (lower num b k) b)
  least_of_more None k none true m = (omega arith, m, below_suc (λ j. may j ≡ true → num k ≤ num j) k (λ j l t. absurd (true_not_false t (none j l))) (λ t. omega arith))
  least_of_more None k none false m = below_suc (λ j. may j ≡ false) k none m
  least_of_more (Some b) k (l, p, low) true m = go (ltb (num k) (num b)) refl
    where
      go : (d : Bool) → ltb (num k) (num b) ≡ d → Least may num (suc k) (cond d (Some k) (Some b))
      go true t = (omega arith, m, below_suc (λ j. may j ≡ true → num k ≤ num j) k (λ j g q. omega (arith, low j g q, ltb-true (num k) (num b) t)) (λ q. omega arith))
      go false t = (omega arith, p, below_suc (λ j. may j ≡ true → num b ≤ num j) k low (λ q. ltb-false (num k) (num b) t))
  least_of_more (Some b) k (l, p, low) false m = (omega arith, p, below_suc (λ j. may j ≡ true → num b ≤ num j) k low (λ q. absurd (true_not_false q m)))

  pub least_of_least_below : (k : ℕ) → Least may num k (least_below may num k)
  unfolding least_below
  least_of_least_below zero = λ j l. absurd (omega arith)
  least_of_least_below (suc k) = least_of_more (least_below may num k) k (least_of_least_below k) (may k) refl

  -- a loop's start and its turn
  pub least_below_none : least_below may num 0 ≡ None
  unfolding least_below
  least_below_none = refl

  pub least_below_hit : (k : ℕ) → may k ≡ true → lower num (least_below may num k) k ≡ least_below may num (k + 1)
  unfolding least_below
  least_below_hit k e = rw (add-one k, e)

  pub least_below_skip : (k : ℕ) → may k ≡ false → least_below may num k ≡ least_below may num (k + 1)
  unfolding least_below
  least_below_skip k e = rw (add-one k, e)
