-- Searches among the numbers below a bound, and the words that answer them. Assumes nothing.
use mathlib.Core.Path.{◌≡◌, refl, sym, ◌∙◌}
use mathlib.Core.Bool.{Bool, true, false, not, ◌&&◌, ◌||◌, and_comm}
use Prim.Native.Nat.{ℕ, zero, suc, ◌^◌, ◌<◌, ◌≤◌}
use native.Mathlib.Decide.{ℕ_discrete}
use native.Mathlib.Nat.{lt_of_le_of_lt}
use native.Mathlib.Omega.{arith}
use lib.Dec.{eqb}
use lib.Bits.{bit_and, and_le_l}
use borrow.Author.Tests.{eqb-true, eq-eqb}
use Rattle.graph.proofs.TestLaws.{or_of_left, or_of_right, true_not_false, false_of_not_true, not_of_false, false_of_not, same_of_iff}
use Rattle.words.specs.Word.{has, others, word_of}
use Rattle.words.specs.Below.{any_below}
use Rattle.words.proofs.WordLaws.{has_zero, has_and, has_others, has_word_of, word_of_lt, zero_of_none}

module _ (f : ℕ → Bool) where
  pub any_below_hit : (n i : ℕ) → i < n → f i ≡ true → any_below f n ≡ true
  unfolding any_below
  any_below_hit zero i h e = absurd (omega arith)
  any_below_hit (suc n) i h e = go (any_below_hit n i) (ℕ_discrete i n)
    where
      go : (i < n → f i ≡ true → any_below f n ≡ true) → Dec (i ≡ n) → any_below f n || f n ≡ true
      go r (yes p) = or_of_right (any_below f n) (rw p at e)
      go r (no p) = or_of_left (f n) (r (omega arith) e)

  pub any_below_none : (n : ℕ) → ((i : ℕ) → i < n → f i ≡ false) → any_below f n ≡ false
  unfolding any_below
  any_below_none zero h = refl
  any_below_none (suc n) h = rw (any_below_none n (λ i l. h i (omega arith)), h n (omega arith))

  pub false_of_none_below : (n : ℕ) → any_below f n ≡ false → (i : ℕ) → i < n → f i ≡ false
  false_of_none_below n e i h = false_of_not_true (f i) (λ t. true_not_false (any_below_hit n i h t) e)

-- `p & !w == 0`, where p is the word of the numbers below n that pass: none of them is missing in w
module _ (f : ℕ → Bool) (n w : ℕ) (small : n ≤ 32) (fits : w < 2 ^ 32) where
  abbrev missing : ℕ → Bool
  missing i = not (has w i) && f i

  bit_of : (i : ℕ) → i < n → has (bit_and (word_of f n) (others w)) i ≡ missing i
  bit_of i h = has_and (word_of f n) (others w) i ∙ rw (has_word_of f n i h, has_others w i fits (omega arith)) (and_comm (f i) (not (has w i)))

  pub none_missing : eqb (bit_and (word_of f n) (others w)) 0 ≡ not (any_below missing n)
  none_missing = same_of_iff (eqb (bit_and (word_of f n) (others w)) 0) (not (any_below missing n))
      (λ e. not_of_false (any_below_none missing n (λ i h. sym (bit_of i h) ∙ rw (eqb-true (bit_and (word_of f n) (others w)) 0 e) (has_zero i))))
      (λ e. eq-eqb (bit_and (word_of f n) (others w)) 0 (zero_of_none n (bit_and (word_of f n) (others w)) (lt_of_le_of_lt (and_le_l (word_of f n) (others w)) (word_of_lt f n))
      (λ i h. bit_of i h ∙ false_of_none_below missing n (false_of_not (any_below missing n) e) i h)))
