-- What the operations on words say of the sets that they mean. Assumes nothing.
use mathlib.Core.Path.{◌≡◌, refl, sym, ap, ◌∙◌}
use mathlib.Core.Bool.{Bool, true, false, not, cond, ◌&&◌, ◌||◌, or-true, or-false}
use mathlib.Core.Logic.{◌⊎◌, inl, inr}
use Prim.Native.Nat.{ℕ, zero, suc, ◌+◌, ◌-◌, ◌*◌, ◌/◌, ◌%◌, ◌^◌, ◌<◌}
use native.Mathlib.Decide.{ℕ_discrete}
use native.Mathlib.Omega.{arith}
use native.Mathlib.Nat.{mod-lt, div-eq_of_lt, div_self, div-one, add-mul-div_right, add_comm, one-mul, pow-suc, mul_assoc}
use lib.Dec.{eqb, ltb}
use lib.Count.{count_trailing_zeros, under}
use lib.Bits.{bit_and, bit_or, and_shr, or_shr, and_mod, or_mod, block_odd, or_shifted_r}
use lib.Pow.{pow_pos, pow-lt, pow-add, shr-shr, high}
use borrow.Author.Tests.{eq-eqb, ltb-true, ltb-false}
use Rattle.graph.proofs.TestLaws.{true_not_false}
use Rattle.words.specs.Word.{has, with, others, word_of, Lowest}

-- a bit is 0 or 1
bit : (x : ℕ) → (x % 2 ≡ 0) ⊎ (x % 2 ≡ 1)
bit x = go (x % 2) (mod-lt x (omega arith))
  where
    go : (b : ℕ) → b < 2 → (b ≡ 0) ⊎ (b ≡ 1)
    go zero h = inl refl
    go (suc zero) h = inr refl
    go (suc (suc b)) h = absurd (omega arith)

pub has_zero : (i : ℕ) → has 0 i ≡ false
has_zero i = rw (div-eq_of_lt {n = 0} {m = 2 ^ i} (pow_pos i))

-- both sets, and either of them
pub has_and : (a b i : ℕ) → has (bit_and a b) i ≡ has a i && has b i
has_and a b i = rw (and_shr a b i, and_mod (a / 2 ^ i) (b / 2 ^ i) 1) (go (bit (a / 2 ^ i)) (bit (b / 2 ^ i)))
  where
    go : (a / 2 ^ i % 2 ≡ 0) ⊎ (a / 2 ^ i % 2 ≡ 1) → (b / 2 ^ i % 2 ≡ 0) ⊎ (b / 2 ^ i % 2 ≡ 1)
        → eqb (bit_and (a / 2 ^ i % 2) (b / 2 ^ i % 2)) 1 ≡ eqb (a / 2 ^ i % 2) 1 && eqb (b / 2 ^ i % 2) 1
    go (inl p) q = rw p
    go (inr p) (inl q) = rw (p, q)
    go (inr p) (inr q) = rw (p, q)

pub has_or : (a b i : ℕ) → has (bit_or a b) i ≡ has a i || has b i
has_or a b i = rw (or_shr a b i, or_mod (a / 2 ^ i) (b / 2 ^ i) 1) (go (bit (a / 2 ^ i)) (bit (b / 2 ^ i)))
  where
    go : (a / 2 ^ i % 2 ≡ 0) ⊎ (a / 2 ^ i % 2 ≡ 1) → (b / 2 ^ i % 2 ≡ 0) ⊎ (b / 2 ^ i % 2 ≡ 1)
        → eqb (bit_or (a / 2 ^ i % 2) (b / 2 ^ i % 2)) 1 ≡ eqb (a / 2 ^ i % 2) 1 || eqb (b / 2 ^ i % 2) 1
    go (inl p) q = rw p
    go (inr p) (inl q) = rw (p, q)
    go (inr p) (inr q) = rw (p, q)

-- what stands above bit n says nothing of the bits below it
pub has_below : (n a w i : ℕ) → i < n → has (a * 2 ^ n + w) i ≡ has w i
has_below n a w i l = ap (λ b. eqb (b % 2) 1) whole ∙ ap (λ b. eqb b 1) even
  where
    m : ℕ
    m = n - suc i

    split : 2 ^ n ≡ 2 ^ suc m * 2 ^ i
    split = let e : n ≡ suc m + i = omega arith in ap (λ x. 2 ^ x) e ∙ pow-add 2 (suc m) i

    turned : a * 2 ^ n + w ≡ w + a * 2 ^ suc m * 2 ^ i
    turned = ap (λ x. a * x + w) split ∙ rw (mul_assoc a (2 ^ suc m) (2 ^ i)) (add_comm (a * (2 ^ suc m * 2 ^ i)) w)

    whole : (a * 2 ^ n + w) / 2 ^ i ≡ w / 2 ^ i + a * 2 ^ suc m
    whole = ap (λ x. x / 2 ^ i) turned ∙ add-mul-div_right w (a * 2 ^ suc m) (pow_pos i)

    even : (w / 2 ^ i + a * 2 ^ suc m) % 2 ≡ w / 2 ^ i % 2
    even = ap (λ x. x % 2) (add_comm (w / 2 ^ i) (a * 2 ^ suc m)) ∙ block_odd a m (w / 2 ^ i)

pub has_past : (w i : ℕ) → w < 2 ^ i → has w i ≡ false
has_past w i h = rw (div-eq_of_lt h)

-- the bits above the lowest
has_suc : (w i : ℕ) → has (w / 2) i ≡ has w (suc i)
has_suc w i = let e : 1 + i ≡ suc i = omega arith in rw e at (ap (λ x. eqb (x % 2) 1) (shr-shr w 1 i))

half_lt : (k w : ℕ) → w < 2 ^ suc k → w / 2 < 2 ^ k
half_lt k w h = let e : 2 ^ suc k ≡ 2 ^ k * 2 = pow-suc 2 k in omega arith

-- a word with no bit is 0
pub zero_of_none : (k w : ℕ) → w < 2 ^ k → ((i : ℕ) → i < k → has w i ≡ false) → w ≡ 0
zero_of_none zero w h none = omega arith
zero_of_none (suc k) w h none =
    let z : w / 2 ≡ 0 = zero_of_none k (w / 2) (half_lt k w h) (λ i l. has_suc w i ∙ none (suc i) (omega arith)) in
    let b : w % 2 ≡ 0 = low (bit w) in
    omega arith
  where
    low : (w % 2 ≡ 0) ⊎ (w % 2 ≡ 1) → w % 2 ≡ 0
    low (inl p) = p
    low (inr p) = absurd (true_not_false (eq-eqb (w / 1 % 2) 1 (rw (div-one w) p)) (none 0 (omega arith)))

-- what a word lacks
has_not : (k w i : ℕ) → w < 2 ^ k → i < k → has (2 ^ k - 1 - w) i ≡ not (has w i)
has_not zero w i h l = absurd (omega arith)
has_not (suc k) w zero h l =
    let e : 2 ^ suc k ≡ 2 ^ k * 2 = pow-suc 2 k in
    let d : (2 ^ suc k - 1 - w) % 2 ≡ 1 - w % 2 = omega arith in
    rw (div-one (2 ^ suc k - 1 - w), div-one w, d) (go (bit w))
  where
    go : (w % 2 ≡ 0) ⊎ (w % 2 ≡ 1) → eqb (1 - w % 2) 1 ≡ not (eqb (w % 2) 1)
    go (inl p) = rw p
    go (inr p) = rw p
has_not (suc k) w (suc i) h l =
    let e : 2 ^ suc k ≡ 2 ^ k * 2 = pow-suc 2 k in
    let d : (2 ^ suc k - 1 - w) / 2 ≡ 2 ^ k - 1 - w / 2 = omega arith in
    sym (has_suc (2 ^ suc k - 1 - w) i) ∙ rw d (has_not k (w / 2) i (half_lt k w h) (omega arith) ∙ ap not (has_suc w i))

pub has_others : (w i : ℕ) → w < 2 ^ 32 → i < 32 → has (others w) i ≡ not (has w i)
has_others w i h l = has_not 32 w i h l

-- the bits from j on
pub has_shifted : (w j i : ℕ) → has (w / 2 ^ j) i ≡ has w (j + i)
has_shifted w j i = ap (λ x. eqb (x % 2) 1) (shr-shr w j i)

-- `trailing_zeros` is the lowest number of a set that has one
pub lowest : (k w : ℕ) → (w ≡ 0 → ⊥) → w < 2 ^ k → (count_trailing_zeros k w < k) × Lowest w (count_trailing_zeros k w)
unfolding count_trailing_zeros
lowest zero w n h = absurd (n (omega arith))
lowest (suc k) w n h = go (bit w) (lowest k (w / 2))
  where
    first : has w 0 ≡ eqb (w % 2) 1
    first = rw (div-one w)

    go : (w % 2 ≡ 0) ⊎ (w % 2 ≡ 1) → ((w / 2 ≡ 0 → ⊥) → w / 2 < 2 ^ k → (count_trailing_zeros k (w / 2) < k) × Lowest (w / 2) (count_trailing_zeros k (w / 2)))
        → (under (w % 2) (count_trailing_zeros k (w / 2)) < suc k) × Lowest w (under (w % 2) (count_trailing_zeros k (w / 2)))
    go (inr p) r = rw p (omega arith, record { bit = first ∙ rw p; below = λ i l. absurd (omega arith) })
    go (inl p) r =
        let (l, q) = r (λ e. n (omega arith)) (half_lt k w h) in
        rw p (omega arith, record { bit = sym (has_suc w (count_trailing_zeros k (w / 2))) ∙ q.bit; below = below q.below })
      where
        below : {t : ℕ} → ((i : ℕ) → i < t → has (w / 2) i ≡ false) → (i : ℕ) → i < suc t → has w i ≡ false
        below q zero l = first ∙ rw p
        below q (suc i) l = sym (has_suc w i) ∙ q i (omega arith)

-- the set with i
pub has_with_same : (w i : ℕ) → has (with w i) i ≡ true
has_with_same w i = has_or w (2 ^ i) i ∙ rw (div_self (pow_pos i)) (or-true (has w i))

pub has_with_other : (w j i : ℕ) → (i ≡ j → ⊥) → has (with w j) i ≡ has w i
has_with_other w j i n = has_or w (2 ^ j) i ∙ rw (single (ltb i j) refl) (or-false (has w i))
  where
    single : (b : Bool) → ltb i j ≡ b → has (2 ^ j) i ≡ false
    single true l =
        let e : 1 * 2 ^ j + 0 ≡ 2 ^ j = omega arith in
        rw e at (has_below j 1 0 i (ltb-true i j l) ∙ has_zero i)
    single false l = has_past (2 ^ j) i (pow-lt (omega (arith, ltb-false i j l)))

-- the numbers below n that pass, one more at a time
module _ (f : ℕ → Bool) where
  pub word_of_lt : (n : ℕ) → word_of f n < 2 ^ n
  unfolding word_of
  word_of_lt zero = omega arith
  word_of_lt (suc n) = go (f n) (word_of_lt n)
    where
      go : (b : Bool) → word_of f n < 2 ^ n → cond b (2 ^ n + word_of f n) (word_of f n) < 2 ^ suc n
      go true h = let e : 2 ^ suc n ≡ 2 ^ n * 2 = pow-suc 2 n in omega arith
      go false h = let e : 2 ^ suc n ≡ 2 ^ n * 2 = pow-suc 2 n in omega arith

  pub word_of_none : word_of f 0 ≡ 0
  unfolding word_of
  word_of_none = refl

  pub word_of_hit : (n : ℕ) → f n ≡ true → with (word_of f n) n ≡ word_of f (suc n)
  unfolding word_of
  word_of_hit n e =
      let p : 1 * 2 ^ n ≡ 2 ^ n = one-mul (2 ^ n) in
      let q : bit_or (word_of f n) (1 * 2 ^ n) ≡ 1 * 2 ^ n + word_of f n = or_shifted_r 1 n (word_of f n) (word_of_lt n) in
      rw e (rw p at q)

  pub word_of_skip : (n : ℕ) → f n ≡ false → word_of f n ≡ word_of f (suc n)
  unfolding word_of
  word_of_skip n e = rw e

  pub word_of_more : (n : ℕ) → cond (f n) (with (word_of f n) n) (word_of f n) ≡ word_of f (suc n)
  word_of_more n = go (f n) refl
    where
      go : (b : Bool) → f n ≡ b → cond b (with (word_of f n) n) (word_of f n) ≡ word_of f (suc n)
      go true e = word_of_hit n e
      go false e = word_of_skip n e

  pub has_word_of : (n i : ℕ) → i < n → has (word_of f n) i ≡ f i
  unfolding word_of
  has_word_of zero i l = absurd (omega arith)
  has_word_of (suc n) i l = go (ℕ_discrete i n) (f n) refl (has_word_of n i)
    where
      go : Dec (i ≡ n) → (b : Bool) → f n ≡ b → (i < n → has (word_of f n) i ≡ f i) → has (cond b (2 ^ n + word_of f n) (word_of f n)) i ≡ f i
      go (yes e) true p r =
          let q : (2 ^ n + word_of f n) / 2 ^ n ≡ 1 = rw (one-mul (2 ^ n)) at (high 1 n (word_of_lt n)) in
          rw (e, p, q)
      go (yes e) false p r = rw e (has_past (word_of f n) n (word_of_lt n) ∙ sym p)
      go (no e) true p r = let q : 1 * 2 ^ n ≡ 2 ^ n = one-mul (2 ^ n) in (rw q at (has_below n 1 (word_of f n) i (omega arith))) ∙ r (omega arith)
      go (no e) false p r = r (omega arith)
