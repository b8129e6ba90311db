-- The sites of a byte, that is of an x below 256: what the operations on its bits say of them. A byte has 256 values, so the laws of the
-- first section are computed at all of them; the others follow. A walk over the sites, lowest first, cites `turn`. Assumes nothing.
use mathlib.Core.Path.{◌≡◌, refl, sym, ap, ◌∙◌}
use mathlib.Core.Bool.{Bool, true, false, not, beq}
use mathlib.Core.List.Memᴰ.{head as here}
use mathlib.Core.List.{List, [], ◌∷◌}
use Prim.Native.Nat.{ℕ, ◌-◌, ◌/◌, ◌^◌, ◌<◌, ◌≤◌}
use native.Mathlib.Nat.{lt_of_lt_of_le}
use native.Mathlib.Omega.{arith}
use lib.Dec.{eqb, ltb, leb}
use lib.ListN.{get_or, drop}
use lib.Count.{ones, ones_in, count_trailing_zeros}
use lib.Bits.{bit_and, and_le_r}
use lib.Pow.{pow_mono}
use borrow.Author.Tests.{ltb-true, ltb-false, leb-false, lt-leb}
use Rattle.graph.specs.Lists.{◌∈◌}
use Rattle.graph.proofs.TestLaws.{true_not_false, false_of_not_true}
use Rattle.graph.proofs.MemberLaws.{any_of_member}
use Rattle.sites.specs.Sites.{sites_of, sites_used, set_of, Outside, outsideb, Turn}
use Rattle.sites.specs.Every.{every_below, same_list}
use Rattle.sites.proofs.EveryLaws.{true_below, numbers_below, lists_below, tests_below}
use Rattle.sites.proofs.SitesLaws.{lt_of_member, outsideb→outside, not_outside_past}

module _ (x : ℕ) (h : x < 256) where
  -- `count_ones` is how many sites the set has
  pub used_ones : sites_used x ≡ ones x
  unfolding every_below sites_of ones ones_in
  used_ones = numbers_below 256 sites_used ones refl x h

  -- `trailing_zeros` is its lowest site, and 8 where it has none
  pub first_trailing : get_or (sites_of x) 0 8 ≡ count_trailing_zeros 8 x
  unfolding every_below sites_of count_trailing_zeros
  first_trailing = numbers_below 256 (λ y. get_or (sites_of y) 0 8) (count_trailing_zeros 8) refl x h

  -- `x & (x - 1)` is the set without its lowest site
  pub sites_clear : sites_of (bit_and x (x - 1)) ≡ drop 1 (sites_of x)
  unfolding every_below same_list sites_of
  sites_clear = lists_below 256 (λ y. sites_of (bit_and y (y - 1))) (λ y. drop 1 (sites_of y)) refl x h

  pub set_sites : set_of (sites_of x) ≡ x
  unfolding every_below sites_of set_of
  set_sites = numbers_below 256 (λ y. set_of (sites_of y)) (λ y. y) refl x h

  -- two tests of a byte and a site, computed at all of them
  agree : (f g : ℕ → ℕ → Bool) → every_below 256 (λ y. every_below 8 (λ n. beq (f y n) (g y n))) ≡ true → (n : ℕ) → n < 8 → f x n ≡ g x n
  agree f g e = tests_below 8 (f x) (g x) (true_below 256 (λ y. every_below 8 (λ n. beq (f y n) (g y n))) e x h)

  -- `x >> n` holds what a table of n sites lacks
  pub outside_shift : (n : ℕ) → n < 8 → outsideb x n ≡ not (eqb (x / 2 ^ n) 0)
  unfolding every_below sites_of
  outside_shift = agree outsideb (λ y n. not (eqb (y / 2 ^ n) 0)) refl

  outside_low : (n : ℕ) → n < 8 → outsideb x n ≡ leb (2 ^ n) x
  unfolding every_below sites_of
  outside_low = agree outsideb (λ y n. leb (2 ^ n) y) refl

  -- so a table of n sites has them all exactly where x is below 2 ^ n
  pub outside_pow : (n : ℕ) → outsideb x n ≡ leb (2 ^ n) x
  outside_pow n = go (ltb n 8) refl
    where
      go : (b : Bool) → ltb n 8 ≡ b → outsideb x n ≡ leb (2 ^ n) x
      go true e = outside_low n (ltb-true n 8 e)
      go false e =
          let k : 8 ≤ n = ltb-false n 8 e in
          not_outside_past x n k ∙ sym (lt-leb (2 ^ n) x (lt_of_lt_of_le h (pow_mono k)))

  pub below_of_lt_pow : (n : ℕ) → x < 2 ^ n → {s : ℕ} → s ∈ sites_of x → s < n
  below_of_lt_pow n k {s} m =
      leb-false n s (false_of_not_true (leb n s) (λ e. true_not_false (any_of_member (leb n) m e) (outside_pow n ∙ lt-leb (2 ^ n) x k)))

  pub lt_pow_of_below : (n : ℕ) → ((s : ℕ) → s ∈ sites_of x → s < n) → x < 2 ^ n
  lt_pow_of_below n k = leb-false (2 ^ n) x (sym (outside_pow n) ∙ false_of_not_true (outsideb x n) (λ e. refuted (outsideb→outside x n e)))
    where
      refuted : Outside x n → ⊥
      refuted (s, m, j) = let i = k s m in omega arith

pub sites_zero : sites_of 0 ≡ []
unfolding sites_of
sites_zero = refl

-- a byte is known by its sites
pub eq_of_sites : (x y : ℕ) → x < 256 → y < 256 → sites_of x ≡ sites_of y → x ≡ y
eq_of_sites x y h k e = sym (set_sites x h) ∙ ap set_of e ∙ set_sites y k

pub zero_of_no_sites : (x : ℕ) → x < 256 → sites_of x ≡ [] → x ≡ 0
zero_of_no_sites x h e = eq_of_sites x 0 h (omega arith) (e ∙ sym sites_zero)

-- a set that is not empty is its lowest site and the rest
pub sites_first : (x : ℕ) → (x ≡ 0 → ⊥) → x < 256 → sites_of x ≡ get_or (sites_of x) 0 8 ∷ drop 1 (sites_of x)
sites_first x n h = go (sites_of x) (λ e. n (zero_of_no_sites x h e))
  where
    go : (l : List ℕ) → (l ≡ [] → ⊥) → l ≡ get_or l 0 8 ∷ drop 1 l
    go [] e = absurd (e refl)
    go (s ∷ ss) e = refl

-- a turn of a walk, as `next` of src/walk.rt takes it
pub turn : (x : ℕ) → (x ≡ 0 → ⊥) → x < 256 → Turn x
turn x n h = record { site = lt_of_member x (rw walk (here refl)); falls = omega (arith, and_le_r x (x - 1)); step = walk }
  where
    walk : sites_of x ≡ count_trailing_zeros 8 x ∷ sites_of (bit_and x (x - 1))
    walk = sites_first x n h ∙ rw (first_trailing x h, sites_clear x h)
