-- Which sites a set has, for any number x: `listed`, `sites_of` and `Outside` say the same of it. Assumes nothing.
use mathlib.Core.Path.{◌≡◌, refl}
use mathlib.Core.Bool.{true, false}
use mathlib.Core.List.Memᴰ.{head as here}
use mathlib.Core.List.{List, [], ◌∷◌}
use Prim.Native.Nat.{ℕ, ◌/◌, ◌%◌, ◌^◌, ◌<◌, ◌≤◌}
use native.Mathlib.Omega.{arith}
use lib.Dec.{eqb, ltb, leb}
use lib.ListN.{get_or}
use borrow.Author.Tests.{ltb-true, lt-ltb, le-ltb, leb-true, le-leb}
use Rattle.graph.specs.Lists.{◌∈◌, Once}
use Rattle.graph.proofs.TestLaws.{both_of_and, false_of_not_true}
use Rattle.graph.proofs.PlaceLaws.{member_of_place}
use Rattle.graph.proofs.MemberLaws.{kept_of_member, member_of_kept, length_keep_le, any_of_member, member_of_any}
use Rattle.sites.specs.Sites.{listed, all_sites, sites_of, sites_used, Outside, outsideb, Rising}
use Rattle.sites.specs.Every.{every_below}
use Rattle.sites.proofs.EveryLaws.{numbers_below}
use Rattle.sites.proofs.RisingLaws.{risingb→rising, rising_keep, once_of_rising}

-- both compute at numbers that are written out
sites_of_11 : (sites_of 11 ≡ 0 ∷ 1 ∷ 3 ∷ []) × (listed 11 3 ≡ true) × (listed 11 2 ≡ false) × (listed 255 7 ≡ true) × (listed 255 8 ≡ false)
unfolding sites_of
sites_of_11 = (refl, refl, refl, refl, refl)

pub lt_of_listed : (x s : ℕ) → listed x s ≡ true → s < 8
lt_of_listed x s e = ltb-true s 8 (both_of_and (ltb s 8) (eqb (x / 2 ^ s % 2) 1) e).0

pub listed_bit : (x s : ℕ) → s < 8 → listed x s ≡ eqb (x / 2 ^ s % 2) 1
listed_bit x s h = rw (lt-ltb s 8)

pub not_listed_past : (x s : ℕ) → 8 ≤ s → listed x s ≡ false
not_listed_past x s h = rw (le-ltb s 8)

-- each site stands at its own place among all
site_of_lt : (s : ℕ) → s < 8 → s ∈ all_sites
unfolding every_below
site_of_lt s h = rw (numbers_below 8 (λ i. get_or all_sites i 0) (λ i. i) refl s h) at (member_of_place all_sites s 0 h)

-- `sites_of` has the listed sites and no other
pub member_of_listed : (x s : ℕ) → listed x s ≡ true → s ∈ sites_of x
unfolding sites_of
member_of_listed x s e = kept_of_member (listed x) (site_of_lt s (lt_of_listed x s e)) e

pub listed_of_member : (x : ℕ) {s : ℕ} → s ∈ sites_of x → listed x s ≡ true
unfolding sites_of
listed_of_member x m = (member_of_kept (listed x) all_sites m).1

pub lt_of_member : (x : ℕ) {s : ℕ} → s ∈ sites_of x → s < 8
lt_of_member x {s} m = lt_of_listed x s (listed_of_member x m)

-- lowest first, and none twice
pub rising_sites : (x : ℕ) → Rising (sites_of x)
unfolding sites_of
rising_sites x = rising_keep (listed x) all_sites (risingb→rising all_sites refl)

pub once_sites : (x : ℕ) → Once (sites_of x)
once_sites x = once_of_rising (sites_of x) (rising_sites x)

pub used_le : (x : ℕ) → sites_used x ≤ 8
unfolding sites_of
used_le x = length_keep_le (listed x) all_sites

pub outsideb→outside : (x n : ℕ) → outsideb x n ≡ true → Outside x n
outsideb→outside x n e = let (s, m, h) = member_of_any (leb n) (sites_of x) e in (s, m, leb-true n s h)

pub outside→outsideb : (x n : ℕ) → Outside x n → outsideb x n ≡ true
outside→outsideb x n (s, m, h) = any_of_member (leb n) m (le-leb n s h)

-- a table of eight sites lacks none
pub not_outside_past : (x n : ℕ) → 8 ≤ n → outsideb x n ≡ false
not_outside_past x n h = false_of_not_true (outsideb x n) (λ e. refuted (outsideb→outside x n e))
  where
    refuted : Outside x n → ⊥
    refuted (s, m, k) = let g = lt_of_member x m in omega arith

-- what a walk gives next is one of the eight
pub first_lt : (x s : ℕ) (l : List ℕ) → sites_of x ≡ s ∷ l → s < 8
first_lt x s l e = lt_of_member x (rw e (here refl))
