-- The set of sites that a transaction lists, eight bits in a byte: bit i is site i (RULES, The table). Definitions only.
use Rattle.std.specs.Prelude.{◌≡◌, Bool, true, not, ◌&&◌, List, [], ◌∷◌, ℕ, ◌+◌, ◌-◌, ◌/◌, ◌%◌, ◌^◌, ◌<◌, ◌≤◌, eqb, ltb, leb, length}
use Rattle.std.specs.Int.Bits.{bit_and}
use Rattle.std.specs.Int.Count.{count_trailing_zeros}
use Rattle.graph.specs.Lists.{◌∈◌, keep, any_of}

-- Site i is in the set x. There is no site from 8 on, so no set has one, whatever number is asked about.
abbrev pub listed : ℕ → ℕ → Bool
listed x i = ltb i 8 && eqb (x / 2 ^ i % 2) 1

-- the sites there can be
abbrev pub all_sites : List ℕ
all_sites = 0 ∷ 1 ∷ 2 ∷ 3 ∷ 4 ∷ 5 ∷ 6 ∷ 7 ∷ []

-- the sites of the set, lowest first: of 11, which is 1 + 2 + 8, they are 0, 1 and 3
unfoldable pub sites_of : ℕ → List ℕ
sites_of x = keep (listed x) all_sites

-- how many sites it has
abbrev pub sites_used : ℕ → ℕ
sites_used x = length (sites_of x)

-- the set of these sites, where none of them is given twice
unfoldable pub set_of : List ℕ → ℕ
set_of [] = 0
set_of (s ∷ ss) = 2 ^ s + set_of ss

-- The set has a site that a table of n sites lacks: the table's own are 0 to n - 1.
abbrev pub Outside : ℕ → ℕ → Type 0
Outside x n = (s : ℕ) × (s ∈ sites_of x) × (n ≤ s)

-- the same, as a test that computes
abbrev pub outsideb : ℕ → ℕ → Bool
outsideb x n = any_of (leb n) (sites_of x)

-- each number of the list is below all that follow it
abbrev pub Rising : List ℕ → Type 0
Rising [] = Unit {0}
Rising (a ∷ l) = ((b : ℕ) → b ∈ l → a < b) × Rising l

-- the same, as a test that computes
abbrev pub risingb : List ℕ → Bool
risingb [] = true
risingb (a ∷ l) = not (any_of (λ b. leb b a) l) && risingb l

-- One turn of a walk over a set that is not empty, lowest site first: the site is `trailing_zeros(x)`, and `x & (x - 1)` is left to visit.
pub record Turn (x : ℕ) : Type 0 where
  pub site : count_trailing_zeros 8 x < 8
  pub falls : bit_and x (x - 1) < x
  pub step : sites_of x ≡ count_trailing_zeros 8 x ∷ sites_of (bit_and x (x - 1))
