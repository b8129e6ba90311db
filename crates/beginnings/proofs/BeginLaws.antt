-- When a site list is bad. Assumes nothing.
use mathlib.Core.Path.{◌≡◌}
use mathlib.Core.Bool.{true}
use Prim.Native.Nat.{ℕ, ◌<◌}
use Rattle.sites.specs.Sites.{outsideb}
use Rattle.sites.proofs.ByteLaws.{sites_zero, sites_first}
use Rattle.method.specs.declared.Table.{Table}
use Rattle.method.specs.Conditions.{bad_sites}

module _ (t : Table) (x : ℕ) where
  pub bad_of_empty : x ≡ 0 → bad_sites t x ≡ true
  bad_of_empty e = rw (e, sites_zero)

  pub bad_of_outside : (x ≡ 0 → ⊥) → x < 256 → bad_sites t x ≡ outsideb x t.sites
  bad_of_outside z h = rw (sites_first x z h)
