-- All sites are prepared exactly if as many are prepared as there are. Assumes nothing.
use mathlib.Core.Path.{◌≡◌, refl, sym}
use mathlib.Core.Bool.{Bool, true, false, not, cond, ◌||◌}
use mathlib.Core.List.{List, [], ◌∷◌}
use Prim.Native.Nat.compare
use Prim.Native.Nat.{ℕ, suc}
use native.Mathlib.Omega.{arith}
use lib.Dec.{eqb}
use lib.ListN.{length}
use borrow.Author.Tests.{ne_eqb}
use Rattle.graph.specs.Lists.{keep, any_of}
use Rattle.graph.proofs.MemberLaws.{length_keep_le}
use Rattle.sites.specs.Sites.{sites_of, sites_used}
use Rattle.method.specs.declared.Row.{Row}
use Rattle.method.specs.Records.{is_prepared, part_at, active}
use Rattle.method.specs.Conditions.{unprepared, not_prepared}

abbrev pub prepared : Row → List ℕ → ℕ
prepared r l = length (keep (λ s. is_prepared (part_at r s).stage) l)

all_kept : (f : ℕ → Bool) (l : List ℕ) → not (any_of (λ s. not (f s)) l) ≡ eqb (length (keep f l)) (length l)
all_kept f [] = refl
all_kept f (x ∷ xs) = go (f x) (all_kept f xs)
  where
    go : (b : Bool) → not (any_of (λ s. not (f s)) xs) ≡ eqb (length (keep f xs)) (length xs)
        → not (not b || any_of (λ s. not (f s)) xs) ≡ eqb (length (cond b (x ∷ keep f xs) (keep f xs))) (suc (length xs))
    go true e = rw (compare.suc-suc (length (keep f xs)) (length xs)) e
    go false e = sym (ne_eqb (length (keep f xs)) (suc (length xs)) (λ q. omega (arith, length_keep_le f xs)))

pub prepared_of_counts : (r : Row) → active r ≡ true → eqb (prepared r (sites_of r.sites)) (sites_used r.sites) ≡ not (not_prepared r)
unfolding unprepared
prepared_of_counts r e = sym (rw e (all_kept (λ s. is_prepared (part_at r s).stage) (sites_of r.sites)))
