-- A graph seen through a function: its paths and cycles are those of the list of values. Assumes nothing.
use mathlib.Core.Path.{◌≡◌}
use mathlib.Core.Bool.{Bool}
use mathlib.Core.List.Memᴰ
use mathlib.Core.List.{List, map}
use mathlib.Core.Logic.{◌↔◌}
use Rattle.graph.specs.Lists.{◌∈◌}
use Rattle.graph.specs.Path.{ArrowPath, ArrowPath.one, ArrowPath.more, Cycle, Holds}
use Rattle.graph.specs.Acyclic.{acyclic}
use Rattle.graph.proofs.TestLaws.{same_of_iff}
use Rattle.graph.proofs.PathLaws.{start_of_path}
use Rattle.graph.proofs.AcyclicLaws.{acyclic_iff}

module _ {A B : Type 0} (f : A → B) (rs : List A) where
  module _ (Arrow : B → B → Type 0) where
    -- the arrows between the values
    abbrev Pulled : A → A → Type 0
    Pulled x y = Arrow (f x) (f y)

    pub mapped_of_path : {x y : A} → ArrowPath Pulled rs x y → ArrowPath Arrow (map f rs) (f x) (f y)
    mapped_of_path (one m n e) = one (Memᴰ.map f m) (Memᴰ.map f n) e
    mapped_of_path (more m e p) = more (Memᴰ.map f m) e (mapped_of_path p)

    pub path_of_mapped : {a b : B} → ArrowPath Arrow (map f rs) a b → (x y : A) → x ∈ rs → y ∈ rs → f x ≡ a → f y ≡ b → ArrowPath Pulled rs x y
    path_of_mapped (one m n e) x y k l p q = one k l (rw (p, q) e)
    path_of_mapped (more m e r) x y k l p q =
        let (z, n, h) = Memᴰ.of_map f rs (start_of_path r) in
        more {b = z} k (rw (p, h) e) (path_of_mapped r z y n l h q)

    pub mapped_cycle_iff : Cycle Pulled rs ↔ Cycle Arrow (map f rs)
    mapped_cycle_iff = (λ c. (f c.0, mapped_of_path c.1), back)
      where
        back : Cycle Arrow (map f rs) → Cycle Pulled rs
        back (a, p) = let (x, m, e) = Memᴰ.of_map f rs (start_of_path p) in (x, path_of_mapped p x x m m e e)

  module _ (arrow : B → B → Bool) where
    abbrev pulled : A → A → Bool
    pulled x y = arrow (f x) (f y)

    pub acyclic_map : acyclic pulled rs ≡ acyclic arrow (map f rs)
    acyclic_map = same_of_iff (acyclic pulled rs) (acyclic arrow (map f rs))
        (λ e. (acyclic_iff arrow (map f rs)).1 (λ c. (acyclic_iff pulled rs).0 e ((mapped_cycle_iff (Holds arrow)).1 c)))
        (λ e. (acyclic_iff pulled rs).1 (λ c. (acyclic_iff arrow (map f rs)).0 e ((mapped_cycle_iff (Holds arrow)).0 c)))
