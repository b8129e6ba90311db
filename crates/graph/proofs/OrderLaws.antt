-- Rows that have an order have no cycle; and an order with one more row put in front. Assumes nothing.
use mathlib.Core.Path.{◌≡◌, refl, sym, ap, ◌∙◌}
use mathlib.Core.List.Memᴰ
use mathlib.Core.List.{List, [], ◌∷◌}
use Prim.Native.Nat.{ℕ, zero, suc, ◌<◌}
use native.Mathlib.Omega.{arith}
use native.Mathlib.Decide.{ℕ_discrete}
use Rattle.graph.specs.Lists.{◌∈◌, At}
use Rattle.graph.specs.Path.{ArrowPath, ArrowPath.one, ArrowPath.more, Cycle}
use Rattle.graph.specs.Order.{Distinct, without, OrderOf}
use Rattle.graph.proofs.PathLaws.{start_of_path}
use Rattle.graph.proofs.LeastLaws.{without_of_other, other_of_without, without_subset}

module _ {A : Type 0} (Arrow : A → A → Type 0) (num : A → ℕ) where
  pub earlier_of_path : (rows : List A) (order : List ℕ) → OrderOf Arrow num rows order → {x y : A} → ArrowPath Arrow rows x y
      → (i j : ℕ) → At order i (num x) → At order j (num y) → i < j
  earlier_of_path rows order o (one {a = x} {b = y} m n e) i j p q = o.arrows x y m n e i j p q
  earlier_of_path rows order o (more {a = x} {b = y} m e r) i j p q =
      let n = start_of_path r in
      let (k, s) = o.each y n in
      omega (arith, o.arrows x y m n e i k p s, earlier_of_path rows order o r k j s q)

  pub no_cycle_of_order : (rows : List A) (order : List ℕ) → OrderOf Arrow num rows order → ¬ Cycle Arrow rows
  no_cycle_of_order rows order o (a, p) =
      let (i, s) = o.each a (start_of_path p) in
      let l = earlier_of_path rows order o p i i s s in
      omega arith

  -- x, which no row has an arrow to, in front of an order of the others
  module _ (rs : List A) (o : List ℕ) (x : A) (d : Distinct num rs) (m : x ∈ rs) (f : (y : A) → y ∈ rs → ¬ Arrow y x) (h : OrderOf Arrow num (without num x rs) o) where
    absent_of_first : (i n : ℕ) → At o i n → num x ≡ n → ⊥
    absent_of_first i n p e = let (y, k, q) = h.only n i p in (other_of_without num x rs k).1 (q ∙ sym e)

    rest_of_placed : (i : ℕ) (y : A) → y ∈ rs → At o i (num y) → y ∈ without num x rs
    rest_of_placed i y k p = without_of_other num x k (λ e. absent_of_first i (num y) p (sym e))

    once_of_cons : (n i j : ℕ) → At (num x ∷ o) i n → At (num x ∷ o) j n → i ≡ j
    once_of_cons n zero zero p q = refl
    once_of_cons n zero (suc j) p q = absurd (absent_of_first j n q p)
    once_of_cons n (suc i) zero p q = absurd (absent_of_first i n p q)
    once_of_cons n (suc i) (suc j) p q = ap suc (h.once n i j p q)

    each_of_cons : (y : A) → y ∈ rs → (i : ℕ) × At (num x ∷ o) i (num y)
    each_of_cons y k = go (ℕ_discrete (num y) (num x))
      where
        go : Dec (num y ≡ num x) → (i : ℕ) × At (num x ∷ o) i (num y)
        go (yes e) = (zero, sym e)
        go (no e) = let (i, p) = h.each y (without_of_other num x k e) in (suc i, p)

    only_of_cons : (n i : ℕ) → At (num x ∷ o) i n → (y : A) × (y ∈ rs) × (num y ≡ n)
    only_of_cons n zero p = (x, m, p)
    only_of_cons n (suc i) p = let (y, k, e) = h.only n i p in (y, without_subset num x rs y k, e)

    no_arrow_to_first : (y z : A) → y ∈ rs → z ∈ rs → Arrow y z → num x ≡ num z → ⊥
    no_arrow_to_first y z k l e p = f y k (rw (d z x l m (sym p)) at e)

    arrows_of_cons : (y z : A) → y ∈ rs → z ∈ rs → Arrow y z → (i j : ℕ) → At (num x ∷ o) i (num y) → At (num x ∷ o) j (num z) → i < j
    arrows_of_cons y z k l e i zero p q = absurd (no_arrow_to_first y z k l e q)
    arrows_of_cons y z k l e zero (suc j) p q = omega arith
    arrows_of_cons y z k l e (suc i) (suc j) p q = omega (arith, h.arrows y z (rest_of_placed i y k p) (rest_of_placed j z l q) e i j p q)

    pub order_of_cons : OrderOf Arrow num rs (num x ∷ o)
    order_of_cons = record { once = once_of_cons; each = each_of_cons; only = only_of_cons; arrows = arrows_of_cons }

  pub order_of_nil : OrderOf Arrow num [] []
  order_of_nil = record { once = λ n i j p q. absurd p; each = λ x m. absurd (Memᴰ.not-nil m); only = λ n i p. absurd p; arrows = λ x y m n e i j p q. absurd p }
