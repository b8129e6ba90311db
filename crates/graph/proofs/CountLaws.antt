-- A list in which no number stands twice is no longer than a list that holds its numbers; so an order is as long as the rows are many. Assumes nothing.
use mathlib.Core.Path.{◌≡◌, refl, sym, ap}
use mathlib.Core.Bool.{Bool}
use mathlib.Core.List.Memᴰ
use mathlib.Core.List.Memᴰ.{head as here}
use mathlib.Core.List.Memᴰ.{tail as there}
use mathlib.Core.List.{List, [], ◌∷◌, map}
use mathlib.Core.Logic.{◌⊎◌, inl, inr}
use Prim.Native.Nat.{ℕ, zero, suc, ◌≤◌}
use native.Mathlib.Omega.{arith}
use lib.ListN.{length, length-map}
use Rattle.graph.specs.Lists.{Once, ◌∈◌, ◌⊆◌, At}
use Rattle.graph.specs.Path.{Cycle, Holds}
use Rattle.graph.specs.Order.{Distinct, without, OrderOf, greedy}
use Rattle.graph.proofs.PlaceLaws.{at_of_member, member_of_at, distinct_of_places}
use Rattle.graph.proofs.MemberLaws.{member_or_not}
use Rattle.graph.proofs.GreedyLaws.{order_or_cycle}
use Rattle.graph.proofs.LeastLaws.{without_of_other, length_without_lt}

pub once_of_tail : (x : ℕ) (l : List ℕ) → Once (x ∷ l) → Once l
once_of_tail x l h n i j p q = let e = h n (suc i) (suc j) p q in omega arith

pub new_of_once : (x : ℕ) (l : List ℕ) → Once (x ∷ l) → (n : ℕ) → n ∈ l → n ≡ x → ⊥
new_of_once x l h n m e = let (i, p) = at_of_member m in let z = h n (suc i) zero p (sym e) in omega arith

pub once_of_cons : (x : ℕ) (l : List ℕ) → ¬ (x ∈ l) → Once l → Once (x ∷ l)
once_of_cons x l n h a zero zero p q = refl
once_of_cons x l n h a zero (suc j) p q = absurd (n (Memᴰ.cast p (member_of_at l j q)))
once_of_cons x l n h a (suc i) zero p q = absurd (n (Memᴰ.cast q (member_of_at l i p)))
once_of_cons x l n h a (suc i) (suc j) p q = ap suc (h a i j p q)

pub length_le_of_once : (l m : List ℕ) → Once l → l ⊆ m → length l ≤ length m
length_le_of_once [] m h s = omega arith
length_le_of_once (x ∷ l) m h s =
    let r = length_le_of_once l (without (λ n. n) x m) (once_of_tail x l h) (λ n k. without_of_other (λ n. n) x (s n (there k)) (new_of_once x l h n k)) in
    omega (arith, length_without_lt (λ n. n) (s x (here refl)))

-- a list without repeats that is no shorter holds all of them
pub all_of_once : (l m : List ℕ) → Once l → l ⊆ m → length m ≤ length l → Once m → m ⊆ l
all_of_once l m o s h d n k = go (member_or_not n l)
  where
    go : (n ∈ l) ⊎ (¬ (n ∈ l)) → n ∈ l
    go (inl i) = i
    go (inr i) = absurd (omega (arith, length_le_of_once (n ∷ l) m (once_of_cons n l i o) wider))
      where
        wider : n ∷ l ⊆ m
        wider a (here e) = Memᴰ.cast e k
        wider a (there j) = s a j

module _ {A : Type 0} {Arrow : A → A → Type 0} (num : A → ℕ) where
  pub length_of_order : (rows : List A) (order : List ℕ) → Once (map num rows) → OrderOf Arrow num rows order → length order ≡ length rows
  length_of_order rows order d o =
      let a = length_le_of_once order (map num rows) o.once all_named in
      let b = length_le_of_once (map num rows) order d all_placed in
      omega (arith, length-map rows num)
    where
      all_named : order ⊆ map num rows
      all_named n m =
          let (i, p) = at_of_member m in
          let (x, k, e) = o.only n i p in
          Memᴰ.cast (sym e) (Memᴰ.map num k)

      all_placed : map num rows ⊆ order
      all_placed n m =
          let (x, k, e) = Memᴰ.of_map num rows m in
          let (i, p) = o.each x k in
          member_of_at order i (rw e at p)

module _ {A : Type 0} (num : A → ℕ) where
  pub at_of_map : (l : List A) (i : ℕ) (x : A) → At l i x → At (map num l) i (num x)
  at_of_map [] i x p = absurd p
  at_of_map (y ∷ l) zero x p = rw p
  at_of_map (y ∷ l) (suc i) x p = at_of_map l i x p

  pub distinct_of_once : (rows : List A) → Once (map num rows) → Distinct num rows
  distinct_of_once rows d = distinct_of_places num rows (λ i j x y p q e. d (num x) i j (at_of_map rows i x p) (rw e (at_of_map rows j y q)))

module _ {A : Type 0} (arrow : A → A → Bool) (num : A → ℕ) where
  -- a writer that stops short has met a cycle
  pub cycle_of_short : (rows : List A) → Once (map num rows) → (length (greedy arrow num rows) ≡ length rows → ⊥) → Cycle (Holds arrow) rows
  cycle_of_short rows d n = go (order_or_cycle arrow num rows (distinct_of_once num rows d))
    where
      go : OrderOf (Holds arrow) num rows (greedy arrow num rows) ⊎ Cycle (Holds arrow) rows → Cycle (Holds arrow) rows
      go (inl o) = absurd (n (length_of_order num rows (greedy arrow num rows) d o))
      go (inr c) = c
