-- The greedy writer writes an order of the rows, or there is a cycle. Assumes nothing.
use mathlib.Core.Path.{◌≡◌, refl}
use mathlib.Core.Bool.{Bool, false, not}
use mathlib.Core.List.Memᴰ
use mathlib.Core.List.Memᴰ.{head as here}
use mathlib.Core.List.{List, [], ◌∷◌}
use mathlib.Core.Logic.{◌↔◌, ◌⊎◌, inl, inr}
use mathlib.Core.Option.{Option, none, some}
use Prim.Native.Nat.{ℕ, zero, suc, ◌≤◌}
use native.Mathlib.Omega.{arith}
use lib.ListN.{length}
use Rattle.graph.specs.Lists.{◌∈◌, keep}
use Rattle.graph.specs.Path.{Cycle, Holds}
use Rattle.graph.specs.Acyclic.{into}
use Rattle.graph.specs.Order.{Distinct, without, OrderOf, next, write, greedy}
use Rattle.graph.proofs.TestLaws.{true_not_false, true_of_not_false, not_of_false, false_of_not}
use Rattle.graph.proofs.MemberLaws.{any_of_member, kept_of_member, member_of_kept, nil_of_length}
use Rattle.graph.proofs.PathLaws.{cycle_of_larger}
use Rattle.graph.proofs.AcyclicLaws.{cycle_of_all_pointed}
use Rattle.graph.proofs.LeastLaws.{nil_of_no_least, is_least_of_least, without_subset, length_without_lt, distinct_of_subset}
use Rattle.graph.proofs.OrderLaws.{no_cycle_of_order, order_of_cons, order_of_nil}

module _ {A : Type 0} (arrow : A → A → Bool) (num : A → ℕ) where
  free : List A → A → Bool
  free rs r = not (into arrow rs r)

  -- what `next` finds: a row that no row has an arrow to, and none of those has a smaller number
  pub free_of_next : (rs : List A) (x : A) → next arrow num rs ≡ some x → (x ∈ rs) × (into arrow rs x ≡ false)
  unfolding next free
  free_of_next rs x e =
      let (m, l) = is_least_of_least num (keep (free rs) rs) x e in
      let (n, t) = member_of_kept (free rs) rs m in
      (n, false_of_not (into arrow rs x) t)

  pub least_of_next : (rs : List A) (x y : A) → next arrow num rs ≡ some x → y ∈ rs → into arrow rs y ≡ false → num x ≤ num y
  unfolding next free
  least_of_next rs x y e m f = (is_least_of_least num (keep (free rs) rs) x e).1 y (kept_of_member (free rs) m (not_of_false f))

  pub no_next_of_free : (rs : List A) (x : A) → x ∈ rs → into arrow rs x ≡ false → next arrow num rs ≡ none → ⊥
  unfolding next free
  no_next_of_free rs x m f e = Memᴰ.not-nil (rw (nil_of_no_least num (keep (free rs) rs) e) at (kept_of_member (free rs) m (not_of_false f)))

  -- the writer is stuck only in a cycle
  pub cycle_of_stuck : (rs : List A) → next arrow num rs ≡ none → (a : A) → a ∈ rs → Cycle (Holds arrow) rs
  cycle_of_stuck rs e a m = cycle_of_all_pointed arrow rs (λ y n. true_of_not_false (into arrow rs y) (λ f. no_next_of_free rs y n f e)) a m

  pub write_of_stuck : (k : ℕ) (rs : List A) → next arrow num rs ≡ none → write arrow num (suc k) rs ≡ []
  unfolding write
  write_of_stuck k rs e = rw (e, write)

  pub write_of_next : (k : ℕ) (rs : List A) (x : A) → next arrow num rs ≡ some x → write arrow num (suc k) rs ≡ num x ∷ write arrow num k (without num x rs)
  unfolding write
  write_of_next k rs x e = rw (e, write)

  pub order_or_cycle_of_write : (k : ℕ) (rs : List A) → length rs ≤ k → Distinct num rs → OrderOf (Holds arrow) num rs (write arrow num k rs) ⊎ Cycle (Holds arrow) rs
  unfolding write
  order_or_cycle_of_write zero rs h d = inl (rw (nil_of_length rs h) (order_of_nil (Holds arrow) num))
  order_or_cycle_of_write (suc k) rs h d = go (λ x. order_or_cycle_of_write k (without num x rs)) (next arrow num rs) refl
    where
      Done : Type 0
      Done = OrderOf (Holds arrow) num rs (write arrow num (suc k) rs) ⊎ Cycle (Holds arrow) rs

      stuck : (qs : List A) → rs ≡ qs → next arrow num rs ≡ none → Done
      stuck [] p e = inl (rw (write_of_stuck k rs e, p) (order_of_nil (Holds arrow) num))
      stuck (y ∷ ys) p e = inr (cycle_of_stuck rs e y (rw p (here refl)))

      put : (x : A) → next arrow num rs ≡ some x → OrderOf (Holds arrow) num (without num x rs) (write arrow num k (without num x rs)) ⊎ Cycle (Holds arrow) (without num x rs) → Done
      put x e (inr c) = inr (cycle_of_larger (without_subset num x rs) c)
      put x e (inl o) =
          let (m, f) = free_of_next rs x e in
          inl (rw (write_of_next k rs x e) (order_of_cons (Holds arrow) num rs (write arrow num k (without num x rs)) x d m (λ y n a. true_not_false (any_of_member (λ s. arrow s x) n a) f) o))

      go : ((x : A) → length (without num x rs) ≤ k → Distinct num (without num x rs) → OrderOf (Holds arrow) num (without num x rs) (write arrow num k (without num x rs)) ⊎ Cycle (Holds arrow) (without num x rs))
          → (o : Option A) → next arrow num rs ≡ o → Done
      go r none e = stuck rs refl e
      go r (some x) e =
          let (m, f) = free_of_next rs x e in
          put x e (r x (omega (arith, length_without_lt num m)) (distinct_of_subset num (without_subset num x rs) d))

  pub order_or_cycle : (rows : List A) → Distinct num rows → OrderOf (Holds arrow) num rows (greedy arrow num rows) ⊎ Cycle (Holds arrow) rows
  unfolding greedy
  order_or_cycle rows d = order_or_cycle_of_write (length rows) rows (omega arith) d

  pub order_of_greedy : (rows : List A) → Distinct num rows → ¬ Cycle (Holds arrow) rows → OrderOf (Holds arrow) num rows (greedy arrow num rows)
  order_of_greedy rows d n = go (order_or_cycle rows d)
    where
      go : OrderOf (Holds arrow) num rows (greedy arrow num rows) ⊎ Cycle (Holds arrow) rows → OrderOf (Holds arrow) num rows (greedy arrow num rows)
      go (inl o) = o
      go (inr c) = absurd (n c)

  pub order_exists_iff : (rows : List A) → Distinct num rows → ((order : List ℕ) × OrderOf (Holds arrow) num rows order) ↔ (¬ Cycle (Holds arrow) rows)
  order_exists_iff rows d = (λ p. no_cycle_of_order (Holds arrow) num rows p.0 p.1, λ n. (greedy arrow num rows, order_of_greedy rows d n))
