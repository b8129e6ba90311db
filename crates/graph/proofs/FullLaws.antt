-- The length of the greedy choice tells whether there is a cycle: it is an order of all rows, or it stops short. Assumes nothing.
use mathlib.Core.Path.{◌≡◌, refl}
use mathlib.Core.Bool.{Bool, true}
use mathlib.Core.List.{List, map}
use mathlib.Core.Option.{Option, none, some}
use Prim.Native.Nat.{ℕ, zero, suc, ◌≤◌}
use native.Mathlib.Omega.{arith}
use lib.Dec.{eqb}
use lib.ListN.{length}
use borrow.Author.Tests.{eqb-true, eq-eqb}
use Rattle.graph.specs.Lists.{Once}
use Rattle.graph.specs.Path.{Holds}
use Rattle.graph.specs.Acyclic.{acyclic}
use Rattle.graph.specs.Order.{Distinct, without, OrderOf, next, write, greedy}
use Rattle.graph.proofs.TestLaws.{true_not_false, same_of_iff}
use Rattle.graph.proofs.MemberLaws.{any_of_member, nil_of_length}
use Rattle.graph.proofs.AcyclicLaws.{acyclic_iff}
use Rattle.graph.proofs.LeastLaws.{without_subset, length_without_lt, distinct_of_subset}
use Rattle.graph.proofs.OrderLaws.{no_cycle_of_order, order_of_cons, order_of_nil}
use Rattle.graph.proofs.GreedyLaws.{free_of_next, write_of_stuck, write_of_next, order_of_greedy}
use Rattle.graph.proofs.CountLaws.{length_of_order, distinct_of_once}

module _ {A : Type 0} (arrow : A → A → Bool) (num : A → ℕ) where
  length_write_le : (k : ℕ) (rs : List A) → length (write arrow num k rs) ≤ length rs
  unfolding write
  length_write_le zero rs = omega arith
  length_write_le (suc k) rs = go (λ x. length_write_le k (without num x rs)) (next arrow num rs) refl
    where
      go : ((x : A) → length (write arrow num k (without num x rs)) ≤ length (without num x rs)) → (o : Option A) → next arrow num rs ≡ o
          → length (write arrow num (suc k) rs) ≤ length rs
      go r none e = rw (write_of_stuck arrow num k rs e) (omega arith)
      go r (some x) e = rw (write_of_next arrow num k rs x e) (omega (arith, r x, length_without_lt num (free_of_next arrow num rs x e).0))

  Full : ℕ → List A → Type 0
  Full k rs = length (write arrow num k rs) ≡ length rs → OrderOf (Holds arrow) num rs (write arrow num k rs)

  order_of_full_write : (k : ℕ) (rs : List A) → Distinct num rs → Full k rs
  unfolding write Full
  order_of_full_write zero rs d h = rw (nil_of_length rs (omega arith)) (order_of_nil (Holds arrow) num)
  order_of_full_write (suc k) rs d h = go (λ x. order_of_full_write k (without num x rs)) (next arrow num rs) refl
    where
      go : ((x : A) → Distinct num (without num x rs) → Full k (without num x rs)) → (o : Option A) → next arrow num rs ≡ o
          → OrderOf (Holds arrow) num rs (write arrow num (suc k) rs)
      go r none e =
          let w = write_of_stuck arrow num k rs e in
          rw (w, nil_of_length rs (omega (arith, rw w at h))) (order_of_nil (Holds arrow) num)
      go r (some x) e =
          let (m, f) = free_of_next arrow num rs x e in
          let w = write_of_next arrow num k rs x e in
          let o = r x (distinct_of_subset num (without_subset num x rs) d) (omega (arith, rw w at h, length_write_le k (without num x rs), length_without_lt num m)) in
          rw w (order_of_cons (Holds arrow) num rs (write arrow num k (without num x rs)) x d m (λ y n a. true_not_false (any_of_member (λ s. arrow s x) n a) f) o)

  pub length_greedy_le : (rows : List A) → length (greedy arrow num rows) ≤ length rows
  unfolding greedy
  length_greedy_le rows = length_write_le (length rows) rows

  pub order_of_full : (rows : List A) → Distinct num rows → length (greedy arrow num rows) ≡ length rows → OrderOf (Holds arrow) num rows (greedy arrow num rows)
  unfolding greedy Full
  order_of_full rows = order_of_full_write (length rows) rows

  pub acyclic_of_length : (rows : List A) → Once (map num rows) → acyclic arrow rows ≡ eqb (length (greedy arrow num rows)) (length rows)
  acyclic_of_length rows u = same_of_iff (acyclic arrow rows) (eqb (length (greedy arrow num rows)) (length rows)) full none_of_full
    where
      d : Distinct num rows
      d = distinct_of_once num rows u

      full : acyclic arrow rows ≡ true → eqb (length (greedy arrow num rows)) (length rows) ≡ true
      full e = eq-eqb _ _ (length_of_order num rows (greedy arrow num rows) u (order_of_greedy arrow num rows d ((acyclic_iff arrow rows).0 e)))

      none_of_full : eqb (length (greedy arrow num rows)) (length rows) ≡ true → acyclic arrow rows ≡ true
      none_of_full e = (acyclic_iff arrow rows).1 (no_cycle_of_order (Holds arrow) num rows (greedy arrow num rows) (order_of_full rows d (eqb-true _ _ e)))
