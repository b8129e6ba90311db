-- The rule for an order against the graph's order, its test, and what the check answers: one of the three ways, and only one.
-- Assumes nothing.
use mathlib.Core.Path.{◌≡◌, ◌∙◌}
use mathlib.Core.Bool.{true, false, and-false}
use mathlib.Core.List.{List, [], map}
use mathlib.Core.Logic.{◌↔◌}
use Prim.Native.Nat.{ℕ, ◌/◌}
use lib.ListN.{length}
use borrow.Author.Tests.{ne_eqb}
use Rattle.graph.specs.Lists.{Once}
use Rattle.graph.specs.Path.{Cycle, Holds}
use Rattle.graph.specs.Order.{OrderOf, greedy}
use Rattle.graph.specs.Check.{all_stand, orderb}
use Rattle.graph.proofs.PathLaws.{cycle_of_weaker}
use Rattle.graph.proofs.OrderLaws.{no_cycle_of_order}
use Rattle.graph.proofs.CountLaws.{distinct_of_once}
use Rattle.graph.proofs.GreedyLaws.{order_of_greedy}
use Rattle.graph.proofs.CheckLaws.{orderb→order, order→orderb}
use Rattle.orders.specs.Entries.{Entry, number_of, EntryArrow, entry_arrowb, entries_in}
use Rattle.orders.specs.Good.{GoodRows, goodb}
use Rattle.orders.specs.Reply.{Reply}
use Rattle.orders.specs.Reply.Reply.{refused, yes, no}
use Rattle.orders.specs.Order.{InOrder, Checked, in_orderb, check_result}
use Rattle.orders.proofs.ArrowLaws.{arrowb→arrow, arrow→arrowb}
use Rattle.orders.proofs.EntriesLaws.{length_entries_in}
use Rattle.orders.proofs.GoodLaws.{goodb→good, good→goodb}
use Rattle.orders.proofs.JudgedLaws.{judged_of_tests, judged_unique}

module _ {rows : List Entry} {order : List ℕ} where
  pub order_of_in_order : InOrder rows order → OrderOf EntryArrow number_of rows order
  order_of_in_order o = record { once = o.once; each = o.each; only = o.only; arrows = λ q r m n a i j p k. o.earlier q r m n a.0 a.1 i j p k }

  pub in_order_of_order : OrderOf EntryArrow number_of rows order → InOrder rows order
  in_order_of_order o = record { once = o.once; each = o.each; only = o.only; earlier = λ q r m n s b i j p k. o.arrows q r m n (s, b) i j p k }

  -- the same, with the arrow as a test
  pub test_order_of_in_order : InOrder rows order → OrderOf (Holds entry_arrowb) number_of rows order
  test_order_of_in_order o = record {
    once = o.once;
    each = o.each;
    only = o.only;
    arrows = λ q r m n e i j p k. let a = arrowb→arrow q.tickets r.tickets e in o.earlier q r m n a.0 a.1 i j p k;
  }

  pub in_order_of_test_order : OrderOf (Holds entry_arrowb) number_of rows order → InOrder rows order
  in_order_of_test_order o = record {
    once = o.once;
    each = o.each;
    only = o.only;
    earlier = λ q r m n s b i j p k. o.arrows q r m n (arrow→arrowb q.tickets r.tickets (s, b)) i j p k;
  }

module _ (rows : List Entry) (d : Once (map number_of rows)) where
  pub in_orderb→in_order : (order : List ℕ) → in_orderb rows order ≡ true → InOrder rows order
  unfolding in_orderb
  in_orderb→in_order order e = in_order_of_test_order (orderb→order entry_arrowb number_of rows d order e)

  pub in_order→in_orderb : (order : List ℕ) → InOrder rows order → in_orderb rows order ≡ true
  unfolding in_orderb
  in_order→in_orderb order o = order→orderb entry_arrowb number_of rows d order (test_order_of_in_order o)

  -- an order exists exactly if there is no cycle, and the greedy choice is one
  pub in_order_of_greedy : ¬ Cycle EntryArrow rows → InOrder rows (greedy entry_arrowb number_of rows)
  in_order_of_greedy n = in_order_of_test_order (order_of_greedy entry_arrowb number_of rows (distinct_of_once number_of rows d)
      (λ c. n (cycle_of_weaker (λ q r. arrowb→arrow q.tickets r.tickets) c)))

  pub order_exists_iff_no_cycle : ((order : List ℕ) × InOrder rows order) ↔ (¬ Cycle EntryArrow rows)
  order_exists_iff_no_cycle = (
    λ p. no_cycle_of_order EntryArrow number_of rows p.0 (order_of_in_order p.1),
    λ n. (greedy entry_arrowb number_of rows, in_order_of_greedy n),
  )

module _ (flat order : List ℕ) where
  -- as many numbers as rows, or it is no order
  pub no_order_of_length : ¬ (length order ≡ length flat / 9) → in_orderb (entries_in flat) order ≡ false
  unfolding in_orderb orderb
  no_order_of_length h =
      rw (ne_eqb (length order) (length (entries_in flat)) (λ e. h (e ∙ length_entries_in flat))) (and-false (all_stand entry_arrowb number_of (entries_in flat) [] order))

  pub check_result_lem : Checked flat order (check_result flat order)
  unfolding check_result
  check_result_lem = judged_of_tests (refused 13) yes no (GoodRows flat) (InOrder (entries_in flat) order) (goodb flat) (in_orderb (entries_in flat) order)
      (goodb→good flat) (good→goodb flat) (λ g. in_orderb→in_order (entries_in flat) g.apart.numbers order) (λ g. in_order→in_orderb (entries_in flat) g.apart.numbers order)

  pub check_unique : (q r : Reply) → Checked flat order q → Checked flat order r → q ≡ r
  check_unique = judged_unique (refused 13) yes no (GoodRows flat) (InOrder (entries_in flat) order)
