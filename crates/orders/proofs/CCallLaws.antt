-- What the C call answers: one of the three ways, and only one. Assumes nothing.
use mathlib.Core.Path.{◌≡◌}
use mathlib.Core.Bool.{true, ◌&&◌}
use mathlib.Core.List.{List}
use Prim.Native.Nat.{ℕ, ◌%◌}
use lib.Dec.{eqb, leb}
use lib.ListN.{length}
use borrow.Author.Tests.{eqb-true, eq-eqb, leb-true, le-leb}
use Rattle.graph.proofs.TestLaws.{both_of_and, and_of_both}
use Rattle.endian.specs.Bytes.{words}
use Rattle.orders.specs.Entries.{entries_in}
use Rattle.orders.specs.Good.{goodb}
use Rattle.orders.specs.Order.{in_orderb}
use Rattle.orders.specs.CCall.{GoodBytes, OrderBytes, Called, good_bytesb, order_bytesb, call_result}
use Rattle.orders.proofs.JudgedLaws.{judged_of_tests, judged_unique}
use Rattle.orders.proofs.GoodLaws.{goodb→good, good→goodb}
use Rattle.orders.proofs.OrderLaws.{in_orderb→in_order, in_order→in_orderb}

module _ (rows : List ℕ) where
  pub good_bytesb→good : good_bytesb rows ≡ true → GoodBytes rows
  unfolding good_bytesb
  good_bytesb→good e =
      let (ab, c) = both_of_and (eqb (length rows % 36) 0 && leb (length rows) 1152) (goodb (words rows)) e in
      let (a, b) = both_of_and (eqb (length rows % 36) 0) (leb (length rows) 1152) ab in
      record { whole = eqb-true (length rows % 36) 0 a; few = leb-true (length rows) 1152 b; good = goodb→good (words rows) c }

  pub good→good_bytesb : GoodBytes rows → good_bytesb rows ≡ true
  unfolding good_bytesb
  good→good_bytesb g = and_of_both (and_of_both (eq-eqb (length rows % 36) 0 g.whole) (le-leb (length rows) 1152 g.few)) (good→goodb (words rows) g.good)

  module _ (g : GoodBytes rows) (order : List ℕ) where
    pub order_bytesb→ordered : order_bytesb rows order ≡ true → OrderBytes rows order
    unfolding order_bytesb
    order_bytesb→ordered e =
        let (a, b) = both_of_and (eqb (length order % 4) 0) (in_orderb (entries_in (words rows)) (words order)) e in
        record { whole = eqb-true (length order % 4) 0 a; ordered = in_orderb→in_order (entries_in (words rows)) g.good.apart.numbers (words order) b }

    pub ordered→order_bytesb : OrderBytes rows order → order_bytesb rows order ≡ true
    unfolding order_bytesb
    ordered→order_bytesb o =
        and_of_both (eq-eqb (length order % 4) 0 o.whole) (in_order→in_orderb (entries_in (words rows)) g.good.apart.numbers (words order) o.ordered)

module _ (rows order : List ℕ) where
  pub call_result_lem : Called rows order (call_result rows order)
  unfolding call_result
  call_result_lem = judged_of_tests 13 1 0 (GoodBytes rows) (OrderBytes rows order) (good_bytesb rows) (order_bytesb rows order)
      (good_bytesb→good rows) (good→good_bytesb rows) (λ g. order_bytesb→ordered rows g order) (λ g. ordered→order_bytesb rows g order)

  pub call_unique : (q r : ℕ) → Called rows order q → Called rows order r → q ≡ r
  call_unique = judged_unique 13 1 0 (GoodBytes rows) (OrderBytes rows order)
