use Rattle.std.proofs.Common.{◌≡◌, take, drop}
use Rattle.graph.specs.Check.{all_stand}
use Rattle.orders.specs.Entries.{number_of, entry_arrowb, entries_in}
use Rattle.orders.specs.Order.{in_orderb}
use Rattle.arrows.specs.Placed.{Marked}
use Rattle.checker.proofs.check.Given as goal

abbrev pub invariant-loop-n : goal.invariant-loop-n
invariant-loop-n l = (in_orderb (entries_in l.rows) l.order ≡ all_stand entry_arrowb number_of (entries_in l.rows) (take l.n-index l.order) (drop l.n-index l.order)) × Marked l.rows l.placed (take l.n-index l.order)
