use Rattle.std.proofs.Common.{◌≡◌, ◌/◌, length}
use Rattle.orders.specs.Good.{goodb}
use Rattle.good.specs.Scan.{rest_good}
use Rattle.good.proofs.is_good.Given as goal

abbrev pub invariant-loop-i : goal.invariant-loop-i
invariant-loop-i l = goodb l.rows ≡ rest_good l.rows l.i (length l.rows / 9)
