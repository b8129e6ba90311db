use Rattle.std.proofs.Common.{◌≡◌, take}
use Rattle.orders.specs.Arrow.{any_site}
use Rattle.orders.specs.Good.{sameb}
use Rattle.good.proofs.shares_ticket.Given as goal

abbrev pub invariant-loop-s : goal.invariant-loop-s
invariant-loop-s l = l.found ≡ any_site sameb (take l.s l.a) (take l.s l.b)
