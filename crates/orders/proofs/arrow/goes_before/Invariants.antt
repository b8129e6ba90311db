use Rattle.std.proofs.Common.{◌≡◌, take}
use Rattle.orders.specs.Arrow.{arrowb}
use Rattle.orders.proofs.arrow.goes_before.Given as goal

abbrev pub invariant-loop-s : goal.invariant-loop-s
invariant-loop-s l = l.found ≡ arrowb (take l.s l.a) (take l.s l.b)
