use Rattle.std.proofs.Common.{◌≡◌}
use Rattle.arrows.specs.Placed.{may_stand}
use Rattle.writer.specs.Next.{number_at, least_below}
use Rattle.writer.proofs.picks.next_row.Given as goal

abbrev pub invariant-loop-j : goal.invariant-loop-j
invariant-loop-j l = l.best ≡ least_below (may_stand l.rows l.placed) (number_at l.rows) l.j
