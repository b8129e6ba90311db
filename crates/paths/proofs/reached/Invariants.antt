use Rattle.paths.specs.Entries.{FoundBelow}
use Rattle.paths.proofs.reached.Given as goal

abbrev pub invariant-loop-i : goal.invariant-loop-i
invariant-loop-i l = FoundBelow l.marks l.row-items l.i l.found
