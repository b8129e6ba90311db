-- A turn that goes on used bytes.
use Rattle.std.proofs.Common.{◌≤◌}
use Rattle.service.specs.declared.TheConstants.{BUFFER}
use Rattle.service.proofs.settle.Given as goal

abbrev pub invariant-loop-input : goal.invariant-loop-input
invariant-loop-input g l = l.left ≤ BUFFER

abbrev pub decreases-loop-input : goal.decreases-loop-input
decreases-loop-input g l = l.left
