-- What waits lies in the buffer for input.
use Rattle.std.proofs.Common.{◌≤◌}
use Rattle.service.specs.declared.TheConstants.{BUFFER}
use Rattle.service.proofs.main.Given as goal

abbrev pub invariant-loop : goal.invariant-loop
invariant-loop l = l.state.1.0 ≤ BUFFER
