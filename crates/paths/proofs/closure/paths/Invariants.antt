use Rattle.paths.specs.Entries.{After}
use Rattle.paths.proofs.closure.paths.Given as goal

abbrev pub invariant-loop-k : goal.invariant-loop-k
invariant-loop-k l = After l.tickets l.k l.square
