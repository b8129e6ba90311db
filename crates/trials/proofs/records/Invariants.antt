-- Each record takes some bytes.
use Rattle.std.proofs.Common.{length}
use Rattle.trials.proofs.records.Given as goal

abbrev pub decreases-loop-rest : goal.decreases-loop-rest
decreases-loop-rest g l = length l.rest
