-- `openings::padded` meets its contract: after s turns the first s floors stand in front of zeros. Assumes nothing.
use native.Mathlib.Omega.{arith}
use Rattle.std.proofs.Math.ListN.{length-set}
use Rattle.openings.proofs.OpenLaws.{padded_set}
use Rattle.openings.proofs.padded.Goals as goal

pub loop-s-preserved : goal.loop-s-preserved
loop-s-preserved c = (rw c.loop-s.invariant.0 (padded_set 8 c.args.floors.now c.loop-s.s (omega arith) (omega arith)), simp length-set c.loop-s.invariant.1)
