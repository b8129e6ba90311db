-- `paths::reached` meets its contract: after i turns it has found what the marked slots below i reach. Assumes nothing.
use Rattle.paths.proofs.FoundLaws.{found_more, found_skip}
use Rattle.paths.proofs.reached.Goals.{then-marks-i, else-marks-i}
use Rattle.paths.proofs.reached.Goals as goal

pub loop-i-preserved : goal.loop-i-preserved
loop-i-preserved c = let marks = c.args.marks in
    elim c.if-marks-i.branch [
      | then-marks-i w ↦ rw w.found-is (found_more marks c.paths-square.result w.if-marks-i.true c.loop-i.invariant w.joined-found.ensures.size w.joined-found.ensures.each)
      | else-marks-i w ↦ rw w.found-is (found_skip marks c.paths-square.result w.if-marks-i.false c.loop-i.invariant)
    ]
