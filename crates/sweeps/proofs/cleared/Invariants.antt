use mathlib.Core.Path.{◌≡◌}
use lib.ListN.{length}
use Rattle.sweeps.specs.Marks.{StayMarks}
use Rattle.sweeps.proofs.SweepLaws.{swept_front, gone_front}
use Rattle.sweeps.proofs.cleared.Given as goal

abbrev pub invariant-loop-i : goal.invariant-loop-i
invariant-loop-i l = let t = l.fn.t in (length t.rows ≡ 32) × StayMarks t l.stay × (l.row-items ≡ swept_front t l.i) × (l.n ≡ gone_front t l.i)
