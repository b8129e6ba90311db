use Rattle.std.proofs.Common.{◌≡◌, length}
use Rattle.writer.specs.Picks.{Placing}
use Rattle.writer.proofs.picks.pick.Given as goal

abbrev pub invariant-loop-k : goal.invariant-loop-k
invariant-loop-k l = (length l.numbers ≡ 32) × Placing l.rows l.numbers l.placed l.k
