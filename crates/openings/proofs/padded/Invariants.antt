use Rattle.std.proofs.Common.{◌≡◌, length, take}
use Rattle.method.specs.Effects.{padded}
use Rattle.openings.proofs.padded.Given as goal

abbrev pub invariant-loop-s : goal.invariant-loop-s
invariant-loop-s l = (l.high ≡ padded 8 (take l.s l.floors)) × (length l.high ≡ 8)
