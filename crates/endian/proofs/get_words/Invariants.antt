use Rattle.std.proofs.Common.{◌≡◌, take}
use Rattle.endian.specs.Bytes.{words}
use Rattle.endian.proofs.get_words.Given as goal

-- the numbers that were reached stand in front
abbrev pub invariant-loop-i : goal.invariant-loop-i
invariant-loop-i l = take l.i l.front ≡ take l.i (words l.s)
