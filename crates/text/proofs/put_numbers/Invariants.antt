use mathlib.Core.Path.{◌≡◌}
use Prim.Native.Nat.{◌+◌}
use lib.ListN.{length, take}
use Rattle.endian.specs.Laid.{laid}
use Rattle.text.specs.Text.{spaced}
use Rattle.text.proofs.put_numbers.Given as goal

abbrev pub invariant-loop-x : goal.invariant-loop-x
invariant-loop-x l = record {
  place : l.at ≡ l.place + length (spaced (take l.x-index l.numbers));
  buffer : l.out ≡ laid l.initial.out l.place (spaced (take l.x-index l.numbers));
}
