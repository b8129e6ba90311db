use mathlib.Core.Path.{◌≡◌}
use Prim.Native.Nat.{◌*◌}
use lib.ListN.{length, take}
use Rattle.endian.specs.Laid.{laid}
use Rattle.graph.specs.Lists.{keep}
use Rattle.method.specs.Records.{committed}
use Rattle.kept.specs.Packed.{flat, zeros}
use Rattle.kept.proofs.packed.packed.Given as goal

abbrev pub invariant-loop-row : goal.invariant-loop-row
invariant-loop-row l =
    let front = take l.row-index l.rows in
    (l.count ≡ length (keep committed front)) × (l.flat ≡ laid zeros 0 (flat front)) × (length (flat front) ≡ 9 * length (keep committed front))
