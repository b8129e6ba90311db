use Rattle.std.proofs.Common.{◌≡◌, length, replicate}
use Rattle.sites.specs.Sites.{sites_of}
use Rattle.sites.specs.Each.{left_of}
use Rattle.method.specs.Records.{no_part}
use Rattle.method.specs.Effects.{based}
use Rattle.beginnings.proofs.based.Given as goal

abbrev pub invariant-loop-s : goal.invariant-loop-s
invariant-loop-s l = (based l.high (sites_of l.x) (replicate 8 no_part) ≡ based l.high (left_of l.s-iterator) l.parts) × (length l.parts ≡ 8)
