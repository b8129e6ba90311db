use Rattle.std.proofs.Common.{◌≡◌, length}
use Rattle.sites.specs.Sites.{sites_of}
use Rattle.sites.specs.Each.{left_of}
use Rattle.method.specs.Effects.{raised}
use Rattle.parts.proofs.raised.Given as goal

abbrev pub invariant-loop-s : goal.invariant-loop-s
invariant-loop-s l = (raised l.row (sites_of l.row.sites) l.initial.high ≡ raised l.row (left_of l.s-iterator) l.high) × (length l.high ≡ 8)
