-- The line of a refusal says which one it is. Assumes nothing.
use mathlib.Core.Path.{◌≡◌}
use Rattle.refusals.specs.declared.Refusal.{Refusal}
use Rattle.refusals.specs.Numbers.{number_of}
use Rattle.refusals.proofs.NumberLaws.{numbers_differ}
use Rattle.lines.specs.Line.{refused_line}

pub same_refusal : (q r : Refusal) → refused_line q ≡ refused_line r → q ≡ r
same_refusal q r e = let n : number_of q ≡ number_of r = cc in numbers_differ q r n
