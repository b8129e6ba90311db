-- What is said means the line that it was made of. Assumes nothing.
use mathlib.Core.Path.{◌≡◌, refl, ap}
use Prim.Native.Nat.{◌+◌}
use lib.ListN.{length, drop}
use lib.Seq.{take_at}
use Rattle.lines.specs.Line.{Line, Line.say, Line.order}
use Rattle.queries.specs.Said.{said_line, said_of, no_numbers, numbers_for}

pub line_of_said : (x : Line) → said_line (said_of x) (numbers_for x) ≡ x
line_of_said (say w) = refl
line_of_said (order l) = ap order (take_at l (drop (0 + length l) no_numbers) (length l) refl)
