-- What a writer answers. Rests on `endian`.
use Rattle.std.specs.Prelude.{cond, List, ℕ, Option, Some, None, length}
use Rattle.endian.specs.Laid.{has_room}

-- how many bytes are written when vs goes into l from a place on: all of them, or none without room for all. What becomes of l is
-- `stored` of endian.
abbrev pub written_count : List ℕ → ℕ → List ℕ → Option ℕ
written_count l at vs = cond (has_room l at (length vs)) (Some (length vs)) None
