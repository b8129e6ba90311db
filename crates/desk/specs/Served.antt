-- What serving one body leaves: the table, how many bytes were written, and the lent buffer. Where the longest line would not fit
-- from the place on, nothing happens, whatever the body is.
use Rattle.std.specs.Prelude.{Bool, cond, List, ℕ, Option, Some, None, length}
use Rattle.endian.specs.Laid.{has_room, laid}
use Rattle.lines.specs.Line.{line_bytes}
use Rattle.method.specs.declared.Table.{Table}
use Rattle.replies.specs.Desk.{desk_body}

abbrev pub room_for : List ℕ → ℕ → Bool
room_for out place = has_room out place 358

abbrev pub bytes_for : Table → List ℕ → List ℕ
bytes_for t b = line_bytes (desk_body t b).1

abbrev pub served_table : Table → List ℕ → List ℕ → ℕ → Table
served_table t b out place = cond (room_for out place) (desk_body t b).0 t

abbrev pub served_count : Table → List ℕ → List ℕ → ℕ → Option ℕ
served_count t b out place = cond (room_for out place) (Some (length (bytes_for t b))) None

abbrev pub served_out : Table → List ℕ → List ℕ → ℕ → List ℕ
served_out t b out place = cond (room_for out place) (laid out place (bytes_for t b)) out
