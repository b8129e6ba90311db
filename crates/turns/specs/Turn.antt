-- One turn: the whole messages at hand are answered into a buffer, as far as it has room. RULES, The service. `left` is the room; a message
-- whose line might not fit, the longest line being 358 bytes, is not touched. `last` says that no more input comes.
use Rattle.refusals.specs.declared.Refusal.{Refusal}
use Rattle.std.specs.Prelude.{Bool, true, false, cond, ◌&&◌, List, [], ◌++◌, ℕ, ◌+◌, ◌-◌, leb, length}
use Rattle.lines.specs.Line.{line_bytes, refused_line}
use Rattle.frames.specs.Stream.{Stream, ended, cut_off, framed}
use Rattle.method.specs.declared.Table.{Table}
use Rattle.replies.specs.Desk.{desk_body}

-- the table after it, how many input bytes were used, what was written, and whether reading is over
pub record Turned : Type 0 where
  pub table : Table
  pub used : ℕ
  pub written : List ℕ
  pub over : Bool

abbrev pub turned : Table → ℕ → List ℕ → Bool → Turned
turned t u w o = record { table = t; used = u; written = w; over = o }

abbrev pub stops : Table → Turned
stops t = turned t 0 [] false

unfoldable pub eleven : List ℕ
eleven = line_bytes (refused_line Refusal.BadFrame)

-- 11 is the last line
abbrev pub ends : Table → Turned
ends t = turned t 0 eleven true

-- a frame of n bytes answered with w, and then the rest
abbrev pub behind : ℕ → List ℕ → Turned → Turned
behind n w r = turned r.table (n + r.used) (w ++ r.written) r.over

abbrev pub roomy : ℕ → Bool
roomy left = leb 358 left

unfoldable pub turn : Bool → Table → ℕ → Stream → Turned
turn last t left ended = stops t
turn last t left (cut_off l) = cond (roomy left && last) (ends t) (stops t)
turn last t left (Stream.refused l) = cond (roomy left) (ends t) (stops t)
turn last t left (framed b s) =
    cond (roomy left)
    (behind (3 + length b) (line_bytes (desk_body t b).1) (turn last (desk_body t b).0 (left - length (line_bytes (desk_body t b).1)) s))
    (stops t)
