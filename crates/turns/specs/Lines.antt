-- All that the service writes for all that it reads: one line for each frame, and 11 as the last line where the stream is cut or bad.
-- RULES, The service. proofs/PieceLaws.antt shows that it does not matter in which pieces the stream comes.
use Rattle.refusals.specs.declared.Refusal.{Refusal}
use Rattle.std.specs.Prelude.{List, [], ◌∷◌, ℕ}
use Rattle.lines.specs.Line.{Line, refused_line}
use Rattle.lines.specs.Reading.{output_bytes}
use Rattle.frames.specs.Stream.{Stream, ended, cut_off, framed, stream_of}
use Rattle.method.specs.declared.Table.{Table}
use Rattle.replies.specs.Desk.{desk_body}

unfoldable pub lines_of : Table → Stream → List Line
lines_of t ended = []
lines_of t (cut_off l) = refused_line Refusal.BadFrame ∷ []
lines_of t (Stream.refused l) = refused_line Refusal.BadFrame ∷ []
lines_of t (framed b s) = (desk_body t b).1 ∷ lines_of (desk_body t b).0 s

-- as bytes
abbrev pub answer_to : Table → List ℕ → List ℕ
answer_to t l = output_bytes (lines_of t (stream_of l))
