-- What the contracts of the public functions say of a result, with the arguments in front and the result behind. A promise that is
-- stated for all that meets one of these holds of all that the function can give. The code has the same words behind `ensures`: the
-- functions of `witness` call it, and are proved to give what stands here.
use Rattle.method.specs.Calls.{CallAnswer}
use Rattle.std.specs.Prelude.{◌≡◌, Bool, List, ℕ, Option, length, Result}
use Rattle.endian.specs.Laid.{laid, stored}
use Rattle.decimal.specs.Written.{written_count}
use Rattle.refusals.specs.declared.Refusal.{Refusal}
use Rattle.orders.specs.Reply.{check_reply, write_reply}
use Rattle.orders.specs.Order.{check_result}
use Rattle.orders.specs.Write.{write_result}
use Rattle.orders.specs.CCall.{call_result}
use Rattle.wire.specs.declared.reader.Request.{Request}
use Rattle.refusals.specs.declared.Refusal.{Refusal}
use Rattle.wire.specs.declared.reader.Message as reader
use Rattle.wire.specs.Body.{message_of}
use Rattle.frames.specs.Frame.{next_frame}
use Rattle.frames.specs.Stream.{stream_of}
use Rattle.wire.specs.Answers.{body_answer, read_answer}
use Rattle.frames.specs.Answer.{frame_answer}
use Rattle.sending.specs.Writing.{write_answer, written}
use Rattle.lines.specs.Line.{line_bytes, Line.say, Line.order}
use Rattle.lines.specs.declared.Words.{Words}
use Rattle.method.specs.Calls.{Call}
use Rattle.table.specs.declared.Table.{Table}
use Rattle.table.specs.Shut.{shut_table, answer_to, table_after}
use Rattle.queries.specs.Said.{spoken_of}
use Rattle.replies.specs.Desk.{desk_body}
use Rattle.replies.specs.declared.Replied.{Replied}
use Rattle.desk.specs.Served.{served_table, served_count, served_out}
use Rattle.desk.specs.declared.Served.{Served}
use Rattle.turns.specs.declared.Turn.{Turn}
use Rattle.turns.specs.Turn.{Turned, turn}

-- the eight calls of `table`, the eight of `lent` and the eight that lend: the answer a, and the table u that is left
abbrev pub CallGives : Table → Call → CallAnswer → Table → Type 0
CallGives t c a u = (a ≡ answer_to t c) × (u ≡ table_after t c)

-- checker::check(rows, order); ccheck::order_check(rows, order), on bytes
abbrev pub CheckGives : List ℕ → List ℕ → Result Bool Refusal → Type 0
CheckGives flat o r = check_reply r ≡ check_result flat o

abbrev pub CCheckGives : List ℕ → List ℕ → ℕ → Type 0
CCheckGives rows o n = n ≡ call_result rows o

-- writer::write(rows, place, out): the answer, and the buffer afterwards
abbrev pub WriteGives : List ℕ → ℕ → List ℕ → Result ℕ Refusal → List ℕ → Type 0
WriteGives flat place out r after = (write_reply r ≡ (write_result flat place out).0) × (after ≡ (write_result flat place out).1)

-- wire::reader::read_body(body), frames::read_frame(msg), wire::reader::read_message(msg)
abbrev pub BodyGives : List ℕ → Result Request Refusal → Type 0
BodyGives b r = r ≡ body_answer (message_of b)

abbrev pub FrameGives : List ℕ → Result (Option ℕ) Refusal → Type 0
FrameGives l r = r ≡ frame_answer (next_frame l)

abbrev pub ReadGives : List ℕ → Result (Option reader.Message) Refusal → Type 0
ReadGives l r = r ≡ read_answer (next_frame l)

-- sending::write_message(body, out, place)
abbrev pub MessageGives : List ℕ → List ℕ → ℕ → Result ℕ Refusal → List ℕ → Type 0
MessageGives b out place r after = (r ≡ write_answer b out place) × (after ≡ written b out place)

-- lines::write_line(words, out, place) and write_order(numbers, out, place)
abbrev pub LineGives : Words → List ℕ → ℕ → Option ℕ → List ℕ → Type 0
LineGives w out place n after = (n ≡ written_count out place (line_bytes (say w))) × (after ≡ stored out place (line_bytes (say w)))

abbrev pub OrderGives : List ℕ → List ℕ → ℕ → Option ℕ → List ℕ → Type 0
OrderGives numbers out place n after = (n ≡ written_count out place (line_bytes (order numbers))) × (after ≡ stored out place (line_bytes (order numbers)))

-- replies::reply(t, body)
abbrev pub ReplyGives : Table → List ℕ → Replied → Type 0
ReplyGives t b r = (r.table ≡ shut_table (desk_body t.held b).0) × (r.spoken ≡ spoken_of (desk_body t.held b).1)

-- desk::serve(t, body, out, place)
abbrev pub ServeGives : Table → List ℕ → List ℕ → ℕ → Served → List ℕ → Type 0
ServeGives t b out place r after =
    (r.table ≡ shut_table (served_table t.held b out place)) × (r.count ≡ served_count t.held b out place) × (after ≡ served_out t.held b out place)

-- turns::take_turn(t, input, last, out)
abbrev pub TurnGives : Table → List ℕ → Bool → List ℕ → Turn → List ℕ → Type 0
TurnGives t input last out r after =
    let x : Turned = turn last t.held (length out) (stream_of input) in
    (r.table ≡ shut_table x.table) × (r.used ≡ x.used) × (r.written ≡ length x.written) × (r.over ≡ x.over) × (after ≡ laid out 0 x.written)
