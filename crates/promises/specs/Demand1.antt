-- Demand 1: every message and call, however malformed or out of turn, gets its one listed answer, and a refused call leaves the table and
-- all lent memory as before. proofs/Proved1.antt has a proof of each.
use Rattle.method.specs.Calls.{CallAnswer}
use Rattle.std.specs.Prelude.{◌≡◌, Bool, true, false, cond, List, [], ◌∷◌, ◌++◌, ◌↔◌, ◌≢◌, ◌⊎◌, ℕ, ◌+◌, ◌-◌, ◌<◌, ◌≤◌, length, take, drop, Result, Ok, Err, Option, Some, None}
use Rattle.endian.specs.Places.{Below}
use Rattle.graph.specs.Lists.{◌∈◌}
use Rattle.refusals.specs.declared.Refusal.{Refusal}
use Rattle.orders.specs.Reply.{Reply, write_reply}
use Rattle.wire.specs.declared.reader.Request.{Request}
use Rattle.refusals.specs.declared.Refusal.{Refusal}
use Rattle.refusals.specs.Numbers.{told_by}
use Rattle.wire.specs.declared.reader.Message as reader
use Rattle.wire.specs.Message.{Message, InRange, body_of, opening, beginning, ticketing, preparing, aborting, deciding, forgetting, sweeping, proposing, ordering}
use Rattle.frames.specs.Frame.{frame_of, Bad, Cut}
use Rattle.frames.specs.Stream.{stream_of}
use Rattle.wire.specs.Meaning.{NoBody, BodyMeans, ReadMeans}
use Rattle.frames.specs.Answer.{FrameMeans}
use Rattle.sending.specs.Meaning.{WriteMeans}
use Rattle.lines.specs.declared.Words.{Words}
use Rattle.lines.specs.Line.{Line, Line.say, line_bytes, refused_line}
use Rattle.lines.specs.Reading.{OneLine, output_bytes}
use Rattle.method.specs.declared.Answer.{Answer}
use Rattle.method.specs.declared.Table as method
use Rattle.method.specs.Records.{number}
use Rattle.method.specs.Conditions.{Closed, Unknown, UsedUp}
use Rattle.method.specs.Calls.{Call, rules, FirstHolds}
use Rattle.method.specs.Calls.Call.{open_with, begin, report_ticket, report_prepared, abort, decide, forget, sweep}
use Rattle.method.specs.Effects.{step}
use Rattle.runs.specs.Run.{Run, after, Happened, Opens, BegunIn, Over, begins}
use Rattle.table.specs.declared.Table.{Table}
use Rattle.desk.specs.declared.Served.{Served}
use Rattle.replies.specs.Desk.{answer_line, desk_body}
use Rattle.turns.specs.declared.Turn.{Turn}
use Rattle.turns.specs.Lines.{lines_of}
use Rattle.turns.specs.Pieces.{joined, in_pieces}
use Rattle.promises.specs.Stated.{CallGives, WriteGives, BodyGives, FrameGives, ReadGives, MessageGives, ServeGives, TurnGives}

-- a call's row in RULES, Calls: the refusals that it can get, after 1 for a closed table, and what it is answered when it is done
abbrev pub refusals : Call → List Refusal
refusals (open_with first floors) = Refusal.OutOfTurn ∷ Refusal.NotOpen ∷ []
refusals (begin sites) = Refusal.NotOpen ∷ Refusal.BadSite ∷ Refusal.UsedUp ∷ Refusal.Full ∷ []
refusals (report_ticket n s k) = Refusal.NotOpen ∷ Refusal.Unknown ∷ Refusal.BadSite ∷ Refusal.OutOfTurn ∷ Refusal.NotAbove ∷ Refusal.Taken ∷ []
refusals (report_prepared n s) = Refusal.NotOpen ∷ Refusal.Unknown ∷ Refusal.BadSite ∷ Refusal.OutOfTurn ∷ []
refusals (abort n) = Refusal.NotOpen ∷ Refusal.Unknown ∷ Refusal.OutOfTurn ∷ []
refusals (decide n) = Refusal.NotOpen ∷ Refusal.Unknown ∷ Refusal.OutOfTurn ∷ []
refusals (forget n) = Refusal.NotOpen ∷ Refusal.Unknown ∷ Refusal.OutOfTurn ∷ Refusal.TooEarly ∷ []
refusals sweep = Refusal.NotOpen ∷ []

abbrev pub Done : method.Table → Call → CallAnswer → Type 0
Done t (open_with first floors) a = a ≡ Ok Answer.Done
Done t (begin sites) a = a ≡ Ok (Answer.Begun (number (t.last.0 + 1)))
Done t (report_ticket n s k) a = a ≡ Ok Answer.Done
Done t (report_prepared n s) a = a ≡ Ok Answer.Done
Done t (abort n) a = a ≡ Ok Answer.Done
Done t (decide n) a = (a ≡ Ok (Answer.Commit (number n))) ⊎ (a ≡ Ok (Answer.Cycle (number n)))
Done t (forget n) a = a ≡ Ok Answer.Done
Done t sweep a = (k : ℕ) × (a ≡ Ok (Answer.Swept k))

-- every call on every table is answered by its own row
abbrev pub Answered : Type 0
Answered = (t : Table) (c : Call) (a : CallAnswer) (u : Table) → CallGives t c a u → Done t.held c a ⊎ ((k : Refusal) × (k ∈ refusals c) × (a ≡ Err k))

-- a refusal leaves everything as it was: the table of a call, the buffer of the order's writer and of the message's
pub record RefusedKeeps : Type 0 where
  pub calls : (t : Table) (c : Call) (a : CallAnswer) (u : Table) → CallGives t c a u → (k : Refusal) → a ≡ Err k → u ≡ t
  pub orders : (flat : List ℕ) (place : ℕ) (out : List ℕ) (r : Result ℕ Refusal) (after : List ℕ) → WriteGives flat place out r after → (k : ℕ) → write_reply r ≡ Reply.refused k → after ≡ out
  pub messages : (b out : List ℕ) (place : ℕ) (r : Result ℕ Refusal) (after : List ℕ) → MessageGives b out place r after → (k : ℕ) → told_by r ≡ Some k → after ≡ out
  -- where the longest line would not fit nothing is served
  pub roomless : (t : Table) (b out : List ℕ) (place : ℕ) (r : Served) (after : List ℕ) → ServeGives t b out place r after → length out < place + 358
      → (r.table ≡ t) × (r.count ≡ None) × (after ≡ out)
  -- and a message of the service that is answered with a refusal leaves its table
  pub served : (t : method.Table) (b : List ℕ) (k : ℕ) → (desk_body t b).1 ≡ say (Words.Refused k) → (desk_body t b).0 ≡ t

-- each refusal is given exactly when it should be. Those of the orders (13, 14, 12) and of the C call are in Demand3.
pub record RefusedExactly : Type 0 where
  -- a call is refused with k exactly if k's condition holds and no earlier one of its row does
  pub calls : (t : Table) (c : Call) (a : CallAnswer) (u : Table) → CallGives t c a u → (k : Refusal) → (a ≡ Err k) ↔ FirstHolds (rules t.held c) k
  -- 2 and 8 read off the run: never begun or over by now; the last number was given
  pub unknown : (r : Run) (n : ℕ) → Unknown (after r) n ↔ ((¬ BegunIn r n) ⊎ Over r n)
  pub used_up : (r : Run) (first : ℕ) (floors : List ℕ) → Happened (Opens first floors) r → UsedUp (after r) ↔ (first - 1 + begins r ≡ 4294967295)
  -- the reader and the writer of messages: an answer is given exactly if it fits, and each says what it means
  pub bodies : (b : List ℕ) (r : Result Request Refusal) → Below 256 b → BodyGives b r → (x : Result Request Refusal) → (x ≡ r) ↔ BodyMeans b x
  pub frames : (l : List ℕ) (r : Result (Option ℕ) Refusal) → FrameGives l r → (x : Result (Option ℕ) Refusal) → (x ≡ r) ↔ FrameMeans l x
  pub reads : (l : List ℕ) (r : Result (Option reader.Message) Refusal) → Below 256 l → ReadGives l r → (x : Result (Option reader.Message) Refusal) → (x ≡ r) ↔ ReadMeans l x
  pub writes : (b out : List ℕ) (place : ℕ) (r : Result ℕ Refusal) (after : List ℕ) → Below 256 b → MessageGives b out place r after
      → (x : Result ℕ Refusal) → (x ≡ r) ↔ WriteMeans b out place x
  -- a body at the service: 10 exactly if it is no message's, then 1 before a good opening, and 4 for an opening after one
  pub ten : (t : method.Table) (b : List ℕ) → Below 256 b → ((desk_body t b).1 ≡ refused_line Refusal.BadBody) ↔ NoBody b
  pub one : (t : method.Table) (m : Message) → InRange m → ((n : ℕ) (fs : List ℕ) → m ≢ opening n fs) → Closed t → desk_body t (body_of m) ≡ (t, refused_line Refusal.NotOpen)
  pub four : (t : method.Table) (n : ℕ) (fs : List ℕ) → InRange (opening n fs) → ¬ Closed t → desk_body t (body_of (opening n fs)) ≡ (t, refused_line Refusal.OutOfTurn)

-- each message is one call, but for the two on orders, of which Demand3 speaks
abbrev pub call_of : Message → Option Call
call_of (opening n fs) = Some (open_with n fs)
call_of (beginning s) = Some (begin s)
call_of (ticketing n s k) = Some (report_ticket n s k)
call_of (preparing n s) = Some (report_prepared n s)
call_of (aborting n) = Some (abort n)
call_of (deciding n) = Some (decide n)
call_of (forgetting n) = Some (forget n)
call_of sweeping = Some sweep
call_of (proposing ns) = None
call_of ordering = None

-- its body leaves the table that the call leaves, and its line says the call's answer
abbrev pub Serves : Type 0
Serves = (t : method.Table) (m : Message) (c : Call) → InRange m → call_of m ≡ Some c → desk_body t (body_of m) ≡ ((step t c).table, answer_line (step t c).answer)

-- the lines that the service writes for all that it reads, from a table on
abbrev pub lines_for : method.Table → List ℕ → List Line
lines_for t l = lines_of t (stream_of l)

pub record Lines : Type 0 where
  -- what is read is empty, or has a frame in front, or is an 11: bad, or cut at the end of input
  pub ways : (l : List ℕ) → (l ≡ []) ⊎ (((b : List ℕ) × (r : List ℕ) × (length b ≤ 160) × (l ≡ frame_of b ++ r)) ⊎ (Bad l ⊎ Cut l))
  -- nothing left writes nothing; a message gets one line and reading goes on behind it, after 10 too; 11 is the last line
  pub nothing : (t : method.Table) → lines_for t [] ≡ []
  pub message : (t : method.Table) (b r : List ℕ) → length b ≤ 160 → lines_for t (frame_of b ++ r) ≡ (desk_body t b).1 ∷ lines_for (desk_body t b).0 r
  pub ten : (t : method.Table) (b r : List ℕ) → length b ≤ 160 → Below 256 b → NoBody b → lines_for t (frame_of b ++ r) ≡ refused_line Refusal.BadBody ∷ lines_for t r
  pub eleven : (t : method.Table) (l : List ℕ) → Bad l ⊎ Cut l → lines_for t l ≡ refused_line Refusal.BadFrame ∷ []
  -- each is one line of text, and the bytes of all of them determine them
  pub text : (x : Line) → OneLine (line_bytes x)
  pub lines : (xs ys : List Line) → output_bytes xs ≡ output_bytes ys → xs ≡ ys
  -- for every way to cut a stream into pieces, and every room in the buffer at each turn, the bytes are those of the whole
  pub pieces : (ps : List (List ℕ × ℕ)) (t : method.Table) → in_pieces ps t [] ≡ output_bytes (lines_for t (joined ps))
  -- the same of what one turn gives, with what may still come: it wrote the first bytes of all that is to be written, and the table and
  -- the input that it leaves are answered with the others
  pub turns : (t : Table) (input : List ℕ) (last : Bool) (out : List ℕ) (r : Turn) (after more : List ℕ) → TurnGives t input last out r after → (last ≡ true → more ≡ [])
      → output_bytes (lines_for t.held (input ++ more)) ≡ take r.written after ++ cond r.over [] (output_bytes (lines_for r.table.held (drop r.used input ++ more)))
  -- and it stops only where the longest line might not fit, or no whole message is left
  pub prompt : (t : Table) (input : List ℕ) (last : Bool) (out : List ℕ) (r : Turn) (after : List ℕ) → TurnGives t input last out r after → r.over ≡ false
      → (length out < r.written + 358) ⊎ ((drop r.used input ≡ []) ⊎ (Cut (drop r.used input) × (last ≡ false)))
