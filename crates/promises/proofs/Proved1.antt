-- The promises of demand 1, each from laws further down. Assumes nothing.
use mathlib.Core.Path.{◌≡◌, refl, sym, ap, ◌∙◌}
use mathlib.Core.List.{List, [], ◌∷◌, ◌++◌}
use mathlib.Core.Logic.{◌↔◌, ◌⊎◌, inl, inr}
use Rattle.std.proofs.Common.{Some, Result, Ok, Err}
use Rattle.std.proofs.lemmas.Option.{none-some, same_Some}
use Rattle.refusals.specs.declared.Refusal.{Refusal}
use Rattle.refusals.specs.Numbers.{told_by}
use Prim.Native.Nat.{ℕ, ◌+◌, ◌≤◌}
use lib.ListN.{length, take, drop}
use lib.Seq.{take_at}
use borrow.Author.Tests.{lt-leb}
use Rattle.endian.specs.Laid.{laid}
use Rattle.orders.specs.Reply.{Reply}
use Rattle.orders.specs.Write.{Written, Written.bad, Written.no_room, Written.no_order, Written.written}
use Rattle.orders.proofs.WriteLaws.{write_result_lem}
use Rattle.wire.specs.Message.{Message, opening, beginning, ticketing, preparing, aborting, deciding, forgetting, sweeping, proposing, ordering}
use Rattle.frames.specs.Frame.{Next, nothing, cut, bad, whole, frame_of, next_frame, Means, Bad, Cut}
use Rattle.frames.specs.Stream.{stream_of}
use Rattle.sending.specs.Writing.{write_answer, left_by}
use Rattle.wire.specs.Body.{message_of}
use Rattle.wire.specs.Answers.{body_answer, read_answer}
use Rattle.frames.specs.Answer.{frame_answer, FrameMeans}
use Rattle.wire.specs.Meaning.{BodyMeans, ReadMeans}
use Rattle.sending.specs.Meaning.{WriteMeans}
use Rattle.wire.proofs.BodyLaws.{message_of_body}
use Rattle.frames.proofs.FrameLaws.{means_next, next_of_means}
use Rattle.frames.proofs.StreamLaws.{stream_of_nothing, stream_of_cut, stream_of_bad, stream_of_whole}
use Rattle.wire.proofs.MeaningLaws.{body_means, body_of_means, read_means, read_of_means}
use Rattle.frames.proofs.AnswerLaws.{frame_means, frame_of_means}
use Rattle.sending.proofs.MeaningLaws.{write_means, write_of_means}
use Rattle.lines.specs.Line.{refused_line}
use Rattle.lines.proofs.LineLaws.{one_line}
use Rattle.lines.proofs.ReadingLaws.{output_bytes_injective}
use Rattle.method.specs.declared.Table as method
use Rattle.method.specs.Calls.{Call}
use Rattle.method.specs.Calls.Call.{open_with, begin, report_ticket, report_prepared, abort, decide, forget, sweep}
use Rattle.method.proofs.RecordLaws.{never}
use Rattle.method.proofs.CallLaws.{refused_keeps as step_Keeps, refused_exactly as step-refused}
use Rattle.runs.proofs.FollowLaws.{follows, unknown_iff_over}
use Rattle.table.specs.Shut.{shut_table}
use Rattle.replies.specs.Desk.{Asks, Asks.calls, asks_for, reply_to, desk, desk_body}
use Rattle.turns.specs.Lines.{lines_of}
use Rattle.turns.specs.Turn.{turn}
use Rattle.turns.proofs.PieceLaws.{turn_rest, pieces_whole}
use Rattle.turns.proofs.PromptLaws.{turn_stops}
use Rattle.promises.specs.Demand1.{call_of, Serves, Answered, RefusedKeeps, RefusedExactly, lines_for, Lines}
use Rattle.promises.proofs.AnsweredLaws.{step_answered}
use Rattle.replies.proofs.RefusalLaws.{body_keeps, ten_iff, desk_of_none, one_of_closed, four_of_open}

pub answered : Answered
answered t c a u (e, f) = rw e (step_answered t.held c)

-- refusals change nothing
order_keeps : (flat : List ℕ) (place : ℕ) (out : List ℕ) (r : Reply) (after : List ℕ) → Written flat place out r after → (k : ℕ) → r ≡ Reply.refused k → after ≡ out
order_keeps flat place out r after (bad e f g) k h = f
order_keeps flat place out r after (no_room e f g i) k h = f
order_keeps flat place out r after (no_order e f g i j) k h = f
order_keeps flat place out r after (written o e f g i j l) k h = never (cc)

message_keeps : (b out : List ℕ) (place : ℕ) (r : Result ℕ Refusal) (k : ℕ) → told_by r ≡ Some k → left_by r b out place ≡ out
message_keeps b out place (Ok n) k e = absurd (none-some k e)
message_keeps b out place (Err q) k e = refl

pub refused_keeps : RefusedKeeps
refused_keeps = record {
  calls = λ t c a u g k e. g.1 ∙ ap shut_table (step_Keeps t.held c k (sym g.0 ∙ e));
  orders = λ flat place out r after g k e. order_keeps flat place out _ after (rw g.1 (write_result_lem flat place out)) k (sym g.0 ∙ e);
  messages = λ b out place r after g k e. g.1 ∙ message_keeps b out place (write_answer b out place) k (rw g.0 at e);
  roomless = λ t b out place r after g h. let e = lt-leb (place + 358) (length out) h in (g.0 ∙ rw e, g.1 ∙ rw e, g.2 ∙ rw e);
  served = λ t b k. body_keeps t k b;
}

-- an answer that fits, and no second one does, is the answer exactly if it fits
exactly : {A : Type 0} (Means : A → Type 0) (r x : A) → Means r → ((y : A) → Means y → r ≡ y) → (x ≡ r) ↔ Means x
exactly Means r x h f = (λ e. rw e h, λ m. sym (f x m))

pub refused_exactly : RefusedExactly
refused_exactly = record {
  calls = λ t c a u g k. rw g.0 (step-refused t.held c k);
  unknown = unknown_iff_over;
  used_up = λ r first floors o. let e = (follows r).sequence first floors o in (λ u. sym e ∙ u, λ u. e ∙ u);
  bodies = λ b r w g x. rw g (exactly (BodyMeans b) (body_answer (message_of b)) x (body_means b w) (body_of_means b w));
  frames = λ l r g x. rw g (exactly (FrameMeans l) (frame_answer (next_frame l)) x (frame_means l) (frame_of_means l));
  reads = λ l r w g x. rw g (exactly (ReadMeans l) (read_answer (next_frame l)) x (read_means l w) (read_of_means l w));
  writes = λ b out place r after w g x. rw g.0 (exactly (WriteMeans b out place) (write_answer b out place) x (write_means b out place w) (write_of_means b out place w));
  ten = ten_iff;
  one = one_of_closed;
  four = four_of_open;
}

asks_of_call : (m : Message) (c : Call) → call_of m ≡ Some c → asks_for m ≡ calls c
asks_of_call (opening n fs) c e = ap {B = Asks} calls (same_Some (open_with n fs) c e)
asks_of_call (beginning s) c e = ap {B = Asks} calls (same_Some (begin s) c e)
asks_of_call (ticketing n s k) c e = ap {B = Asks} calls (same_Some (report_ticket n s k) c e)
asks_of_call (preparing n s) c e = ap {B = Asks} calls (same_Some (report_prepared n s) c e)
asks_of_call (aborting n) c e = ap {B = Asks} calls (same_Some (abort n) c e)
asks_of_call (deciding n) c e = ap {B = Asks} calls (same_Some (decide n) c e)
asks_of_call (forgetting n) c e = ap {B = Asks} calls (same_Some (forget n) c e)
asks_of_call sweeping c e = ap {B = Asks} calls (same_Some sweep c e)
asks_of_call (proposing ns) c e = absurd (none-some c e)
asks_of_call ordering c e = absurd (none-some c e)

pub serves : Serves
unfolding desk
serves t m c h e = rw (message_of_body m h) (ap (reply_to t) (asks_of_call m c e))

-- the lines of a stream, by what stands in front
lines_of_whole : (t : method.Table) (b r : List ℕ) → length b ≤ 160 → lines_for t (frame_of b ++ r) ≡ (desk_body t b).1 ∷ lines_for (desk_body t b).0 r
unfolding lines_of
lines_of_whole t b r h = rw (stream_of_whole (frame_of b ++ r) b r (next_of_means (frame_of b ++ r) (whole b r) (record { bytes = refl; short = h })))

lines_of_eleven : (t : method.Table) (l : List ℕ) → Bad l ⊎ Cut l → lines_for t l ≡ refused_line Refusal.BadFrame ∷ []
unfolding lines_of
lines_of_eleven t l (inl h) = rw (stream_of_bad l (next_of_means l bad h))
lines_of_eleven t l (inr h) = rw (stream_of_cut l (next_of_means l cut h))

lines_of_nothing : (t : method.Table) → lines_for t [] ≡ []
unfolding lines_of
lines_of_nothing t = rw (stream_of_nothing [] (next_of_means [] nothing refl))

ways_of : (l : List ℕ) → (l ≡ []) ⊎ (((b : List ℕ) × (r : List ℕ) × (length b ≤ 160) × (l ≡ frame_of b ++ r)) ⊎ (Bad l ⊎ Cut l))
ways_of l = go (next_frame l) (means_next l)
  where
    go : (x : Next) → Means l x → (l ≡ []) ⊎ (((b : List ℕ) × (r : List ℕ) × (length b ≤ 160) × (l ≡ frame_of b ++ r)) ⊎ (Bad l ⊎ Cut l))
    go nothing m = inl m
    go cut m = inr (inr (inr m))
    go bad m = inr (inr (inl m))
    go (whole b r) m = inr (inl (b, r, m.short, m.bytes))

-- what a turn laid down at the front of the buffer
front : (out w : List ℕ) → take (length w) (laid out 0 w) ≡ w
front out w = take_at w (drop (0 + length w) out) (length w) refl

pub lines : Lines
lines = record {
  ways = ways_of;
  nothing = lines_of_nothing;
  message = lines_of_whole;
  ten = λ t b r h w n. rw (desk_of_none t b w n) at (lines_of_whole t b r h);
  eleven = lines_of_eleven;
  text = one_line;
  lines = output_bytes_injective;
  pieces = λ ps t. pieces_whole ps t [];
  turns = λ t input last out r after more g h.
      rw (g.0, g.1, g.2, g.3, g.4, front out (turn last t.held (length out) (stream_of input)).written) (turn_rest last t.held (length out) input more h);
  prompt = λ t input last out r after g e. rw (g.1, g.2) (turn_stops last t.held (length out) input (sym g.3 ∙ e));
}
