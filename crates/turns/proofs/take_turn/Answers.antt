-- `turns::take_turn` meets its contract: the lines so far are in front of the buffer, and the rest of the turn is what a turn over the
-- rest of the input is. Assumes nothing.
use mathlib.Core.Path.{◌≡◌, refl, sym, ◌∙◌, ap, subst}
use mathlib.Core.Bool.{Bool, true, false, cond, not, ◌&&◌}
use mathlib.Core.List.{List}
use Prim.Native.Nat.{ℕ, ◌+◌, ◌-◌, ◌^◌, ◌<◌, ◌≤◌}
use native.Mathlib.Omega.{arith}
use Rattle.std.proofs.Common.{rules}
use Rattle.std.specs.Prelude.{Some}
use lib.Dec.{eqb}
use lib.ListN.{length, take, drop, length-drop}
use Rattle.endian.proofs.PartLaws.{part_is}
use Rattle.endian.specs.Laid.{laid}
use Rattle.frames.specs.Frame.{next_frame, body_to, EndsAt}
use Rattle.std.proofs.Common.{Ok, None}
use Rattle.frames.specs.Stream.{stream_of}
use Rattle.frames.specs.Answer.{frame_answer, FrameMeans}
use Rattle.frames.proofs.AnswerLaws.{frame_means}
use Rattle.method.specs.declared.Table.{Table}
use Rattle.replies.specs.Desk.{desk_body}
use Rattle.desk.specs.Served.{bytes_for, served_table, served_count, served_out}
use Rattle.turns.specs.Turn.{Turned, turn, stops, ends, eleven}
use Rattle.turns.proofs.RoomLaws.{served_room, laid_fits}
use Rattle.turns.proofs.TurnLaws.{Going, Ended, going_start, going_stops, going_ends, going_frame, turn_no_room, turn_bad, turn_not_yet, used_le, clauses}
use Rattle.turns.proofs.take_turn.Goals.{After-read_frame, After-serve-s, In-Ok-Some}
use Rattle.turns.proofs.take_turn.Goals as goal

-- where a frame was looked for
module _ (c : After-read_frame) where
  abbrev input : List ℕ
  input = c.args.input.now

  abbrev out : List ℕ
  out = c.args.out.now

  abbrev last : Bool
  last = c.args.last

  abbrev first : Table
  first = c.args.t.held

  abbrev used : ℕ
  used = c.loop-out.used

  abbrev written : ℕ
  written = c.loop-out.written

  long : length input < 2 ^ 64
  long = c.well_formed.1.0.0

  wide : length out < 2 ^ 64
  wide = c.well_formed.1.1.1.0.0

  going : Going last first input out c.loop-out.table.held used c.loop-out.out written
  going = c.loop-out.invariant.1

  room : 358 ≤ length out - written
  room = omega (arith, c.loop-out.invariant.0)

  rest : take (length input - used) (drop used input) ≡ drop used input
  rest = part_is input used going.inside

  answer : c.read_frame.result ≡ frame_answer (next_frame (drop used input))
  answer = c.read_frame.ensures ∙ ap (λ l. frame_answer (next_frame l)) rest

  abbrev held_now : Table
  held_now = c.loop-out.table.held

  abbrev on_rest : Turned
  on_rest = turn last held_now (length out - written) (stream_of (drop used input))

  abbrev whole_turn : Turned
  whole_turn = turn last first (length out) (stream_of input)

  within_input : whole_turn.used ≤ length input
  within_input = used_le last first (length out) input

  -- no whole frame: by what the code asks then
  waits : (b : Bool) → frame_answer (next_frame (drop used input)) ≡ Ok None → last && not (eqb (length (take (length input - used) (drop used input))) 0) ≡ b → on_rest ≡ cond b (ends held_now) (stops held_now)
  waits b e f =
      turn_not_yet last held_now (length out - written) room (drop used input) e
      ∙ ap (λ x. cond x (ends held_now) (stops held_now)) (ap (λ l. last && not (eqb (length l) 0)) (sym rest) ∙ f)

  stopping : on_rest ≡ stops held_now → Ended whole_turn out held_now used written false c.loop-out.out
  stopping = going_stops last first input out held_now used c.loop-out.out written going

  ending : on_rest ≡ ends held_now → Ended whole_turn out held_now used (written + length eleven) true (laid c.loop-out.out written eleven)
  ending = going_ends last first input out held_now used c.loop-out.out written going

-- where a frame was found; `an` is what was answered there
module _ (c : In-Ok-Some) (an : c.read_frame.result ≡ frame_answer (next_frame (drop c.loop-out.used c.args.input.now))) where
  frame : EndsAt c.in-Ok-Some.end (drop c.loop-out.used c.args.input.now)
  frame = subst (FrameMeans (drop c.loop-out.used c.args.input.now)) (sym an ∙ c.in-Ok-Some.is ∙ ap Ok c.in-Ok-Some.field-0-is) (frame_means (drop c.loop-out.used c.args.input.now))

  within : c.loop-out.used + c.in-Ok-Some.end ≤ length c.args.input.now
  within = omega (arith, frame.within, length-drop c.loop-out.used c.args.input.now, c.loop-out.invariant.1.inside)

-- where it was answered; `fr` is the frame, and `re` what the rest is
module _ (c : After-serve-s) (fr : EndsAt c.in-Ok-Some.end (drop c.loop-out.used c.args.input.now)) (re : take (length c.args.input.now - c.loop-out.used) (drop c.loop-out.used c.args.input.now) ≡ (drop c.loop-out.used c.args.input.now)) where
  abbrev body : List ℕ
  body = body_to c.in-Ok-Some.end (drop c.loop-out.used c.args.input.now)

  abbrev line : List ℕ
  line = bytes_for c.loop-out.table.held body

  space : 358 ≤ length c.args.out.now - c.loop-out.written
  space = omega (arith, c.loop-out.invariant.0)

  roomy : c.loop-out.written + 358 ≤ length c.loop-out.out
  roomy = omega (arith, space, c.loop-out.invariant.0)

  body_is : take (c.in-Ok-Some.end - 3) (drop 3 (take (length c.args.input.now - c.loop-out.used) (drop c.loop-out.used c.args.input.now))) ≡ body
  body_is = ap (λ l. take (c.in-Ok-Some.end - 3) (drop 3 l)) re

  table_is : c.serve-s.result.table.held ≡ (desk_body c.loop-out.table.held body).0
  table_is =
      ap (λ t. t.held) c.serve-s.ensures.table
      ∙ ap (λ b. served_table c.loop-out.table.held b c.loop-out.out c.loop-out.written) body_is
      ∙ (served_room c.loop-out.table.held body c.loop-out.out c.loop-out.written roomy).0

  count_is : c.serve-s.result.count ≡ Some (length line)
  count_is =
      c.serve-s.ensures.count
      ∙ ap (λ b. served_count c.loop-out.table.held b c.loop-out.out c.loop-out.written) body_is
      ∙ (served_room c.loop-out.table.held body c.loop-out.out c.loop-out.written roomy).1

  written_is : (n : ℕ) → c.serve-s.result.count ≡ Some n → n ≡ length line
  written_is n e = cc (e, count_is)

  buffer_is : c.serve-s.new.out ≡ laid c.loop-out.out c.loop-out.written line
  buffer_is =
      c.serve-s.ensures.buffer
      ∙ ap (λ b. served_out c.loop-out.table.held b c.loop-out.out c.loop-out.written) body_is
      ∙ (served_room c.loop-out.table.held body c.loop-out.out c.loop-out.written roomy).2

  fits : c.loop-out.written + length line ≤ length c.loop-out.out
  fits = laid_fits c.loop-out.out line c.loop-out.written (omega (arith, roomy)) (ap length (sym buffer_is) ∙ c.serve-s.auto.out)

  on : (n : ℕ) → n ≡ length line → Going c.args.last c.args.t.held c.args.input.now c.args.out.now c.serve-s.result.table.held (c.loop-out.used + c.in-Ok-Some.end) c.serve-s.new.out (c.loop-out.written + n)
  on n count =
      let G : Table → List ℕ → ℕ → Type 0 = λ t o n. Going c.args.last c.args.t.held c.args.input.now c.args.out.now t (c.loop-out.used + c.in-Ok-Some.end) o n in
      let same = c.loop-out.invariant.0 in
      let g = going_frame c.args.last c.args.t.held c.args.input.now c.args.out.now c.loop-out.table.held c.loop-out.used c.loop-out.out c.loop-out.written c.loop-out.invariant.1 space c.in-Ok-Some.end fr (omega (arith, fits, same)) in
      subst (λ t. G t c.serve-s.new.out (c.loop-out.written + n)) (sym table_is)
      (subst (λ o. G (desk_body c.loop-out.table.held body).0 o (c.loop-out.written + n)) (sym buffer_is)
      (subst (λ m. G (desk_body c.loop-out.table.held body).0 (laid c.loop-out.out c.loop-out.written line) (c.loop-out.written + m)) (sym count) g))

pub loop-out-init : goal.loop-out-init
loop-out-init c = let a = c.args in (refl, going_start a.last a.t.held a.input.now a.out.now)

pub slice_bounds-serve-end : goal.slice_bounds-serve-end
slice_bounds-serve-end c = let w = goal.at.slice_bounds-serve-end c in let q = w.After-read_frame in let fr = frame w.In-Ok-Some (answer q) in rw (rest q) fr.within

pub unwrap-written-requires : goal.unwrap-written-requires
unwrap-written-requires c =
    let w = goal.at.unwrap-written-requires c in let q = w.After-read_frame in let fr = frame w.In-Ok-Some (answer q) in
    let e = count_is w.After-serve-s fr (rest q) in search (rules, e)

pub overflow_add-written : goal.overflow_add-written
overflow_add-written c =
    let w = goal.at.overflow_add-written c in let q = w.After-read_frame in let fr = frame w.In-Ok-Some (answer q) in
    omega (arith, written_is w.After-serve-s fr (rest q) c.unwrap-written.result c.unwrap-written.ensures, fits w.After-serve-s fr (rest q), wide q, c.loop-out.invariant.0)

pub overflow_add-used : goal.overflow_add-used
overflow_add-used c =
    let w = goal.at.overflow_add-used c in let q = w.After-read_frame in let fr = frame w.In-Ok-Some (answer q) in
    omega (arith, within w.In-Ok-Some (answer q), long q)

pub loop-out-smaller : goal.loop-out-smaller
loop-out-smaller c =
    let w = goal.at.loop-out-smaller c in let q = w.After-read_frame in let fr = frame w.In-Ok-Some (answer q) in
    omega (arith, within w.In-Ok-Some (answer q), fr.start)

pub loop-out-preserved : goal.loop-out-preserved
loop-out-preserved c =
    let w = goal.at.loop-out-preserved c in let q = w.After-read_frame in let fr = frame w.In-Ok-Some (answer q) in
    (c.serve-s.auto.out ∙ c.loop-out.invariant.0, on w.After-serve-s fr (rest q) c.unwrap-written.result (written_is w.After-serve-s fr (rest q) c.unwrap-written.result c.unwrap-written.ensures))

pub returns-then-last-rest : goal.returns-then-last-rest
returns-then-last-rest c =
    let q = (goal.at.returns-then-last-rest c).After-read_frame in
    let l = c.last_line in
    let r = clauses (whole_turn q) (input q) (out q) _ _ _ _ _ (ending q (waits q true (sym (answer q) ∙ c.in-Ok-None.is ∙ ap Ok c.in-Ok-None.field-0-is) c.if-last-rest.true)) (within_input q) l.result l.ensures.answer _ l.ensures.buffer (l.auto.out ∙ c.loop-out.invariant.0) in
    record { table = r.0; used = r.1.0; written = r.1.1.0; over = r.1.1.1.0; buffer = r.1.1.1.1.0; within = r.1.1.1.1.1 }

pub returns-in-Ok-None : goal.returns-in-Ok-None
returns-in-Ok-None c =
    let q = (goal.at.returns-in-Ok-None c).After-read_frame in
    let r = clauses (whole_turn q) (input q) (out q) _ _ _ _ _ (stopping q (waits q false (sym (answer q) ∙ c.in-Ok-None.is ∙ ap Ok c.in-Ok-None.field-0-is) c.if-last-rest.false)) (within_input q) _ refl _ refl c.loop-out.invariant.0 in
    record { table = r.0; used = r.1.0; written = r.1.1.0; over = r.1.1.1.0; buffer = r.1.1.1.1.0; within = r.1.1.1.1.1 }

pub returns-in-Err : goal.returns-in-Err
returns-in-Err c =
    let q = (goal.at.returns-in-Err c).After-read_frame in
    let l = c.last_line-in-Err in
    let r = clauses (whole_turn q) (input q) (out q) _ _ _ _ _ (ending q (turn_bad _ _ _ (room q) _ _ (sym (answer q) ∙ c.in-Err.is))) (within_input q) l.result l.ensures.answer _ l.ensures.buffer (l.auto.out ∙ c.loop-out.invariant.0) in
    record { table = r.0; used = r.1.0; written = r.1.1.0; over = r.1.1.1.0; buffer = r.1.1.1.1.0; within = r.1.1.1.1.1 }

pub returns : goal.returns
returns c =
    let a = c.args in
    let e = turn_no_room a.last c.loop-out.table.held (length a.out.now - c.loop-out.written) (omega (arith, c.loop-out.invariant.0)) (stream_of (drop c.loop-out.used a.input.now)) in
    let r = clauses (turn a.last a.t.held (length a.out.now) (stream_of a.input.now)) a.input.now a.out.now _ _ _ _ _ (going_stops a.last a.t.held a.input.now a.out.now c.loop-out.table.held c.loop-out.used c.loop-out.out c.loop-out.written c.loop-out.invariant.1 e) (used_le a.last a.t.held (length a.out.now) a.input.now) _ refl _ refl c.loop-out.invariant.0 in
    record { table = r.0; used = r.1.0; written = r.1.1.0; over = r.1.1.1.0; buffer = r.1.1.1.1.0; within = r.1.1.1.1.1 }
