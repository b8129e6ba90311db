-- The promises of demand 3, each from laws further down. Assumes nothing.
use mathlib.Core.Path.{◌≡◌, refl, sym, ap, ◌∙◌}
use mathlib.Core.Bool.{true≢false}
use mathlib.Core.Logic.{◌↔◌, ◌≢◌}
use Prim.Native.Nat.{ℕ}
use lib.Dec.{eqb}
use borrow.Author.Tests.{eq-eqb}
use Rattle.orders.specs.Entries.{entries_in}
use Rattle.orders.specs.Good.{GoodRows}
use Rattle.orders.specs.Order.{InOrder}
use Rattle.orders.specs.Reply.{Reply, check_reply, write_reply}
use Rattle.orders.specs.Write.{Written}
use Rattle.orders.specs.CCall.{GoodBytes, OrderBytes, call_result}
use Rattle.std.specs.Prelude.{true, false, Ok, Err}
use Rattle.refusals.specs.declared.Refusal.{Refusal}
use Rattle.orders.proofs.ReplyLaws.{check_reply_injective, write_reply_injective, checked_of_result}
use Rattle.orders.proofs.WriteLaws.{write_result_lem}
use Rattle.orders.proofs.CCallLaws.{call_result_lem}
use Rattle.method.proofs.RecordLaws.{never}
use Rattle.frames.specs.Stream.{stream_of}
use Rattle.runs.specs.Run.{Run.start, after}
use Rattle.runs.proofs.HistoryLaws.{history_apart, history_ordered}
use Rattle.runs.proofs.ReportedLaws.{history_commits, history_reported}
use Rattle.promises.specs.Demand3.{OrderCheck, CCall, OrderWriter, History, KeptRows, NeverInStream}
use Rattle.orders.proofs.WriteIffLaws.{bad_written, no_room_written, no_order_written, wrote_written, written_of_order}
use Rattle.orders.proofs.JudgedIffLaws.{bad_iff, yes_iff, no_iff}
use Rattle.replies.proofs.OrderedLaws.{desk_order, proposal_iff}
use Rattle.promises.proofs.KeptLaws.{run_good, run_rows, run_ordered, flat_ordered, never_told, never_in_lines}

-- an answer by its reply
by_reply : {A B : Type 0} {P : Type 0} (f : A → B) → ((a b : A) → f a ≡ f b → a ≡ b) → (r x : A) → (f r ≡ f x) ↔ P → (r ≡ x) ↔ P
by_reply f inj r x h = (λ e. h.0 (ap f e), λ p. inj r x (h.1 p))

pub order_check : OrderCheck
order_check flat o r g =
    let j = checked_of_result flat o r g in
    let by : Reply.refused 13 ≢ Reply.yes = λ e. never (cc) in
    let bn : Reply.refused 13 ≢ Reply.no = λ e. never (cc) in
    let yn : Reply.yes ≢ Reply.no = λ e. never (cc) in
    record {
      bad = by_reply check_reply check_reply_injective r (Err Refusal.BadRows) (bad_iff (Reply.refused 13) Reply.yes Reply.no by bn yn (GoodRows flat) (InOrder (entries_in flat) o) (check_reply r) j);
      yes = by_reply check_reply check_reply_injective r (Ok true) (yes_iff (Reply.refused 13) Reply.yes Reply.no by bn yn (GoodRows flat) (InOrder (entries_in flat) o) (check_reply r) j);
      no = by_reply check_reply check_reply_injective r (Ok false) (no_iff (Reply.refused 13) Reply.yes Reply.no by bn yn (GoodRows flat) (InOrder (entries_in flat) o) (check_reply r) j);
    }

differ : (a b : ℕ) → eqb a b ≡ false → a ≢ b
differ a b e f = true≢false (sym (eq-eqb a b f) ∙ e)

pub c_call : CCall
c_call rows o n g =
    let j = call_result_lem rows o in
    let by = differ 13 1 refl in
    let bn = differ 13 0 refl in
    let yn = differ 1 0 refl in
    rw g (record {
      bad = bad_iff 13 1 0 by bn yn (GoodBytes rows) (OrderBytes rows o) (call_result rows o) j;
      yes = yes_iff 13 1 0 by bn yn (GoodBytes rows) (OrderBytes rows o) (call_result rows o) j;
      no = no_iff 13 1 0 by bn yn (GoodBytes rows) (OrderBytes rows o) (call_result rows o) j;
    })

pub order_writer : OrderWriter
order_writer flat place out r after g =
    let w : Written flat place out (write_reply r) after = rw (g.0, g.1) (write_result_lem flat place out) in
    record {
      bad = by_reply write_reply write_reply_injective r (Err Refusal.BadRows) (bad_written flat place out (write_reply r) after w);
      no_room = by_reply write_reply write_reply_injective r (Err Refusal.NoRoom) (no_room_written flat place out (write_reply r) after w);
      no_order = by_reply write_reply write_reply_injective r (Err Refusal.NoOrder) (no_order_written flat place out (write_reply r) after w);
      wrote = (
        λ x. let (a, b, c) = wrote_written flat place out (write_reply r) after w x.0 (ap write_reply x.1) in (a, b, (c.0, c.2)),
        λ x. let (n, e) = written_of_order flat place out (write_reply r) after w x.0 x.1 x.2 in (n, write_reply_injective r (Ok n) e),
      );
      order = λ n e. (wrote_written flat place out (write_reply r) after w n (ap write_reply e)).2;
    }

pub history : History
history r = record { commits = history_commits r; tickets = history_reported r; apart = history_apart r; ordered = history_ordered r }

pub kept_rows : KeptRows
kept_rows r = record {
  rows = run_rows r;
  good = run_good r;
  ordered = run_ordered r;
  never = λ b k e. never_told r b k e;
  order = λ nc. rw (run_rows r) at (desk_order (after r) (run_good r) (flat_ordered r) nc);
  proposal = λ ns nc. rw (run_rows r) at (proposal_iff (after r) (run_good r) (flat_ordered r) nc ns).0;
  refusal = λ ns nc. rw (run_rows r) at (proposal_iff (after r) (run_good r) (flat_ordered r) nc ns).1;
}

pub never_in_stream : NeverInStream
unfolding after
never_in_stream l k = never_in_lines (stream_of l) start k
