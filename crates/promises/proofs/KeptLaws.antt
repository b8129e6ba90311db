-- The kept rows of a run at the desk, and so in all lines of the service. Assumes nothing.
use mathlib.Core.Path.{◌≡◌, refl, sym}
use mathlib.Core.List.Memᴰ
use mathlib.Core.List.Memᴰ.{head as here}
use mathlib.Core.List.Memᴰ.{tail as there}
use mathlib.Core.List.{List, ◌∷◌, map}
use Prim.Native.Nat.{ℕ}
use Rattle.refusals.specs.declared.Refusal.{Refusal}
use Rattle.refusals.specs.Numbers.{number_of}
use Rattle.lines.specs.declared.Words.{Words}
use Rattle.graph.specs.Lists.{◌∈◌}
use Rattle.orders.specs.Entries.{entries_in}
use Rattle.orders.specs.Good.{GoodRows}
use Rattle.orders.specs.Order.{InOrder}
use Rattle.std.proofs.Common.{Option, Some, None}
use Rattle.wire.specs.Message.{Message}
use Rattle.wire.specs.Body.{message_of}
use Rattle.frames.specs.Stream.{Stream, ended, cut_off, framed}
use Rattle.lines.specs.Line.{Line.say, refused_line}
use Rattle.method.specs.Slots.{kept_entries, kept_flat}
use Rattle.method.specs.Calls.{call_refusals}
use Rattle.runs.specs.Run.{Run, Run.call, after}
use Rattle.runs.specs.History.{history}
use Rattle.runs.proofs.HistoryLaws.{invariant_run}
use Rattle.invariant.proofs.KeptLaws.{rows_of_kept, kept_good, kept_ordered}
use Rattle.replies.specs.Desk.{Asks, Asks.calls, Asks.proposes, Asks.wants_order, asks_for, reply_to, desk, desk_read, desk_body}
use Rattle.turns.specs.Lines.{lines_of}
use Rattle.replies.proofs.RefusalLaws.{number_told, listed_of_number}
use Rattle.replies.proofs.OrderedLaws.{body_listed}

-- the table of the service is at each message the table after some run of calls
pub desk_run : (r : Run) (b : List ℕ) → (q : Run) × ((desk_body (after r) b).0 ≡ after q)
unfolding desk after
desk_run r b = go (message_of b)
  where
    reply : (a : Asks) → (q : Run) × ((reply_to (after r) a).0 ≡ after q)
    reply (calls c) = (call r c, refl)
    reply (proposes ns) = (r, refl)
    reply wants_order = (r, refl)

    go : (o : Option Message) → (q : Run) × ((desk_read (after r) o).0 ≡ after q)
    go None = (r, refl)
    go (Some m) = reply (asks_for m)

module _ (r : Run) where
  pub run_good : GoodRows (kept_flat (after r))
  run_good = kept_good (after r) (history r) (invariant_run r)

  pub run_rows : entries_in (kept_flat (after r)) ≡ kept_entries (after r)
  run_rows = rows_of_kept (after r) (history r) (invariant_run r)

  pub run_ordered : (o : List ℕ) × InOrder (kept_entries (after r)) o
  run_ordered = kept_ordered (after r) (history r) (invariant_run r)

  pub flat_ordered : (o : List ℕ) × InOrder (entries_in (kept_flat (after r))) o
  flat_ordered = rw run_rows run_ordered

-- of any number that a line tells as a refusal's
pub never_told : (r : Run) (b : List ℕ) (k : ℕ) → (desk_body (after r) b).1 ≡ say (Words.Refused k) → k ∈ map number_of (Refusal.BadBody ∷ call_refusals)
never_told r b k = body_listed (after r) (run_good r) (flat_ordered r) k b

pub never_in_lines : (s : Stream) (r : Run) (k : ℕ) → say (Words.Refused k) ∈ lines_of (after r) s → k ∈ map number_of (Refusal.BadFrame ∷ Refusal.BadBody ∷ call_refusals)
unfolding lines_of
never_in_lines ended r k i = absurd (Memᴰ.not-nil i)
never_in_lines (cut_off l) r k (here e) = here (number_told Refusal.BadFrame k (sym e))
never_in_lines (cut_off l) r k (there i) = absurd (Memᴰ.not-nil i)
never_in_lines (Stream.refused l) r k (here e) = here (number_told Refusal.BadFrame k (sym e))
never_in_lines (Stream.refused l) r k (there i) = absurd (Memᴰ.not-nil i)
never_in_lines (framed b s) r k (here e) = there (never_told r b k (sym e))
never_in_lines (framed b s) r k (there i) = let (q, e) = desk_run r b in never_in_lines s q k (rw e at i)

-- the same of the line of a refusal
pub refusal_in_lines : (s : Stream) (r : Run) (k : Refusal) → refused_line k ∈ lines_of (after r) s → k ∈ Refusal.BadFrame ∷ Refusal.BadBody ∷ call_refusals
refusal_in_lines s r k i = listed_of_number (Refusal.BadFrame ∷ Refusal.BadBody ∷ call_refusals) k (never_in_lines s r (number_of k) i)
