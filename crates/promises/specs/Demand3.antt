-- Demand 3: an order is accepted exactly by the rule, our writer gives one whenever one exists and there is room, and for every sequence
-- of calls an order exists for all committed since the opening, forgotten ones too. proofs/Proved3.antt has a proof of each.
use Rattle.std.specs.Prelude.{◌≡◌, List, ◌∷◌, map, ◌++◌, ◌↔◌, ℕ, ◌+◌, ◌<◌, length, take, drop, Bool, true, false, Result, Ok, Err}
use Rattle.graph.specs.Lists.{◌∈◌}
use Rattle.graph.specs.Smallest.{SmallestFirst}
use Rattle.orders.specs.Arrow.{ticket_at}
use Rattle.orders.specs.Entries.{Entry, number_of, EntryArrow, entries_in}
use Rattle.orders.specs.Good.{Apart, GoodRows}
use Rattle.orders.specs.Order.{InOrder}
use Rattle.orders.specs.Write.{Room}
use Rattle.orders.specs.CCall.{GoodBytes, OrderBytes}
use Rattle.refusals.specs.declared.Refusal.{Refusal}
use Rattle.refusals.specs.Numbers.{number_of as refusal_number}
use Rattle.method.specs.Records.{closed}
use Rattle.method.specs.Slots.{kept_entries, kept_flat}
use Rattle.method.specs.Conditions.{Closed}
use Rattle.method.specs.Calls.{call_refusals}
use Rattle.runs.specs.Run.{Run, after, Happened, TakesTicket, Commits}
use Rattle.runs.specs.History.{history}
use Rattle.wire.specs.Message.{proposing, ordering}
use Rattle.frames.specs.Stream.{stream_of}
use Rattle.lines.specs.declared.Words.{Words}
use Rattle.lines.specs.Line.{Line, Line.say, bad_line, good_line}
use Rattle.replies.specs.Desk.{desk, desk_body}
use Rattle.turns.specs.Lines.{lines_of}
use Rattle.promises.specs.Stated.{CheckGives, CCheckGives, WriteGives}

-- the check: 13 exactly for a bad table, and of a good one yes exactly for an order by the rule
pub record Checks (flat o : List ℕ) (r : Result Bool Refusal) : Type 0 where
  pub bad : (r ≡ Err Refusal.BadRows) ↔ (¬ GoodRows flat)
  pub yes : (r ≡ Ok true) ↔ (GoodRows flat × InOrder (entries_in flat) o)
  pub no : (r ≡ Ok false) ↔ (GoodRows flat × (¬ InOrder (entries_in flat) o))

abbrev pub OrderCheck : Type 0
OrderCheck = (flat o : List ℕ) (r : Result Bool Refusal) → CheckGives flat o r → Checks flat o r

-- the same check as a C program calls it, on any two lists of bytes
pub record CChecks (rows o : List ℕ) (n : ℕ) : Type 0 where
  pub bad : (n ≡ 13) ↔ (¬ GoodBytes rows)
  pub yes : (n ≡ 1) ↔ (GoodBytes rows × OrderBytes rows o)
  pub no : (n ≡ 0) ↔ (GoodBytes rows × (¬ OrderBytes rows o))

abbrev pub CCall : Type 0
CCall = (rows o : List ℕ) (n : ℕ) → CCheckGives rows o n → CChecks rows o n

-- some list is an order of the rows
abbrev pub HasOrder : List ℕ → Type 0
HasOrder flat = (o : List ℕ) × InOrder (entries_in flat) o

-- the writer: 13, 14 and 12 in this sequence, each exactly under its condition and with the buffer as before; else an order
pub record Writes (flat : List ℕ) (place : ℕ) (out : List ℕ) (r : Result ℕ Refusal) (after : List ℕ) : Type 0 where
  pub bad : (r ≡ Err Refusal.BadRows) ↔ (¬ GoodRows flat)
  pub no_room : (r ≡ Err Refusal.NoRoom) ↔ (GoodRows flat × (¬ Room flat place out))
  pub no_order : (r ≡ Err Refusal.NoOrder) ↔ (GoodRows flat × Room flat place out × (¬ HasOrder flat))
  pub wrote : ((n : ℕ) × (r ≡ Ok n)) ↔ (GoodRows flat × Room flat place out × HasOrder flat)
  -- what was written: an order, the smallest number that may stand there at each place, and every other entry as it was
  pub order : (n : ℕ) → r ≡ Ok n
      → (o : List ℕ) × (length o ≡ n) × InOrder (entries_in flat) o × SmallestFirst EntryArrow number_of (entries_in flat) o × (after ≡ take place out ++ (o ++ drop (place + n) out))

abbrev pub OrderWriter : Type 0
OrderWriter = (flat : List ℕ) (place : ℕ) (out : List ℕ) (r : Result ℕ Refusal) (after : List ℕ) → WriteGives flat place out r after → Writes flat place out r after

-- all that a run committed, forgotten ones too
pub record HistoryOf (r : Run) : Type 0 where
  -- a row for each commit answer and no other, with the tickets that were reported for it
  pub commits : (n : ℕ) → Happened (Commits n) r ↔ ((e : Entry) × (e ∈ history r) × (e.number ≡ n))
  pub tickets : (e : Entry) → e ∈ history r → (s k : ℕ) → 0 < k → (ticket_at e.tickets s ≡ k) ↔ Happened (TakesTicket e.number s k) r
  -- numbers differ, and so do the tickets of a site
  pub apart : Apart (history r)
  -- and there is an order of all of them
  pub ordered : (o : List ℕ) × InOrder (history r) o

abbrev pub History : Type 0
History = (r : Run) → HistoryOf r

-- the kept rows after a run, and what the service says of them
pub record KeptOf (r : Run) : Type 0 where
  -- they are a good ticket table and have an order
  pub rows : entries_in (kept_flat (after r)) ≡ kept_entries (after r)
  pub good : GoodRows (kept_flat (after r))
  pub ordered : (o : List ℕ) × InOrder (kept_entries (after r)) o
  -- so a message is never answered 12 or 13, nor 11 or 14, whatever it is: only 10 and what calls are refused with
  pub never : (b : List ℕ) (k : ℕ) → (desk_body (after r) b).1 ≡ say (Words.Refused k) → k ∈ map refusal_number (Refusal.BadBody ∷ call_refusals)
  -- an order is answered with an order, the smallest number first
  pub order : ¬ Closed (after r)
      → (o : List ℕ) × (desk (after r) ordering ≡ (after r, Line.order o)) × InOrder (kept_entries (after r)) o × SmallestFirst EntryArrow number_of (kept_entries (after r)) o
  -- a proposal is good exactly if it is an order, and else bad
  pub proposal : (ns : List ℕ) → ¬ Closed (after r) → (desk (after r) (proposing ns) ≡ (after r, good_line)) ↔ InOrder (kept_entries (after r)) ns
  pub refusal : (ns : List ℕ) → ¬ Closed (after r) → (desk (after r) (proposing ns) ≡ (after r, bad_line)) ↔ (¬ InOrder (kept_entries (after r)) ns)

abbrev pub KeptRows : Type 0
KeptRows = (r : Run) → KeptOf r

-- no line of the service is 12, 13 or 14, whatever bytes it reads: only 11, 10 and what calls are refused with
abbrev pub NeverInStream : Type 0
NeverInStream = (l : List ℕ) (k : ℕ) → say (Words.Refused k) ∈ lines_of closed (stream_of l) → k ∈ map refusal_number (Refusal.BadFrame ∷ Refusal.BadBody ∷ call_refusals)
