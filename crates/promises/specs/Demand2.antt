-- Demand 2: the table follows the published method step by step. proofs/Proved2.antt has a proof of each.
use Rattle.method.specs.Calls.{CallAnswer}
use Rattle.std.specs.Prelude.{◌≡◌, List, ◌∷◌, ◌++◌, ◌↔◌, ◌≢◌, ◌⊎◌, ℕ, ◌+◌, ◌≤◌, max, length, take, drop}
use Rattle.std.specs.Prelude.{Option, Some, Result, Ok}
use Rattle.graph.specs.Lists.{◌∈◌}
use Rattle.graph.specs.Path.{Cycle}
use Rattle.graph.specs.Reached.{Reached}
use Rattle.sites.specs.Sites.{sites_of}
use Rattle.method.specs.declared.State.{State}
use Rattle.method.specs.declared.Row.{Row}
use Rattle.method.specs.declared.Table.{Table}
use Rattle.method.specs.declared.Answer.{Answer}
use Rattle.method.specs.Records.{number, row_of, free_row, row_at, part_at, high_at, Goes}
use Rattle.method.specs.Slots.{slot_of, row_of_number, kept}
use Rattle.method.specs.Conditions.{Closed, Unknown, NotPrepared, HasPred, HeldBack}
use Rattle.method.specs.Calls.Call.{decide, forget, sweep}
use Rattle.method.specs.Effects.{step}
use Rattle.method.specs.Seen.{Active, Kept}
use Rattle.runs.specs.Run.{Run, after, answer_to, Happened, Commits, CommitsBeside, Over, BegunIn}
use Rattle.runs.specs.Follows.{Follows}
use Rattle.runs.specs.Placed.{Placed}
use Rattle.runs.specs.Sweeps.{free_slots, ForgetAll, NoneToForget}
use Rattle.wire.specs.Message.{Message, InRange, body_of}
use Rattle.wire.specs.declared.reader.Message as reader
use Rattle.refusals.specs.declared.Refusal.{Refusal}
use Rattle.wire.specs.Answers.{request_of}
use Rattle.wire.specs.Body.{message_of}
use Rattle.frames.specs.Frame.{Next, frame_of, next_frame}
use Rattle.frames.specs.Stream.{Stream, stream_of, bytes_of, WellFormed}
use Rattle.endian.specs.Places.{Below}
use Rattle.table.specs.declared.Table as held
use Rattle.promises.specs.Stated.{CallGives, ReadGives, MessageGives}

-- after every run of calls from the closed table on, each thing that the table holds is what was called and answered says, and stands
-- in the slot that it was given
pub record FollowsRun (r : Run) : Type 0 where
  pub follows : Follows r
  pub placed : Placed r
  -- the active ones are those begun that are neither committed nor over; the kept ones those committed that are not over
  pub active : (n : ℕ) → Active (after r) n ↔ (BegunIn r n × (¬ Happened (Commits n) r) × (¬ Over r n))
  pub kept : (n : ℕ) → Kept (after r) n ↔ (Happened (Commits n) r × (¬ Over r n))

abbrev pub FollowsEveryRun : Type 0
FollowsEveryRun = (r : Run) → FollowsRun r

-- everything but the rows is as it was
pub record RestSame (t u : Table) : Type 0 where
  pub sites : u.sites ≡ t.sites
  pub last : u.last ≡ t.last
  pub high : u.high ≡ t.high

-- slot i is zeros now, and all else is as it was
pub record Frees (t u : Table) (i : ℕ) : Type 0 where
  pub zeros : row_at u i ≡ free_row
  pub others : (j : ℕ) → j ≢ i → row_at u j ≡ row_at t j
  pub slots : length u.rows ≡ length t.rows
  pub rest : RestSame t u

-- the row q of slot i is committed: it records the last number begun, and the highest tickets of its sites are raised to its own where
-- those are larger; all else is as it was
pub record CommitsRow (t u : Table) (i : ℕ) (q : Row) : Type 0 where
  pub row : row_at u i ≡ row_of State.Committed q.number q.sites t.last q.parts
  pub others : (j : ℕ) → j ≢ i → row_at u j ≡ row_at t j
  pub slots : length u.rows ≡ length t.rows
  pub raised : (s : ℕ) → s ∈ sites_of q.sites → high_at u s ≡ max (high_at t s) (part_at q s).ticket.0
  pub unraised : (s : ℕ) → ¬ (s ∈ sites_of q.sites) → high_at u s ≡ high_at t s
  pub highs : length u.high ≡ length t.high
  pub sites : u.sites ≡ t.sites
  pub last : u.last ≡ t.last

-- the two ways of a decision on n that nothing refuses, over all kept committed ones and no active one
pub data Decision (t : Table) (n : ℕ) (a : CallAnswer) (u : Table) : Type 0 where
  commits : ¬ Cycle Goes (row_of_number t n ∷ kept t) → a ≡ Ok (Answer.Commit (number n)) → CommitsRow t u (slot_of t n) (row_of_number t n) → Decision t n a u
  cycles : Cycle Goes (row_of_number t n ∷ kept t) → a ≡ Ok (Answer.Cycle (number n)) → Frees t u (slot_of t n) → Decision t n a u

-- on every table, so at every decision. A table has eight highest tickets.
abbrev pub CommitsExactly : Type 0
CommitsExactly = (t : held.Table) (n : ℕ) (a : CallAnswer) (u : held.Table) → CallGives t (decide n) a u
    → length t.held.high ≡ 8 → ¬ Closed t.held → ¬ Unknown t.held n → ¬ NotPrepared (row_of_number t.held n) → Decision t.held n a u.held

-- where the slot of a known number is, which the above speak of
abbrev pub SlotFound : Type 0
SlotFound = (t : Table) (n : ℕ) → ¬ Unknown t n → ((row_of_number t n).state ≢ State.Free) × ((row_of_number t n).number.0 ≡ n)

pub record ForgetsExactly : Type 0 where
  -- on every table: by RULES, Forgetting
  pub rule : (t : held.Table) (n : ℕ) (a : CallAnswer) (u : held.Table) → CallGives t (forget n) a u
      → ¬ Closed t.held → ¬ Unknown t.held n → (row_of_number t.held n).state ≡ State.Committed
      → (a ≡ Ok Answer.Done) ↔ ((¬ HasPred t.held (row_of_number t.held n)) × (¬ HeldBack t.held (row_of_number t.held n)))
  pub frees : (t : held.Table) (n : ℕ) (a : CallAnswer) (u : held.Table) → CallGives t (forget n) a u → a ≡ Ok Answer.Done → Frees t.held u.held (slot_of t.held n)
  -- after every run: in the paper's words (Georgakopoulos, Rusinkiewicz and Sheth, Lemma 1). No kept one has an arrow to it, and whoever
  -- was active when it committed is committed or over by now.
  pub paper : (r : Run) (n : ℕ) → Kept (after r) n
      → (answer_to r (forget n) ≡ Ok Answer.Done) ↔ ((¬ HasPred (after r) (row_of_number (after r) n)) × ((m : ℕ) → Happened (CommitsBeside n m) r → Happened (Commits m) r ⊎ Over r m))

-- a sweep of an open table
pub record Sweeps (t : Table) (a : CallAnswer) (u : Table) : Type 0 where
  -- a committed row stays exactly if a path, possibly of no arrows, reaches it from a kept one that an older active one holds back
  pub rows : (i : ℕ) → (row_at t i).state ≡ State.Committed
      → (Reached Goes (HeldBack t) (kept t) (row_at t i) × (row_at u i ≡ row_at t i)) ⊎ ((¬ Reached Goes (HeldBack t) (kept t) (row_at t i)) × (row_at u i ≡ free_row))
  -- all else is as it was
  pub others : (i : ℕ) → (row_at t i).state ≢ State.Committed → row_at u i ≡ row_at t i
  pub slots : length u.rows ≡ length t.rows
  pub rest : RestSame t u
  -- the answer is the number of slots freed
  pub count : (k : ℕ) × (a ≡ Ok (Answer.Swept k)) × (free_slots u.rows ≡ free_slots t.rows + k)

pub record SweepsExactly : Type 0 where
  pub every : (t : held.Table) (a : CallAnswer) (u : held.Table) → CallGives t sweep a u → ¬ Closed t.held → Sweeps t.held a u.held
  -- after every run: forgets one by one, each accepted, give the same table, and then no forget is accepted
  pub forgets : (r : Run) → ¬ Closed (after r) → (ns : List ℕ) × ForgetAll (after r) ns (step (after r) sweep).table
  pub none : (r : Run) → ¬ Closed (after r) → NoneToForget (step (after r) sweep).table

-- message and bytes determine each other
pub record MessageBytes : Type 0 where
  -- a message in range is read from its body, and what is read from a list of bytes has that body
  pub read : (m : Message) → InRange m → message_of (body_of m) ≡ Some m
  pub made : (b : List ℕ) → Below 256 b → (m : Message) → message_of b ≡ Some m → (body_of m ≡ b) × InRange m
  -- the same of frames, whatever stands behind
  pub frame : (b r : List ℕ) → length b ≤ 160 → next_frame (frame_of b ++ r) ≡ Next.whole b r
  pub framed : (l b r : List ℕ) → next_frame l ≡ Next.whole b r → (l ≡ frame_of b ++ r) × (length b ≤ 160)
  -- what our writer writes is the frame, with every other byte as it was, and our reader reads it as the message
  pub written : (m : Message) (out : List ℕ) (place n : ℕ) (after : List ℕ) → InRange m → MessageGives (body_of m) out place (Ok n) after
      → (after ≡ take place out ++ (frame_of (body_of m) ++ drop (place + n) out)) × ((x : Result (Option reader.Message) Refusal) → ReadGives (drop place after) x → x ≡ Ok (Some (record { request = Ok (request_of m); end = n })))
  -- every list of bytes is in one way, and one only, frames and then an end, a cut or an 11
  pub parsed : (l : List ℕ) → (bytes_of (stream_of l) ≡ l) × WellFormed (stream_of l)
  pub once : (s t : Stream) → WellFormed s → WellFormed t → bytes_of s ≡ bytes_of t → s ≡ t
