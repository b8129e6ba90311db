-- The table follows the run: each thing that it holds, read off the calls that were made and the answers that they got.
use Rattle.std.specs.Prelude.{◌≡◌, true, List, ◌↔◌, ◌⊎◌, ℕ, ◌+◌, ◌-◌, ◌<◌, ◌≤◌, length, get_or}
use Rattle.graph.specs.Lists.{◌∈◌}
use Rattle.orders.specs.Arrow.{ticket_at}
use Rattle.orders.specs.Entries.{Entry}
use Rattle.method.specs.Calls.{CallAnswer}
use Rattle.method.specs.declared.Report.{Report}
use Rattle.method.specs.declared.Row.{Row}
use Rattle.method.specs.declared.Table.{Table}
use Rattle.method.specs.Records.{no_part, row_at, part_at, high_at}
use Rattle.method.specs.Stages.{given}
use Rattle.method.specs.Calls.{Call}
use Rattle.method.specs.Seen.{Known, IsFree, IsActive, IsCommitted, num, Has, base, tick}
use Rattle.runs.specs.Run.{Run, after, Happened, Opens, Begins, TakesTicket, Reports, Commits, CommitsBeside, Over, BegunIn, begins}
use Rattle.runs.specs.History.{history}

-- begun with these sites, at a table whose highest tickets were these bases
abbrev pub BeginsAt : Row → Table → Call → CallAnswer → Type 0
BeginsAt q t c a = Begins (num q) q.sites t c a × ((s : ℕ) → Has q s → base q s ≡ high_at t s)

-- a row in use after a run
pub record RowFollows (r : Run) (q : Row) : Type 0 where
  pub begun : Happened (BeginsAt q) r
  -- it holds a ticket exactly if that was reported, and each site has come exactly as far as its reports
  pub tickets : (s k : ℕ) → 0 < k → (tick q s ≡ k) ↔ Happened (TakesTicket (num q) s k) r
  pub reports : (s : ℕ) (p : Report) → (given p (part_at q s).stage ≡ true) ↔ Happened (Reports p (num q) s) r
  -- a site that is not listed holds nothing
  pub unlisted : (s : ℕ) → ¬ Has q s → part_at q s ≡ no_part
  -- it is committed exactly if that was the answer
  pub committed : IsCommitted q ↔ Happened (Commits (num q)) r

-- the greatest of a floor and of the tickets that rows have at a site
pub record Greatest (k floor : ℕ) (es : List Entry) (s : ℕ) : Type 0 where
  pub least : floor ≤ k
  pub all : (e : Entry) → e ∈ es → ticket_at e.tickets s ≤ k
  pub one : (k ≡ floor) ⊎ ((e : Entry) × (e ∈ es) × (ticket_at e.tickets s ≡ k))

pub record Follows (r : Run) : Type 0 where
  pub rows : (i : ℕ) → ¬ IsFree (row_at (after r) i) → RowFollows r (row_at (after r) i)
  -- the table knows those that were begun and are not over
  pub present : (n : ℕ) → BegunIn r n → Known (after r) n ⊎ Over r n
  pub absent : (n : ℕ) → Over r n → ¬ Known (after r) n
  pub first : (n : ℕ) → Known (after r) n ⊎ Over r n → BegunIn r n
  -- the highest ticket of a site is the greatest of its floor and of all ever committed there
  pub highest : (first : ℕ) (floors : List ℕ) → Happened (Opens first floors) r → (s : ℕ) → s < length floors → Greatest (high_at (after r) s) (get_or floors s 0) (history r) s
  -- numbers are given in sequence
  pub sequence : (first : ℕ) (floors : List ℕ) → Happened (Opens first floors) r → (after r).last.0 ≡ first - 1 + begins r
  -- whoever is active with a number at or below the one recorded at a commit was active then, and the other way round
  pub beside : (i j : ℕ) → IsCommitted (row_at (after r) i) → IsActive (row_at (after r) j)
      → (num (row_at (after r) j) ≤ (row_at (after r) i).last.0) ↔ Happened (CommitsBeside (num (row_at (after r) i)) (num (row_at (after r) j))) r
