-- What a method owes for its commits, and what it keeps of every table so that it can pay. `Sound` is kept by every method: there a
-- commit asks that the candidate fits, and nothing else.
use Rattle.std.specs.Prelude.{◌≢◌, ◌∷◌, ℕ}
use Rattle.graph.specs.Lists.{◌∈◌}
use Rattle.graph.specs.Path.{Cycle}
use Rattle.method.specs.declared.Row.{Row}
use Rattle.method.specs.declared.Table.{Table}
use Rattle.method.specs.Records.{Goes}
use Rattle.method.specs.Slots.{kept}
use Rattle.invariant.specs.Sound.{Differs}

-- with the kept rows the candidate makes no cycle, and it holds no ticket of theirs
pub record Fits (t : Table) (r : Row) : Type 0 where
  pub acyclic : ¬ Cycle Goes (r ∷ kept t)
  pub apart : (q : Row) → q ∈ kept t → Differs r q

-- the optimistic method tests for a cycle, and lets no two transactions in the table hold the same ticket
abbrev pub Orderly : (ℕ → Row) → Type 0
Orderly row = (i j : ℕ) → i ≢ j → Differs (row i) (row j)
