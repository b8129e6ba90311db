-- What the graph's two questions mean, asked of 32 slots of eight tickets. A slot without a ticket has no arrows. RULES, Graph
-- and decision; Forgetting.
use Rattle.std.specs.Prelude.{◌≡◌, Bool, true, false, List, [], ◌↔◌, ◌⊎◌, ℕ, ◌<◌, length, get_or}
use Rattle.graph.specs.Path.{ArrowPath, Cycle}
use Rattle.orders.specs.Arrow.{Tickets, Arrow}

-- the eight tickets of slot i
abbrev pub ticket_row : List Tickets → ℕ → Tickets
ticket_row slots i = get_or slots i []

-- one or more arrows lead from slot i to slot j
abbrev pub SlotPath : List Tickets → ℕ → ℕ → Type 0
SlotPath slots i j = ArrowPath Arrow slots (ticket_row slots i) (ticket_row slots j)

-- the answer b is yes exactly if the arrows among the slots make a cycle
abbrev pub TellsCycle : List Tickets → Bool → Type 0
TellsCycle slots b = (b ≡ true) ↔ Cycle Arrow slots

abbrev pub Marked : List Bool → ℕ → Type 0
Marked marks i = get_or marks i false ≡ true

-- slot j is marked, or a path leads to it from a slot that is
abbrev pub SlotReached : List Tickets → List Bool → ℕ → Type 0
SlotReached slots marks j = Marked marks j ⊎ ((i : ℕ) × (i < 32) × Marked marks i × SlotPath slots i j)

-- the answer has an entry for each slot, yes exactly if the slot is reached
pub record TellsReached (slots : List Tickets) (marks found : List Bool) : Type 0 where
  pub size : length found ≡ 32
  pub each : (j : ℕ) → j < 32 → Marked found j ↔ SlotReached slots marks j
