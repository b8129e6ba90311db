-- How a caller's own rows stand in the slots: what joins paths among the slots to paths among those rows.
use Rattle.std.specs.Prelude.{◌≡◌, Bool, List, ◌↔◌, ℕ, ◌<◌, length}
use Rattle.graph.specs.Lists.{◌∈◌}
use Rattle.orders.specs.Arrow.{Tickets, ticket_at}
use Rattle.paths.specs.Paths.{ticket_row, Marked}

-- the rows rs with the tickets `of`, where In i a says that slot i has the row a
pub record Slotted {A : Type 0} (of : A → Tickets) (rs : List A) (In : ℕ → A → Type 0) (slots : List Tickets) : Type 0 where
  pub size : length slots ≡ 32
  -- a slot has the tickets of its row, which is one of them
  pub row : (i : ℕ) (a : A) → In i a → (a ∈ rs) × (ticket_row slots i ≡ of a)
  -- each of them has a slot
  pub slot : (a : A) → a ∈ rs → (i : ℕ) × (i < 32) × In i a
  -- every other slot is without a ticket
  pub held : (i s : ℕ) → i < 32 → 0 < ticket_at (ticket_row slots i) s → (a : A) × In i a

-- just the slots of the rows with `Mark` are marked
pub record MarkedAs {A : Type 0} (Mark : A → Type 0) (In : ℕ → A → Type 0) (marks : List Bool) : Type 0 where
  pub row : (i : ℕ) (a : A) → In i a → Marked marks i ↔ Mark a
  pub slot : (i : ℕ) → i < 32 → Marked marks i → (a : A) × In i a
