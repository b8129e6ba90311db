-- What the functions inside this crate say of their rows and squares of yes-no entries. No public contract cites it.
use Rattle.std.specs.Prelude.{◌≡◌, Bool, true, false, ◌&&◌, ◌||◌, List, [], ◌↔◌, ◌⊎◌, ℕ, ◌<◌, length, get_or}
use Rattle.graph.specs.Reach.{edge_of, reach}
use Rattle.orders.specs.Arrow.{Tickets, arrowb}
use Rattle.paths.specs.Paths.{SlotPath, Marked}

-- an arrow goes from slot i to slot j, as a test
abbrev pub slot_arrow : List Tickets → ℕ → ℕ → Bool
slot_arrow slots = edge_of arrowb slots []

-- a row, and a square, that holds f of each place
abbrev pub RowIs : (ℕ → Bool) → List Bool → Type 0
RowIs f row = (j : ℕ) → j < 32 → get_or row j false ≡ f j

pub record SquareIs (f : ℕ → ℕ → Bool) (square : List (List Bool)) : Type 0 where
  pub size : length square ≡ 32
  pub each : (i : ℕ) → i < 32 → RowIs (f i) (get_or square i [])

abbrev pub entry : List (List Bool) → ℕ → ℕ → Bool
entry square i j = get_or (get_or square i []) j false

-- one of Warshall's steps: whoever has a yes at k gets the yesses of k too
abbrev pub over : List (List Bool) → ℕ → ℕ → ℕ → Bool
over square k i j = entry square i j || (entry square i k && entry square k j)

-- the square of arrows after the steps of the slots below k
abbrev pub After : List Tickets → ℕ → List (List Bool) → Type 0
After slots k square = SquareIs (reach (slot_arrow slots) k) square

-- entry i, j is yes exactly if a path leads from slot i to slot j
abbrev pub PathSquare : List Tickets → List (List Bool) → Type 0
PathSquare slots square = (i j : ℕ) → i < 32 → j < 32 → (entry square i j ≡ true) ↔ SlotPath slots i j

-- marked, or with a yes from a marked slot below n
abbrev pub FoundFrom : List Bool → List (List Bool) → ℕ → ℕ → Type 0
FoundFrom marks square n j = Marked marks j ⊎ ((i : ℕ) × (i < n) × Marked marks i × (entry square i j ≡ true))

pub record FoundBelow (marks : List Bool) (square : List (List Bool)) (n : ℕ) (found : List Bool) : Type 0 where
  pub size : length found ≡ 32
  pub each : (j : ℕ) → j < 32 → Marked found j ↔ FoundFrom marks square n j
