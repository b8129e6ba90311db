-- The predecessors of each row of a ticket table as a word. No public contract that a user meets cites it.
use Rattle.std.specs.Prelude.{◌≡◌, Bool, cond, List, [], ◌∷◌, ℕ, zero, suc, ◌/◌, ◌<◌, ◌≤◌, min, ltb, length, get_or}
use Rattle.words.specs.Word.{word_of}
use Rattle.orders.specs.Entries.{entry_at, entry_arrowb}

-- row j has an arrow to row i
abbrev pub leads : List ℕ → ℕ → ℕ → Bool
leads flat i j = entry_arrowb (entry_at flat j) (entry_at flat i)

-- of the rows below n, those with an arrow to row i
abbrev pub pred_word : List ℕ → ℕ → ℕ → ℕ
pred_word flat n i = word_of (leads flat i) n

-- the words of n rows, and a 0 for what stands behind them
abbrev pub pred_at : List ℕ → ℕ → ℕ → ℕ
pred_at flat n i = cond (ltb i n) (pred_word flat n i) 0

unfoldable pub preds_from : List ℕ → ℕ → ℕ → ℕ → List ℕ
preds_from flat n i zero = []
preds_from flat n i (suc k) = pred_at flat n i ∷ preds_from flat n (suc i) k

-- the rows that have a word: whole ones, and at most 32
abbrev pub worded : List ℕ → ℕ
worded flat = min (length flat / 9) 32

unfoldable pub preds_of : List ℕ → List ℕ
preds_of flat = preds_from flat (worded flat) 0 32

-- the words of the first i rows are known as far as these rows go
pub record Joined (flat : List ℕ) (i : ℕ) (preds : List ℕ) : Type 0 where
  pub size : length preds ≡ 32
  pub each : (r : ℕ) → r < 32 → get_or preds r 0 ≡ pred_at flat i r

-- and row i is being joined to them: the first j have it in their words, and its own has those j
pub record Joining (flat : List ℕ) (i j : ℕ) (mine : ℕ) (preds : List ℕ) : Type 0 where
  pub size : length preds ≡ 32
  pub own : mine ≡ pred_word flat j i
  pub done : (r : ℕ) → r < j → get_or preds r 0 ≡ pred_word flat (suc i) r
  pub rest : (r : ℕ) → j ≤ r → r < 32 → get_or preds r 0 ≡ pred_at flat i r
