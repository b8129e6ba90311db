-- What a path of arrows, possibly of none, reaches from the members that are marked: the meaning, and the test that computes it.
use Rattle.std.specs.Prelude.{◌≡◌, Bool, ◌||◌, List, [], ◌⊎◌, ℕ, zero, suc, length}
use Rattle.graph.specs.Lists.{◌∈◌, keep}
use Rattle.graph.specs.Path.{ArrowPath}
use Rattle.graph.specs.Acyclic.{into}

-- r is marked, or a path leads to it from a member that is
abbrev pub Reached : {A : Type 0} → (A → A → Type 0) → (A → Type 0) → List A → A → Type 0
Reached {A} Arrow Mark rs r = (a : A) × (a ∈ rs) × Mark a × ((a ≡ r) ⊎ ArrowPath Arrow rs a r)

module _ {A : Type 0} (arrow : A → A → Bool) (mark : A → Bool) (rs : List A) where
  -- marked, or one of these has an arrow to it
  unfoldable pub spread : List A → A → Bool
  spread found r = mark r || into arrow found r

  -- what is found in k rounds, each looking once from all that the round before found
  unfoldable pub rounds : ℕ → List A
  rounds zero = []
  rounds (suc k) = keep (spread (rounds k)) rs

  -- after as many rounds as there are members nothing new is found
  unfoldable pub reachedb : A → Bool
  reachedb = spread (rounds (length rs))
