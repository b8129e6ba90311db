-- What a path and a cycle are: meanings only, over a list of members and any relation between them, its arrows.
-- Every path and every cycle in this project is one of these.
use Rattle.std.specs.Prelude.{◌≡◌, Bool, true, List}
use Rattle.graph.specs.Lists.{◌∈◌}

-- the relation that a test decides
abbrev pub Holds : {A : Type 0} → (A → A → Bool) → A → A → Type 0
Holds arrow a b = arrow a b ≡ true

module _ {A : Type 0} (Arrow : A → A → Type 0) (rs : List A) where
  -- one or more arrows, from member to member
  pub data ArrowPath : A → A → Type 0 where
    one : {a b : A} → a ∈ rs → b ∈ rs → Arrow a b → ArrowPath a b
    more : {a b c : A} → a ∈ rs → Arrow a b → ArrowPath b c → ArrowPath a c

  -- some member has a path to itself
  abbrev pub Cycle : Type 0
  Cycle = (a : A) × ArrowPath a a
