-- Paths: their ends, their first and last arrows, two paths joined, and paths in a larger list. Assumes nothing.
use mathlib.Core.Path.{◌≡◌, refl}
use mathlib.Core.List.Memᴰ
use mathlib.Core.List.Memᴰ.{tail as there}
use mathlib.Core.List.{List, [], ◌∷◌}
use mathlib.Core.Logic.{◌⊎◌, inl, inr}
use Rattle.graph.specs.Lists.{◌∈◌, ◌⊆◌}
use Rattle.graph.specs.Path.{ArrowPath, ArrowPath.one, ArrowPath.more, Cycle}

module _ {A : Type 0} {Arrow : A → A → Type 0} {rs : List A} where
  pub start_of_path : {a b : A} → ArrowPath Arrow rs a b → a ∈ rs
  start_of_path (one m n e) = m
  start_of_path (more m e p) = m

  pub end_of_path : {a b : A} → ArrowPath Arrow rs a b → b ∈ rs
  end_of_path (one m n e) = n
  end_of_path (more m e p) = end_of_path p

  -- the first arrow goes to some b, which is the end or has a path to it
  pub first_of_path : {a c : A} → ArrowPath Arrow rs a c → (b : A) × (b ∈ rs) × (Arrow a b) × ((b ≡ c) ⊎ ArrowPath Arrow rs b c)
  first_of_path {c} (one m n e) = (c, n, e, inl refl)
  first_of_path (more {b = b} m e p) = (b, start_of_path p, e, inr p)

  -- the last arrow comes from some b, which is the start or has a path from it
  pub last_of_path : {a c : A} → ArrowPath Arrow rs a c → (b : A) × (b ∈ rs) × (Arrow b c) × ((a ≡ b) ⊎ ArrowPath Arrow rs a b)
  last_of_path {a} (one m n e) = (a, m, e, inl refl)
  last_of_path {a} {c} (more {b = d} m e p) = go (last_of_path p)
    where
      go : ((b : A) × (b ∈ rs) × (Arrow b c) × ((d ≡ b) ⊎ ArrowPath Arrow rs d b)) → (b : A) × (b ∈ rs) × (Arrow b c) × ((a ≡ b) ⊎ ArrowPath Arrow rs a b)
      go (b, n, f, inl h) = (b, n, f, inr (one m n (rw h at e)))
      go (b, n, f, inr q) = (b, n, f, inr (more m e q))

  pub path_of_two : {a b c : A} → ArrowPath Arrow rs a b → ArrowPath Arrow rs b c → ArrowPath Arrow rs a c
  path_of_two (one m n e) q = more m e q
  path_of_two (more m e p) q = more m e (path_of_two p q)

  pub path_of_larger : {a b : A} {qs : List A} → rs ⊆ qs → ArrowPath Arrow rs a b → ArrowPath Arrow qs a b
  path_of_larger s (one {a = a} {b = b} m n e) = one (s a m) (s b n) e
  path_of_larger s (more {a = a} m e p) = more (s a m) e (path_of_larger s p)

  pub cycle_of_larger : {qs : List A} → rs ⊆ qs → Cycle Arrow rs → Cycle Arrow qs
  cycle_of_larger s (a, p) = (a, path_of_larger s p)

  pub path_of_cons : {a b c : A} → ArrowPath Arrow rs a b → ArrowPath Arrow (c ∷ rs) a b
  path_of_cons p = path_of_larger (λ a m. there m) p

  -- a path can be walked again in any list that holds its start and each member that some member has an arrow to
  pub path_of_kept : {a b : A} {qs : List A} → ((y z : A) → y ∈ rs → z ∈ rs → Arrow z y → y ∈ qs) → a ∈ qs → ArrowPath Arrow rs a b → ArrowPath Arrow qs a b
  path_of_kept k m (one {a = a} {b = b} ma mb e) = one m (k b a mb ma e) e
  path_of_kept k m (more {a = a} {b = b} ma e p) = more m e (path_of_kept k (k b a (start_of_path p) ma e) p)

-- a path for each arrow is a path for each path
pub path_of_paths : {A : Type 0} {Arrow Brrow : A → A → Type 0} {rs qs : List A}
    → ((a b : A) → a ∈ rs → b ∈ rs → Arrow a b → ArrowPath Brrow qs a b) → {a b : A} → ArrowPath Arrow rs a b → ArrowPath Brrow qs a b
path_of_paths f (one {a = a} {b = b} m n e) = f a b m n e
path_of_paths f (more {a = a} {b = b} m e p) = path_of_two (f a b m (start_of_path p) e) (path_of_paths f p)

-- a weaker relation has the same paths and more
pub path_of_weaker : {A : Type 0} {Arrow Brrow : A → A → Type 0} {rs : List A} → ((a b : A) → Arrow a b → Brrow a b) → {a b : A} → ArrowPath Arrow rs a b → ArrowPath Brrow rs a b
path_of_weaker f = path_of_paths (λ a b m n e. one m n (f a b e))

pub cycle_of_weaker : {A : Type 0} {Arrow Brrow : A → A → Type 0} {rs : List A} → ((a b : A) → Arrow a b → Brrow a b) → Cycle Arrow rs → Cycle Brrow rs
cycle_of_weaker f (a, p) = (a, path_of_weaker f p)

pub no_path_of_nil : {A : Type 0} {Arrow : A → A → Type 0} {a b : A} → ArrowPath Arrow [] a b → ⊥
no_path_of_nil p = Memᴰ.not-nil (start_of_path p)
