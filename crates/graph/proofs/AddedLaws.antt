-- One more row: a cycle that it makes goes through it, and it makes none where no arrow goes into it. Assumes nothing.
use mathlib.Core.Path.{◌≡◌, refl, sym}
use mathlib.Core.Bool.{Bool, true}
use mathlib.Core.List.Memᴰ.{head as here}
use mathlib.Core.List.Memᴰ.{tail as there}
use mathlib.Core.List.{List, ◌∷◌}
use mathlib.Core.Logic.{◌↔◌, ◌⊎◌, inl, inr}
use Rattle.graph.specs.Lists.{◌∈◌, keep}
use Rattle.graph.specs.Path.{ArrowPath, ArrowPath.one, ArrowPath.more, Cycle}
use Rattle.graph.proofs.MemberLaws.{kept_of_member, kept_subset}
use Rattle.graph.proofs.PathLaws.{start_of_path, last_of_path, path_of_two, cycle_of_larger}

module _ {A : Type 0} (Arrow : A → A → Type 0) (c : A) (rs : List A) where
  abbrev To : A → Type 0
  To a = (a ≡ c) ⊎ ArrowPath Arrow (c ∷ rs) a c

  abbrev From : A → Type 0
  From b = (c ≡ b) ⊎ ArrowPath Arrow (c ∷ rs) c b

  to_of_arrow : {a b : A} → a ∈ c ∷ rs → Arrow a b → To b → To a
  to_of_arrow m e (inl h) = inr (one m (here refl) (rw h at e))
  to_of_arrow m e (inr p) = inr (more m e p)

  from_of_path : {a b : A} → a ≡ c → ArrowPath Arrow (c ∷ rs) a b → From b
  from_of_path h p = inr (rw h at p)

  -- a path keeps to rs, or goes through c
  pub either_of_path : {a b : A} → ArrowPath Arrow (c ∷ rs) a b → ArrowPath Arrow rs a b ⊎ (To a × From b)
  either_of_path (one (here h) n e) = inr (inl h, from_of_path h (one (here h) n e))
  either_of_path (one (there m) (here h) e) = inr (inr (one (there m) (here refl) (rw h at e)), inl (sym h))
  either_of_path (one (there m) (there n) e) = inl (one m n e)
  either_of_path (more (here h) e p) = inr (inl h, from_of_path h (more (here h) e p))
  either_of_path {a} {b} (more {b = d} (there m) e p) = go (either_of_path p)
    where
      go : ArrowPath Arrow rs d b ⊎ (To d × From b) → ArrowPath Arrow rs a b ⊎ (To a × From b)
      go (inl q) = inl (more m e q)
      go (inr (t, f)) = inr (to_of_arrow (there m) e t, f)

  path_of_to_from : {a : A} → ArrowPath Arrow (c ∷ rs) a a → To a → From a → ArrowPath Arrow (c ∷ rs) c c
  path_of_to_from p (inl h) f = rw h at p
  path_of_to_from p (inr t) (inl h) = rw (sym h) at p
  path_of_to_from p (inr t) (inr f) = path_of_two f t

  pub path_of_added_cycle : ¬ Cycle Arrow rs → Cycle Arrow (c ∷ rs) → ArrowPath Arrow (c ∷ rs) c c
  path_of_added_cycle n (a, p) = go (either_of_path p)
    where
      go : ArrowPath Arrow rs a a ⊎ (To a × From a) → ArrowPath Arrow (c ∷ rs) c c
      go (inl q) = absurd (n (a, q))
      go (inr (t, f)) = path_of_to_from p t f

  pub added_cycle_iff : ¬ Cycle Arrow rs → Cycle Arrow (c ∷ rs) ↔ ArrowPath Arrow (c ∷ rs) c c
  added_cycle_iff n = (path_of_added_cycle n, λ p. (c, p))

  -- a row that no arrow goes into
  pub no_cycle_of_source : ((x : A) → x ∈ rs → ¬ Arrow x c) → ¬ Arrow c c → ¬ Cycle Arrow rs → ¬ Cycle Arrow (c ∷ rs)
  no_cycle_of_source h k n q = go (last_of_path (path_of_added_cycle n q))
    where
      go : ((b : A) × (b ∈ c ∷ rs) × Arrow b c × ((c ≡ b) ⊎ ArrowPath Arrow (c ∷ rs) c b)) → ⊥
      go (b, here e, f, s) = k (rw e at f)
      go (b, there m, f, s) = h b m f

  pub no_cycle_of_fewer : ¬ Cycle Arrow (c ∷ rs) → ¬ Cycle Arrow rs
  no_cycle_of_fewer n q = n (cycle_of_larger (λ a m. there m) q)

-- rows that have no arrow to or from any row do not matter
module _ {A : Type 0} (Arrow : A → A → Type 0) (f : A → Bool) (rs : List A)
    (h : (x y : A) → x ∈ rs → y ∈ rs → Arrow x y → (f x ≡ true) × (f y ≡ true)) where
  pub path_of_fewer : {a b : A} → ArrowPath Arrow rs a b → ArrowPath Arrow (keep f rs) a b
  path_of_fewer (one {a = a} {b = b} m n e) = let (p, q) = h a b m n e in one (kept_of_member f m p) (kept_of_member f n q) e
  path_of_fewer (more {a = a} {b = b} m e r) = let (p, q) = h a b m (start_of_path r) e in more (kept_of_member f m p) e (path_of_fewer r)

  pub cycle_of_fewer_iff : Cycle Arrow rs ↔ Cycle Arrow (keep f rs)
  cycle_of_fewer_iff = (λ p. (p.0, path_of_fewer p.1), cycle_of_larger (kept_subset f rs))
