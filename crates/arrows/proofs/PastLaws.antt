-- A row past the list has no arrows, and rows with the same tickets have the same. Assumes nothing.
use mathlib.Core.Path.{◌≡◌, refl, sym, ◌∙◌}
use mathlib.Core.Bool.{Bool, true, false}
use mathlib.Core.List.{List, [], ◌∷◌}
use Prim.Native.Nat.{ℕ, ◌+◌, ◌*◌, ◌<◌, ◌≤◌, ◌/◌}
use native.Mathlib.Omega.{arith}
use lib.Dec.{ltb}
use lib.ListN.{length, get_or, take, drop, length-take, get_or-eq_default}
use borrow.Author.Tests.{ltb-true, ltb-false}
use Rattle.graph.proofs.TestLaws.{same_of_iff}
use Rattle.orders.specs.Arrow.{Tickets, ticket_at, arrowb}
use Rattle.orders.specs.Entries.{entry_at, entry_arrowb}
use Rattle.orders.proofs.ArrowLaws.{arrowb→arrow, arrow→arrowb}
use Rattle.orders.proofs.EntriesLaws.{tickets_past}

no_arrow_to_none : (a : Tickets) → arrowb a [] ≡ false
no_arrow_to_none [] = refl
no_arrow_to_none (x ∷ a) = refl

pub no_arrow_of_past : (flat : List ℕ) (a b : ℕ) → length flat / 9 < a → entry_arrowb (entry_at flat a) (entry_at flat b) ≡ false
no_arrow_of_past flat a b h = rw (tickets_past flat a h)

pub no_arrow_to_past : (flat : List ℕ) (a b : ℕ) → length flat / 9 < b → entry_arrowb (entry_at flat a) (entry_at flat b) ≡ false
no_arrow_to_past flat a b h = rw (tickets_past flat b h) (no_arrow_to_none (entry_at flat a).tickets)

-- arrows are told from the tickets alone
pub same_arrow : (a b c d : Tickets) → ((s : ℕ) → ticket_at a s ≡ ticket_at c s) → ((s : ℕ) → ticket_at b s ≡ ticket_at d s) → arrowb a b ≡ arrowb c d
same_arrow a b c d f g = same_of_iff (arrowb a b) (arrowb c d) (there a b c d f g) (there c d a b (λ s. sym (f s)) (λ s. sym (g s)))
  where
    there : (a b c d : Tickets) → ((s : ℕ) → ticket_at a s ≡ ticket_at c s) → ((s : ℕ) → ticket_at b s ≡ ticket_at d s) → arrowb a b ≡ true → arrowb c d ≡ true
    there a b c d f g e = let (s, h) = arrowb→arrow a b e in arrow→arrowb c d (s, rw (f s, g s) at h)

-- eight tickets that were read of a row are all that it has
pub tickets_are : (own flat : List ℕ) (i : ℕ) → length own ≡ 8 → ((k : ℕ) → k < 8 → get_or own k 0 ≡ ticket_at (entry_at flat i).tickets k)
    → (s : ℕ) → ticket_at own s ≡ ticket_at (entry_at flat i).tickets s
unfolding entry_at
tickets_are own flat i l h s = go (ltb s 8) refl
  where
    go : (b : Bool) → ltb s 8 ≡ b → ticket_at own s ≡ ticket_at (take 8 (drop (9 * i + 1) flat)) s
    go true e = h s (ltb-true s 8 e)
    go false e =
        let g : 8 ≤ s = ltb-false s 8 e in
        get_or-eq_default own 0 (omega (arith, l)) ∙ sym (get_or-eq_default (take 8 (drop (9 * i + 1) flat)) 0 (simp length-take (omega arith)))
