-- The 32 slots: members and places, and a slot without a ticket. Assumes nothing.
use mathlib.Core.Path.{◌≡◌, refl, ap}
use mathlib.Core.Bool.{true, false, not}
use mathlib.Core.List.{List, [], ◌∷◌, map}
use Prim.Native.Nat.{ℕ, ◌<◌}
use native.Mathlib.Decide.{dec_lt}
use native.Mathlib.Omega.{arith}
use lib.ListN.{length, replicate, get_or-replicate, get_or-eq_default}
use Rattle.std.specs.Str.{bytes_eq}
use Rattle.std.proofs.lemmas.Slice.Eq.{bytes_eq-Decides}
use Rattle.graph.specs.Lists.{◌∈◌}
use Rattle.graph.proofs.PlaceLaws.{member_of_place, place_of_member}
use Rattle.graph.proofs.TestLaws.{false_of_not_true, true_of_not_false, true_not_false, not_of_false}
use Rattle.orders.specs.Arrow.{Tickets, ticket_at, arrowb}
use Rattle.orders.proofs.ArrowLaws.{arrowb→arrow, not_arrow_of_none}
use Rattle.paths.specs.Paths.{ticket_row}

module _ (slots : List Tickets) (size : length slots ≡ 32) where
  pub member_of_slot : (i : ℕ) → i < 32 → ticket_row slots i ∈ slots
  member_of_slot i h = member_of_place slots i [] (omega arith)

  pub slot_of_member : {a : Tickets} → a ∈ slots → (i : ℕ) × (i < 32) × (ticket_row slots i ≡ a)
  slot_of_member m = let (i, h, e) = place_of_member [] m in (i, omega arith, e)

pub ticket_of_none : (s : ℕ) → ticket_at (replicate 8 0) s ≡ 0
ticket_of_none s = elim (dec_lt s 8) [ yes h ↦ get_or-replicate 8 s 0 0 h | no h ↦ get_or-eq_default (replicate 8 0) 0 (omega arith) ]

pub no_arrow_from_none : (a b : Tickets) → a ≡ replicate 8 0 → arrowb a b ≡ false
no_arrow_from_none a b e = rw e (false_of_not_true (arrowb (replicate 8 0) b) (λ t. not_arrow_of_none (replicate 8 0) b ticket_of_none (arrowb→arrow (replicate 8 0) b t)))

-- so its row of the square is without a yes
pub no_arrows : (a : Tickets) (slots : List Tickets) → a ≡ replicate 8 0 → replicate (length slots) false ≡ map (arrowb a) slots
no_arrows a [] e = refl
no_arrows a (b ∷ slots) e = rw (no_arrow_from_none a b e) (ap (λ l. false ∷ l) (no_arrows a slots e))

-- what a comparison with such a row says
pub none_of_eq : (a : Tickets) → bytes_eq a (replicate 8 0) ≡ true → a ≡ replicate 8 0
none_of_eq a = (bytes_eq-Decides a (replicate 8 0)).0

pub none_of_ne : (a : Tickets) → not (bytes_eq a (replicate 8 0)) ≡ false → a ≡ replicate 8 0
none_of_ne a e = none_of_eq a (true_of_not_false (bytes_eq a (replicate 8 0)) (λ f. true_not_false (not_of_false f) e))
