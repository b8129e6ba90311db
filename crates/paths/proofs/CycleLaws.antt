-- From a square of paths to the answer about cycles: a cycle is a yes on the diagonal. Assumes nothing.
use mathlib.Core.Path.{◌≡◌}
use mathlib.Core.Bool.{Bool, true}
use mathlib.Core.List.{List}
use Prim.Native.Nat.{ℕ, ◌+◌, ◌<◌}
use native.Mathlib.Omega.{arith}
use lib.ListN.{length}
use Rattle.std.specs.List.{list_any, range_with_len}
use Rattle.std.proofs.lemmas.List.FromFn.{length-range_with_len, get_or-range_with_len}
use Rattle.graph.specs.Path.{Cycle}
use Rattle.graph.proofs.MemberLaws.{any_of_member, member_of_any}
use Rattle.graph.proofs.PathLaws.{start_of_path}
use Rattle.graph.proofs.PlaceLaws.{member_of_place, place_of_member}
use Rattle.orders.specs.Arrow.{Tickets, Arrow}
use Rattle.paths.specs.Paths.{ticket_row, TellsCycle}
use Rattle.paths.specs.Entries.{entry, PathSquare}
use Rattle.paths.proofs.SlotLaws.{slot_of_member}

-- a test passes at some place below n
module _ (f : ℕ → Bool) (n : ℕ) where
  pub place_of_any : list_any f (range_with_len 0 n) ≡ true → (i : ℕ) × (i < n) × (f i ≡ true)
  place_of_any e =
      let (i, m, p) = member_of_any f (range_with_len 0 n) e in
      let (k, h, q) = place_of_member 0 m in
      let l : k < n = rw (length-range_with_len 0 n) at h in
      (i, omega (arith, get_or-range_with_len 0 n k 0 l), p)

  pub any_of_place : (i : ℕ) → i < n → f i ≡ true → list_any f (range_with_len 0 n) ≡ true
  any_of_place i h p =
      let e : (0 + i) ≡ i = omega arith in
      let m = member_of_place (range_with_len 0 n) i 0 (rw (length-range_with_len 0 n) h) in
      any_of_member f (rw (get_or-range_with_len 0 n i 0 h, e) at m) p

pub cycle_of_loop : (slots : List Tickets) (square : List (List Bool)) → length slots ≡ 32 → PathSquare slots square → (b : Bool)
    → b ≡ list_any (λ i. entry square i i) (range_with_len 0 32) → TellsCycle slots b
cycle_of_loop slots square size paths b e = (there, back)
  where
    there : b ≡ true → Cycle Arrow slots
    there t = let (i, h, p) = place_of_any (λ i. entry square i i) 32 (rw e at t) in (ticket_row slots i, (paths i i h h).0 p)

    back : Cycle Arrow slots → b ≡ true
    back (a, p) =
        let (i, h, q) = slot_of_member slots size (start_of_path p) in
        rw e (any_of_place (λ i. entry square i i) 32 i h ((paths i i h h).1 (rw q p)))
