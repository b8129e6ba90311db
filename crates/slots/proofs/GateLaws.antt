-- What is found of a number, and of a free slot, as checks of crate `method`. Assumes nothing.
use mathlib.Core.Path.{◌≡◌, refl, sym, ◌∙◌}
use mathlib.Core.Bool.{Bool, true, false, cond, not}
use mathlib.Core.List.{List, [], ◌∷◌, ◌++◌}
use Prim.Native.Nat.{ℕ}
use Rattle.std.specs.Prelude.{Some, None, ok_or, position, Ok, Err}
use Rattle.std.specs.List.{position_or_len}
use Rattle.refusals.specs.declared.Refusal.{Refusal}
use Rattle.graph.specs.Lists.{any_of}
use Rattle.method.specs.declared.Row.{Row}
use Rattle.method.specs.declared.Table.{Table}
use Rattle.method.specs.Records.{is_free}
use Rattle.method.specs.Slots.{has_number, slot_of, free_slot}
use Rattle.method.specs.Conditions.{is_closed, unknown, is_full}
use Rattle.method.specs.Calls.{checked}
use Rattle.method.proofs.SlotLaws.{place_of_first}
use Rattle.method.proofs.CheckLaws.{stops, goes_on}
use Rattle.slots.specs.Gate.{gate_of}

-- a search that ends in a refusal is a check and a value
searched : (f : Row → Bool) (rows : List Row) (r : Refusal) → ok_or (position f rows) r ≡ checked ((r, not (any_of f rows)) ∷ []) (position_or_len f rows)
searched f rows r = rw (place_of_first f rows) (go (any_of f rows))
  where
    go : (b : Bool) → ok_or (cond b (Some (position_or_len f rows)) None) r ≡ checked ((r, not b) ∷ []) (position_or_len f rows)
    go true = refl
    go false = refl

-- the first two checks of a call that names a number
abbrev pub gate_checks : Table → ℕ → List (Refusal × Bool)
gate_checks t n = (Refusal.NotOpen, is_closed t) ∷ (Refusal.Unknown, unknown t n) ∷ []

pub gate_is : (t : Table) (n : ℕ) → gate_of t n ≡ checked (gate_checks t n) (slot_of t n)
unfolding slot_of
gate_is t n = rw (searched (has_number n) t.rows Refusal.Unknown)

-- and with more checks behind them
module _ (t : Table) (n : ℕ) (rest : List (Refusal × Bool)) {A : Type 0} (a : A) where
  pub gate_stops : {k : Refusal} → gate_of t n ≡ Err k → checked (gate_checks t n ++ rest) a ≡ Err k
  gate_stops e = stops (gate_checks t n) rest (slot_of t n) a (sym (gate_is t n) ∙ e)

  pub gate_goes_on : {i : ℕ} → gate_of t n ≡ Ok i → (checked (gate_checks t n ++ rest) a ≡ checked rest a) × (i ≡ slot_of t n)
  gate_goes_on e = goes_on (gate_checks t n) rest (slot_of t n) a (sym (gate_is t n) ∙ e)

pub room_is : (t : Table) → ok_or (position (λ (r : Row). is_free r.state) t.rows) Refusal.Full ≡ checked ((Refusal.Full, is_full t) ∷ []) (free_slot t)
unfolding free_slot
room_is t = searched (λ (r : Row). is_free r.state) t.rows Refusal.Full
