-- What a state and a stage are, asked by a test, and whether a step leads anywhere. Assumes nothing.
use mathlib.Core.Path.{◌≡◌, refl}
use mathlib.Core.Bool.{true, false≢true}
use mathlib.Core.Logic.{◌↔◌}
use native.Mathlib.Omega.{arith}
use Prim.Native.Nat.{ℕ}
use Rattle.method.specs.declared.Stage.{Stage}
use Rattle.method.specs.declared.State.{State}
use Rattle.std.specs.Prelude.{Option, Some, None, is_none}
use Rattle.method.specs.Records.{is_free, is_active, is_committed, is_prepared}

-- two different cases are never the same: `cc` finds 0 ≡ 1 from their equation
pub never : {P : Type 0} → ◌≡◌ {A = ℕ} 0 1 → P
never e = absurd (omega arith)

pub free_iff : (x : State) → (is_free x ≡ true) ↔ (x ≡ State.Free)
free_iff State.Free = (λ e. refl, λ e. refl)
free_iff State.Active = (λ e. absurd (false≢true e), λ e. never (cc))
free_iff State.Committed = (λ e. absurd (false≢true e), λ e. never (cc))

pub active_iff : (x : State) → (is_active x ≡ true) ↔ (x ≡ State.Active)
active_iff State.Free = (λ e. absurd (false≢true e), λ e. never (cc))
active_iff State.Active = (λ e. refl, λ e. refl)
active_iff State.Committed = (λ e. absurd (false≢true e), λ e. never (cc))

pub committed_iff : (x : State) → (is_committed x ≡ true) ↔ (x ≡ State.Committed)
committed_iff State.Free = (λ e. absurd (false≢true e), λ e. never (cc))
committed_iff State.Active = (λ e. absurd (false≢true e), λ e. never (cc))
committed_iff State.Committed = (λ e. refl, λ e. refl)

pub prepared_iff : (x : Stage) → (is_prepared x ≡ true) ↔ (x ≡ Stage.Prepared)
prepared_iff Stage.Begun = (λ e. absurd (false≢true e), λ e. never (cc))
prepared_iff Stage.Ticketed = (λ e. absurd (false≢true e), λ e. never (cc))
prepared_iff Stage.Prepared = (λ e. refl, λ e. refl)

pub none_iff : (x : Option Stage) → (is_none x ≡ true) ↔ (x ≡ None)
none_iff (Some g) = (λ e. absurd (false≢true e), λ e. never (cc))
none_iff None = (λ e. refl, λ e. refl)
