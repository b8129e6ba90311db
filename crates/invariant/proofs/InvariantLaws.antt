-- Every call keeps the invariant, whatever it is and however it is answered. Assumes nothing.
use mathlib.Core.Path.{◌≡◌, refl, sym, subst}
use mathlib.Core.Bool.{Bool, true, false}
use mathlib.Core.List.{List, ◌∷◌, map}
use native.Mathlib.Decide.{ℕ_discrete}
use Rattle.graph.specs.Acyclic.{acyclic}
use Rattle.orders.specs.Arrow.{arrowb}
use Rattle.orders.specs.Entries.{Entry}
use Rattle.method.specs.declared.Table.{Table}
use Rattle.method.specs.Records.{tickets_of}
use Rattle.method.specs.Slots.{row_of_number, kept}
use Rattle.method.specs.Conditions.{Closed}
use Rattle.method.specs.Calls.{Call, rules, NoneHolds}
use Rattle.method.specs.Calls.Call.{open_with, begin, report_ticket, report_prepared, abort, decide, forget, sweep}
use Rattle.method.specs.Effects.{decided, effect, step}
use Rattle.method.proofs.CallLaws.{Steps, Steps.stopped, Steps.passed, step_goes}
use Rattle.method.proofs.GraphLaws.{no_cycle_iff}
use Rattle.invariant.specs.Noted.{noted}
use Rattle.invariant.specs.Invariant.{Invariant}
use Rattle.invariant.proofs.OpenLaws.{invariant_open, invariant_begin}
use Rattle.invariant.proofs.ReportLaws.{invariant_ticket, invariant_prepared}
use Rattle.invariant.proofs.DropLaws.{invariant_abort, invariant_forget}
use Rattle.invariant.proofs.DecideLaws.{entry_committed, fits_of_test, invariant_commit, invariant_cycle}
use Rattle.invariant.proofs.SweepLaws.{invariant_sweep}

pub closed_of_not_not : (t : Table) → ¬ ¬ Closed t → Closed t
closed_of_not_not t n = elim (ℕ_discrete t.sites 0) [ yes e ↦ e | no e ↦ absurd (n e) ]

-- a call that nothing refuses
invariant_effect : (t : Table) (es : List Entry) (c : Call) → Invariant t es → NoneHolds (rules t c) → Invariant (effect t c).table (noted (effect t c).table (effect t c).answer es)
unfolding rules effect decided
invariant_effect t es (open_with first floors) v (a, (b, n)) = invariant_open t es first floors v (closed_of_not_not t a) b
invariant_effect t es (begin sites) v (a, (b, (c, (d, n)))) = invariant_begin t es sites v a b d
invariant_effect t es (report_ticket m s k) v (a, (b, (c, (d, (e, (f, n)))))) = invariant_ticket t es m s k v a b c d e f
invariant_effect t es (report_prepared m s) v (a, (b, (c, (d, n)))) = invariant_prepared t es m s v a b c d
invariant_effect t es (abort m) v (a, (b, (c, n))) = invariant_abort t es m v a b c
invariant_effect t es (decide m) v (a, (b, (c, n))) = go (acyclic arrowb (tickets_of (row_of_number t m) ∷ map tickets_of (kept t))) refl
  where
    go : (x : Bool) → acyclic arrowb (tickets_of (row_of_number t m) ∷ map tickets_of (kept t)) ≡ x → Invariant (decided t m x).table (noted (decided t m x).table (decided t m x).answer es)
    go true e = subst (λ (x : Entry). Invariant (decided t m true).table (x ∷ es)) (sym (entry_committed t es v m a b c))
        (invariant_commit t es v m a b c (fits_of_test t es v m a b c ((no_cycle_iff (row_of_number t m) (kept t)).0 e)))
    go false e = invariant_cycle t es v m a b c
invariant_effect t es (forget m) v (a, (b, (c, (d, n)))) = invariant_forget t es m v a b d
invariant_effect t es sweep v (a, n) = invariant_sweep t es v a

pub invariant_step : (t : Table) (es : List Entry) (c : Call) → Invariant t es → Invariant (step t c).table (noted (step t c).table (step t c).answer es)
invariant_step t es c v = go (step_goes t c)
  where
    go : Steps t c (step t c) → Invariant (step t c).table (noted (step t c).table (step t c).answer es)
    go (stopped k f p q) = rw (p, q) v
    go (passed n e) = rw e (invariant_effect t es c v n)
