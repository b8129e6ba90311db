-- After a sweep no forget is accepted: what stayed is held back, or a row that stayed has an arrow to it. Assumes nothing.
use mathlib.Core.Path.{◌≡◌, refl, sym, ap, subst, ◌∙◌}
use mathlib.Core.Bool.{true, false}
use mathlib.Core.Logic.{◌⊎◌, inl, inr}
use Prim.Native.Nat.{ℕ}
use Rattle.graph.specs.Lists.{◌∈◌}
use Rattle.graph.specs.Reached.{Reached}
use Rattle.graph.proofs.TestLaws.{true_or_false}
use Rattle.graph.proofs.PathLaws.{last_of_path}
use Rattle.method.specs.declared.Row.{Row}
use Rattle.method.specs.declared.Table.{Table}
use Rattle.method.specs.Records.{past_end, row_at, active, committed, Goes}
use Rattle.method.specs.Slots.{slot_of, row_of_number, kept, active_rows}
use Rattle.method.specs.Conditions.{HeldBack, MayNotForget}
use Rattle.method.specs.Calls.{rules}
use Rattle.method.specs.Calls.Call.{forget}
use Rattle.method.specs.Effects.{stays, swept_table, step}
use Rattle.method.proofs.RecordLaws.{never, active_iff, committed_iff}
use Rattle.method.proofs.CallLaws.{Steps, Steps.stopped, Steps.passed, step_goes}
use Rattle.method.proofs.SlotLaws.{place_of_kept, kept_of_place}
use Rattle.method.proofs.GraphLaws.{stays_iff}
use Rattle.method.specs.Seen.{IsActive, IsCommitted}
use Rattle.runs.specs.Sweeps.{NoneToForget}
use Rattle.invariant.proofs.ChangeLaws.{not_committed}
use Rattle.invariant.proofs.SweepLaws.{kept_of_slot, slot_goes, slot_stays, slot_other}

module _ (t : Table) where
  abbrev w : Table
  w = swept_table t

  -- a row that stays is kept after the sweep, and an active one is active
  kept_after : (x : Row) → x ∈ kept t → stays t x ≡ true → x ∈ kept w
  unfolding kept
  kept_after x m s =
      let (j, h, e, c) = place_of_kept committed t.rows past_end m in
      let p = slot_stays t j (rw e s) in
      subst (λ (y : Row). y ∈ kept w) (p ∙ e) (kept_of_slot w j ((committed_iff (row_at w j).state).0 (rw (p ∙ e) c)))

  held_after : (x : Row) → HeldBack t x → HeldBack w x
  unfolding active_rows
  held_after x (a, m, l) =
      let (j, h, e, c) = place_of_kept active t.rows past_end m in
      let ac : IsActive (row_at t j) = (active_iff (row_at t j).state).0 (rw e c) in
      let p = slot_other t j (not_committed ac) in
      (a, subst (λ (y : Row). y ∈ active_rows w) (p ∙ e) (kept_of_place active w.rows j past_end refl (rw (p ∙ e) c)), l)

  -- whoever is kept after the sweep may not be forgotten
  kept_may_not : (i : ℕ) → IsCommitted (row_at w i) → MayNotForget w (row_at w i)
  kept_may_not i c = go (true_or_false (committed (row_at t i))) (true_or_false (stays t (row_at t i)))
    where
      of_reached : (e : row_at w i ≡ row_at t i) → Reached Goes (HeldBack t) (kept t) (row_at t i) → MayNotForget w (row_at w i)
      of_reached e (a, m, h, inl p) = inr (rw (e ∙ sym p) (held_after a h))
      of_reached e (a, m, h, inr p) =
          let (b, n, g, s) = last_of_path p in
          let z : stays t b ≡ true = (stays_iff t b n).1 (a, m, h, s) in
          inl (b, kept_after b n z, rw e g)

      go : (committed (row_at t i) ≡ true) ⊎ (committed (row_at t i) ≡ false) → (stays t (row_at t i) ≡ true) ⊎ (stays t (row_at t i) ≡ false) → MayNotForget w (row_at w i)
      go (inr n) s = absurd (let e = slot_other t i (λ k. let z = (committed_iff (row_at t i).state).1 k in never (cc)) in
          let k = (committed_iff (row_at t i).state).1 (subst IsCommitted e c) in never (cc))
      go (inl k) (inl s) = of_reached (slot_stays t i s) ((stays_iff t (row_at t i) (kept_of_slot t i ((committed_iff (row_at t i).state).0 k))).0 s)
      go (inl k) (inr s) = absurd (let e = ap (λ (y : Row). y.state) (slot_goes t i ((committed_iff (row_at t i).state).0 k) s) in never (cc))

  pub none_to_forget : NoneToForget w
  unfolding rules
  none_to_forget n e = go (step_goes w (forget n))
    where
      committed_of : ¬ ¬ IsCommitted (row_of_number w n) → IsCommitted (row_of_number w n)
      committed_of k = elim (true_or_false (committed (row_of_number w n))) [
        | inl c ↦ (committed_iff (row_of_number w n).state).0 c
        | inr c ↦ absurd (k (λ z. let y = (committed_iff (row_of_number w n).state).1 z in never (cc)))
      ]

      go : Steps w (forget n) (step w (forget n)) → ⊥
      go (stopped k f p q) = never (cc)
      go (passed (a, (b, (c, (d, x)))) p) = d (kept_may_not (slot_of w n) (committed_of c))
