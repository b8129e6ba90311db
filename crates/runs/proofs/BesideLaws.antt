-- Who was active when another committed, read off the run: exactly those active now with a number at or below the one that the
-- commit recorded. Assumes nothing.
use mathlib.Core.Path.{◌≡◌, refl, sym, ap, subst, ◌∙◌}
use mathlib.Core.Logic.{◌↔◌, ◌≢◌, inl, inr}
use Prim.Native.Nat.{ℕ, ◌≤◌}
use native.Mathlib.Omega.{arith}
use native.Mathlib.Decide.{ℕ_discrete}
use Rattle.method.specs.Calls.{CallAnswer}
use Rattle.std.specs.Prelude.{Ok}
use Rattle.method.specs.declared.Row.{Row}
use Rattle.method.specs.declared.Table.{Table}
use Rattle.method.specs.declared.Answer.{Answer}
use Rattle.method.specs.Records.{number, row_at, closed}
use Rattle.method.specs.Slots.{slot_of}
use Rattle.method.specs.Calls.{Call}
use Rattle.method.specs.Calls.Call.{decide}
use Rattle.method.specs.Effects.{new_row, reported, committed_row, step}
use Rattle.method.proofs.RecordLaws.{never}
use Rattle.method.specs.Seen.{IsActive, IsCommitted, num}
use Rattle.runs.specs.Run.{Run, Run.start, Run.call, after, answer_to, Happened, Commits, CommitsBeside}
use Rattle.runs.specs.History.{history}
use Rattle.invariant.proofs.ChangeLaws.{Changed, both, not_committed, not_free}
use Rattle.invariant.proofs.OpenLaws.{invariant_closed, free_after_open}
use Rattle.runs.proofs.HistoryLaws.{invariant_run}
use Rattle.runs.proofs.StepLaws.{Change, Change.refuses, Change.opens, Change.begins, Change.reports, Change.commits, Change.clears}
use Rattle.invariant.proofs.StandingLaws.{closed_free, one_slot}
use Rattle.runs.proofs.CensusLaws.{last_grows}
use Rattle.runs.proofs.PresentLaws.{change_of_run}
use Rattle.runs.proofs.EventLaws.{later_iff}

-- whoever was active at some commit has a number that was given by now
counted_beside : (n m : ℕ) (r : Run) → Happened (CommitsBeside n m) r → m ≤ (after r).last.0
unfolding Happened after
counted_beside n m start x = absurd x
counted_beside n m (call r c) (inl (x, (i, ac, e))) =
    omega (arith, e, ((invariant_run r).sound.rows i).counted, last_grows (after r) (history r) (invariant_run r) c (change_of_run r c))
counted_beside n m (call r c) (inr x) = omega (arith, counted_beside n m r x, last_grows (after r) (history r) (invariant_run r) c (change_of_run r c))

-- of a committed row and an active one
abbrev Told : Run → Row → Row → Type 0
Told r q p = IsCommitted q → IsActive p → (num p ≤ q.last.0) ↔ Happened (CommitsBeside (num q) (num p)) r

module _ (r : Run) (c : Call) (v : (i j : ℕ) → i ≢ j → Told r (row_at (after r) i) (row_at (after r) j)) where
  abbrev t : Table
  t = after r

  abbrev u : Table
  u = (step (after r) c).table

  abbrev a : CallAnswer
  a = answer_to r c

  -- a pair that the step leaves alone
  carried : (i j : ℕ) → i ≢ j → ¬ Commits (num (row_at t i)) t c a → Told (call r c) (row_at t i) (row_at t j)
  carried i j d n cm ac = later_iff r c (CommitsBeside (num (row_at t i)) (num (row_at t j))) (λ x. n x.0) (v i j d cm ac)

  -- one slot changed, none committed at this step
  module _ (none : (n : ℕ) → ¬ Commits n t c a) (i : ℕ) (q : Row) (ch : Changed (row_at t) i q (row_at u)) where
    quiet : ¬ IsCommitted q → ((j : ℕ) → j ≢ i → Told (call r c) (row_at t j) q) → (j k : ℕ) → j ≢ k → Told (call r c) (row_at u j) (row_at u k)
    quiet nq right = both ch (Told (call r c)) (λ j d cm. absurd (nq cm)) right (λ j k d. carried j k d (none (num (row_at t j))))

    -- the slot holds the same active transaction
    same_active : IsActive (row_at t i) → num q ≡ num (row_at t i) → (j : ℕ) → j ≢ i → Told (call r c) (row_at t j) q
    same_active ac e j d cm aq = rw e (carried j i d (none (num (row_at t j))) cm ac)

  beside_step : Change t c a u → (j k : ℕ) → j ≢ k → Told (call r c) (row_at u j) (row_at u k)
  unfolding new_row reported committed_row Happened
  beside_step (refuses x e st p) j k d = subst (λ (z : Table). Told (call r c) (row_at z j) (row_at z k)) (sym p) (carried j k d (λ y. never (cc)))
  beside_step (opens first floors e f st cl b p) j k d = λ cm. absurd (let z = ap (λ (y : Table). (row_at y j).state) p ∙ (free_after_open first floors j).free in never (cc))
  beside_step (begins sites i e f st nc fr ch l h w) j k d = quiet (λ n y. never (cc)) i (new_row t sites) ch (λ y. never (cc))
      (λ y z cm ac. (
        λ x. absurd (omega (arith, ((invariant_run r).sound.rows y).marked)),
        λ x. elim x [ inl g ↦ never (cc) | inr g ↦ absurd (omega (arith, counted_beside _ _ r g)) ],
      )) j k d
  beside_step (reports p m s x i e f st w sm) j k d =
      quiet (λ n y. never (cc)) i _ w.changed (λ y. not_committed w.active y) (same_active (λ n y. never (cc)) i _ w.changed w.active refl) j k d
  beside_step (commits m e f st w) j k d = both w.changed (Told (call r c))
      (λ y z cm ay. (
        λ x. inl ((e ∙ ap {B = Call} decide (sym w.named), f ∙ ap {B = CallAnswer} (λ (n : ℕ). Ok (Answer.Commit (number n))) (sym w.named)), (y, ay, refl)),
        λ x. ((invariant_run r).sound.rows y).counted,
      ))
      (λ y z cm ay. never (cc))
      (λ y z g. told_other y z g) j k d
    where
      told_other : (y z : ℕ) → y ≢ z → Told (call r c) (row_at t y) (row_at t z)
      told_other y z g cm = carried y z g (λ x. clash (let q : decide m ≡ decide (num (row_at t y)) = cc in cc) (ℕ_discrete y (slot_of t m))) cm
        where
          clash : m ≡ num (row_at t y) → Dec (y ≡ slot_of t m) → ⊥
          clash q (yes i) = not_committed w.active (rw i at cm)
          clash q (no i) = one_slot t (history r) (invariant_run r) (slot_of t m) y m i (not_free w.active) (λ w. never (cc)) w.named (sym q)
  beside_step (clears q w sm) j k d = elim (w.slots j) [
    | inl x ↦ elim (w.slots k) [
      | inl y ↦ subst (λ (z : Row). Told (call r c) z (row_at u k)) (sym x) (subst (Told (call r c) (row_at t j)) (sym y) (carried j k d (q.commits (num (row_at t j)))))
      | inr y ↦ subst (Told (call r c) (row_at u j)) (sym y.0) (λ cm ac. never (cc))
    ]
    | inr x ↦ subst (λ (z : Row). Told (call r c) z (row_at u k)) (sym x.0) (λ cm. never (cc))
  ]

pub beside : (r : Run) (i j : ℕ) → i ≢ j → Told r (row_at (after r) i) (row_at (after r) j)
unfolding after
beside start i j d cm = let z = closed_free closed _ invariant_closed refl i in never (cc)
beside (call r c) i j d cm = beside_step r c (beside r) (change_of_run r c) i j d cm
