-- Which numbers the table knows, over one step: who was known still is or leaves, who is known was known or begins. Assumes nothing.
use mathlib.Core.Path.{◌≡◌, refl, sym, ap, subst, ◌∙◌}
use mathlib.Core.List.{List}
use mathlib.Core.Logic.{◌⊎◌, inl, inr}
use Prim.Native.Nat.{ℕ, ◌+◌, ◌≤◌}
use native.Mathlib.Omega.{arith}
use Rattle.orders.specs.Entries.{Entry}
use Rattle.refusals.specs.declared.Refusal.{Refusal}
use Rattle.method.specs.Calls.{CallAnswer}
use Rattle.std.specs.Prelude.{Ok, Err}
use Rattle.method.specs.declared.Number.{Number}
use Rattle.method.specs.declared.Row.{Row}
use Rattle.method.specs.declared.Table.{Table}
use Rattle.method.specs.declared.Answer.{Answer}
use Rattle.method.specs.Records.{number, row_at}
use Rattle.method.specs.Seen.{IsFree, num, Known}
use Rattle.method.specs.Conditions.{Closed}
use Rattle.method.specs.Calls.{Call}
use Rattle.method.specs.Effects.{opened, new_row, reported, committed_row, step}
use Rattle.method.proofs.RecordLaws.{never}
use Rattle.invariant.specs.Invariant.{Invariant}
use Rattle.invariant.proofs.ChangeLaws.{Changed, there, not_free}
use Rattle.invariant.proofs.StandingLaws.{closed_free}
use Rattle.invariant.proofs.OpenLaws.{free_after_open}
use Rattle.runs.specs.Run.{Begins}
use Rattle.runs.proofs.StepLaws.{Change, Change.refuses, Change.opens, Change.begins, Change.reports, Change.commits, Change.clears, Leaves}

-- a changed slot and the numbers that the table knows
module _ (t u : Table) (i : ℕ) (q : Row) (ch : Changed (row_at t) i q (row_at u)) where
  -- the same number stands there after the change
  known_kept : ¬ IsFree q → num q ≡ num (row_at t i) → (n : ℕ) → Known t n → Known u n
  known_kept f e n (j, g, p) = elim (ch j) [
    | inl c ↦ (j, subst (λ (x : Row). ¬ IsFree x) (sym c.1) f, ap num c.1 ∙ e ∙ ap (λ (k : ℕ). num (row_at t k)) (sym c.0) ∙ p)
    | inr c ↦ (j, subst (λ (x : Row). ¬ IsFree x) (sym c.1) g, ap num c.1 ∙ p)
  ]

  known_before : num q ≡ num (row_at t i) → ¬ IsFree (row_at t i) → (n : ℕ) → Known u n → Known t n
  known_before e f n (j, g, p) = elim (ch j) [
    | inl c ↦ (i, f, sym e ∙ ap num (sym c.1) ∙ p)
    | inr c ↦ (j, subst (λ (x : Row). ¬ IsFree x) c.1 g, ap num (sym c.1) ∙ p)
  ]

  -- the slot was free
  known_new : IsFree (row_at t i) → (n : ℕ) → Known t n → Known u n
  known_new f n (j, g, p) = elim (ch j) [
    | inl c ↦ absurd (g (ap (λ (k : ℕ). (row_at t k).state) c.0 ∙ f))
    | inr c ↦ (j, subst (λ (x : Row). ¬ IsFree x) (sym c.1) g, ap num c.1 ∙ p)
  ]

  known_old : (n : ℕ) → Known u n → Known t n ⊎ (num q ≡ n)
  known_old n (j, g, p) = elim (ch j) [
    | inl c ↦ inr (ap num (sym c.1) ∙ p)
    | inr c ↦ inl (j, subst (λ (x : Row). ¬ IsFree x) c.1 g, ap num (sym c.1) ∙ p)
  ]

-- one step
module _ (t : Table) (es : List Entry) (v : Invariant t es) (c : Call) where
  abbrev a : CallAnswer
  a = (step t c).answer

  abbrev u : Table
  u = (step t c).table

  -- who leaves was known, and is known no more
  pub known_of_leaves : Change t c a u → (n : ℕ) → Leaves t c a n → Known t n × (¬ Known u n)
  known_of_leaves (refuses k e st p) n x = absurd (st n x)
  known_of_leaves (opens first floors e f st cl b p) n x = absurd (st n x)
  known_of_leaves (begins sites i e f st nc fr ch l h s) n x = absurd (st n x)
  known_of_leaves (reports p m s k i e f st w sm) n x = absurd (st n x)
  known_of_leaves (commits m e f st w) n x = absurd (st n x)
  known_of_leaves (clears q w sm) n x = w.left n x

  -- who was known still is, or leaves at this step
  pub known_forth : Change t c a u → (n : ℕ) → Known t n → Known u n ⊎ Leaves t c a n
  unfolding new_row reported committed_row
  known_forth (refuses k e st p) n x = inl (subst (λ (z : Table). Known z n) (sym p) x)
  known_forth (opens first floors e f st cl b p) n (j, g, q) = absurd (g (closed_free t es v cl j))
  known_forth (begins sites i e f st nc fr ch l h s) n x = inl (known_new t u i _ ch fr n x)
  known_forth (reports p m s k i e f st w sm) n x = inl (known_kept t u i _ w.changed (not_free w.active) refl n x)
  known_forth (commits m e f st w) n x = inl (known_kept t u _ _ w.changed (λ z. never (cc)) refl n x)
  known_forth (clears q w sm) n (j, g, p) = elim (w.slots j) [
    | inl z ↦ inl (j, subst (λ (x : Row). ¬ IsFree x) (sym z) g, ap num z ∙ p)
    | inr (z, f, l) ↦ inr (rw p at l)
  ]

  -- who is known was known, or begins at this step
  pub known_back : Change t c a u → (n : ℕ) → Known u n → Known t n ⊎ ((sites : ℕ) × Begins n sites t c a)
  unfolding new_row reported committed_row
  known_back (refuses k e st p) n x = inl (subst (λ (z : Table). Known z n) p x)
  known_back (opens first floors e f st cl b p) n (j, g, q) = absurd (g (ap (λ (z : Table). (row_at z j).state) p ∙ (free_after_open first floors j).free))
  known_back (begins sites i e f st nc fr ch l h s) n x = elim (known_old t u i _ ch n x) [
    | inl y ↦ inl y
    | inr y ↦ inr (sites, (e, f ∙ ap {B = CallAnswer} (λ (k : ℕ). Ok (Answer.Begun (number k))) y))
  ]
  known_back (reports p m s k i e f st w sm) n x = inl (known_before t u i _ w.changed refl (not_free w.active) n x)
  known_back (commits m e f st w) n x = inl (known_before t u _ _ w.changed refl (not_free w.active) n x)
  known_back (clears q w sm) n (j, g, p) = elim (w.slots j) [
    | inl z ↦ inl (j, subst (λ (x : Row). ¬ IsFree x) z g, ap num (sym z) ∙ p)
    | inr z ↦ absurd (g (ap (λ (x : Row). x.state) z.0))
  ]

  -- a begin: the number is the next, and is known then
  pub begins_next : Change t c a u → (n sites : ℕ) → Begins n sites t c a → (n ≡ t.last.0 + 1) × (u.last.0 ≡ n) × Known u n
  unfolding new_row
  begins_next (refuses k e st p) n x b = never (cc)
  begins_next (opens first floors e f st cl bo p) n x b = never (cc)
  begins_next (begins sites i e f st nc fr ch l h s) n x b =
      let z : number n ≡ number (t.last.0 + 1) = cc in
      let y = ap (λ (k : Number). k.0) z in
      (y, l ∙ sym y, (i, there ch (λ (q : Row). ¬ IsFree q) (λ k. never (cc)), there ch (λ (q : Row). num q ≡ n) (sym y)))
  begins_next (reports p m s k i e f st w sm) n x b = never (cc)
  begins_next (commits m e f st w) n x b = never (cc)
  begins_next (clears q w sm) n x b = absurd (q.begins n x b)

  -- the last number never falls, and only a refusal leaves a closed table closed
  pub last_grows : Change t c a u → t.last.0 ≤ u.last.0
  last_grows (refuses k e st p) = rw p (omega arith)
  last_grows (opens first floors e f st cl b p) = omega (arith, ap (λ (z : Table). z.last.0) (v.shut cl).1)
  last_grows (begins sites i e f st nc fr ch l h s) = omega arith
  last_grows (reports p m s k i e f st w sm) = omega (arith, sm.last)
  last_grows (commits m e f st w) = omega (arith, w.last)
  last_grows (clears q w sm) = omega (arith, sm.last)

  pub refused_of_closed : Change t c a u → Closed u → (k : Refusal) × (a ≡ Err k) × Closed t
  unfolding opened
  refused_of_closed (refuses k e st p) cl = (k, e, rw p at cl)
  refused_of_closed (opens first floors e f st x b p) cl = absurd (b (inl (ap (λ (z : Table). z.sites) (sym p) ∙ cl)))
  refused_of_closed (begins sites i e f st nc fr ch l h s) cl = absurd (nc (sym s ∙ cl))
  refused_of_closed (reports p m s k i e f st w sm) cl = absurd (w.opened (sym sm.sites ∙ cl))
  refused_of_closed (commits m e f st w) cl = absurd (w.opened (sym w.sites ∙ cl))
  refused_of_closed (clears q w sm) cl = absurd (w.opened (sym sm.sites ∙ cl))
