-- Said once for all calls: a refused call changes nothing, refusal k is given exactly when k's condition holds and no earlier
-- check of that call caught it, and a call that nothing refuses does what is written for it. Assumes nothing.
use mathlib.Core.Path.{◌≡◌, refl, sym, ap, ◌∙◌}
use mathlib.Core.Bool.{Bool, true, false, false≢true}
use mathlib.Core.List.{List, [], ◌∷◌}
use mathlib.Core.Logic.{◌↔◌, inl, inr}
use Prim.Native.Nat.{ℕ}
use Rattle.std.specs.Prelude.{Option, Some, None, Result, Err}
use Rattle.refusals.specs.declared.Refusal.{Refusal}
use Rattle.graph.proofs.TestLaws.{iff_not}
use Rattle.method.specs.declared.Report.{Report}
use Rattle.method.specs.declared.Table.{Table}
use Rattle.method.specs.declared.Answer.{Answer}
use Rattle.method.specs.declared.Answered.{Answered}
use Rattle.method.specs.Slots.{row_of_number}
use Rattle.method.specs.Conditions.{is_closed}
use Rattle.method.specs.Calls.{Call, rules, checks, FirstHolds, NoneHolds, first_true}
use Rattle.method.specs.Calls.Call.{open_with, begin, report_ticket, report_prepared, abort, decide, forget, sweep}
use Rattle.method.specs.Effects.{decided, effect, act, step}
use Rattle.method.proofs.RecordLaws.{never}
use Rattle.method.proofs.ConditionLaws.{closed_iff, bad_opening_iff, unknown_iff, bad_sites_iff, not_listed_iff, no_step_iff, not_active_iff, not_committed_iff, not_prepared_iff, not_above_iff, taken_iff, full_iff, used_up_iff, may_not_forget_iff}

-- a row of conditions and a row of tests, the same check by check
abbrev Joined : List (Refusal × Type 0) → List (Refusal × Bool) → Type 0
Joined [] [] = Unit {0}
Joined [] (c ∷ cs) = ⊥
Joined (r ∷ rs) [] = ⊥
Joined (r ∷ rs) (c ∷ cs) = (r.0 ≡ c.0) × ((c.1 ≡ true) ↔ r.1) × Joined rs cs

pub checks_mean : (t : Table) (c : Call) → Joined (rules t c) (checks t c)
unfolding rules checks
checks_mean t (open_with first floors) = (refl, iff_not (is_closed t) (closed_iff t), (refl, bad_opening_iff first floors, tt))
checks_mean t (begin sites) = (refl, closed_iff t, (refl, bad_sites_iff t sites, (refl, used_up_iff t, (refl, full_iff t, tt))))
checks_mean t (report_ticket n s k) =
    let r = row_of_number t n in
    (refl, closed_iff t, (refl, unknown_iff t n, (refl, not_listed_iff r s, (refl, no_step_iff r s Report.Ticket, (refl, not_above_iff r s k, (refl, taken_iff t n s k, tt))))))
checks_mean t (report_prepared n s) =
    let r = row_of_number t n in
    (refl, closed_iff t, (refl, unknown_iff t n, (refl, not_listed_iff r s, (refl, no_step_iff r s Report.Prepared, tt))))
checks_mean t (abort n) = (refl, closed_iff t, (refl, unknown_iff t n, (refl, not_active_iff (row_of_number t n), tt)))
checks_mean t (decide n) = (refl, closed_iff t, (refl, unknown_iff t n, (refl, not_prepared_iff (row_of_number t n), tt)))
checks_mean t (forget n) =
    (refl, closed_iff t, (refl, unknown_iff t n, (refl, not_committed_iff (row_of_number t n), (refl, may_not_forget_iff t (row_of_number t n), tt))))
checks_mean t sweep = (refl, closed_iff t, tt)

-- the first test that passes is the first condition that holds
first_holds : (rs : List (Refusal × Type 0)) (cs : List (Refusal × Bool)) → Joined rs cs → (k : Refusal) → first_true cs ≡ Some k → FirstHolds rs k
first_holds [] [] j k e = never (cc)
first_holds [] (c ∷ cs) j k e = absurd j
first_holds (r ∷ rs) [] j k e = absurd j
first_holds (r ∷ rs) (c ∷ cs) (p, h, j) k e = go c.1 c.0 h p (first_holds rs cs j k) e
  where
    go : (b : Bool) (i : Refusal) → (b ≡ true) ↔ r.1 → r.0 ≡ i → (first_true cs ≡ Some k → FirstHolds rs k) → first_true ((i, b) ∷ cs) ≡ Some k → FirstHolds (r ∷ rs) k
    go true i h p rest e = inl (h.0 refl, (cc))
    go false i h p rest e = inr (λ x. false≢true (h.1 x), rest e)

none_holds : (rs : List (Refusal × Type 0)) (cs : List (Refusal × Bool)) → Joined rs cs → first_true cs ≡ None → NoneHolds rs
none_holds [] [] j e = tt
none_holds [] (c ∷ cs) j e = absurd j
none_holds (r ∷ rs) [] j e = absurd j
none_holds (r ∷ rs) (c ∷ cs) (p, h, j) e = go c.1 c.0 h (none_holds rs cs j) e
  where
    go : (b : Bool) (i : Refusal) → (b ≡ true) ↔ r.1 → (first_true cs ≡ None → NoneHolds rs) → first_true ((i, b) ∷ cs) ≡ None → NoneHolds (r ∷ rs)
    go true i h rest e = never (cc)
    go false i h rest e = (λ x. false≢true (h.1 x), rest e)

-- of two that hold first, both are the same; where none holds, none holds first
pub first_unique : {K : Type 0} (rs : List (K × Type 0)) (j k : K) → FirstHolds rs j → FirstHolds rs k → j ≡ k
first_unique [] j k p q = absurd p
first_unique (r ∷ rs) j k (inl p) (inl q) = sym p.1 ∙ q.1
first_unique (r ∷ rs) j k (inl p) (inr q) = absurd (q.0 p.0)
first_unique (r ∷ rs) j k (inr p) (inl q) = absurd (p.0 q.0)
first_unique (r ∷ rs) j k (inr p) (inr q) = first_unique rs j k p.1 q.1

pub none_or_first : {K : Type 0} (rs : List (K × Type 0)) (k : K) → NoneHolds rs → ¬ FirstHolds rs k
none_or_first [] k n f = f
none_or_first (r ∷ rs) k (n, m) (inl p) = n p.0
none_or_first (r ∷ rs) k (n, m) (inr p) = none_or_first rs k m p.1

-- what is done is never a refusal
decided_not_refused : (t : Table) (n : ℕ) (b : Bool) (k : Refusal) → ¬ ((decided t n b).answer ≡ Err k)
unfolding decided
decided_not_refused t n true k e = never (cc)
decided_not_refused t n false k e = never (cc)

effect_not_refused : (t : Table) (c : Call) (k : Refusal) → ¬ ((effect t c).answer ≡ Err k)
unfolding effect
effect_not_refused t (open_with first floors) k e = never (cc)
effect_not_refused t (begin sites) k e = never (cc)
effect_not_refused t (report_ticket n s j) k e = never (cc)
effect_not_refused t (report_prepared n s) k e = never (cc)
effect_not_refused t (abort n) k e = never (cc)
effect_not_refused t (decide n) k e = decided_not_refused t n _ k e
effect_not_refused t (forget n) k e = never (cc)
effect_not_refused t sweep k e = never (cc)

module _ (t : Table) (c : Call) where
  -- the two ways a step can go
  pub data Steps (a : Answered Table Refusal) : Type 0 where
    stopped : (k : Refusal) → FirstHolds (rules t c) k → a.table ≡ t → a.answer ≡ Err k → Steps a
    passed : NoneHolds (rules t c) → a ≡ effect t c → Steps a

  pub step_goes : Steps (step t c)
  unfolding step act
  step_goes = go (first_true (checks t c)) refl
    where
      go : (o : Option Refusal) → first_true (checks t c) ≡ o → Steps (act t c o)
      go None e = passed (none_holds (rules t c) (checks t c) (checks_mean t c) e) refl
      go (Some k) e = stopped k (first_holds (rules t c) (checks t c) (checks_mean t c) k e) refl refl

  pub refused_keeps : (k : Refusal) → (step t c).answer ≡ Err k → (step t c).table ≡ t
  refused_keeps k e = go step_goes
    where
      go : Steps (step t c) → (step t c).table ≡ t
      go (stopped j f p q) = p
      go (passed n p) = absurd (effect_not_refused t c k (ap (λ (a : Answered Table Refusal). a.answer) (sym p) ∙ e))

  pub refused_exactly : (k : Refusal) → ((step t c).answer ≡ Err k) ↔ FirstHolds (rules t c) k
  refused_exactly k = (λ e. forth e step_goes, λ f. back f step_goes)
    where
      forth : (step t c).answer ≡ Err k → Steps (step t c) → FirstHolds (rules t c) k
      forth e (stopped j f p q) = let h : j ≡ k = cc in rw h at f
      forth e (passed n p) = absurd (effect_not_refused t c k (ap (λ (a : Answered Table Refusal). a.answer) (sym p) ∙ e))

      back : FirstHolds (rules t c) k → Steps (step t c) → (step t c).answer ≡ Err k
      back f (stopped j g p q) = q ∙ ap {B = Result Answer Refusal} Err (first_unique (rules t c) j k g f)
      back f (passed n p) = absurd (none_or_first (rules t c) k n f)

  pub done_exactly : NoneHolds (rules t c) → step t c ≡ effect t c
  done_exactly n = go step_goes
    where
      go : Steps (step t c) → step t c ≡ effect t c
      go (stopped k f p q) = absurd (none_or_first (rules t c) k n f)
      go (passed m p) = p
