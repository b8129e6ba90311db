-- What a call's own row lists is what it can be answered. Assumes nothing.
use mathlib.Core.Path.{◌≡◌, refl, subst}
use mathlib.Core.List.{List}
use mathlib.Core.Logic.{◌⊎◌, inl, inr}
use Rattle.std.specs.Prelude.{Err}
use Rattle.refusals.specs.declared.Refusal.{Refusal}
use Rattle.graph.specs.Lists.{◌∈◌}
use Rattle.method.specs.declared.Table.{Table}
use Rattle.method.specs.Calls.{Call, rules}
use Rattle.method.specs.Calls.Call.{open_with, begin, report_ticket, report_prepared, abort, decide, forget, sweep}
use Rattle.method.specs.Effects.{effect, step}
use Rattle.method.proofs.CallLaws.{Steps, Steps.stopped, Steps.passed, step_goes, refused_exactly}
use Rattle.method.proofs.ListedLaws.{refusals_of, listed_of_first, decided_answer}
use Rattle.promises.specs.Demand1.{refusals, Done}

-- the refusals of the checks are those written down
refusals_are : (t : Table) (c : Call) → refusals_of (rules t c) ≡ refusals c
unfolding rules
refusals_are t (open_with first floors) = refl
refusals_are t (begin sites) = refl
refusals_are t (report_ticket n s k) = refl
refusals_are t (report_prepared n s) = refl
refusals_are t (abort n) = refl
refusals_are t (decide n) = refl
refusals_are t (forget n) = refl
refusals_are t sweep = refl

-- and what is done is answered as written down
done_is : (t : Table) (c : Call) → Done t c (effect t c).answer
unfolding effect
done_is t (open_with first floors) = refl
done_is t (begin sites) = refl
done_is t (report_ticket n s k) = refl
done_is t (report_prepared n s) = refl
done_is t (abort n) = refl
done_is t (decide n) = decided_answer t n _
done_is t (forget n) = refl
done_is t sweep = (_, refl)

module _ (t : Table) (c : Call) where
  listed : (k : Refusal) → (step t c).answer ≡ Err k → k ∈ refusals c
  listed k e = subst (λ (l : List Refusal). k ∈ l) (refusals_are t c) (listed_of_first (rules t c) k ((refused_exactly t c k).0 e))

  pub step_answered : Done t c (step t c).answer ⊎ ((k : Refusal) × (k ∈ refusals c) × ((step t c).answer ≡ Err k))
  step_answered = go (step_goes t c)
    where
      go : Steps t c (step t c) → Done t c (step t c).answer ⊎ ((k : Refusal) × (k ∈ refusals c) × ((step t c).answer ≡ Err k))
      go (stopped k f p q) = inr (k, listed k q, q)
      go (passed n p) = inl (rw p (done_is t c))
