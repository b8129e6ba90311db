-- A sweep against forgets one by one.
use Rattle.std.specs.Prelude.{◌≡◌, List, [], ◌∷◌, ℕ, length}
use Rattle.graph.specs.Lists.{keep}
use Rattle.std.specs.Prelude.{Ok}
use Rattle.method.specs.declared.Row.{Row}
use Rattle.method.specs.declared.Table.{Table}
use Rattle.method.specs.declared.Answer.{Answer}
use Rattle.method.specs.Records.{is_free}
use Rattle.method.specs.Calls.Call.{forget}
use Rattle.method.specs.Effects.{step}

-- how many slots are free
abbrev pub free_slots : List Row → ℕ
free_slots rs = length (keep (λ (r : Row). is_free r.state) rs)

-- forgetting these numbers one after the other, each accepted, leads from one table to the other
abbrev pub ForgetAll : Table → List ℕ → Table → Type 0
ForgetAll t [] u = t ≡ u
ForgetAll t (n ∷ ns) u = ((step t (forget n)).answer ≡ Ok Answer.Done) × ForgetAll (step t (forget n)).table ns u

-- no forget is accepted
abbrev pub NoneToForget : Table → Type 0
NoneToForget t = (n : ℕ) → ¬ ((step t (forget n)).answer ≡ Ok Answer.Done)
