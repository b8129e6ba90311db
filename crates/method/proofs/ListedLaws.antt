-- A call gets no refusal but those of its own row of checks, and what is done is answered as its row says. Assumes nothing.
use mathlib.Core.Path.{◌≡◌, refl, sym}
use mathlib.Core.Bool.{Bool, true, false, not}
use mathlib.Core.List.Memᴰ.{head as here}
use mathlib.Core.List.Memᴰ.{tail as there}
use mathlib.Core.List.{List, [], ◌∷◌}
use mathlib.Core.Logic.{◌↔◌, ◌⊎◌, inl, inr}
use Prim.Native.Nat.{ℕ}
use lib.Dec.{eqb}
use borrow.Author.Tests.{eqb-true, eq-eqb}
use Rattle.std.specs.Prelude.{Ok, Err}
use Rattle.refusals.specs.declared.Refusal.{Refusal}
use Rattle.refusals.specs.Numbers.{number_of}
use Rattle.refusals.proofs.NumberLaws.{numbers_differ}
use Rattle.graph.specs.Lists.{◌∈◌, any_of}
use Rattle.graph.proofs.TestLaws.{true_or_false, true_not_false}
use Rattle.graph.proofs.MemberLaws.{any_of_member, iff_any}
use Rattle.method.specs.declared.Table.{Table}
use Rattle.method.specs.declared.Answer.{Answer}
use Rattle.method.specs.Records.{number}
use Rattle.method.specs.Calls.{Call, rules, call_refusals, FirstHolds}
use Rattle.method.specs.Calls.Call.{open_with, begin, report_ticket, report_prepared, abort, decide, forget, sweep}
use Rattle.method.specs.Effects.{decided, step}
use Rattle.method.proofs.CallLaws.{refused_exactly}

-- the refusals of a row of conditions
abbrev pub refusals_of : List (Refusal × Type 0) → List Refusal
refusals_of [] = []
refusals_of (r ∷ rs) = r.0 ∷ refusals_of rs

pub listed_of_first : (rs : List (Refusal × Type 0)) (k : Refusal) → FirstHolds rs k → k ∈ refusals_of rs
listed_of_first [] k f = absurd f
listed_of_first (r ∷ rs) k (inl p) = here (sym p.1)
listed_of_first (r ∷ rs) k (inr p) = there (listed_of_first rs k p.1)

-- a decision that nothing refuses is a commit or a cycle
pub decided_answer : (t : Table) (n : ℕ) (b : Bool) → ((decided t n b).answer ≡ Ok (Answer.Commit (number n))) ⊎ ((decided t n b).answer ≡ Ok (Answer.Cycle (number n)))
unfolding decided
decided_answer t n true = inl refl
decided_answer t n false = inr refl

-- a refusal of calls, by its number
abbrev is_listed : Refusal → Bool
is_listed k = any_of (λ (q : Refusal). eqb (number_of k) (number_of q)) call_refusals

listed_of_test : (k : Refusal) → is_listed k ≡ true → k ∈ call_refusals
listed_of_test k h = let (q, m, e) = (iff_any (λ (q : Refusal). eqb (number_of k) (number_of q)) (λ (q : Refusal). number_of k ≡ number_of q) each call_refusals).0 h in
    let s : k ≡ q = numbers_differ k q e in rw s m
  where
    each : (q : Refusal) → (eqb (number_of k) (number_of q) ≡ true) ↔ (number_of k ≡ number_of q)
    each q = (eqb-true (number_of k) (number_of q), eq-eqb (number_of k) (number_of q))

-- every row's refusals are among those of calls, computed row by row
rows_listed : (t : Table) (c : Call) → any_of (λ (k : Refusal). not (is_listed k)) (refusals_of (rules t c)) ≡ false
unfolding rules
rows_listed t (open_with first floors) = refl
rows_listed t (begin sites) = refl
rows_listed t (report_ticket n s k) = refl
rows_listed t (report_prepared n s) = refl
rows_listed t (abort n) = refl
rows_listed t (decide n) = refl
rows_listed t (forget n) = refl
rows_listed t sweep = refl

pub refusal_listed : (t : Table) (c : Call) (k : Refusal) → (step t c).answer ≡ Err k → k ∈ call_refusals
refusal_listed t c k e = listed_of_test k (go (true_or_false (is_listed k)))
  where
    member : k ∈ refusals_of (rules t c)
    member = listed_of_first (rules t c) k ((refused_exactly t c k).0 e)

    go : (is_listed k ≡ true) ⊎ (is_listed k ≡ false) → is_listed k ≡ true
    go (inl h) = h
    go (inr h) = absurd (true_not_false (any_of_member (λ (q : Refusal). not (is_listed q)) member (rw h)) (rows_listed t c))
