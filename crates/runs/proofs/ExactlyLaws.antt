-- Decide, forget and sweep do exactly what RULES say, on every table. Assumes nothing.
use mathlib.Core.Path.{◌≡◌, refl, ap, ◌∙◌}
use mathlib.Core.Bool.{Bool, true, false, not, ◌&&◌, cond}
use mathlib.Core.List.{List, [], ◌∷◌, map}
use mathlib.Core.Logic.{◌↔◌, ◌⊎◌, inl, inr}
use Prim.Native.Nat.{ℕ, ◌+◌}
use native.Mathlib.Omega.{arith}
use lib.ListN.{length}
use Rattle.graph.specs.Lists.{keep}
use Rattle.graph.specs.Path.{Cycle}
use Rattle.graph.specs.Acyclic.{acyclic}
use Rattle.graph.proofs.TestLaws.{true_or_false, false_of_not_true, not_of_true, not_of_false}
use Rattle.graph.proofs.MemberLaws.{keep_of_true, keep_of_false}
use Rattle.graph.proofs.AcyclicLaws.{cycle_of_not_acyclic}
use Rattle.graph.proofs.PathLaws.{cycle_of_weaker}
use Rattle.graph.proofs.MapLaws.{mapped_cycle_iff}
use Rattle.orders.specs.Arrow.{Arrow, arrowb}
use Rattle.orders.proofs.ArrowLaws.{arrowb→arrow}
use Rattle.std.specs.Prelude.{Ok, Err}
use Rattle.refusals.specs.declared.Refusal.{Refusal}
use Rattle.method.specs.declared.Row.{Row}
use Rattle.method.specs.declared.Table.{Table}
use Rattle.method.specs.declared.Answer.{Answer}
use Rattle.method.specs.declared.Answered.{Answered}
use Rattle.method.specs.Records.{free_row, is_free, committed, tickets_of, Goes}
use Rattle.method.specs.Slots.{row_of_number, kept}
use Rattle.method.specs.Conditions.{Closed, Unknown, HasPred, HeldBack}
use Rattle.method.specs.Calls.{rules, NoneHolds}
use Rattle.method.specs.Calls.Call.{decide, forget}
use Rattle.method.specs.Effects.{answered, decided, freed, stays, swept_row, swept_table, swept_count, effect, step}
use Rattle.method.proofs.RecordLaws.{never, free_iff, committed_iff}
use Rattle.method.proofs.CallLaws.{done_exactly, refused_exactly}
use Rattle.method.proofs.GraphLaws.{no_cycle_iff}
use Rattle.runs.specs.Sweeps.{free_slots}
use Rattle.method.specs.Seen.{IsCommitted}

-- a decision that nothing refuses
module _ (t : Table) (n : ℕ) (ok : NoneHolds (rules t (decide n))) where
  abbrev q : Row
  q = row_of_number t n

  abbrev test : Bool
  test = acyclic arrowb (tickets_of q ∷ map tickets_of (kept t))

  step_decides : step t (decide n) ≡ decided t n test
  unfolding effect
  step_decides = done_exactly t (decide n) ok

  cycle_of_test : test ≡ false → Cycle Goes (q ∷ kept t)
  cycle_of_test e = (mapped_cycle_iff tickets_of (q ∷ kept t) Arrow).1 (cycle_of_weaker arrowb→arrow (cycle_of_not_acyclic arrowb (map tickets_of (q ∷ kept t)) e))

  pub data Decision (a : Answered Table Refusal) : Type 0 where
    commits : ¬ Cycle Goes (q ∷ kept t) → a ≡ decided t n true → Decision a
    cycles : Cycle Goes (q ∷ kept t) → a ≡ decided t n false → Decision a

  -- it commits exactly if the candidate and the kept rows make no cycle of any length
  pub commits_exactly : Decision (step t (decide n))
  commits_exactly = elim (true_or_false test) [
    | inl e ↦ commits ((no_cycle_iff q (kept t)).0 e) (step_decides ∙ ap (decided t n) e)
    | inr e ↦ cycles (cycle_of_test e) (step_decides ∙ ap (decided t n) e)
  ]

-- a committed one that the table knows is forgotten exactly if no kept one has an arrow to it and no older active one holds it back
module _ (t : Table) (n : ℕ) (nc : ¬ Closed t) (nu : ¬ Unknown t n) (cm : IsCommitted (row_of_number t n)) where
  pub forgets_exactly : (step t (forget n) ≡ answered (freed t n) (Ok Answer.Done)) ↔ ((¬ HasPred t (row_of_number t n)) × (¬ HeldBack t (row_of_number t n)))
  unfolding rules effect
  forgets_exactly = (
    λ e. ((λ p. stopped e (inl p)), (λ p. stopped e (inr p))),
    λ f. done_exactly t (forget n) (nc, (nu, ((λ k. k cm), ((λ m. elim m [ inl p ↦ f.0 p | inr p ↦ f.1 p ]), tt)))),
  )
    where
      stopped : step t (forget n) ≡ answered (freed t n) (Ok Answer.Done) → ¬ (HasPred t (row_of_number t n) ⊎ HeldBack t (row_of_number t n))
      stopped e m =
          let r : (step t (forget n)).answer ≡ Err Refusal.TooEarly = (refused_exactly t (forget n) Refusal.TooEarly).1 (inr (nc, inr (nu, inr ((λ k. k cm), inl (m, refl))))) in
          let s = ap (λ (a : Answered Table Refusal). a.answer) e in
          never (cc)

-- the count of a sweep is the slots that it frees
module _ (t : Table) where
  abbrev free : Row → Bool
  free r = is_free r.state

  abbrev goes : Row → Bool
  goes r = not (stays t r)

  swept_is : (r : Row) (b c : Bool) → committed r ≡ b → stays t r ≡ c → swept_row t r ≡ cond (b && not c) free_row r
  unfolding swept_row
  swept_is r b c e f = rw (e, f)

  not_free : (r : Row) → committed r ≡ true → free r ≡ false
  not_free r e = false_of_not_true (free r) (λ f. let c = (committed_iff r.state).0 e in let z = (free_iff r.state).0 f in never (cc))

  abbrev Counted : List Row → Type 0
  Counted rs = free_slots (map (swept_row t) rs) ≡ free_slots rs + length (keep goes (keep committed rs))

  swept_free : (rs : List Row) → Counted rs
  swept_free [] = refl
  swept_free (r ∷ rs) = go (true_or_false (committed r)) (true_or_false (stays t r)) (true_or_false (free r)) (swept_free rs)
    where
      go : (committed r ≡ true) ⊎ (committed r ≡ false) → (stays t r ≡ true) ⊎ (stays t r ≡ false) → (free r ≡ true) ⊎ (free r ≡ false) → Counted rs → Counted (r ∷ rs)
      go (inl c) (inl s) f h =
          rw (swept_is r true true c s, keep_of_false free r (map (swept_row t) rs) (not_free r c), keep_of_false free r rs (not_free r c), keep_of_true committed r rs c, keep_of_false goes r (keep committed rs) (not_of_true s)) h
      go (inl c) (inr s) f h =
          rw (swept_is r true false c s, keep_of_false free r rs (not_free r c), keep_of_true committed r rs c, keep_of_true goes r (keep committed rs) (not_of_false s)) (omega arith)
      go (inr c) s (inl f) h = rw (keeps s, keep_of_true free r (map (swept_row t) rs) f, keep_of_true free r rs f, keep_of_false committed r rs c) (omega arith)
        where
          keeps : (stays t r ≡ true) ⊎ (stays t r ≡ false) → swept_row t r ≡ r
          keeps (inl s) = swept_is r false true c s
          keeps (inr s) = swept_is r false false c s
      go (inr c) s (inr f) h = rw (keeps s, keep_of_false free r (map (swept_row t) rs) f, keep_of_false free r rs f, keep_of_false committed r rs c) h
        where
          keeps : (stays t r ≡ true) ⊎ (stays t r ≡ false) → swept_row t r ≡ r
          keeps (inl s) = swept_is r false true c s
          keeps (inr s) = swept_is r false false c s

  pub sweep_counts : free_slots (swept_table t).rows ≡ free_slots t.rows + swept_count t
  unfolding swept_count kept
  sweep_counts = swept_free t.rows
