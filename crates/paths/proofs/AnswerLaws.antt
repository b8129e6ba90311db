-- The contracts of `has_cycle` and `reached` leave one answer each, and the answer about cycles is what the test of
-- specs/Acyclic.antt of `graph` computes. Assumes nothing.
use mathlib.Core.Path.{◌≡◌, sym, ◌∙◌}
use mathlib.Core.Bool.{Bool, false, not}
use mathlib.Core.List.{List}
use Prim.Native.Nat.{ℕ, ◌<◌}
use lib.ListN.{length, get_or}
use lib.Seq.{ext_get_or}
use Rattle.graph.specs.Acyclic.{acyclic}
use Rattle.graph.proofs.TestLaws.{same_of_iff, iff_not}
use Rattle.orders.specs.Arrow.{Tickets, arrowb}
use Rattle.orders.proofs.ArrowLaws.{acyclic_iff_no_cycle}
use Rattle.paths.specs.Paths.{TellsCycle, TellsReached}

pub cycle_answer_unique : (slots : List Tickets) (a b : Bool) → TellsCycle slots a → TellsCycle slots b → a ≡ b
cycle_answer_unique slots a b p q = same_of_iff a b (λ e. q.1 (p.0 e)) (λ e. p.1 (q.0 e))

pub reached_answer_unique : (slots : List Tickets) (marks a b : List Bool) → TellsReached slots marks a → TellsReached slots marks b → a ≡ b
reached_answer_unique slots marks a b p q = ext_get_or false a b (p.size ∙ sym q.size) each
  where
    each : (j : ℕ) → j < length a → get_or a j false ≡ get_or b j false
    each j h =
        let l : j < 32 = rw p.size at h in
        same_of_iff (get_or a j false) (get_or b j false) (λ e. (q.each j l).1 ((p.each j l).0 e)) (λ e. (p.each j l).1 ((q.each j l).0 e))

pub acyclic_of_tells : (ts : List Tickets) (b : Bool) → TellsCycle ts b → acyclic arrowb ts ≡ not b
acyclic_of_tells ts b t = same_of_iff (acyclic arrowb ts) (not b)
    (λ e. (iff_not b t).1 ((acyclic_iff_no_cycle ts).0 e))
    (λ e. (acyclic_iff_no_cycle ts).1 ((iff_not b t).0 e))
