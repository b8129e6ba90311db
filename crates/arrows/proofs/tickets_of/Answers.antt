-- `arrows::tickets_of` meets its contract: after s turns the first s tickets are read, and past eight there are none. Assumes nothing.
use Rattle.std.proofs.Common.{◌≡◌, ◌+◌, ◌*◌, get_or, sym, ◌∙◌, arith}
use Rattle.std.proofs.lemmas.Grind.{common_steps}
use native.Mathlib.Decide.{ℕ_discrete}
use lib.ListN.{length, length-set}
use lib.Seq.{get_or-set_same, get_or-set_other}
use Rattle.orders.specs.Arrow.{ticket_at}
use Rattle.orders.specs.Entries.{entry_at}
use Rattle.orders.proofs.EntriesLaws.{ticket_entry_at}
use Rattle.arrows.proofs.PastLaws.{tickets_are}
use Rattle.arrows.proofs.tickets_of.Goals as goal

pub loop-s-preserved : goal.loop-s-preserved
loop-s-preserved c =
    let a = c.args in
    let s = c.loop-s.s in
    let v = c.loop-s.invariant in
    let read : c.map_or.result ≡ get_or a.rows.now (9 * a.i + 1 + s) 0 = grind (arith, common_steps) in
    let ticket : c.map_or.result ≡ ticket_at (entry_at a.rows.now a.i).tickets s = read ∙ sym (ticket_entry_at a.rows.now a.i s (omega arith)) in
    let size : length c.loop-s.own ≡ 8 = v.0 in (
      simp length-set v.0,
      λ k h. elim (ℕ_discrete k s) [
        | yes e ↦ rw (e, get_or-set_same c.loop-s.own s c.map_or.result 0 (omega arith)) ticket
        | no e ↦ get_or-set_other c.loop-s.own s k c.map_or.result 0 e ∙ v.1 k (omega arith)
      ],
    )

pub returns : goal.returns
returns c = record { answer = tickets_are c.loop-s.own c.args.rows.now c.args.i c.loop-s.invariant.0 (λ k h. c.loop-s.invariant.1 k (omega (arith, c.loop-s-test.false))) }
