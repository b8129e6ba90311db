-- `good::entries::number_at` meets its contract: what the list does not hold reads as 0. Assumes nothing.
use Rattle.std.proofs.Common.{◌≡◌, ◌*◌, get_or, sym, ◌∙◌, arith}
use Rattle.std.proofs.lemmas.Grind.{common_steps}
use lib.ListN.{get_or-eq_default}
use Rattle.orders.proofs.EntriesLaws.{number_entry_at}
use Rattle.good.proofs.entries.number_at.Goals as goal

pub returns-then-rows-i : goal.returns-then-rows-i
returns-then-rows-i c = let a = c.args in record { answer = sym (number_entry_at a.rows.now a.i ∙ get_or-eq_default a.rows.now 0 (omega arith)) }

pub returns : goal.returns
returns c = let a = c.args in
    let e : c.map_or.result ≡ get_or a.rows.now (9 * a.i) 0 = grind (arith, common_steps) in
    record { answer = e ∙ sym (number_entry_at a.rows.now a.i) }
