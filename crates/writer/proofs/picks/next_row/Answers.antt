-- `writer::picks::next_row` meets its contract: after j turns it has the least of the first j rows. Assumes nothing.
use Rattle.std.proofs.Common.{rules, ◌≡◌, ◌^◌, ◌<◌, sym, ap, ◌∙◌}
use Rattle.arrows.specs.Placed.{may_stand}
use Rattle.writer.specs.Next.{number_at, lower}
use Rattle.writer.proofs.BelowLaws.{least_below_none, least_below_hit, least_below_skip}
use Rattle.writer.proofs.NextLaws.{may_of_words}
use Rattle.writer.proofs.picks.next_row.Goals.{then-may_stand, else-may_stand}
use Rattle.writer.proofs.picks.next_row.Goals as goal

pub loop-j-init : goal.loop-j-init
loop-j-init c = sym (least_below_none _ _)

pub loop-j-preserved : goal.loop-j-preserved
loop-j-preserved c =
    let flat = c.args.rows.now in
    let w = c.args.placed in
    let j = c.loop-j.j in
    let fits : w < 2 ^ 32 = search rules in
    let may : c.may_stand.result ≡ may_stand flat w j = c.may_stand.ensures.answer ∙ rw c.requires.1 (sym (may_of_words flat c.requires.0 w fits j c.loop-j-test.true)) in
    elim c.if-may_stand.branch [
      | then-may_stand r ↦ r.best-is ∙ r.lower-best.ensures.answer ∙ ap (λ b. lower (number_at flat) b j) c.loop-j.invariant
          ∙ least_below_hit (may_stand flat w) (number_at flat) j (sym may ∙ r.if-may_stand.true)
      | else-may_stand r ↦ r.best-is ∙ c.loop-j.invariant ∙ least_below_skip (may_stand flat w) (number_at flat) j (sym may ∙ r.if-may_stand.false)
    ]
