-- `queries::judge` meets its contract: whatever the check answered to the kept rows, that is said. Assumes nothing.
use mathlib.Core.Path.{ap, ◌∙◌}
use Rattle.lines.specs.Line.{Line.say}
use Rattle.method.specs.Slots.{kept_flat}
use Rattle.queries.specs.Said.{spoken_of}
use Rattle.queries.proofs.AnswerLaws.{proposal_said, open_spoken}
use Rattle.queries.proofs.judge.Goals as goal

pub returns : goal.returns
returns c = let t = c.args.t.now.held in
    let a = c.check_kept in
    let l = ap say c.judged-words.ensures.answer ∙ proposal_said (kept_flat t) c.args.numbers.now a.result a.ensures.answer in
    record { answer = open_spoken t _ _ _ c.if_open.ensures.answer (c.speak.ensures.answer ∙ ap spoken_of l) }
