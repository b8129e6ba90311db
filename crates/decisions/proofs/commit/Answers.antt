-- `decisions::commit` meets its contract. Assumes nothing.
use mathlib.Core.Path.{ap}
use Rattle.refusals.specs.declared.Refusal.{Refusal}
use Rattle.std.specs.Prelude.{Ok}
use Rattle.method.specs.declared.Table.{Table}
use Rattle.method.specs.declared.Answer.{Answer}
use Rattle.method.specs.declared.Answered.{Answered}
use Rattle.method.specs.Records.{row_at, with_row, with_high}
use Rattle.method.specs.Effects.{answered, committed_row}
use Rattle.decisions.proofs.commit.Goals as goal

pub returns : goal.returns
unfolding committed_row
returns c = let a = c.args in record { answer = ap {B = Answered Table Refusal} (λ hs. answered (with_high (with_row a.t a.slot (committed_row a.t (row_at a.t a.slot))) hs) (Ok (Answer.Commit a.n))) c.raised-table.ensures.answer }
