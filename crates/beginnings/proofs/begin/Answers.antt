-- `beginnings::begin` meets its contract. Assumes nothing.
use mathlib.Core.Path.{sym, ap, ◌∙◌}
use Prim.Native.Nat.{◌+◌}
use Rattle.std.specs.Prelude.{Ok}
use Rattle.method.specs.declared.Answer.{Answer}
use Rattle.method.specs.Records.{number, with_row, with_last}
use Rattle.method.specs.Slots.{free_slot}
use Rattle.method.specs.Calls.Call.{begin}
use Rattle.method.specs.Effects.{answered, new_row, effect}
use Rattle.method.proofs.CheckLaws.{refused_step, passed_step}
use Rattle.beginnings.proofs.begin.Goals as goal

pub returns-in-Ok : goal.returns-in-Ok
unfolding effect
returns-in-Ok c =
    let t = c.args.t in
    let x = c.args.x in
    let (e, v) = passed_step t (begin x) (free_slot t) (sym c.room.ensures.answer ∙ c.in-Ok.is) in
    record {
      answer = c.begun.ensures.answer
          ∙ ap (λ i. answered (with_row (with_last t (number (t.last.0 + 1))) i (new_row t x)) (Ok (Answer.Begun (number (t.last.0 + 1))))) v ∙ sym e;
    }

pub returns-in-Err : goal.returns-in-Err
returns-in-Err c =
    let a = c.args in
    record { answer = c.refuse.ensures.answer ∙ sym (refused_step a.t (begin a.x) (free_slot a.t) (sym c.room.ensures.answer ∙ c.in-Err.is)) }
