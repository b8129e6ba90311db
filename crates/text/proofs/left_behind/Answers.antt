-- `text::left_behind` meets its contract. Assumes nothing.
use Rattle.std.proofs.Common.{◌≡◌, ◌∙◌, ◌+◌, ◌-◌, rules, length}
use Rattle.std.specs.List.{fold}
use Rattle.std.proofs.iter.runs.Made.{chains}
use Rattle.decimal.specs.Decimal.{decimal}
use Rattle.text.proofs.SpacedLaws.{fold_room}
use Rattle.text.proofs.left_behind.Goals as goal

pub returns : goal.returns
returns c =
    let a = c.args in
    let e : c.fold.result ≡ fold (λ left n. left - (1 + length (decimal n))) a.room a.numbers.now = search (rules, chains) in
    e ∙ fold_room a.numbers.now a.room
