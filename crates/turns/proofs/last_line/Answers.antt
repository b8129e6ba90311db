-- `turns::last_line` meets its contract. Assumes nothing.
use Rattle.std.proofs.Common.{◌≡◌, ◌∙◌, ap, rules, length, ◌+◌}
use Rattle.turns.specs.Turn.{eleven}
use Rattle.turns.specs.Struct.{turn_of}
use mathlib.Core.Bool.{true}
use Rattle.turns.proofs.RoomLaws.{eleven_room}
use Rattle.turns.proofs.last_line.Goals as goal

pub unwrap-n-requires : goal.unwrap-n-requires
unfolding eleven
unwrap-n-requires c =
    let w = rw c.from.ensures at c.write_line.ensures.answer in
    let q = w ∙ (eleven_room c.args.out.now c.args.written c.requires).0 in search (rules, q)

pub returns-clause-answer : goal.returns-clause-answer
unfolding eleven
returns-clause-answer c =
    let a = c.args in
    let w = rw c.from.ensures at c.write_line.ensures.answer in
    let q = w ∙ (eleven_room a.out.now a.written c.requires).0 in
    let k : c.unwrap-n.result ≡ length eleven = cc (q, c.unwrap-n.ensures) in
    ap (λ n. turn_of a.table a.used (a.written + n) true) k

pub returns-clause-buffer : goal.returns-clause-buffer
unfolding eleven
returns-clause-buffer c = (rw c.from.ensures at c.write_line.ensures.buffer) ∙ (eleven_room c.args.out.now c.args.written c.requires).1
