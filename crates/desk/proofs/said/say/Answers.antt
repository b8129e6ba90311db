-- `desk::said::say` meets its contract: what the code can say has room in 358 bytes. Assumes nothing.
use Rattle.std.proofs.Common.{◌≡◌, ◌∙◌, ◌^◌, sym, rules, take}
use Rattle.std.proofs.lemmas.List.{take_min}
use Rattle.endian.specs.Places.{Below}
use Rattle.endian.proofs.BelowLaws.{below_of_get_or}
use Rattle.lines.proofs.WritingLaws.{written_of_358}
use Rattle.queries.specs.declared.Said.{Said}
use Rattle.queries.specs.Said.{said_line}
use Rattle.desk.proofs.RangeLaws.{in_range}
use Rattle.desk.proofs.said.say.Goals.{in-Words, in-Order}
use Rattle.desk.proofs.said.say.Goals as goal

pub unwrap-requires : goal.unwrap-requires
unwrap-requires c =
    let l = c.args.numbers.now in
    let out = c.args.out.now in
    let place = c.args.place in
    let b : Below (2 ^ 32) l = below_of_get_or (2 ^ 32) l (λ i. (c.type_inv.numbers i).fits) in
    elim c.match-said.branch [
      | in-Words w ↦ (let x = Said.Words w.in-Words.w in
          let r = written_of_358 out place (said_line x l) (in_range l b c.requires.0 c.args.said x w.in-Words.is c.well_formed.0) c.requires.1 in
          let q = w.n-is ∙ w.write_line-n.ensures.answer ∙ sym r.0 in search (rules, q))
      | in-Order w ↦ (let x = Said.Order w.in-Order.n in
          let r = written_of_358 out place (said_line x l) (in_range l b c.requires.0 c.args.said x w.in-Order.is c.well_formed.0) c.requires.1 in
          let m : take w.min.result l ≡ take w.in-Order.n l = rw w.min.ensures (take_min w.in-Order.n l) in
          let a = rw m at w.write_order-n.ensures.answer in
          let q = w.n-is ∙ a ∙ sym r.0 in search (rules, q))
    ]
