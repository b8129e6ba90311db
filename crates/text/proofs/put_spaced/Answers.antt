-- `text::put_spaced` meets its contract: the digits stand right behind the space. Assumes nothing.
use Rattle.std.proofs.Common.{◌≡◌, ◌∙◌, rules, length}
use native.Mathlib.Omega.{arith}
use Rattle.decimal.specs.Decimal.{decimal}
use Rattle.text.proofs.SpacedLaws.{length_spaced_one}
use Rattle.text.proofs.StoreLaws.{written_of_space}
use Rattle.text.proofs.put_spaced.Goals as goal

pub bounds-out-at : goal.bounds-out-at
bounds-out-at c = omega (arith, length_spaced_one c.args.x)

pub unwrap-digits-requires : goal.unwrap-digits-requires
unwrap-digits-requires c =
    let a = c.args in
    let e = c.put_decimal.ensures.answer ∙ (written_of_space a.out.now a.at a.x c.requires).0 in search (rules, e)

pub returns-clause-answer : goal.returns-clause-answer
returns-clause-answer c =
    let a = c.args in
    let e = c.put_decimal.ensures.answer ∙ (written_of_space a.out.now a.at a.x c.requires).0 in
    let k : c.unwrap-digits.result ≡ length (decimal a.x) = cc (e, c.unwrap-digits.ensures) in omega (arith, length_spaced_one a.x)

pub returns-clause-buffer : goal.returns-clause-buffer
returns-clause-buffer c = let a = c.args in c.put_decimal.ensures.buffer ∙ (written_of_space a.out.now a.at a.x c.requires).1
