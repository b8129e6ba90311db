-- `text::put_numbers` meets its contract: after i turns the first i numbers are laid. Assumes nothing.
use Rattle.std.proofs.Common.{[], ◌∷◌, ◌∙◌, ◌+◌, ◌≤◌, arith, length, take, get_or}
use Rattle.endian.proofs.LaidLaws.{laid_of_laid}
use Rattle.text.specs.Text.{spaced}
use Rattle.text.proofs.SpacedLaws.{spaced_nil, length_spaced_nil, spaced_take_more, length_spaced_more, length_spaced_take}
use Rattle.decimal.proofs.WrittenLaws.{laid_of_nil}
use Rattle.text.proofs.put_numbers.Goals as goal

pub loop-x-init : goal.loop-x-init
loop-x-init c = record { place = omega (arith, length_spaced_nil); buffer = rw spaced_nil (laid_of_nil c.args.out.now c.args.place) }

pub put_spaced-at-requires : goal.put_spaced-at-requires
put_spaced-at-requires c = let l = c.args.numbers.now in
    let i = c.loop-x.x-index in
    omega (arith, length_spaced_more l i (omega arith), length_spaced_take l (i + 1))

pub loop-x-preserved : goal.loop-x-preserved
loop-x-preserved c = let a = c.args in
    let l = a.numbers.now in
    let i = c.loop-x.x-index in
    let more = length_spaced_more l i (omega arith) in
    let within : a.place + length (spaced (take i l)) ≤ length a.out.now = omega (arith, length_spaced_take l i) in
    record {
      place = omega (arith, c.put_spaced-at.ensures.answer);
      buffer = c.put_spaced-at.ensures.buffer ∙ rw (c.loop-x.invariant.buffer, c.loop-x.invariant.place, spaced_take_more l i (omega arith)) (laid_of_laid a.out.now (spaced (take i l)) a.place within (spaced (get_or l i 0 ∷ [])));
    }
