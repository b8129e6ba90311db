-- `text::put_text` meets its contract: there is room exactly if something is left behind the numbers; then word, numbers and newline are
-- laid one behind the other. Assumes nothing.
use Rattle.std.proofs.Common.{◌∙◌, ◌+◌, ◌-◌, ◌≤◌, arith, length}
use Rattle.text.specs.Text.{text_of}
use Rattle.text.proofs.SpacedLaws.{length_text}
use Rattle.decimal.proofs.WrittenLaws.{written_of_room, laid_of_part}
use Rattle.text.proofs.StoreLaws.{laid_of_text}
use Rattle.text.proofs.put_text.Goals as goal

pub returns-clause-buffer : goal.returns-clause-buffer
returns-clause-buffer c = let a = c.args in
    let l = a.out.now in
    let w = a.word.now in
    let ns = a.numbers.now in
    let size = length_text w ns in
    let fits : a.place + length (text_of w ns) ≤ length l = omega arith in
    let part = laid_of_part l w c.copy_from_slice.new.self a.place (a.place + length w - a.place) c.copy_from_slice.ensures.after (omega arith) in
    rw (c.put_numbers-end.ensures.buffer, c.put_numbers-end.ensures.answer, part) (laid_of_text l w ns a.place fits) ∙ (written_of_room l (text_of w ns) a.place fits).1
