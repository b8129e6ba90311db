-- `sending::write_message` meets its contract: the header and the body are laid one behind the other. Assumes nothing.
use Rattle.std.proofs.Common.{rules, ◌≡◌, ◌∙◌, ap, List, [], ◌∷◌, ℕ, ◌+◌, ◌/◌, ◌%◌, length, Ok, arith}
use Rattle.endian.specs.Laid.{stored}
use Rattle.endian.proofs.LaidLaws.{stored_of_stored}
use Rattle.sending.specs.Writing.{write_answer, left_by}
use Rattle.sending.proofs.write_message.Goals as goal

pub returns : goal.returns
returns c = let b = c.args.body.now in
    let l = c.args.out.now in
    let at = c.args.place in
    let header : List ℕ = 1 ∷ (length b / 256) ∷ (length b % 256) ∷ [] in
    let high : length b / 256 % 256 ≡ length b / 256 = omega arith in
    let first : c.put.new.out ≡ stored l at header = c.put.ensures.buffer ∙ rw (c.to_be_bytes.ensures, high) in
    let a : Ok (length b + 3) ≡ write_answer b l at = search rules in
    record {
      answer = a;
      buffer = c.put-2.ensures.buffer ∙ rw first (stored_of_stored l header b at (omega arith)) ∙ ap (λ x. left_by x b l at) a;
    }
