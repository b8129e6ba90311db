-- `endian::get_words` meets its contract: after i turns the first i numbers stand in front, and all else is as it was. Assumes nothing.
use Rattle.std.proofs.Common.{◌≡◌, length, sym, ap, ◌∙◌, arith, ◌++◌, ◌/◌, drop, length-take-le, take_all, zero-add}
use Rattle.endian.specs.Bytes.{words}
use Rattle.endian.proofs.LaidLaws.{stored_of_room, stored_of_no_room}
use Rattle.endian.proofs.WordsLaws.{length_words, take_words_more}
use Rattle.endian.proofs.get_words.Goals as goal

pub returns-then-out-n : goal.returns-then-out-n
returns-then-out-n c = let a = c.args in let r = stored_of_no_room a.out.now (words a.s.now) 0 (omega (arith, length_words a.s.now)) in record { answer = r.0; buffer = r.1 }

pub loop-i-preserved : goal.loop-i-preserved
loop-i-preserved c = let a = c.args in
    let n = length-take-le (length a.s.now / 4) a.out.now c.if-out-n.false in
    rw c.get32.ensures (take_words_more c.loop-i.front a.s.now c.loop-i.i (omega arith) (omega arith) c.loop-i.invariant)

pub returns : goal.returns
returns c = let a = c.args in
    let ws = words a.s.now in
    let f = c.loop-i.front in
    let n = length-take-le (length a.s.now / 4) a.out.now c.if-out-n.false in
    let m : length ws ≡ length a.s.now / 4 = length_words a.s.now in
    let e : f ≡ ws = sym (take_all c.loop-i.i f (omega arith)) ∙ c.loop-i.invariant ∙ take_all c.loop-i.i ws (omega arith) in
    let r = stored_of_room a.out.now ws 0 (omega arith) in
    record { answer = r.0; buffer = rw (e, ← m) (ap (λ k. ws ++ drop k a.out.now) (sym (zero-add (length ws))) ∙ r.1) }
