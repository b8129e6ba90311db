-- A space and a number, and a word, its numbers and the newline, stored one behind the other, are laid as one. Assumes nothing.
use mathlib.Core.Path.{◌≡◌, ◌∙◌, sym}
use mathlib.Core.List.{List, [], ◌∷◌, ◌++◌, append_assoc}
use Prim.Native.Nat.{ℕ, ◌+◌, ◌≤◌}
use native.Mathlib.Omega.{arith}
use lib.ListN.{length, set, length-set, length-append}
use Rattle.endian.specs.Laid.{laid, stored}
use Rattle.endian.proofs.LaidLaws.{laid_of_laid}
use Rattle.decimal.specs.Decimal.{decimal}
use Rattle.std.specs.Prelude.{Some}
use Rattle.decimal.specs.Written.{written_count}
use Rattle.decimal.proofs.WrittenLaws.{laid_of_set, laid_of_set_behind, written_of_room}
use Rattle.text.specs.Text.{spaced, text_of}
use Rattle.text.proofs.SpacedLaws.{spaced_one, length_spaced_one, length_text}

pub written_of_space : (l : List ℕ) (at x : ℕ) → at + length (spaced (x ∷ [])) ≤ length l →
    (written_count (set l at 32) (at + 1) (decimal x) ≡ Some (length (decimal x))) × (stored (set l at 32) (at + 1) (decimal x) ≡ laid l at (spaced (x ∷ [])))
written_of_space l at x h =
    let e = length_spaced_one x in
    let r = written_of_room (set l at 32) (decimal x) (at + 1) (simp length-set (omega arith)) in
    (sym r.0, sym r.1 ∙ rw (laid_of_set l at 32 (omega arith), spaced_one x) (laid_of_laid l (32 ∷ []) at (omega arith) (decimal x)))

pub laid_of_text : (l w ns : List ℕ) (at : ℕ) → at + length (text_of w ns) ≤ length l →
    set (laid (laid l at w) (at + length w) (spaced ns)) (at + length w + length (spaced ns)) 10 ≡ laid l at (text_of w ns)
laid_of_text l w ns at h =
    let t = length_text w ns in
    let a = length-append w (spaced ns) in
    let e : at + length (w ++ spaced ns) ≡ at + length w + length (spaced ns) = omega arith in
    rw (laid_of_laid l w at (omega arith) (spaced ns), ← e, laid_of_set_behind l (w ++ spaced ns) at 10 (omega arith), append_assoc w (spaced ns) (10 ∷ []))
