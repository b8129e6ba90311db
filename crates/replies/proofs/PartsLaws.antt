-- The numbers of a body are handed on as the front of an array. Assumes nothing.
use mathlib.Core.Path.{◌≡◌, refl}
use mathlib.Core.List.{List}
use Prim.Native.Nat.{ℕ, ◌+◌, ◌-◌, ◌≤◌}
use native.Mathlib.Omega.{arith}
use lib.ListN.{length, take, drop}
use lib.Seq.{take_at}
use Rattle.endian.specs.Bytes.{words}
use Rattle.endian.specs.Laid.{stored}
use Rattle.endian.proofs.LaidLaws.{stored_of_room}
use Rattle.endian.proofs.PartLaws.{part_is}

words_read : (l b : List ℕ) (n : ℕ) → length (words b) ≡ n → n ≤ length l → take n (stored l 0 (words b)) ≡ words b
words_read l b n e h =
    let s = stored_of_room l (words b) 0 (omega arith) in
    rw (← s.1, ← e) (take_at (words b) (drop (0 + length (words b)) l) (length (words b)) refl)

-- the numbers of a body from a place on, read into the front of l
pub words_handed : (b l after : List ℕ) (at n : ℕ) → at ≤ length b → length (words (drop at b)) ≡ n → n ≤ length l
    → after ≡ stored l 0 (words (take (length b - at) (drop at b))) → take n after ≡ words (drop at b)
words_handed b l after at n h e k g = rw (g, part_is b at h) (words_read l (drop at b) n e k)
