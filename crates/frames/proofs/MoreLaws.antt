-- When more bytes come behind: a frame in front stays, with the new bytes behind it, and an 11 stays. Assumes nothing.
use mathlib.Core.Path.{◌≡◌, ◌∙◌, ap}
use mathlib.Core.List.{List, ◌++◌, append_assoc}
use Prim.Native.Nat.{ℕ, ◌+◌}
use native.Mathlib.Omega.{arith}
use lib.ListN.{length, length-append, get_or-append}
use Rattle.frames.specs.Frame.{frame_of, Framed, Bad, version, over, bad, whole, next_frame}
use Rattle.frames.proofs.FrameLaws.{next_of_means, means_of_next, length_framed}

framed_append : (l b r m : List ℕ) → Framed l b r → Framed (l ++ m) b (r ++ m)
framed_append l b r m f = record { bytes = ap (λ (k : List ℕ). k ++ m) f.bytes ∙ append_assoc (frame_of b) r m; short = f.short }

pub bad_append : (l m : List ℕ) → Bad l → Bad (l ++ m)
bad_append l m (version h e) = version (simp length-append (omega arith)) (rw (get_or-append l m 0 0 h) e)
bad_append l m (over h g) =
    over (simp length-append (omega arith)) (rw (get_or-append l m 0 1 (omega arith), get_or-append l m 0 2 (omega arith)) g)

pub next_append_whole : (l b r m : List ℕ) → next_frame l ≡ whole b r → next_frame (l ++ m) ≡ whole b (r ++ m)
next_append_whole l b r m e = next_of_means (l ++ m) (whole b (r ++ m)) (framed_append l b r m (means_of_next l (whole b r) e))

pub next_append_bad : (l m : List ℕ) → next_frame l ≡ bad → next_frame (l ++ m) ≡ bad
next_append_bad l m e = next_of_means (l ++ m) bad (bad_append l m (means_of_next l bad e))

-- the first frame takes at least three bytes
pub length_rest : (l b r : List ℕ) → next_frame l ≡ whole b r → length l ≡ 3 + (length b + length r)
length_rest l b r e = length_framed l b r (means_of_next l (whole b r) e)
