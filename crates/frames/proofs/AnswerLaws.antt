-- Every answer of the code means what it should, and no other answer would. Assumes nothing.
use mathlib.Core.Path.{◌≡◌, refl}
use mathlib.Core.List.{List}
use mathlib.Core.Logic.{◌⊎◌, inl, inr}
use Prim.Native.Nat.{ℕ, ◌+◌}
use lib.ListN.{length, drop}
use Rattle.std.proofs.Common.{Option, Some, None, Result, Ok, Err}
use Rattle.refusals.specs.declared.Refusal.{Refusal}
use Rattle.frames.specs.Frame.{body_to, Next, nothing, cut, bad, whole, Means, next_frame}
use Rattle.frames.specs.Answer.{frame_answer, FrameMeans}
use Rattle.frames.proofs.FrameLaws.{ends_framed, length_body_to, means_next, next_of_means}

module _ (l : List ℕ) where
  pub frame_means : FrameMeans l (frame_answer (next_frame l))
  frame_means = go (next_frame l) (means_next l)
    where
      go : (x : Next) → Means l x → FrameMeans l (frame_answer x)
      go nothing p = inl p
      go cut p = inr p
      go bad p = (refl, p)
      go (whole b r) p = (ends_framed l (3 + length b) b r p refl).1

  pub frame_of_means : (x : Result (Option ℕ) Refusal) → FrameMeans l x → frame_answer (next_frame l) ≡ x
  frame_of_means (Ok (Some e)) p = rw (next_of_means l (whole (body_to e l) (drop e l)) p.front, length_body_to l e p)
  frame_of_means (Ok None) (inl p) = rw (next_of_means l nothing p)
  frame_of_means (Ok None) (inr p) = rw (next_of_means l cut p)
  frame_of_means (Err q) p = rw (p.0, next_of_means l bad p.1)

  -- what the answers say that have no frame
  pub bad_of_answer : (q : Refusal) → frame_answer (next_frame l) ≡ Err q → next_frame l ≡ bad
  bad_of_answer q e = next_of_means l bad (let h = rw e at frame_means in h.1)

  pub not_yet_of_answer : frame_answer (next_frame l) ≡ Ok None → (next_frame l ≡ nothing) ⊎ (next_frame l ≡ cut)
  not_yet_of_answer e = go (rw e at frame_means)
    where
      go : FrameMeans l (Ok None) → (next_frame l ≡ nothing) ⊎ (next_frame l ≡ cut)
      go (inl p) = inl (next_of_means l nothing p)
      go (inr p) = inr (next_of_means l cut p)
