-- Every answer of the writer means what it should, and no other answer would. Assumes nothing but that the body is bytes.
use mathlib.Core.Path.{◌≡◌, refl, ap}
use mathlib.Core.Bool.{Bool, true, false, cond}
use mathlib.Core.List.{List}
use Rattle.std.proofs.Common.{Option, Some, None, Result, Ok, Err, is_none}
use Rattle.refusals.specs.declared.Refusal.{Refusal}
use mathlib.Core.Logic.{inl, inr}
use Prim.Native.Nat.{ℕ, ◌+◌}
use borrow.Author.Tests.{ltb-true, ltb-false, leb-true, leb-false, lt-ltb, le-ltb, lt-leb, le-leb}
use lib.Dec.{ltb}
use lib.ListN.{length}
use Rattle.endian.specs.Places.{Below}
use Rattle.endian.specs.Laid.{has_room}
use Rattle.wire.specs.Message.{Message}
use Rattle.wire.specs.Body.{message_of}
use Rattle.frames.specs.Frame.{frame_of}
use Rattle.wire.specs.Meaning.{NoBody}
use Rattle.wire.proofs.BodyLaws.{message_of_body, body_of_message, no_body_of_none, length_le_of_message}
use Rattle.sending.specs.Writing.{write_answer}
use Rattle.sending.specs.Meaning.{IsBody, WriteMeans}

module _ (b l : List ℕ) (at : ℕ) where
  pub write_means : Below 256 b → WriteMeans b l at (write_answer b l at)
  write_means w = go (ltb 160 (length b)) (message_of b) (has_room l at (length (frame_of b))) refl refl refl
    where
      go : (t : Bool) (o : Option Message) (h : Bool) → ltb 160 (length b) ≡ t → message_of b ≡ o → has_room l at (length (frame_of b)) ≡ h →
          WriteMeans b l at (cond t (Err Refusal.BadFrame) (cond (is_none o) (Err Refusal.BadBody) (cond h (Ok (length (frame_of b))) (Err Refusal.NoRoom))))
      go true o h et eo eh = inl (refl, ltb-true 160 (length b) et)
      go false None h et eo eh = inr (inl (refl, ltb-false 160 (length b) et, no_body_of_none b eo))
      go false (Some m) true et eo eh = let (p, r) = body_of_message b w m eo in ((m, r, p), leb-true _ _ eh, refl)
      go false (Some m) false et eo eh = let (p, r) = body_of_message b w m eo in inr (inr (refl, (m, r, p), leb-false _ _ eh))

  -- a body of some message, as the tests see it
  is_body : IsBody b → (ltb 160 (length b) ≡ false) × (is_none (message_of b) ≡ false)
  is_body (m, h, p) =
      let e : message_of b ≡ Some m = rw p at (message_of_body m h) in
      (le-ltb 160 (length b) (length_le_of_message b m e), ap is_none e)

  no_body : Below 256 b → NoBody b → is_none (message_of b) ≡ true
  no_body w n = go (message_of b) refl
    where
      go : (o : Option Message) → message_of b ≡ o → is_none o ≡ true
      go None e = refl
      go (Some m) e = let (p, h) = body_of_message b w m e in absurd (n m h p)

  pub write_of_means : Below 256 b → (x : Result ℕ Refusal) → WriteMeans b l at x → write_answer b l at ≡ x
  write_of_means w (Ok n) p =
      let (s, o) = is_body p.0 in
      rw (s, o, le-leb (at + length (frame_of b)) (length l) p.1, p.2)
  write_of_means w (Err r) (inl p) = rw (p.0, lt-ltb 160 (length b) p.1)
  write_of_means w (Err r) (inr (inl p)) = rw (p.0, le-ltb 160 (length b) p.1, no_body w p.2)
  write_of_means w (Err r) (inr (inr p)) =
      let (s, o) = is_body p.1 in
      rw (p.0, s, o, lt-leb (at + length (frame_of b)) (length l) p.2)
