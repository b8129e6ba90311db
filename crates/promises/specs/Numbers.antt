-- Demand 1 by the numbers of RULES: which refusal each answer of a reader or a writer is, and that it is given exactly if its condition
-- holds and no earlier one does. The calls on a table are in Demand1, in the same form. proofs/ProvedNumbers.antt has the proof.
use Rattle.std.specs.Prelude.{◌≡◌, List, [], ◌∷◌, ◌↔◌, ℕ, ◌+◌, ◌<◌, length, Bool, Result, Option, Some}
use Rattle.endian.specs.Places.{Below}
use Rattle.frames.specs.Frame.{Bad, EndsAt, body_to, frame_of}
use Rattle.wire.specs.Meaning.{NoBody, read_refusal}
use Rattle.refusals.specs.declared.Refusal.{Refusal}
use Rattle.refusals.specs.Numbers.{told_by}
use Rattle.wire.specs.declared.reader.Request.{Request}
use Rattle.wire.specs.declared.reader.Message as reader
use Rattle.orders.specs.Good.{GoodRows}
use Rattle.orders.specs.Reply.{Reply, check_reply, write_reply}
use Rattle.orders.specs.Write.{Room}
use Rattle.method.specs.Calls.{FirstHolds}
use Rattle.promises.specs.Stated.{BodyGives, FrameGives, ReadGives, MessageGives, CheckGives, WriteGives}
use Rattle.promises.specs.Demand3.{HasOrder}

-- a frame stands in front, and its body is no message's
abbrev pub WrongInFront : List ℕ → Type 0
WrongInFront l = (e : ℕ) × EndsAt e l × NoBody (body_to e l)

pub record Numbers : Type 0 where
  pub body : (b : List ℕ) (r : Result Request Refusal) → Below 256 b → BodyGives b r → (k : ℕ) → (told_by r ≡ Some k) ↔ FirstHolds ((10, NoBody b) ∷ []) k
  pub frame : (l : List ℕ) (r : Result (Option ℕ) Refusal) → FrameGives l r → (k : ℕ) → (told_by r ≡ Some k) ↔ FirstHolds ((11, Bad l) ∷ []) k
  pub read : (l : List ℕ) (r : Result (Option reader.Message) Refusal) → Below 256 l → ReadGives l r → (k : ℕ) → (read_refusal r ≡ Some k) ↔ FirstHolds ((11, Bad l) ∷ (10, WrongInFront l) ∷ []) k
  pub message : (b out : List ℕ) (place : ℕ) (r : Result ℕ Refusal) (after : List ℕ) → Below 256 b → MessageGives b out place r after
      → (k : ℕ) → (told_by r ≡ Some k) ↔ FirstHolds ((11, 160 < length b) ∷ (10, NoBody b) ∷ (14, length out < place + length (frame_of b)) ∷ []) k
  pub check : (flat o : List ℕ) (r : Result Bool Refusal) → CheckGives flat o r → (k : ℕ) → (check_reply r ≡ Reply.refused k) ↔ FirstHolds ((13, ¬ GoodRows flat) ∷ []) k
  pub order : (flat : List ℕ) (place : ℕ) (out : List ℕ) (r : Result ℕ Refusal) (after : List ℕ) → WriteGives flat place out r after
      → (k : ℕ) → (write_reply r ≡ Reply.refused k) ↔ FirstHolds ((13, ¬ GoodRows flat) ∷ (14, ¬ Room flat place out) ∷ (12, ¬ HasOrder flat) ∷ []) k
