-- Every answer of the reader means what it should, and no other answer would. Assumes nothing but that the lists are bytes.
use mathlib.Core.Path.{◌≡◌, ◌∙◌, refl, sym, ap}
use mathlib.Core.List.{List}
use mathlib.Core.Logic.{inl, inr}
use Rattle.std.proofs.Common.{Option, Some, None, Result, Ok, Err}
use Rattle.std.proofs.lemmas.Option.{same_Some}
use Rattle.refusals.specs.declared.Refusal.{Refusal}
use Prim.Native.Nat.{ℕ, ◌+◌}
use lib.ListN.{length, drop}
use Rattle.endian.specs.Places.{Below}
use Rattle.wire.specs.declared.reader.Request.{Request}
use Rattle.wire.specs.declared.reader.Message as reader
use Rattle.wire.specs.Message.{Message, InRange, body_of}
use Rattle.wire.specs.Body.{message_of}
use Rattle.frames.specs.Frame.{body_to, Next, nothing, cut, bad, whole, Means, next_frame}
use Rattle.wire.specs.Answers.{request_of, body_answer, read_answer}
use Rattle.wire.specs.Meaning.{BodyMeans, ReadMeans}
use Rattle.wire.proofs.BodyLaws.{message_of_body, body_of_message, no_body_of_none}
use Rattle.frames.proofs.FrameLaws.{ends_framed, length_body_to, below_body_to, means_next, next_of_means}

-- two messages in range with one body are one
pub one_message : (m p : Message) → InRange m → InRange p → body_of m ≡ body_of p → m ≡ p
one_message m p h g e = same_Some m p (sym (message_of_body m h) ∙ ap message_of e ∙ message_of_body p g)

-- bodies
module _ (b : List ℕ) where
  pub body_means : Below 256 b → BodyMeans b (body_answer (message_of b))
  body_means w = go (message_of b) refl
    where
      go : (o : Option Message) → message_of b ≡ o → BodyMeans b (body_answer o)
      go None e = (refl, no_body_of_none b e)
      go (Some m) e = let (p, h) = body_of_message b w m e in (m, h, p, refl)

  one_body : (x y : Result Request Refusal) → BodyMeans b x → BodyMeans b y → x ≡ y
  one_body (Ok q) (Ok p) f g =
      let e : f.0 ≡ g.0 = one_message f.0 g.0 f.1 g.1 (f.2 ∙ sym g.2) in
      ap Ok (sym f.3 ∙ ap request_of e ∙ g.3)
  one_body (Ok q) (Err r) f g = absurd (g.1 f.0 f.1 f.2)
  one_body (Err r) (Ok q) f g = absurd (f.1 g.0 g.1 g.2)
  one_body (Err r) (Err s) f g = ap Err (f.0 ∙ sym g.0)

  pub body_of_means : Below 256 b → (x : Result Request Refusal) → BodyMeans b x → body_answer (message_of b) ≡ x
  body_of_means w x f = one_body (body_answer (message_of b)) x (body_means w) f

-- whole messages
module _ (l : List ℕ) where
  pub read_means : Below 256 l → ReadMeans l (read_answer (next_frame l))
  read_means w = go (next_frame l) (means_next l)
    where
      go : (x : Next) → Means l x → ReadMeans l (read_answer x)
      go nothing p = inl p
      go cut p = inr p
      go bad p = (refl, p)
      go (whole b r) p =
          let (i, f) = ends_framed l (3 + length b) b r p refl in
          (f, rw (← i) (body_means b (rw i (below_body_to l (3 + length b) w))))

  pub read_of_means : Below 256 l → (x : Result (Option reader.Message) Refusal) → ReadMeans l x → read_answer (next_frame l) ≡ x
  read_of_means w (Ok (Some m)) p =
      rw (next_of_means l (whole (body_to m.end l) (drop m.end l)) p.0.front, body_of_means (body_to m.end l) (below_body_to l m.end w) m.request p.1, length_body_to l m.end p.0)
  read_of_means w (Ok None) (inl p) = rw (next_of_means l nothing p)
  read_of_means w (Ok None) (inr p) = rw (next_of_means l cut p)
  read_of_means w (Err r) p = rw (p.0, next_of_means l bad p.1)
