-- Every answer of a reader or a writer is the refusal whose condition is the first that holds, and where it is none no condition holds.
-- Assumes nothing.
use mathlib.Core.Path.{◌≡◌, refl, sym, ap}
use mathlib.Core.List.{List, [], ◌∷◌}
use mathlib.Core.Logic.{◌↔◌, inl, inr}
use Rattle.std.proofs.Common.{Option, Some, None, Result, Ok, Err}
use Rattle.std.proofs.lemmas.Option.{none-some, same_Some}
use Prim.Native.Nat.{ℕ, ◌+◌, ◌<◌}
use native.Mathlib.Omega.{arith}
use lib.ListN.{length}
use Rattle.frames.specs.Frame.{Bad, frame_of, EndsAt, body_to}
use Rattle.frames.specs.Answer.{FrameMeans}
use Rattle.wire.specs.Meaning.{NoBody, BodyMeans, ReadMeans, read_refusal}
use Rattle.sending.specs.Meaning.{WriteMeans}
use Rattle.refusals.specs.declared.Refusal.{Refusal}
use Rattle.refusals.specs.Numbers.{told_by}
use Rattle.wire.specs.declared.reader.Request.{Request}
use Rattle.wire.specs.declared.reader.Message as reader
use Rattle.orders.specs.Good.{GoodRows}
use Rattle.orders.specs.Reply.{Reply, check_reply, write_reply}
use Rattle.orders.specs.Judged.{Judged}
use Rattle.orders.specs.Order.{Checked}
use Rattle.orders.specs.Write.{Room, Written}
use Rattle.orders.proofs.ReplyLaws.{checked_of_result}
use Rattle.orders.proofs.WriteLaws.{write_result_lem}
use Rattle.method.specs.Calls.{FirstHolds, NoneHolds}
use Rattle.method.proofs.CallLaws.{first_unique, none_or_first}
use Rattle.promises.specs.Demand3.{HasOrder}
use Rattle.promises.specs.Numbers.{WrongInFront, Numbers}
use Rattle.promises.proofs.Proved1.{refused_exactly}

-- what a refusal, or that there is none, says of a list of conditions
abbrev Tells : List (ℕ × Type 0) → Option ℕ → Type 0
Tells cs None = NoneHolds cs
Tells cs (Some k) = FirstHolds cs k

told : (cs : List (ℕ × Type 0)) (o : Option ℕ) → Tells cs o → (k : ℕ) → (o ≡ Some k) ↔ FirstHolds cs k
told cs None h k = (λ e. absurd (none-some k e), λ f. absurd (none_or_first cs k h f))
told cs (Some j) h k = (λ e. rw (same_Some j k e) at h, λ f. ap Some (first_unique cs j k h f))

-- an answer with another refusal does not fit
other : {A : Type 0} (refusal : A → Option ℕ) (Means : A → Type 0) (r x : A) → (x ≡ r) ↔ Means x → ¬ (refusal x ≡ refusal r) → ¬ Means x
other refusal Means r x h d m = d (ap refusal (h.1 m))

body_tells : (b : List ℕ) (r : Result Request Refusal) → BodyMeans b r → Tells ((10, NoBody b) ∷ []) (told_by r)
body_tells b (Ok q) h = (λ n. n h.0 h.1 h.2, tt)
body_tells b (Err q) h = rw h.0 (inl (h.1, refl))

-- no refusal is not refusal k
silent : (k : ℕ) → ¬ (Some k ≡ None)
silent k e = none-some k (sym e)

two_numbers : (j k : ℕ) → (j ≡ k → ⊥) → ¬ (Some j ≡ Some k)
two_numbers j k d e = d (same_Some j k e)

frame_tells : (l : List ℕ) (r : Result (Option ℕ) Refusal) → ((x : Result (Option ℕ) Refusal) → (x ≡ r) ↔ FrameMeans l x) → Tells ((11, Bad l) ∷ []) (told_by r)
frame_tells l (Ok o) f = (λ b. other told_by (FrameMeans l) _ (Err Refusal.BadFrame) (f _) (silent 11) (refl, b), tt)
frame_tells l (Err q) f = let h = (f _).0 refl in rw h.0 (inl (h.1, refl))

module _ (l : List ℕ) (r : Result (Option reader.Message) Refusal) (f : (x : Result (Option reader.Message) Refusal) → (x ≡ r) ↔ ReadMeans l x) where
  not_bad : ¬ (Some 11 ≡ read_refusal r) → ¬ Bad l
  not_bad d b = other read_refusal (ReadMeans l) r (Err Refusal.BadFrame) (f _) d (refl, b)

  not_wrong : ¬ (Some 10 ≡ read_refusal r) → ¬ WrongInFront l
  not_wrong d w = other read_refusal (ReadMeans l) r (Ok (Some (record { request = Err Refusal.BadBody; end = w.0 }))) (f _) d (w.1, (refl, w.2))

read_tells : (l : List ℕ) (r : Result (Option reader.Message) Refusal) → ((x : Result (Option reader.Message) Refusal) → (x ≡ r) ↔ ReadMeans l x) → Tells ((11, Bad l) ∷ (10, WrongInFront l) ∷ []) (read_refusal r)
read_tells l (Ok None) f = (not_bad l _ f (silent 11), (not_wrong l _ f (silent 10), tt))
read_tells l (Ok (Some m)) f = go m.request refl ((f (Ok (Some m))).0 refl)
  where
    go : (q : Result Request Refusal) → m.request ≡ q → EndsAt m.end l × BodyMeans (body_to m.end l) m.request → Tells ((11, Bad l) ∷ (10, WrongInFront l) ∷ []) (told_by m.request)
    go (Ok q) e h = rw e (not_bad l _ f (rw e (silent 11)), (not_wrong l _ f (rw e (silent 10)), tt))
    go (Err q) e h =
        let (i, w) = rw e at h.1 in
        rw (e, i) (inr (not_bad l _ f (rw (e, i) (two_numbers 11 10 (λ d. omega arith))), inl ((m.end, h.0, w), refl)))
read_tells l (Err q) f = let h = (f _).0 refl in rw h.0 (inl (h.1, refl))

message_tells : (b out : List ℕ) (place : ℕ) (r : Result ℕ Refusal) → ((x : Result ℕ Refusal) → (x ≡ r) ↔ WriteMeans b out place x)
    → Tells ((11, 160 < length b) ∷ (10, NoBody b) ∷ (14, length out < place + length (frame_of b)) ∷ []) (told_by r)
message_tells b out place (Ok n) f =
    let h = (f (Ok n)).0 refl in
    (λ z. other told_by (WriteMeans b out place) _ (Err Refusal.BadFrame) (f _) (silent 11) (inl (refl, z)), ((λ m. m h.0.0 h.0.1 h.0.2), ((λ z. omega arith), tt)))
message_tells b out place (Err q) f = go ((f (Err q)).0 refl)
  where
    go : WriteMeans b out place (Err q) → Tells ((11, 160 < length b) ∷ (10, NoBody b) ∷ (14, length out < place + length (frame_of b)) ∷ []) (told_by {A = ℕ} (Err q))
    go (inl h) = rw h.0 (inl (h.1, refl))
    go (inr (inl h)) = rw h.0 (inr (λ z. omega arith, inl (h.2, refl)))
    go (inr (inr h)) = rw h.0 (
        inr (
          λ z. other told_by (WriteMeans b out place) _ (Err Refusal.BadFrame) (f _) (rw h.0 (two_numbers 11 14 (λ d. omega arith))) (inl (refl, z)),
          inr (λ m. m h.1.0 h.1.1 h.1.2, inl (h.2, refl)),
        ))

-- the refusal of a reply
abbrev refusal_of : Reply → Option ℕ
refusal_of (Reply.refused k) = Some k
refusal_of Reply.yes = None
refusal_of Reply.no = None
refusal_of (Reply.wrote n) = None

by_reply : (cs : List (ℕ × Type 0)) (r : Reply) → Tells cs (refusal_of r) → (k : ℕ) → (r ≡ Reply.refused k) ↔ FirstHolds cs k
by_reply cs r h k = (λ e. (told cs (refusal_of r) h k).0 (ap refusal_of e), λ f. go r ((told cs (refusal_of r) h k).1 f))
  where
    go : (x : Reply) → refusal_of x ≡ Some k → x ≡ Reply.refused k
    go (Reply.refused j) e = ap Reply.refused (same_Some j k e)
    go Reply.yes e = absurd (none-some k e)
    go Reply.no e = absurd (none-some k e)
    go (Reply.wrote n) e = absurd (none-some k e)

check_tells : (flat o : List ℕ) (x : Reply) → Checked flat o x → Tells ((13, ¬ GoodRows flat) ∷ []) (refusal_of x)
check_tells flat o x (Judged.refuses e n) = rw e (inl (n, refl))
check_tells flat o x (Judged.accepts e g r) = rw e ((λ n. n g), tt)
check_tells flat o x (Judged.rejects e g r) = rw e ((λ n. n g), tt)

order_tells : (flat : List ℕ) (place : ℕ) (out : List ℕ) (x : Reply) (after : List ℕ) → Written flat place out x after
    → Tells ((13, ¬ GoodRows flat) ∷ (14, ¬ Room flat place out) ∷ (12, ¬ HasOrder flat) ∷ []) (refusal_of x)
order_tells flat place out x after (Written.bad e l g) = rw e (inl (g, refl))
order_tells flat place out x after (Written.no_room e l g h) = rw e (inr ((λ n. n g), inl (h, refl)))
order_tells flat place out x after (Written.no_order e l g h n) = rw e (inr ((λ n. n g), inr ((λ n. n h), inl (n, refl))))
order_tells flat place out x after (Written.written o e l g h i s) = rw e ((λ n. n g), ((λ n. n h), ((λ n. n (o, i)), tt)))

pub numbers : Numbers
numbers = record {
  body = λ b r w g. told ((10, NoBody b) ∷ []) (told_by r) (body_tells b r ((refused_exactly.bodies b r w g r).0 refl));
  frame = λ l r g. told ((11, Bad l) ∷ []) (told_by r) (frame_tells l r (refused_exactly.frames l r g));
  read = λ l r w g. told ((11, Bad l) ∷ (10, WrongInFront l) ∷ []) (read_refusal r) (read_tells l r (refused_exactly.reads l r w g));
  message = λ b out place r after w g. told ((11, 160 < length b) ∷ (10, NoBody b) ∷ (14, length out < place + length (frame_of b)) ∷ []) (told_by r) (message_tells b out place r (refused_exactly.writes b out place r after w g));
  check = λ flat o r g. by_reply ((13, ¬ (GoodRows flat)) ∷ []) (check_reply r) (check_tells flat o (check_reply r) (checked_of_result flat o r g));
  order = λ flat place out r after g. by_reply ((13, ¬ (GoodRows flat)) ∷ (14, ¬ (Room flat place out)) ∷ (12, ¬ (HasOrder flat)) ∷ []) (write_reply r) (order_tells flat place out (write_reply r) after (rw (g.0, g.1) (write_result_lem flat place out)));
}
