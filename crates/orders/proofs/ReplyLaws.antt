-- An answer is told from its reply, so that a contract on the reply leaves one answer. Assumes nothing.
use Rattle.std.proofs.Common.{◌≡◌, ◌-◌, Bool, true, false, List, ℕ, slice_get, refl, sym, ap, ◌∙◌}
use Rattle.std.specs.Prelude.{Result, Ok, Err}
use Rattle.std.specs.Option.{unwrap_or}
use Rattle.refusals.specs.declared.Refusal.{Refusal}
use Rattle.refusals.specs.Numbers.{number_of, refusals}
use Rattle.refusals.proofs.NumberLaws.{at_number}
use Rattle.orders.specs.Reply.{Reply, check_reply, write_reply}
use Rattle.orders.specs.Reply.Reply.{refused, yes, no, wrote}
use Rattle.orders.specs.Order.{Checked, check_result}
use Rattle.orders.proofs.OrderLaws.{check_result_lem}

-- the refusal of this number, where there is one
refusal_of : ℕ → Refusal
refusal_of k = unwrap_or (slice_get refusals (k - 1)) Refusal.NotOpen

refusal_of_number : (r : Refusal) → refusal_of (number_of r) ≡ r
unfolding refusal_of
refusal_of_number r = rw (at_number r)

answer_of : Reply → Result Bool Refusal
answer_of (refused k) = Err (refusal_of k)
answer_of yes = Ok true
answer_of no = Ok false
answer_of (wrote k) = Ok false

answer_of_reply : (a : Result Bool Refusal) → answer_of (check_reply a) ≡ a
unfolding answer_of
answer_of_reply (Ok true) = refl
answer_of_reply (Ok false) = refl
answer_of_reply (Err r) = rw (refusal_of_number r)

pub check_reply_injective : (a b : Result Bool Refusal) → check_reply a ≡ check_reply b → a ≡ b
check_reply_injective a b e = sym (answer_of_reply a) ∙ ap answer_of e ∙ answer_of_reply b

-- the same of the writer
write_answer_of : Reply → Result ℕ Refusal
write_answer_of (refused k) = Err (refusal_of k)
write_answer_of yes = Ok 0
write_answer_of no = Ok 0
write_answer_of (wrote k) = Ok k

write_answer_of_reply : (a : Result ℕ Refusal) → write_answer_of (write_reply a) ≡ a
unfolding write_answer_of
write_answer_of_reply (Ok k) = refl
write_answer_of_reply (Err r) = rw (refusal_of_number r)

pub write_reply_injective : (a b : Result ℕ Refusal) → write_reply a ≡ write_reply b → a ≡ b
write_reply_injective a b e = sym (write_answer_of_reply a) ∙ ap write_answer_of e ∙ write_answer_of_reply b

-- what meets the check's contract answers by the rule, and is the only such answer
module _ (flat order : List ℕ) where
  pub checked_of_result : (a : Result Bool Refusal) → check_reply a ≡ check_result flat order → Checked flat order (check_reply a)
  checked_of_result a e = rw e (check_result_lem flat order)

  pub check_answer_unique : (a b : Result Bool Refusal) → check_reply a ≡ check_result flat order → check_reply b ≡ check_result flat order → a ≡ b
  check_answer_unique a b e f = check_reply_injective a b (e ∙ sym f)
