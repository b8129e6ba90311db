-- What the C call answers at each of its returns. Assumes nothing.
use mathlib.Core.Path.{◌≡◌, refl, sym, ap, ◌∙◌}
use mathlib.Core.Bool.{Bool, true, false, and-false}
use mathlib.Core.List.{List}
use Prim.Native.Nat.{ℕ, ◌%◌, ◌<◌, ◌≤◌}
use native.Mathlib.Omega.{arith}
use lib.Dec.{eqb}
use lib.ListN.{length}
use borrow.Author.Tests.{eq-eqb, ne_eqb, le-leb, lt-leb}
use Rattle.endian.specs.Bytes.{words}
use Rattle.endian.proofs.WordsLaws.{length_words}
use Rattle.std.specs.Prelude.{Result, Ok, Err}
use Rattle.refusals.specs.declared.Refusal.{Refusal}
use Rattle.orders.specs.Entries.{entries_in}
use Rattle.orders.specs.Good.{goodb}
use Rattle.orders.specs.Judged.{judged}
use Rattle.orders.specs.Reply.{check_reply}
use Rattle.orders.specs.Reply.Reply.{refused, yes, no}
use Rattle.orders.specs.Order.{in_orderb, check_result}
use Rattle.orders.specs.CCall.{good_bytesb, order_bytesb, call_result}
use Rattle.orders.proofs.GoodLaws.{goodb→good}
use Rattle.orders.proofs.OrderLaws.{no_order_of_length}
use Rattle.ccheck.specs.Answer.{answer_number, reply_number, byte_result}

number_of_reply : (a : Result Bool Refusal) → reply_number (check_reply a) ≡ answer_number a
number_of_reply (Ok true) = refl
number_of_reply (Ok false) = refl
number_of_reply (Err r) = refl

number_of_judged : (b c : Bool) → reply_number (judged (refused 13) yes no b c) ≡ judged 13 1 0 b c
number_of_judged false c = refl
number_of_judged true true = refl
number_of_judged true false = refl

-- of a good table a wrong order is no order at all
judged_of_wrong : (b c : Bool) → (b ≡ true → c ≡ false) → judged {A = ℕ} 13 1 0 b false ≡ judged 13 1 0 b c
judged_of_wrong false c h = refl
judged_of_wrong true c h = rw (h refl)

module _ (flat order : List ℕ) where
  pub result_of_part : ¬ (length order % 4 ≡ 0) → judged 13 1 0 (goodb flat) false ≡ byte_result flat order
  result_of_part h = rw (ne_eqb (length order % 4) 0 h)

  module _ (w : length order % 4 ≡ 0) where
    pub result_of_many : 128 < length order → judged 13 1 0 (goodb flat) false ≡ byte_result flat order
    result_of_many h = rw (eq-eqb (length order % 4) 0 w) (judged_of_wrong (goodb flat) (in_orderb (entries_in flat) (words order)) (λ e.
        no_order_of_length flat (words order) (λ l. omega (arith, (goodb→good flat e).few, length_words order))))

    pub result_of_check : (a : Result Bool Refusal) → check_reply a ≡ check_result flat (words order) → answer_number a ≡ byte_result flat order
    unfolding check_result
    result_of_check a e = rw (eq-eqb (length order % 4) 0 w)
        (sym (number_of_reply a) ∙ ap reply_number e ∙ number_of_judged (goodb flat) (in_orderb (entries_in flat) (words order)))

module _ (rows order : List ℕ) where
  pub call_of_part : ¬ (length rows % 36 ≡ 0) → call_result rows order ≡ 13
  unfolding call_result good_bytesb
  call_of_part h = rw (ne_eqb (length rows % 36) 0 h)

  pub call_of_many : 1152 < length rows → call_result rows order ≡ 13
  unfolding call_result good_bytesb
  call_of_many h = rw (lt-leb (length rows) 1152 h, and-false (eqb (length rows % 36) 0))

  pub call_of_rows : length rows % 36 ≡ 0 → length rows ≤ 1152 → call_result rows order ≡ byte_result (words rows) order
  unfolding call_result good_bytesb order_bytesb
  call_of_rows w f = rw (eq-eqb (length rows % 36) 0 w, le-leb (length rows) 1152 f)
