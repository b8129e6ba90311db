-- Every public contract leaves one result. Assumes nothing.
use mathlib.Core.Path.{◌≡◌, sym, ◌∙◌}
use Prim.Native.Nat.{ℕ}
use Rattle.std.specs.Prelude.{Option}
use Rattle.paths.proofs.AnswerLaws.{cycle_answer_unique, reached_answer_unique}
use Rattle.kept.proofs.OneListLaws.{aligned_unique}
use Rattle.orders.proofs.ReplyLaws.{write_reply_injective, check_answer_unique}
use Rattle.table.specs.declared.Table.{Table}
use Rattle.queries.specs.declared.Spoken.{Spoken}
use Rattle.replies.specs.declared.Replied.{Replied}
use Rattle.desk.specs.declared.Served.{Served}
use Rattle.turns.specs.declared.Turn.{Turn}
use Rattle.turns.specs.Struct.{turn_of}
use Rattle.promises.specs.Unique.{EqualLeavesOne, Unique}

same : {A : Type 0} (f x y : A) → x ≡ f → y ≡ f → x ≡ y
same f x y p q = p ∙ sym q

replied_of : Table → Spoken → Replied
replied_of t s = record { table = t; spoken = s }

replied_is : (a b : Replied) → a.table ≡ b.table → a.spoken ≡ b.spoken → a ≡ b
unfolding replied_of
replied_is a b p q = let e : replied_of a.table a.spoken ≡ replied_of b.table b.spoken = cc in e

served_of : Table → Option ℕ → Served
served_of t n = record { table = t; count = n }

served_is : (a b : Served) → a.table ≡ b.table → a.count ≡ b.count → a ≡ b
unfolding served_of
served_is a b p q = let e : served_of a.table a.count ≡ served_of b.table b.count = cc in e

turn_is : (a b : Turn) → a.table ≡ b.table → a.used ≡ b.used → a.written ≡ b.written → a.over ≡ b.over → a ≡ b
turn_is a b p q r s = let e : turn_of a.table a.used a.written a.over ≡ turn_of b.table b.used b.written b.over = cc in e

pub equal_leaves_one : EqualLeavesOne
equal_leaves_one A f x y = same f x y

pub unique : Unique
unique = record {
  calls = λ t c a b u v g h. (same _ a b g.0 h.0, same _ u v g.1 h.1);
  write = λ flat place out a b k l g h. (write_reply_injective a b (g.0 ∙ sym h.0), same _ k l g.1 h.1);
  message = λ body out place a b k l g h. (same _ a b g.0 h.0, same _ k l g.1 h.1);
  line = λ w out place a b k l g h. (same _ a b g.0 h.0, same _ k l g.1 h.1);
  order = λ numbers out place a b k l g h. (same _ a b g.0 h.0, same _ k l g.1 h.1);
  reply = λ t body a b g h. replied_is a b (g.0 ∙ sym h.0) (g.1 ∙ sym h.1);
  serve = λ t body out place a b k l g h. (served_is a b (g.0 ∙ sym h.0) (g.1 ∙ sym h.1), same _ k l g.2 h.2);
  turn = λ t input last out a b k l g h. (turn_is a b (g.0 ∙ sym h.0) (g.1 ∙ sym h.1) (g.2 ∙ sym h.2) (g.3 ∙ sym h.3), same _ k l g.4 h.4);
  check = check_answer_unique;
  cycle = cycle_answer_unique;
  reached = reached_answer_unique;
  aligned = aligned_unique;
}
