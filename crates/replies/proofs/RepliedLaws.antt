-- What a reply owes is met by what each sort of body was answered. Assumes nothing.
use mathlib.Core.Path.{◌≡◌, refl, ap, ◌∙◌}
use mathlib.Core.List.{List}
use Prim.Native.Nat.{ℕ}
use lib.ListN.{drop}
use Rattle.endian.specs.Bytes.{words}
use Rattle.refusals.specs.declared.Refusal.{Refusal}
use Rattle.lines.specs.Line.{Line, refused_line}
use Rattle.method.specs.declared.Answered.{Answered}
use Rattle.method.specs.Slots.{kept_flat}
use Rattle.queries.specs.Queries.{proposal_line, order_line, if_open}
use Rattle.queries.specs.Said.{spoken_of}
use Rattle.queries.specs.declared.Spoken.{Spoken}
use Rattle.table.specs.declared.Table.{Table}
use Rattle.table.specs.Shut.{shut_table}
use Rattle.wire.specs.Answers.{body_answer}
use Rattle.wire.specs.Body.{message_of}
use Rattle.wire.specs.declared.reader.Request.TheVariants.{Proposing, Ordering}
use Rattle.wire.proofs.RequestLaws.{none_of_wrong}
use Rattle.std.proofs.Common.{Ok, Err}
use Rattle.replies.specs.declared.asked.Asked.{Asked}
use Rattle.replies.specs.Asked.{asked_of}
use Rattle.replies.specs.Desk.{answer_line, desk, desk_body}
use Rattle.replies.proofs.AskedLaws.{wrong_of_nothing, request_of_proposal, request_of_order, desk_of_request}
use Rattle.replies.proofs.RefusalLaws.{ten_of_no_message}

module _ (t : Table) (b : List ℕ) where
  abbrev pub Replies : Table → Spoken → Type 0
  Replies u s = (u ≡ shut_table (desk_body t.held b).0) × (s ≡ spoken_of (desk_body t.held b).1)

  -- the table is left, and x is said
  said : (x : Line) → desk_body t.held b ≡ (t.held, x) → (u : Table) (s : Spoken) → u ≡ t → s ≡ spoken_of x → Replies u s
  said x d u s e f = rw d (e, f)

  pub nothing_replied : (r : Refusal) → asked_of (body_answer (message_of b)) ≡ Err r → (u : Table) (s : Spoken) → u ≡ t → s ≡ spoken_of (refused_line Refusal.BadBody) → Replies u s
  nothing_replied r h = said (refused_line Refusal.BadBody) (ten_of_no_message t.held b (none_of_wrong b r (wrong_of_nothing b r h)))

  pub proposal_replied : (c : ℕ) → asked_of (body_answer (message_of b)) ≡ Ok (Asked.Proposal c) → (s : Spoken)
      → s ≡ spoken_of (if_open t.held (proposal_line (kept_flat t.held) (words (drop 1 b)))) → Replies t s
  unfolding desk
  proposal_replied c h s = said _ (desk_of_request b (Proposing c) (request_of_proposal b c h) t.held) t s refl

  pub order_replied : asked_of (body_answer (message_of b)) ≡ Ok Asked.Order → (s : Spoken) → s ≡ spoken_of (if_open t.held (order_line (kept_flat t.held))) → Replies t s
  unfolding desk
  order_replied h s = said _ (desk_of_request b Ordering (request_of_order b h) t.held) t s refl

  pub call_replied : (a : Answered Table Refusal) → (a.table ≡ shut_table (desk_body t.held b).0) × (answer_line a.answer ≡ (desk_body t.held b).1)
      → (u : Table) (s : Spoken) → u ≡ a.table → s ≡ spoken_of (answer_line a.answer) → Replies u s
  call_replied a e u s f g = (f ∙ e.0, g ∙ ap spoken_of e.1)
