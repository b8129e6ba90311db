-- A row in use is what its reports made it: over a step that does not concern it, and when it has just begun. Assumes nothing.
use mathlib.Core.Path.{◌≡◌, ap, ◌∙◌}
use mathlib.Core.Logic.{inl, inr}
use Prim.Native.Nat.{ℕ, ◌≤◌, ◌+◌}
use native.Mathlib.Omega.{arith}
use lib.ListN.{replicate}
use Rattle.graph.proofs.TestLaws.{true_not_false}
use Rattle.graph.proofs.MemberLaws.{member_or_not}
use Rattle.sites.specs.Sites.{sites_of}
use Rattle.sites.proofs.SitesLaws.{rising_sites, lt_of_member}
use Rattle.method.specs.Calls.{CallAnswer}
use Rattle.std.specs.Prelude.{Ok}
use Rattle.method.specs.declared.Report.{Report}
use Rattle.method.specs.declared.Part.{Part}
use Rattle.method.specs.declared.Row.{Row}
use Rattle.method.specs.declared.Answer.{Answer}
use Rattle.method.specs.Records.{number, no_part, part_at}
use Rattle.method.specs.Stages.{first_stage, given}
use Rattle.method.specs.Calls.{Call}
use Rattle.method.specs.Calls.Call.{begin}
use Rattle.method.specs.Effects.{new_row}
use Rattle.method.proofs.RecordLaws.{never}
use Rattle.method.proofs.StageLaws.{given_first}
use Rattle.method.proofs.RowLaws.{ticket_part, get_or_replicate_same, based_other, based_listed}
use Rattle.method.specs.Seen.{num, tick}
use Rattle.runs.specs.Run.{Run, Run.call, after, answer_to, Happened, TakesTicket, Reports, Commits, BegunIn}
use Rattle.runs.specs.Follows.{RowFollows}
use Rattle.invariant.proofs.OpenLaws.{new_part}
use Rattle.runs.proofs.EventLaws.{report_of_ticket, happened_map, later_iff}

-- what is told of a row is unchanged by a step that tells nothing of its number
module _ (r : Run) (c : Call) where
  abbrev a : CallAnswer
  a = answer_to r c

  pub record Silent (n : ℕ) : Type 0 where
    pub reports : (p : Report) (s : ℕ) → ¬ Reports p n s (after r) c a
    pub commit : ¬ Commits n (after r) c a

  pub row_silent : (q : Row) → Silent (num q) → RowFollows r q → RowFollows (call r c) q
  unfolding Happened
  row_silent q s v = record {
    begun = inr v.begun;
    tickets = λ x k h. later_iff r c (TakesTicket (num q) x k) (λ z. s.reports Report.Ticket x (report_of_ticket (after r) c a (num q) x k z)) (v.tickets x k h);
    reports = λ x p. later_iff r c (Reports p (num q) x) (s.reports p x) (v.reports x p);
    unlisted = v.unlisted;
    committed = later_iff r c (Commits (num q)) s.commit v.committed;
  }

  -- begun: nothing was told of the number before
  pub row_begun : (sites : ℕ) → c ≡ begin sites → a ≡ Ok (Answer.Begun (number ((after r).last.0 + 1))) → ((n : ℕ) → BegunIn r n → n ≤ (after r).last.0)
      → ((p : Report) (n s : ℕ) → Happened (Reports p n s) r → BegunIn r n) → ((n : ℕ) → Happened (Commits n) r → BegunIn r n)
      → RowFollows (call r c) (new_row (after r) sites)
  unfolding Happened new_row
  row_begun sites e f low br bc = record {
    begun = inl ((e, f), λ s m. (new_part (after r) sites s).1 m);
    tickets = λ s k h. (
      λ p. absurd (omega (arith, p, empty s)),
      λ y. absurd (elim y [
        | inl z ↦ never (cc)
        | inr z ↦ (let m = (after r).last.0 + 1 in
            omega (arith, low m (br Report.Ticket m s (happened_map {P = TakesTicket m s k} {Q = Reports Report.Ticket m s} (λ t d b x. report_of_ticket t d b m s k x) r z))))
      ]),
    );
    reports = λ s p. (
      λ g. absurd (true_not_false g (ap (given p) (fresh s) ∙ given_first p)),
      λ y. absurd (elim y [ inl z ↦ (let w = z.2 in never (cc)) | inr z ↦ omega (arith, low _ (br p _ s z)) ]),
    );
    unlisted = λ s n. based_other (after r).high (sites_of sites) (replicate 8 no_part) s n ∙ get_or_replicate_same 8 s no_part;
    committed = (λ p. never (cc), λ y. absurd (elim y [ inl z ↦ never (cc) | inr z ↦ omega (arith, low _ (bc _ z)) ]));
  }
    where
      q : Row
      q = new_row (after r) sites

      empty : (s : ℕ) → tick q s ≡ 0
      empty s = ticket_part q s ∙ (new_part (after r) sites s).0

      fresh : (s : ℕ) → (part_at q s).stage ≡ first_stage
      fresh s = elim (member_or_not s (sites_of sites)) [
        | inl m ↦ ap (λ (p : Part). p.stage) (based_listed (after r).high (sites_of sites) (replicate 8 no_part) s (rising_sites sites) m (lt_of_member sites m))
        | inr n ↦ ap (λ (p : Part). p.stage) (based_other (after r).high (sites_of sites) (replicate 8 no_part) s n ∙ get_or_replicate_same 8 s no_part)
      ]
