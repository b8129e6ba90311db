-- `parts::is_prepared` meets its contract. Assumes nothing.
use borrow.Author.Tests.{tests}
use Rattle.std.proofs.Common.{rules, ◌≡◌, true}
use Rattle.method.specs.Records.{active}
use Rattle.parts.proofs.PreparedLaws.{prepared_of_counts}
use Rattle.parts.proofs.is_prepared.Goals as goal

pub returns-then-eq : goal.returns-then-eq
returns-then-eq c =
    let r = c.args.row.now in
    let e : active r ≡ true = search (rules, tests) in
    record { answer = rw (c.prepared_sites.ensures.answer, c.used.ensures.answer) (prepared_of_counts r e) }
