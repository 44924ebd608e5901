use Rattle.std.proofs.Common.{count_by}
use Rattle.std.specs.Prelude.{codes}
use Rattle.cli_merging.specs.Details.{is_creation, is_move, is_update}
use Rattle.cli_merging.specs.Reports.{is_deletion}
use Rattle.cli_merging.proofs.JoinedNumbers.{numbers_put}
use Rattle.cli_merging.proofs.counts.append_counts.Goals as goal

pub returns : goal.returns
returns c =
    let changes = c.args.changes.now in
    numbers_put c.args.text.now.bytes (codes " created, ") (codes " updated, ") (codes " moved, ") (codes " deleted, ") (codes " conflicts\n")
    c.append_number.new.text.bytes c.append_number-2.new.text.bytes c.append_number-3.new.text.bytes c.append_number-4.new.text.bytes c.append_number-5.new.text.bytes
    c.count_created.result c.count_updated.result c.count_moved.result c.count_deleted.result
    (count_by is_creation changes) (count_by is_update changes) (count_by is_move changes) (count_by is_deletion changes) c.args.conflicts
    c.in_ok-append_number.ensures c.count_created.ensures c.in_ok-append_number-2.ensures c.count_updated.ensures
    c.in_ok-append_number-3.ensures c.count_moved.ensures c.in_ok-append_number-4.ensures c.count_deleted.ensures c.in_ok-append_number-5.ensures
