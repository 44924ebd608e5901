use Rattle.std.proofs.Common.{arith, length, ◌<◌, ◌≡◌}
use Rattle.std.proofs.lemmas.Bool.Decides.{nat_tests}
use Rattle.doc_spelling.specs.Pieces.{unless_empty}
use Rattle.doc_spelling.specs.Values.{items_piece}
use Rattle.doc_write.proofs.PutOptions.{filled_no, filled_yes, put_no, put_some}
use Rattle.doc_write.proofs.items.put_any_items.Goals as goal

pub returns-then-not-is_empty-clause-puts : goal.returns-then-not-is_empty-clause-puts
returns-then-not-is_empty-clause-puts g c =
    let some : 0 < length c.args.items.now = grind (arith, nat_tests) in
    put_some _ _ (items_piece c.args.form) (unless_empty c.args.items.now) c.args.items.now (filled_yes c.args.items.now some) c.put_items.ensures.puts

pub returns-else-not-is_empty-clause-puts : goal.returns-else-not-is_empty-clause-puts
returns-else-not-is_empty-clause-puts g c =
    let none : length c.args.items.now ≡ 0 = grind (arith, nat_tests) in
    put_no _ (items_piece c.args.form) (unless_empty c.args.items.now) (filled_no c.args.items.now none)
