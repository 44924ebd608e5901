use Rattle.std.proofs.Common.{ap, ◌∙◌, ◌++◌}
use Rattle.std.specs.Prelude.{codes}
use Rattle.uuid.specs.Text.{hyphenated_text, lower}
use Rattle.doc_spelling.specs.Moments.{iso_at}
use Rattle.vault_model.specs.Db.{NodeId}
use Rattle.merge_details.proofs.JoinedTexts.{line_put}
use Rattle.merge_details.proofs.lines.append_conflict.Goals as goal

pub returns : goal.returns
returns c =
    line_put c.args.text.now.bytes (codes "conflict entry ") c.args.key.now.0 (codes " [") (hyphenated_text lower c.args.key.now.1) (codes "]: ")
    (iso_at c.args.times.now.current) (codes " is current, ") (iso_at c.args.times.now.older) (codes " is in its history\n")
    c.append.new.text.bytes c.append-2.new.text.bytes c.append_id.new.text.bytes c.append-3.new.text.bytes c.append-4.new.text.bytes c.append-5.new.text.bytes
    c.append-6.new.text.bytes c.path.result.now c.iso_text.result c.iso_text-2.result
    c.in_ok-append.ensures.put c.in_ok-append-2.ensures.put c.path.ensures
    (c.in_ok-append_id.ensures ∙ ap (λ (id : NodeId). c.append-2.new.text.bytes ++ codes " [" ++ hyphenated_text lower id ++ codes "]: ") c.id.ensures)
    c.in_ok-append-3.ensures.put c.iso_text.ensures c.in_ok-append-4.ensures.put c.in_ok-append-5.ensures.put c.iso_text-2.ensures c.in_ok-append-6.ensures.put
