use Rattle.vault_model.specs.declared.contents.Field.{Field}
use Rattle.doc_forms.specs.Tables.{put}
use Rattle.doc_entries.proofs.EntryPuts.{field_put, seen_after}
use Rattle.doc_entries.proofs.builders.put_field.Goals as goal

pub returns : goal.returns
returns c =
    seen_after c.put.result (put (λ (g : Field). g.key) c.args.field c.args.known.now.fields) c.put.new.self _ _
    (field_put c.args.known.now c.args.field c.put.new.self) c.put.ensures
