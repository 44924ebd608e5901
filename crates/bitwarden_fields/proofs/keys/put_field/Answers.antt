use Rattle.std.proofs.Common.{◌≡◌, map, rules, ap, ◌∙◌}
use Rattle.doc_forms.specs.Tables.{put}
use Rattle.vault_model.specs.Seen.{bare_field}
use Rattle.vault_model.specs.declared.contents.Field.{Field}
use Rattle.bitwarden_fields.proofs.Sorted.{map_put, texts_put}
use Rattle.bitwarden_fields.proofs.keys.put_field.Goals as goal

pub returns-in-Ok-clause-put : goal.returns-in-Ok-clause-put
returns-in-Ok-clause-put c =
    let same : c.put.new.self ≡ put (λ (f : Field). f.key) c.args.text.field c.args.list.now = search rules in
    ap (λ fs. map bare_field fs) same ∙ map_put c.args.text.field c.args.list.now

pub returns-in-Ok-clause-texts : goal.returns-in-Ok-clause-texts
returns-in-Ok-clause-texts c = λ all.
    let same : c.put.new.self ≡ put (λ (f : Field). f.key) c.args.text.field c.args.list.now = search rules in
    texts_put c.args.text.field c.args.list.now c.put.new.self same c.args.text.text all
