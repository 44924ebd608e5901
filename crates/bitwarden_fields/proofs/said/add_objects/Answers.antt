use Rattle.std.proofs.Common.{sym, ap, ◌∙◌, true, false, Option}
use Rattle.std.proofs.lemmas.Result.{on_ok_weaker}
use Rattle.std.specs.Prelude.{codes}
use Rattle.bitwarden_fields.specs.Keys.{with_fields}
use Rattle.bitwarden_fields.specs.Said.{object_fields}
use Rattle.bitwarden_fields.specs.Seen.{fields_seen}
use Rattle.bitwarden_fields.proofs.Gathered.{with_both}
use Rattle.serde_json.specs.Data.{Data}
use Rattle.serde_json.specs.Find.{get}
use Rattle.serde_json.specs.View.{view}
use Rattle.bitwarden_fields.proofs.said.add_objects.Goals as goal

pub returns : goal.returns
returns c =
    let before = fields_seen c.args.fields.now.items in
    let item = view c.args.item.now in
    let card = object_fields true (get (codes "card") item) in
    let identity = object_fields false (get (codes "identity") item) in
    let first = c.in_ok-add_object.ensures ∙ ap (λ (o : Option Data). with_fields (object_fields true o) before) c.get.ensures in
    on_ok_weaker c.add_object-2.result
    (λ second. second ∙ ap (λ (o : Option Data). with_fields (object_fields false o) (fields_seen c.add_object.new.fields.items)) c.get-2.ensures ∙ ap (with_fields identity) first
    ∙ sym (with_both card identity before))
    c.add_object-2.ensures
