use Rattle.std.proofs.Common.{List, ◌++◌, map, Some, Option, sym, ap, ◌∙◌}
use Rattle.std.proofs.lemmas.Result.{on_ok_weaker}
use Rattle.std.specs.Prelude.{codes}
use Rattle.bitwarden_forms.specs.Json.{values}
use Rattle.bitwarden_fields.specs.Keys.{with_fields}
use Rattle.bitwarden_fields.specs.Said.{custom_field, login_fields, login_of, objects_fields, title_fields}
use Rattle.bitwarden_fields.specs.Seen.{fields_seen}
use Rattle.bitwarden_fields.proofs.Gathered.{with_both}
use Rattle.serde_json.specs.Data.{Data}
use Rattle.serde_json.specs.View.{view}
use Rattle.bitwarden_fields.proofs.said.add_said.Goals as goal

pub returns : goal.returns
returns c =
    let before = fields_seen c.args.fields.now.items in
    let item = view c.args.item.now in
    let password = c.args.password.now in
    let title = title_fields item in
    let login = login_fields password (login_of item) in
    let custom = map custom_field (values (codes "fields") (Some item)) in
    let objects = objects_fields item in
    let first = c.in_ok-add_title.ensures in
    let second = c.in_ok-add_login.ensures ∙ ap (λ (o : Option Data). with_fields (login_fields password o) (fields_seen c.add_title.new.fields.items)) c.login_of.ensures ∙ ap (with_fields login) first in
    let third = c.in_ok-add_customs.ensures ∙ ap (λ (ds : List Data). with_fields (map custom_field ds) (fields_seen c.add_login.new.fields.items)) c.values.ensures ∙ ap (with_fields custom) second in
    on_ok_weaker c.add_objects.result
    (λ fourth. fourth ∙ ap (with_fields objects) third
    ∙ sym (with_both title (login ++ (custom ++ objects)) before ∙ with_both login (custom ++ objects) (with_fields title before) ∙ with_both custom objects (with_fields login (with_fields title before))))
    c.add_objects.ensures
