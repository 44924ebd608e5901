use Rattle.std.proofs.Common.{◌≡◌, List, ◌++◌, sym, ap, ◌∙◌, ℕ}
use Rattle.std.proofs.lemmas.Result.{on_ok_weaker}
use Rattle.std.specs.Prelude.{codes}
use Rattle.bitwarden_forms.specs.Json.{text}
use Rattle.bitwarden_forms.specs.Seen.{lent_value}
use Rattle.bitwarden_fields.specs.Keys.{with_fields}
use Rattle.bitwarden_fields.specs.Said.{account_fields, addresses_of, code_field, more_addresses}
use Rattle.bitwarden_fields.specs.Seen.{fields_seen}
use Rattle.bitwarden_fields.proofs.Gathered.{with_both}
use Rattle.serde_json.specs.Data.{Data}
use Rattle.bitwarden_fields.proofs.said.add_login.Goals as goal

pub returns : goal.returns
returns c =
    let before = fields_seen c.args.fields.now.items in
    let login = lent_value c.args.login in
    let account = account_fields c.args.password.now login in
    let more = more_addresses (addresses_of login) in
    let code = code_field (text (codes "totp") login) in
    let first : fields_seen c.add_account.new.fields.items ≡ with_fields account before = c.in_ok-add_account.ensures in
    let second = c.in_ok-add_addresses.ensures ∙ ap (λ (ds : List Data). with_fields (more_addresses ds) (fields_seen c.add_account.new.fields.items)) c.values.ensures ∙ ap (with_fields more) first in
    on_ok_weaker c.add_code.result
    (λ third. third ∙ ap (λ (t : List ℕ). with_fields (code_field t) (fields_seen c.add_addresses.new.fields.items)) c.text.ensures ∙ ap (with_fields code) second
    ∙ sym (with_both account (more ++ code) before ∙ with_both more code (with_fields account before)))
    c.add_code.ensures
