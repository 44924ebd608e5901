use Rattle.std.proofs.Common.{◌≡◌, ap, ◌∙◌, rules}
use Rattle.std.proofs.lemmas.Str.{is_utf8-from_IsUtf8}
use Rattle.std.specs.Str.{is_utf8}
use Rattle.bitwarden_fields.proofs.keys.secret_of.Goals as goal

pub returns-clause-utf8 : goal.returns-clause-utf8
returns-clause-utf8 c =
    let same : c.extend.new.self.bytes ≡ c.args.text.now = search rules in
    ap is_utf8 same ∙ is_utf8-from_IsUtf8 c.args.text.now c.utf8.text
