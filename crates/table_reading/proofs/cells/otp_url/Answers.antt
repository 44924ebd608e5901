use Rattle.std.proofs.Common.{◌≡◌, true, ap, ◌∙◌, ◌++◌, codes, refl, rules}
use Rattle.std.proofs.lemmas.Str.{IsUtf8-append, IsUtf8-from_is_utf8, is_utf8-from_IsUtf8}
use Rattle.std.specs.Str.{chars, is_utf8}
use Rattle.table_reading.proofs.cells.otp_url.Goals as goal

front_text : is_utf8 (codes "otpauth://totp/?secret=") ≡ true
unfolding is_utf8 chars lib.Utf8.encode
front_text = refl

pub returns-clause-utf8 : goal.returns-clause-utf8
returns-clause-utf8 c =
    let same : c.extend-2.new.self.bytes ≡ codes "otpauth://totp/?secret=" ++ c.args.secret.now = search rules in
    ap is_utf8 same ∙ is_utf8-from_IsUtf8 _ (IsUtf8-append (codes "otpauth://totp/?secret=") c.args.secret.now (IsUtf8-from_is_utf8 _ front_text) c.utf8.secret)
