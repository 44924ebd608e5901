use Rattle.std.proofs.Common.{sym, ap, ◌∙◌}
use Rattle.std.proofs.lemmas.Str.{is_utf8-from_IsUtf8}
use Rattle.std.specs.Str.{is_utf8}
use Rattle.tree_contents.proofs.texts.text_is_utf8.Goals as goal

pub returns : goal.returns
returns c = ap is_utf8 (sym c.as_bytes-bytes.ensures.value) ∙ is_utf8-from_IsUtf8 c.as_bytes-bytes.result.now c.as_bytes-bytes.ensures.utf8
