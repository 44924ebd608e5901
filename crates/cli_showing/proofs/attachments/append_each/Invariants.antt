use Rattle.std.proofs.Common.{◌≡◌, ◌++◌, drop}
use Rattle.std.specs.Prelude.{flat_map, map}
use Rattle.vault_model.specs.Seen.{bare_attachment}
use Rattle.cli_showing.specs.Showing.{attachment_line}
use Rattle.cli_showing.proofs.attachments.append_each.Given as goal

abbrev pub invariant-loop-attachment : goal.invariant-loop-attachment
invariant-loop-attachment l =
    l.text.bytes ++ flat_map attachment_line (map bare_attachment (drop l.attachment-index l.attachments))
    ≡ l.fn.text.bytes ++ flat_map attachment_line (map bare_attachment l.attachments)
