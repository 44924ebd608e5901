use Rattle.std.proofs.Common.{◌≡◌, List, Option, ℕ}
use Rattle.std.specs.Prelude.{is_some}
use Rattle.cli_needs.specs.Needs.{is_filled}
use Rattle.cli_needs.specs.SeenNeeds.{needs_seen}
use Rattle.cli_lines.specs.Lines.{IsTextLine, after_otp, line_if, number_after}
use Rattle.cli_lines.specs.SeenLines.{last_seen, line_seen}
use Rattle.cli_lines.proofs.Inputs.{first_stops, handed_on, kept_later, later_returns, stops_later, tells_first, tells_second}
use Rattle.cli_lines.proofs.lines.read_after_more.Goals as goal

pub returns-clause-told : goal.returns-clause-told
returns-clause-told g c = λ truthful i t.
    let needs = needs_seen c.args.needs in
    let filled = is_filled needs.fields in
    let first = c.in-Ok.ensures.told (c.read_after_otp.ensures.truthful truthful) i (tells_first needs.has_otp filled _ i t) in
    let taken = line_if needs.has_otp c.args.number i in
    let more = line_seen c.args.more in
    let rest = rw c.in-Ok-number_after.ensures at c.read_after_otp.ensures.told in
    later_returns last_seen c.read_after_otp.result _ _ _ taken (line_seen c.in-Ok.otp) (after_otp (number_after needs.has_otp c.args.number) needs more)
    first.0 first.1 (rest truthful taken.left (tells_second needs.has_otp filled _ _ i taken.left t first.1))

pub returns-clause-otp : goal.returns-clause-otp
returns-clause-otp g c =
    handed_on (λ (line : Option (List ℕ)). is_some line ≡ c.args.needs.has_otp) (λ last. line_seen last.otp) c.read_after_otp.result
    (line_seen c.in-Ok.otp) c.in-Ok.ensures.given c.read_after_otp.ensures.otp

pub returns-clause-otp_text : goal.returns-clause-otp_text
returns-clause-otp_text g c =
    handed_on IsTextLine (λ last. line_seen last.otp) c.read_after_otp.result (line_seen c.in-Ok.otp) c.in-Ok.ensures.text
    c.read_after_otp.ensures.otp

pub returns-clause-cause : goal.returns-clause-cause
returns-clause-cause g c = stops_later c.read_after_otp.result _ _ _ c.in-Ok.ensures.faults c.read_after_otp.ensures.cause

pub returns-clause-faultless : goal.returns-clause-faultless
returns-clause-faultless g c = kept_later c.read_after_otp.result _ _ _ c.in-Ok.ensures.faultless c.read_after_otp.ensures.faultless

pub returns-in-Err-clause-told : goal.returns-in-Err-clause-told
returns-in-Err-clause-told g c = λ truthful i t.
    let needs = needs_seen c.args.needs in
    first_stops c.in-Err.stop _ _ (line_if needs.has_otp c.args.number i) (after_otp (number_after needs.has_otp c.args.number) needs (line_seen c.args.more))
    (c.in-Err.ensures.told truthful i (tells_first needs.has_otp (is_filled needs.fields) _ i t))
