use Rattle.std.proofs.Common.{◌≡◌, ◌||◌, true, List, Option, Result, Ok, Err, ℕ, sym, subst}
use Rattle.std.specs.Prelude.{IfOk, is_some}
use Rattle.std.specs.List.{list_all}
use Rattle.std.specs.Str.{is_utf8}
use Rattle.cli_messages.specs.declared.answers.Stop.{Stop}
use Rattle.cli_needs.specs.Needs.{is_filled}
use Rattle.cli_needs.specs.SeenNeeds.{needs_seen}
use Rattle.cli_lines.specs.Lines.{AreTextLines, IsTextLine, after_more, line_if, number_after}
use Rattle.cli_lines.specs.SeenLines.{last_seen, line_seen, values_seen}
use Rattle.cli_lines.specs.declared.lines.LastLines.{LastLines}
use Rattle.cli_lines.proofs.Inputs.{handed_on, kept_later, later_returns, stops_later, tells_first, tells_second}
use Rattle.cli_lines.proofs.lines.read_last.Goals as goal

-- each of the lines after all passwords is in UTF-8
all_text : (result : Result LastLines Stop) (line : Option (List ℕ)) → IsTextLine line → IfOk result (λ last. line_seen last.more ≡ line)
    → IfOk result (λ last. IsTextLine (line_seen last.otp)) → IfOk result (λ last. list_all is_utf8 (values_seen last.fields) ≡ true)
    → IfOk result (λ last. AreTextLines (line_seen last.more) (line_seen last.otp) (values_seen last.fields))
all_text (Ok last) line text is otp fields = record { more = subst IsTextLine (sym is) text; otp = otp; fields = fields }
all_text (Err stop) line text is otp fields = tt

pub returns-clause-told : goal.returns-clause-told
returns-clause-told g c = λ truthful i t.
    let needs = needs_seen c.args.needs in
    let later = needs.has_otp || is_filled needs.fields in
    let first = c.in_ok-more.ensures.told (c.read_after_more.ensures.truthful truthful) i (tells_first needs.has_line later _ i t) in
    let taken = line_if needs.has_line c.args.number i in
    let rest = rw c.in-Ok.ensures at c.read_after_more.ensures.told in
    later_returns last_seen c.read_after_more.result _ _ _ taken (line_seen c.in_ok-more.more) (after_more (number_after needs.has_line c.args.number) needs)
    first.0 first.1 (rest truthful taken.left (tells_second needs.has_line later _ _ i taken.left t first.1))

pub returns-clause-more : goal.returns-clause-more
returns-clause-more g c =
    handed_on (λ (line : Option (List ℕ)). is_some line ≡ c.args.needs.has_line) (λ last. line_seen last.more) c.read_after_more.result
    (line_seen c.in_ok-more.more) c.in_ok-more.ensures.given c.read_after_more.ensures.more

pub returns-clause-text : goal.returns-clause-text
returns-clause-text g c =
    all_text c.read_after_more.result (line_seen c.in_ok-more.more) c.in_ok-more.ensures.text c.read_after_more.ensures.more
    c.read_after_more.ensures.otp_text c.read_after_more.ensures.text

pub returns-clause-cause : goal.returns-clause-cause
returns-clause-cause g c = stops_later c.read_after_more.result _ _ _ c.in_ok-more.ensures.faults c.read_after_more.ensures.cause

pub returns-clause-faultless : goal.returns-clause-faultless
returns-clause-faultless g c = kept_later c.read_after_more.result _ _ _ c.in_ok-more.ensures.faultless c.read_after_more.ensures.faultless
