use Rattle.std.proofs.Common.{◌∙◌, sym, ap, ap₂}
use Rattle.cli_profiles.proofs.Alphabets.{with_some}
use Rattle.cli_profiles.specs.Profiles.{length_asked, profile_with}
use Rattle.cli_profiles.proofs.profiles.profile_in.Goals as goal

pub returns : goal.returns
returns c =
    ap₂ profile_with (sym (c.length_asked.ensures ∙ ap length_asked c.text_of.ensures) ∙ c.in-Some.is) (sym c.in_ok-alphabet.ensures)
    ∙ with_some c.in-Some.length c.in_ok-alphabet.alphabet (λ none. c.if-len-eq0.false (c.len.ensures ∙ none))
