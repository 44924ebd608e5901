use Rattle.std.proofs.Common.{◌∙◌}
use Rattle.keepass_call.proofs.Passwords.{faultless_text, memory_stream, password_ends, password_refused}
use Rattle.keepass_call.proofs.standalone.password.Goals as goal

pub returns-in-Ok-clause-told : goal.returns-in-Ok-clause-told
returns-in-Ok-clause-told g c = λ truthful d s told.
    let same = c.as_bytes-alphabet.ensures.value ∙ c.as_str.ensures in
    let chosen = (rw same at c.in-Ok.ensures.told) truthful d told in
    password_ends c.password_output.result c.args.profile d _ s _ _ told chosen.0 chosen.1 c.password_output.ensures.told c.password_output.ensures.cause

pub returns-in-Ok-clause-cause : goal.returns-in-Ok-clause-cause
returns-in-Ok-clause-cause g c = memory_stream c.password_output.result _ _ c.password_output.ensures.cause

pub returns-in-Ok-clause-faultless : goal.returns-in-Ok-clause-faultless
returns-in-Ok-clause-faultless g c = faultless_text c.password_output.result _ _ c.in-Ok.ensures.faultless

pub returns-in-Err-clause-told : goal.returns-in-Err-clause-told
returns-in-Err-clause-told g c = λ truthful d s told.
    let same = c.as_bytes-alphabet.ensures.value ∙ c.as_str.ensures in
    password_refused c.in-Err.stop c.args.profile d s _ _ told ((rw same at c.in-Err.ensures.told) truthful d told)
