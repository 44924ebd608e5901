use Rattle.keepass_call.proofs.Standalones.{nothing_failed, password_draws, password_told, plain_stream, test_told}
use Rattle.keepass_call.proofs.standalone.answer_alone.Goals as goal

pub returns-in-Password-clause-told : goal.returns-in-Password-clause-told
returns-in-Password-clause-told g c = λ truthful d s told.
    password_told c.args.standalone c.in-Password.profile c.password.result d s _ _ c.in-Password.is (λ is. c.password.ensures.told truthful d s is) told

pub returns-in-Password-clause-undrawn : goal.returns-in-Password-clause-undrawn
returns-in-Password-clause-undrawn g c = λ e. absurd (password_draws c.args.standalone c.in-Password.profile c.in-Password.is e)

pub returns-in-SelfTest-clause-told : goal.returns-in-SelfTest-clause-told
returns-in-SelfTest-clause-told g c = λ truthful d s told.
    test_told c.args.standalone c.in-SelfTest.count c.self_test_output.result d s _ c.in-SelfTest.is c.self_test_output.ensures.told told

pub returns-in-SelfTest-clause-cause : goal.returns-in-SelfTest-clause-cause
returns-in-SelfTest-clause-cause g c = plain_stream c.self_test_output.result _ c.self_test_output.ensures.cause

pub returns-in-SelfTest-clause-faultless : goal.returns-in-SelfTest-clause-faultless
returns-in-SelfTest-clause-faultless g c = nothing_failed c.self_test_output.result _
