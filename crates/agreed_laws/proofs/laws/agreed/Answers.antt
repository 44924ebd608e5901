-- Parts of an agreed set are merged, and what is merged again stays.
use Rattle.agreed_laws.proofs.Again.{again}
use Rattle.agreed_laws.proofs.Merged.{parts_keep, parts_merged}
use Rattle.agreed_laws.proofs.laws.agreed.Goals as goal

pub returns-clause-merged : goal.returns-clause-merged
returns-clause-merged c t ss S Rs all a parts joins = parts_merged t ss S Rs all a parts joins

pub returns-clause-again : goal.returns-clause-again
returns-clause-again c t ss S R Rs all a part parts joins settled = again t ss S R Rs all a part parts joins settled

pub returns-clause-versions : goal.returns-clause-versions
returns-clause-versions c t ss S Rs doc all a parts joins merged m u v k s h e g none = parts_keep t ss S Rs doc all a parts joins merged m u v k s h e g none
