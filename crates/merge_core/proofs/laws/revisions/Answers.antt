-- What is kept stays, and so does what no member has deleted.
use Rattle.merge_core.proofs.MoreLaws.{kept_version, version_there}
use Rattle.merge_core.proofs.laws.revisions.Goals as goal

pub returns-clause-kept : goal.returns-clause-kept
returns-clause-kept c S m u v k s h is_kept e g = kept_version S m u v k s h is_kept e g

pub returns-clause-agreed : goal.returns-clause-agreed
returns-clause-agreed c S m u v k s a h e g none = version_there S m u v k s a h e g none
