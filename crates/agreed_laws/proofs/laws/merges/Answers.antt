-- Each merge settles, and keeps versions.
use Rattle.agreed_laws.proofs.Merged.{merged_so, settled_as, version_in}
use Rattle.agreed_laws.proofs.laws.merges.Goals as goal

pub returns-clause-settle : goal.returns-clause-settle
returns-clause-settle c t ss doc all e = settled_as t ss all doc (merged_so t ss all doc e)

pub returns-clause-versions : goal.returns-clause-versions
returns-clause-versions c t ss doc all e = version_in t ss all doc e
