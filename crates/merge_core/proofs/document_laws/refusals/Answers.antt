-- Nothing to refuse, and the least in any order.
use Rattle.merge_core.proofs.Refused.{first_least, merged_is, same_least}
use Rattle.merge_core.proofs.document_laws.refusals.Goals as goal

pub returns-clause-merged : goal.returns-clause-merged
returns-clause-merged c t ss is all clear kinds no_strays levels = merged_is t ss is all clear kinds no_strays levels

pub returns-clause-least : goal.returns-clause-least
returns-clause-least c us vs same = same_least us vs same

pub returns-clause-first : goal.returns-clause-first
returns-clause-first c test us up = first_least test us up
