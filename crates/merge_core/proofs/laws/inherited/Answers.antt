-- Facts of one part and of several parts of an agreed set.
use Rattle.merge_core.proofs.Facts.{own-alive, above_own}
use Rattle.merge_core.proofs.Regroup.{part_kept, holds_own, keeps_tombs, joins_agreed, join_of_joins}
use Rattle.merge_core.proofs.laws.inherited.Goals as goal

pub returns-clause-own_is_alive : goal.returns-clause-own_is_alive
returns-clause-own_is_alive c S R a part u = own-alive a.compatible R part u

pub returns-clause-parents_are_own : goal.returns-clause-parents_are_own
returns-clause-parents_are_own c S R a part u p = above_own a.compatible R part (a.filled R part) u p

pub returns-clause-kept_is_own : goal.returns-clause-kept_is_own
returns-clause-kept_is_own c S R a part u = part_kept S R a part u

pub returns-clause-join_holds_own : goal.returns-clause-join_holds_own
returns-clause-join_holds_own c S R a part u = holds_own S R a part u

pub returns-clause-join_keeps_tombs : goal.returns-clause-join_keeps_tombs
returns-clause-join_keeps_tombs c S R a part u = keeps_tombs S R a part u

pub returns-clause-joins_agree : goal.returns-clause-joins_agree
returns-clause-joins_agree c S Rs a parts = joins_agreed S Rs a parts

pub returns-clause-join_of_joins : goal.returns-clause-join_of_joins
returns-clause-join_of_joins c S Rs a parts some = join_of_joins S a Rs some parts
