use Rattle.noninterference_laws.proofs.Screens.{info_is_blind, listing_is_blind, masks_look_alike}
use Rattle.noninterference_laws.proofs.laws.screens.Goals as goal

pub returns-clause-ls : goal.returns-clause-ls
returns-clause-ls c = listing_is_blind

pub returns-clause-info : goal.returns-clause-info
returns-clause-info c = info_is_blind

pub returns-clause-alike : goal.returns-clause-alike
returns-clause-alike c = masks_look_alike
