use Rattle.session_core.proofs.reading.read_request.Goals as goal

pub returns-clause-asked : goal.returns-clause-asked
returns-clause-asked g c = c.request_of.ensures.asked c.args.database.now c.in_ok-said.ensures.fits
