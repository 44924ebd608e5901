use Rattle.kdbx_writing.proofs.HeaderReading.{header_again, header_again_31}
use Rattle.kdbx_writing.proofs.laws.headers_read_back.Goals as goal

pub returns-clause-four : goal.returns-clause-four
returns-clause-four c = header_again

pub returns-clause-three : goal.returns-clause-three
returns-clause-three c = header_again_31
