use Rattle.kdbx_writing.proofs.InnerReading.{inner_again}
use Rattle.kdbx_writing.proofs.laws.inner_fields_read_back.Goals as goal

pub returns : goal.returns
returns c = inner_again
