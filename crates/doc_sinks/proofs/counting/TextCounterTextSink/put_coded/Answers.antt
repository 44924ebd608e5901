use Rattle.std.proofs.Common.{◌≡◌, length, arith}
use Rattle.doc_sinks.proofs.Base64Groups.{coded_length}
use Rattle.doc_sinks.proofs.counting.TextCounterTextSink.put_coded.Goals as goal

pub returns : goal.returns
returns c = rw coded_length (omega arith)
