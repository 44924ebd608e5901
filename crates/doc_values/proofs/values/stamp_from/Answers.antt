use Rattle.std.proofs.Common.{rules}
use Rattle.doc_values.proofs.TimeTexts.{counted_found}
use Rattle.doc_values.proofs.values.stamp_from.Goals as goal

pub returns : goal.returns
returns c = counted_found c.of.result c.args.bytes c.from_le_bytes.result (search rules) c.from_le_bytes.ensures c.of.ensures
