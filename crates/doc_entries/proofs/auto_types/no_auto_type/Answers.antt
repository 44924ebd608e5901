use Rattle.std.proofs.Common.{refl}
use Rattle.doc_entries.proofs.auto_types.no_auto_type.Goals as goal

pub returns : goal.returns
returns c = rw (c.new.ensures, c.new-2.ensures) refl
