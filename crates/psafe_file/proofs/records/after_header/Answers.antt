use Rattle.std.proofs.Common.{sym}
use Rattle.std.proofs.lemmas.List.{drop-map, take_rest}
use Rattle.psafe_file.specs.SeenFields.{field_seen}
use Rattle.psafe_file.proofs.records.after_header.Goals as goal

pub returns : goal.returns
returns c =
    let fields = c.args.fields.now in
    let start = c.header_len.result in
    rw (take_rest fields start, ← drop-map field_seen start fields) (sym c.header_len.ensures.after)
