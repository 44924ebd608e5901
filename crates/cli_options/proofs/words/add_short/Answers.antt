use Rattle.std.proofs.Common.{arith}
use Rattle.std.proofs.lemmas.Str.{IsCharBoundary-after_ascii}
use Rattle.cli_options.proofs.words.add_short.Goals as goal

pub range_from-requires : goal.range_from-requires
range_from-requires c =
    let some = rw c.as_bytes.ensures.value at c.in-len1-up.len_at_least in
    let low = rw c.as_bytes.ensures.value at c.in-Some.ensures.ascii in
    λ _. IsCharBoundary-after_ascii c.args.letters.now 0 c.utf8.letters (omega (arith, some)) low
