use Rattle.std.proofs.Common.{ap, sym, ◌∙◌}
use Rattle.std.proofs.lemmas.Result.{on_ok_weaker}
use Rattle.line_words.specs.inside.Reading.{words_seen, words_with}
use Rattle.line_words.proofs.Pieces.{run_read}
use Rattle.line_words.proofs.reading.read_run.Goals as goal

pub returns : goal.returns
returns c =
    let run = c.args.run.now in
    on_ok_weaker c.add_part.result
    (λ added following. ap (λ read. words_with read following) added
    ∙ run_read run following (words_seen c.args.read.now) c.requires.no_quote c.requires.no_space (sym c.if-is_empty.ensures))
    c.add_part.ensures
