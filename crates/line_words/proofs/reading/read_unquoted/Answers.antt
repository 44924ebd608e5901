use Rattle.std.proofs.Common.{◌≡◌, ◌∷◌, ◌++◌, false, Some, None, ap, sym, ◌∙◌, arith, append_assoc, subst, rules}
use Rattle.std.proofs.lemmas.List.Elements.{All-tail}
use Rattle.std.proofs.lemmas.Str.Pattern.{split_parts}
use Rattle.line_words.specs.inside.Reading.{words_seen, words_with}
use Rattle.line_words.specs.Spelling.{HasNoQuote}
use Rattle.line_words.specs.Words.{is_quote}
use Rattle.line_words.proofs.Pieces.{end_read}
use Rattle.line_words.proofs.Quotes.{none_behind, none_is}
use Rattle.line_words.proofs.reading.read_unquoted.Goals as goal

pub read_run-requires-clause-no_space : goal.read_run-requires-clause-no_space
read_run-requires-clause-no_space c =
    let parts = split_parts 32 c.loop-run.rest.now (Some (c.in-Some.run', c.in-Some.following)) c.in-Some.ensures.cases (omega arith) in
    none_is 32 c.in-Some.run'.now parts.1

pub loop-run-preserved : goal.loop-run-preserved
loop-run-preserved c =
    let run = c.in-Some.run'.now in
    let later = c.in-Some.following.now in
    let parts = split_parts 32 c.loop-run.rest.now (Some (c.in-Some.run', c.in-Some.following)) c.in-Some.ensures.cases (omega arith) in (
      search rules,
      All-tail (λ b. is_quote b ≡ false) 32 later (none_behind run (32 ∷ later) (subst HasNoQuote parts.0 c.loop-run.invariant.1)),
      λ following.
          ap (λ read. words_with read (later ++ following)) c.in_ok-end_word.ensures
          ∙ end_read (later ++ following) (words_seen c.read_run.new.read)
          ∙ c.in_ok-read_run.ensures (32 ∷ (later ++ following))
          ∙ ap (words_with (words_seen c.loop-run.read)) (sym (append_assoc run (32 ∷ later) following) ∙ ap (λ rest. rest ++ following) (sym parts.0))
          ∙ c.loop-run.invariant.2 following,
    )

pub read_run-requires-2-clause-no_space : goal.read_run-requires-2-clause-no_space
read_run-requires-2-clause-no_space c = none_is 32 c.loop-run.rest.now (split_parts 32 c.loop-run.rest.now None c.in_default.ensures.cases (omega arith))
