use Rattle.std.proofs.Common.{◌≡◌, [], ◌∷◌, ◌++◌, Ok, Some, None, ap, sym, subst, ◌∙◌, arith, rules}
use Rattle.std.proofs.lemmas.List.{append-nil}
use Rattle.std.proofs.lemmas.Str.Pattern.{split_parts}
use Rattle.line_words.specs.inside.Reading.{words_seen, words_with}
use Rattle.line_words.specs.Words.{words_unless}
use Rattle.line_words.proofs.Pieces.{quoted_read}
use Rattle.line_words.proofs.Quotes.{IsOutside, last_open, none_is, none_open, past_quotes, whole_line}
use Rattle.line_words.proofs.reading.read_line.Goals as goal

pub read_unquoted-requires : goal.read_unquoted-requires
read_unquoted-requires c =
    let parts = split_parts 34 c.loop-before.rest.now (Some (c.in-Some.before, c.in-Some.quoted)) c.in-Some.ensures.cases (omega arith) in
    none_is 34 c.in-Some.before.now parts.1

pub returns-in_default-split_once : goal.returns-in_default-split_once
returns-in_default-split_once c =
    let line = c.args.line.now in
    let before = c.in-Some.before.now in
    let quoted = c.in-Some.quoted.now in
    let parts = split_parts 34 c.loop-before.rest.now (Some (c.in-Some.before, c.in-Some.quoted)) c.in-Some.ensures.cases (omega arith) in
    let none = split_parts 34 quoted None c.in_default-split_once.ensures.cases (omega arith) in
    ap (λ quote. words_unless quote (words_with (words_seen c.args.read.now) line))
    (last_open before quoted line (subst (λ rest. IsOutside rest line) parts.0 c.loop-before.invariant.1) (none_is 34 before parts.1) (none_is 34 quoted none))

pub loop-before-init : goal.loop-before-init
loop-before-init c = (search rules, whole_line c.args.line.now, search rules)

pub loop-before-preserved : goal.loop-before-preserved
loop-before-preserved c =
    let line = c.args.line.now in
    let rest = c.loop-before.rest.now in
    let before = c.in-Some.before.now in
    let quoted = c.in-Some.quoted.now in
    let part = c.in-Some-split_once.part.now in
    let following = c.in-Some-split_once.following.now in
    let parts = split_parts 34 rest (Some (c.in-Some.before, c.in-Some.quoted)) c.in-Some.ensures.cases (omega arith) in
    let closed = split_parts 34 quoted (Some (c.in-Some-split_once.part, c.in-Some-split_once.following)) c.in-Some-split_once.ensures.cases (omega arith) in
    let all : rest ≡ before ++ 34 ∷ (part ++ 34 ∷ following) = parts.0 ∙ ap (λ q. before ++ 34 ∷ q) closed.0 in (
      search rules,
      past_quotes before part following line (subst (λ r. IsOutside r line) all c.loop-before.invariant.1) (none_is 34 before parts.1) (none_is 34 part closed.1),
      ap (λ read. words_with read following) c.in_ok-add_part.ensures
          ∙ quoted_read part following (words_seen c.read_unquoted.new.read) (none_is 34 part closed.1)
          ∙ c.in_ok-read_unquoted.ensures (34 ∷ (part ++ 34 ∷ following))
          ∙ ap (words_with (words_seen c.loop-before.read)) (sym all)
          ∙ c.loop-before.invariant.2,
    )

pub read_unquoted-requires-2 : goal.read_unquoted-requires-2
read_unquoted-requires-2 c = none_is 34 c.loop-before.rest.now (split_parts 34 c.loop-before.rest.now None c.in_default.ensures.cases (omega arith))

pub returns : goal.returns
returns c =
    let line = c.args.line.now in
    let rest = c.loop-before.rest.now in
    let none = none_is 34 rest (split_parts 34 rest None c.in_default.ensures.cases (omega arith)) in
    ap (λ quote. words_unless quote (words_with (words_seen c.args.read.now) line)) (none_open rest line c.loop-before.invariant.1 none)
    ∙ ap Ok (sym c.loop-before.invariant.2 ∙ ap (words_with (words_seen c.loop-before.read)) (sym (append-nil rest)) ∙ sym (c.in_ok-read_unquoted-2.ensures []))
