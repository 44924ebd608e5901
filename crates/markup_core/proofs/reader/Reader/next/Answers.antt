use Rattle.std.proofs.Common.{◌∙◌, ◌<◌, sym, refl, ap, length, Ok, Err, arith}
use Rattle.markup_core.specs.Reader.{answers_left}
use Rattle.markup_scanner.specs.Tokens.{TokenStands}
use Rattle.markup_scanner.specs.declared.token.Token.TheVariants.{Start, Words, Stop, End}
use Rattle.markup_core.proofs.Cuts.{name_utf8, attrs_utf8, words_utf8}
use Rattle.markup_core.proofs.Next.{TellsNext, tells_at, stands_at, next_slash, next_words, next_start, next_empty, next_deep, next_stop, next_refused, next_end, next_cut, stop_low}
use Rattle.markup_core.proofs.Soundness.{sound_slash, sound_start, sound_stop}
use Rattle.markup_core.proofs.reader.Reader.next.Goals as goal
use Rattle.markup_core.proofs.reader.Reader.next.Goals.{then-self-2, else-self-2}

pub invariant_of-self : goal.invariant_of-self
invariant_of-self c = sound_slash c.self.inside c.self.invariant c.if-self.true

pub returns-then-self : goal.returns-then-self
unfolding answers_left
returns-then-self c = sym c.self.view_is ∙ next_slash c.self.inside c.if-self.true

pub returns-then-self-eq-OPEN_LIMIT : goal.returns-then-self-eq-OPEN_LIMIT
unfolding answers_left
returns-then-self-eq-OPEN_LIMIT c =
    let tells : TellsNext c.self.inside (Ok (Start c.in-Ok-Start.place c.in-Ok-Start.tag)) =
    tells_at c.self.inside c.token_at.result (Ok (Start c.in-Ok-Start.place c.in-Ok-Start.tag)) (c.in-Ok-Start.is ∙ ap Ok c.in-Ok-Start.field-0-is) c.token_at.ensures.token in
    (sym c.self.view_is ∙ next_deep c.self.inside c.in-Ok-Start.place c.in-Ok-Start.tag c.if-self.false tells c.if-self-eq-OPEN_LIMIT.true, refl)

pub piece-name-requires-clause-utf8 : goal.piece-name-requires-clause-utf8
piece-name-requires-clause-utf8 c =
    let stand : TokenStands c.self.inside.text.now c.self.inside.at (Ok (Start c.in-Ok-Start.place c.in-Ok-Start.tag)) =
    stands_at c.self.inside.text.now c.self.inside.at c.token_at.result (Ok (Start c.in-Ok-Start.place c.in-Ok-Start.tag)) (c.in-Ok-Start.is ∙ ap Ok c.in-Ok-Start.field-0-is) c.token_at.ensures.stands in
    name_utf8 c.self.inside.text.now c.self.inside.at c.in-Ok-Start.place c.in-Ok-Start.tag c.self.invariant.is_utf8 stand

pub piece-requires-clause-utf8 : goal.piece-requires-clause-utf8
piece-requires-clause-utf8 c =
    let stand : TokenStands c.self.inside.text.now c.self.inside.at (Ok (Start c.in-Ok-Start.place c.in-Ok-Start.tag)) =
    stands_at c.self.inside.text.now c.self.inside.at c.token_at.result (Ok (Start c.in-Ok-Start.place c.in-Ok-Start.tag)) (c.in-Ok-Start.is ∙ ap Ok c.in-Ok-Start.field-0-is) c.token_at.ensures.stands in
    attrs_utf8 c.self.inside.text.now c.self.inside.at c.in-Ok-Start.place c.in-Ok-Start.tag c.self.invariant.is_utf8 stand

pub returns-then-tag : goal.returns-then-tag
unfolding answers_left
returns-then-tag c =
    let tells : TellsNext c.self.inside (Ok (Start c.in-Ok-Start.place c.in-Ok-Start.tag)) =
    tells_at c.self.inside c.token_at.result (Ok (Start c.in-Ok-Start.place c.in-Ok-Start.tag)) (c.in-Ok-Start.is ∙ ap Ok c.in-Ok-Start.field-0-is) c.token_at.ensures.token in
    let low : c.self.inside.depth < 256 = omega arith in
    sym c.self.view_is
    ∙ next_empty c.self.inside c.in-Ok-Start.place c.in-Ok-Start.tag c.piece-name.result.now c.piece.result.now c.if-self.false tells c.if-tag.true low c.piece-name.ensures c.piece.ensures

pub invariant_of-self-in-Ok-Start : goal.invariant_of-self-in-Ok-Start
invariant_of-self-in-Ok-Start c =
    let stand : TokenStands c.self.inside.text.now c.self.inside.at (Ok (Start c.in-Ok-Start.place c.in-Ok-Start.tag)) =
    stands_at c.self.inside.text.now c.self.inside.at c.token_at.result (Ok (Start c.in-Ok-Start.place c.in-Ok-Start.tag)) (c.in-Ok-Start.is ∙ ap Ok c.in-Ok-Start.field-0-is) c.token_at.ensures.stands in
    let low : c.self.inside.depth < 256 = omega arith in
    sound_start c.self.inside c.in-Ok-Start.place c.in-Ok-Start.tag c.self.invariant stand c.if-tag.false c.if-self.false low

pub returns-else-tag : goal.returns-else-tag
unfolding answers_left
returns-else-tag c =
    let tells : TellsNext c.self.inside (Ok (Start c.in-Ok-Start.place c.in-Ok-Start.tag)) =
    tells_at c.self.inside c.token_at.result (Ok (Start c.in-Ok-Start.place c.in-Ok-Start.tag)) (c.in-Ok-Start.is ∙ ap Ok c.in-Ok-Start.field-0-is) c.token_at.ensures.token in
    let low : c.self.inside.depth < 256 = omega arith in
    let room : c.self.inside.depth < length c.self.inside.spans = omega arith in
    sym c.self.view_is
    ∙ next_start c.self.inside c.in-Ok-Start.place c.in-Ok-Start.tag c.piece-name.result.now c.piece.result.now c.if-self.false tells c.if-tag.false low room c.piece-name.ensures c.piece.ensures

pub piece-raw-requires-clause-utf8 : goal.piece-raw-requires-clause-utf8
piece-raw-requires-clause-utf8 c =
    let stand : TokenStands c.self.inside.text.now c.self.inside.at (Ok (Words c.in-Ok-Words.place c.in-Ok-Words.end)) =
    stands_at c.self.inside.text.now c.self.inside.at c.token_at.result (Ok (Words c.in-Ok-Words.place c.in-Ok-Words.end)) (c.in-Ok-Words.is ∙ ap Ok c.in-Ok-Words.field-0-is) c.token_at.ensures.stands in
    words_utf8 c.self.inside.text.now c.self.inside.at c.in-Ok-Words.place c.in-Ok-Words.end c.self.invariant.is_utf8 c.self.invariant.between_characters stand

pub returns-in-Ok-Words : goal.returns-in-Ok-Words
unfolding answers_left
returns-in-Ok-Words c =
    let tells : TellsNext c.self.inside (Ok (Words c.in-Ok-Words.place c.in-Ok-Words.end)) =
    tells_at c.self.inside c.token_at.result (Ok (Words c.in-Ok-Words.place c.in-Ok-Words.end)) (c.in-Ok-Words.is ∙ ap Ok c.in-Ok-Words.field-0-is) c.token_at.ensures.token in
    sym c.self.view_is
    ∙ next_words c.self.inside c.in-Ok-Words.place c.in-Ok-Words.end c.piece-raw.result.now c.if-self.false tells c.piece-raw.ensures

pub invariant_of-self-in-Ok-Stop : goal.invariant_of-self-in-Ok-Stop
invariant_of-self-in-Ok-Stop c =
    let stand : TokenStands c.self.inside.text.now c.self.inside.at (Ok (Stop c.in-Ok-Stop.place c.in-Ok-Stop.end)) =
    stands_at c.self.inside.text.now c.self.inside.at c.token_at.result (Ok (Stop c.in-Ok-Stop.place c.in-Ok-Stop.end)) (c.in-Ok-Stop.is ∙ ap Ok c.in-Ok-Stop.field-0-is) c.token_at.ensures.stands in
    sound_stop c.self.inside c.in-Ok-Stop.place c.in-Ok-Stop.end c.self.invariant stand c.if-self.false

pub returns-in-Ok-Stop : goal.returns-in-Ok-Stop
unfolding answers_left
returns-in-Ok-Stop c =
    let tells : TellsNext c.self.inside (Ok (Stop c.in-Ok-Stop.place c.in-Ok-Stop.end)) =
    tells_at c.self.inside c.token_at.result (Ok (Stop c.in-Ok-Stop.place c.in-Ok-Stop.end)) (c.in-Ok-Stop.is ∙ ap Ok c.in-Ok-Stop.field-0-is) c.token_at.ensures.token in
    let stand : TokenStands c.self.inside.text.now c.self.inside.at (Ok (Stop c.in-Ok-Stop.place c.in-Ok-Stop.end)) =
    stands_at c.self.inside.text.now c.self.inside.at c.token_at.result (Ok (Stop c.in-Ok-Stop.place c.in-Ok-Stop.end)) (c.in-Ok-Stop.is ∙ ap Ok c.in-Ok-Stop.field-0-is) c.token_at.ensures.stands in
    sym c.self.view_is
    ∙ next_stop c.self.inside c.in-Ok-Stop.place c.in-Ok-Stop.end c.if-self.false tells (stop_low c.self.inside.text.now c.self.inside.at c.in-Ok-Stop.place c.in-Ok-Stop.end stand)

pub returns-after-self-2 : goal.returns-after-self-2
unfolding answers_left
returns-after-self-2 c =
    let tells : TellsNext c.self.inside (Ok End) = tells_at c.self.inside c.token_at.result (Ok End) (c.in-Ok-End.is ∙ ap Ok c.in-Ok-End.field-0-is) c.token_at.ensures.token in
    elim c.if-self-2.branch [
      | then-self-2 w ↦ rw w.result-is (sym c.self.view_is ∙ next_end c.self.inside c.if-self.false tells w.if-self-2.true, refl)
      | else-self-2 w ↦ rw w.result-is (sym c.self.view_is ∙ next_cut c.self.inside c.if-self.false tells w.if-self-2.false, refl)
    ]

pub returns-in-Err : goal.returns-in-Err
unfolding answers_left
returns-in-Err c =
    let tells : TellsNext c.self.inside (Err c.in-Err.place) = tells_at c.self.inside c.token_at.result (Err c.in-Err.place) c.in-Err.is c.token_at.ensures.token in
    (sym c.self.view_is ∙ next_refused c.self.inside c.in-Err.place c.if-self.false tells, refl)
