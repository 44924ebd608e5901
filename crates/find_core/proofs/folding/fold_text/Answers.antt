-- Each letter that comes is one more of the folded text.
use Rattle.std.proofs.Common.{◌++◌, refl, sym, ap, ap₂, ◌∙◌, append-nil, chars, encode_utf8_all}
use Rattle.unicode_normalization.proofs.IterLemmas.{Spells-chars}
use Rattle.caseless.specs.Caseless.{default_case_fold}
use Rattle.find_core.proofs.Letters.{encoded_more, letter_more}
use Rattle.find_core.proofs.folding.fold_text.Goals as goal

pub loop-letter-init : goal.loop-letter-init
loop-letter-init c =
    rw c.into_iter-letter-iterator.ensures.into_iter_gives (
      default_case_fold (chars c.args.text.now),
      c.default_case_fold-letter-items.ensures.text (chars c.args.text.now) (Spells-chars _ _ c.utf8.text c.chars.ensures.rest),
      refl,
      c.cut.ensures.bytes,
    )

pub loop-letter-preserved : goal.loop-letter-preserved
loop-letter-preserved c =
    let now = c.loop-letter.invariant in
    let step = c.in-Some.ensures.steps.first.at now.0 now.1 in (
      step.0,
      step.2,
      letter_more (default_case_fold (chars c.args.text.now)) c.loop-letter.yielded now.0 step.0 c.in-Some.letter now.2 step.1,
      c.in_ok-add.ensures ∙ ap₂ ◌++◌ now.3 (c.as_bytes.ensures.value ∙ c.encode_utf8.ensures.value)
          ∙ sym (encoded_more c.loop-letter.yielded c.in-Some.letter),
    )

pub returns : goal.returns
returns c =
    let now = c.loop-letter.invariant in
    let none = c.in-None.ensures.steps.first.at now.0 now.1 in
    now.3 ∙ ap encode_utf8_all (sym (now.2 ∙ ap (λ r. c.loop-letter.yielded ++ r) none ∙ append-nil c.loop-letter.yielded))
