-- A step of the loop is a space or a term.
use Rattle.std.proofs.Common.{◌≡◌, ◌<◌, ◌+◌, ◌-◌, ◌==◌, [], ◌∷◌, ◌++◌, length, true, false, None, sym, ap, ◌∙◌, arith, rules}
use Rattle.std.proofs.lemmas.Grind.{common_steps}
use Rattle.std.proofs.lemmas.Str.Pattern.{strip_prefix_char}
use Rattle.find_references.specs.Terms.{one_at_least, term_before, terms_from, terms_of, with_texts}
use Rattle.find_references.proofs.TermParts.{empty_term, next_term, no_length, no_terms, shorter, some_terms}
use Rattle.find_references.proofs.parsing.parse_terms.Goals as goal

pub returns-then-is_empty : goal.returns-then-is_empty
unfolding terms_of
returns-then-is_empty c =
    let rest = c.loop-rest.rest.now in
    let some : (length rest == 0) ≡ false = first_of (cc, grind (arith, common_steps)) in
    let empty : (length (term_before rest).term.text == 0) ≡ true =
    ap (λ t. length t.term.text == 0) (sym c.term_before-found.ensures) ∙ sym c.is_empty-in-None.ensures ∙ c.if-is_empty.true in
    ap one_at_least (sym c.loop-rest.invariant.2
    ∙ empty_term c.loop-rest.terms (length c.args.text.now - length rest) rest some
    (strip_prefix_char 32 rest None c.in-None.ensures.cases (omega arith)) empty)

pub loop-rest-smaller : goal.loop-rest-smaller
loop-rest-smaller c =
    let rest = c.loop-rest.rest.now in
    let full : (length (term_before rest).term.text == 0) ≡ false =
    ap (λ t. length t.term.text == 0) (sym c.term_before-found.ensures) ∙ sym c.is_empty-in-None.ensures ∙ c.if-is_empty.false in
    let less : length c.term_before-found.result.following.now < length rest =
    omega (arith, shorter rest full, ap (λ t. length t.following) c.term_before-found.ensures) in
    less

pub loop-rest-preserved : goal.loop-rest-preserved
loop-rest-preserved c =
    let text = c.args.text.now in
    let rest = c.loop-rest.rest.now in
    let terms = c.loop-rest.terms in
    let term = (term_before rest).term in
    let following = c.term_before-found.result.following.now in
    let some : (length rest == 0) ≡ false = first_of (cc, grind (arith, common_steps)) in
    let full : (length (term_before rest).term.text == 0) ≡ false =
    ap (λ t. length t.term.text == 0) (sym c.term_before-found.ensures) ∙ sym c.is_empty-in-None.ensures ∙ c.if-is_empty.false in
    let same : following ≡ (term_before rest).following = ap (λ t. t.following) c.term_before-found.ensures in
    let less : length following < length rest = omega (arith, shorter rest full, ap length same) in
    let place : length text - length following ≡ length text - length rest + (length rest - length (term_before rest).following) =
    omega (arith, less, c.loop-rest.invariant.1, ap length same) in (
      search rules,
      omega (arith, less, c.loop-rest.invariant.1),
      ap (λ ts. with_texts ts (terms_from (length text - length following) 0 following))
          (c.in_ok-add_term-in-None.ensures ∙ ap (λ t. terms ++ t.term ∷ []) c.term_before-found.ensures)
          ∙ ap (λ k. with_texts (terms ++ term ∷ []) (terms_from k 0 following)) place
          ∙ ap (λ l. with_texts (terms ++ term ∷ []) (terms_from (length text - length rest + (length rest - length (term_before rest).following)) 0 l)) same
          ∙ sym (next_term terms (length text - length rest) rest some (strip_prefix_char 32 rest None c.in-None.ensures.cases (omega arith)) full)
          ∙ c.loop-rest.invariant.2,
    )

pub returns-then-len-eq0 : goal.returns-then-len-eq0
unfolding terms_of
returns-then-len-eq0 c =
    let rest = c.loop-rest.rest.now in
    let ended : (length rest == 0) ≡ true = first_of (cc, grind (arith, common_steps)) in
    no_terms c.loop-rest.terms (length c.args.text.now - length rest) rest _ (no_length (length rest) ended) (omega arith) c.loop-rest.invariant.2

pub returns : goal.returns
unfolding terms_of
returns c =
    let rest = c.loop-rest.rest.now in
    let ended : (length rest == 0) ≡ true = first_of (cc, grind (arith, common_steps)) in
    some_terms c.loop-rest.terms (length c.args.text.now - length rest) rest _ (no_length (length rest) ended)
    (λ none. absurd (omega arith)) c.loop-rest.invariant.2
