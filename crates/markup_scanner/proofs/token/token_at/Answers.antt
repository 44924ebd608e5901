use Rattle.std.proofs.Common.{refl, arith}
use Rattle.markup_scanner.proofs.Tokens.{first_told, inner_told}
use Rattle.markup_scanner.proofs.token.token_at.Goals as goal

pub returns-then-at-eq0-clause-token : goal.returns-then-at-eq0-clause-token
returns-then-at-eq0-clause-token c =
    first_told c.args.text.now c.args.spans.now c.args.depth c.args.at c.first_token.result c.if-at-eq0.true c.requires.begun c.first_token.ensures.token

pub returns-clause-token : goal.returns-clause-token
returns-clause-token c =
    inner_told c.args.text.now c.args.spans.now c.args.depth c.args.at _ c.inner_token.result (omega arith) refl c.inner_token.ensures.token
