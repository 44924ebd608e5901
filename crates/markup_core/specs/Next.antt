-- What one call of `next` answers.
use Rattle.std.specs.Prelude.{◌≡◌, List, [], ◌∷◌, Result, Ok, Err}
use Rattle.markup_grammar.specs.Answers.{Answer, start, words, stop, finish, form, depth}
use Rattle.markup_core.specs.declared.piece.Piece.{Piece}
use Rattle.markup_core.specs.declared.piece.Piece.TheVariants.{Start, Words, Stop, Finish}
use Rattle.markup_core.specs.declared.piece.MarkupFail.{MarkupFail}
use Rattle.markup_core.specs.declared.piece.MarkupFail.TheVariants.{Form, Depth}

-- the first of the answers that were left is given, and the others are left; the last one is given
-- again and again
abbrev pub Answers : List Answer → Result Piece MarkupFail → List Answer → Type 0
Answers old (Ok (Start name attrs place)) new = old ≡ start place name.now attrs.raw.now ∷ new
Answers old (Ok (Words raw place)) new = old ≡ words place raw.now ∷ new
Answers old (Ok (Stop place)) new = old ≡ stop place ∷ new
Answers old (Ok Finish) new = (old ≡ finish ∷ []) × (new ≡ old)
Answers old (Err (Form place)) new = (old ≡ form place ∷ []) × (new ≡ old)
Answers old (Err (Depth place)) new = (old ≡ depth place ∷ []) × (new ≡ old)
