use Rattle.std.proofs.Common.{[], length}
use Rattle.doc_walk.proofs.Goes.{Goes, text_from}
use Rattle.doc_walk.proofs.walk.Walk.+element_text.Given as goal

-- What the whole element says is what the rest of it says from here on.
abbrev pub invariant-pieces : goal.invariant-pieces
invariant-pieces l = Goes l.initial.self l.self (text_from l.tag.offset l.tag.attrs.raw.now []) (text_from l.tag.offset l.tag.attrs.raw.now l.text.bytes)

abbrev pub decreases-pieces : goal.decreases-pieces
decreases-pieces l = length l.self.answers

abbrev pub decreases-element_text : goal.decreases-element_text
decreases-element_text l = length l.self.now.answers
