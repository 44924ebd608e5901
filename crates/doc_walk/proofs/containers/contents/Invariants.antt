use Rattle.std.proofs.Common.{◌≡◌, [], length}
use Rattle.doc_forms.specs.ElementTexts.{is_protected}
use Rattle.doc_walk.proofs.Goes.{Goes, all_from}
use Rattle.doc_walk.proofs.containers.contents.Given as goal

-- What the whole element holds is what the rest of it holds from here on.
abbrev pub invariant-pieces : goal.invariant-pieces
invariant-pieces g l =
    record {
      hides : l.hides ≡ is_protected l.tag.attrs.raw.now;
      goes : Goes l.initial.walk l.walk (all_from g.P.Parts.child l.tag.offset l.tag.attrs.raw.now [] (g.P.Parts.seen l.initial.parts))
          (all_from g.P.Parts.child l.tag.offset l.tag.attrs.raw.now l.text.bytes (g.P.Parts.seen l.parts));
    }

abbrev pub decreases-pieces : goal.decreases-pieces
decreases-pieces g l = length l.walk.answers
