-- What is seen of the parts of a term as they stand in a text.
use Rattle.find_references.specs.declared.parsing.Found.{Found}
use Rattle.find_references.specs.declared.parsing.Signs.{Signs}
use Rattle.find_references.specs.Terms.{SignsBefore, TermBefore}

-- Signs, and what follows them.
abbrev pub signs_seen : Signs → SignsBefore
signs_seen s = record { not = s.not; whole = s.whole; following = s.following.now }

-- A term, and what follows it.
abbrev pub found_seen : Found → TermBefore
found_seen f = record {
  term = record { not = f.not; whole = f.whole; field = f.field; text = f.text.now };
  following = f.following.now;
}
