-- What is seen of references and of resolved texts in memory.
use Rattle.find_references.specs.declared.reading.Reference.{Reference}
use Rattle.find_references.specs.declared.resolving.Resolving.{Resolving}
use Rattle.find_references.specs.References as bare
use Rattle.find_references.specs.Resolved.{Made}

-- a reference in a text
abbrev pub reference_seen : Reference → bare.Reference
reference_seen r = record {
  wanted = r.wanted;
  place = r.place;
  text = r.text.now;
  written = r.written.now;
}

-- a text that is being made
abbrev pub made_seen : Resolving → Made
made_seen m = record { references = m.references; text = m.text.bytes }
