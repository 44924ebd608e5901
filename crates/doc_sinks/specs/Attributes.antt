-- The attributes that a mark stands for.
use Rattle.std.specs.Prelude.{ℕ, List, [], ◌∷◌, codes}
use Rattle.doc_sinks.specs.declared.attributes.Mark.{Mark}
use Rattle.doc_sinks.specs.declared.attributes.Mark.TheVariants.{Unmarked, InMemory, Ref, Id, IdInMemory}
use Rattle.doc_spelling.specs.Entries.{number_attribute}
use Rattle.doc_spelling.specs.Pieces.{in_memory_attribute}

-- by their names, with their texts
abbrev pub attributes : Mark → List (List ℕ × List ℕ)
attributes Unmarked = []
attributes InMemory = in_memory_attribute ∷ []
attributes (Ref n) = number_attribute (codes "Ref") n ∷ []
attributes (Id n) = number_attribute (codes "ID") n ∷ []
attributes (IdInMemory n) = number_attribute (codes "ID") n ∷ in_memory_attribute ∷ []
