use Rattle.std.proofs.Common.{◌≡◌, ◌∙◌, [], ◌∷◌, ap, sym}
use Rattle.std.specs.Prelude.{flat_map}
use Rattle.std.proofs.lemmas.Grind.{flat_map-append}
use Rattle.doc_sinks.specs.Attributes.{attributes}
use Rattle.doc_sinks.specs.Chunks.{attribute_chunks}
use Rattle.doc_sinks.specs.States.{after_chunks}
use Rattle.doc_sinks.proofs.Puts.{after_append, begun_by}
use Rattle.doc_spelling.specs.Pieces.{protected_attribute}
use Rattle.doc_sinks.proofs.elements.open_protected.Goals as goal

pub returns : goal.returns
returns g c =
    begun_by _ _ _ _ (rw (flat_map-append attribute_chunks (attributes c.args.mark) (protected_attribute ∷ []), after_append _ _ (flat_map attribute_chunks (attributes c.args.mark)) (flat_map attribute_chunks (protected_attribute ∷ []))) (cc))
