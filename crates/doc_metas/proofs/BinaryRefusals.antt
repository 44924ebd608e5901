-- A refusal of a binary is one of the element that it is in.
use Rattle.std.proofs.Common.{◌≡◌, ℕ, Bool, true, false, cond, Option, Some, None, List, [], ◌∷◌, ◌++◌, codes, refl, ap, subst, Result, Ok, Err}
use Rattle.std.specs.Prelude.{option_and_then}
use Rattle.markup_grammar.specs.Attributes.{attribute_text}
use Rattle.markup_grammar.specs.Elements.{innermost, open_contents}
use Rattle.doc_forms.specs.declared.cursor.Cursor.{Cursor}
use Rattle.doc_forms.specs.declared.fails.DocFail.{DocFail}
use Rattle.doc_forms.specs.declared.fails.DocFail.TheVariants.{Compressed}
use Rattle.doc_forms.specs.ElementTexts.{ElementText, is_marked, is_hidden}
use Rattle.doc_forms.specs.Metas.{ReadBinary, binary}
use Rattle.outside_core.specs.Results.{◌>>=◌}
use Rattle.doc_forms.specs.Refusals.{checked_value, Fails}
use Rattle.doc_forms.specs.Values.{bytes_in, number64}
use Rattle.doc_metas.specs.BinaryTexts.{binary_by_text}
use Rattle.doc_walk.proofs.Pieces.{carried}
use Rattle.doc_walk.specs.declared.walk.Tag.{Tag}
use Rattle.doc_walk.specs.Steps.{Course, Steps}
use Rattle.doc_walk.specs.Tags.{text_step, child_step}

-- a binary after these
abbrev after_those : List ReadBinary → Cursor → ReadBinary → Result (List ReadBinary × Cursor) DocFail
after_those parts cursor b = Ok (parts ++ b ∷ [], cursor)

abbrev binary_in : ℕ → Bool → Bool → ℕ → List ℕ → Result ReadBinary DocFail
binary_in offset compressed hidden n b = cond compressed (Err (Compressed offset)) (Ok (record { number = n; bytes = b; hidden = hidden }))

abbrev steps_in : ℕ → Bool → Bool → List ReadBinary → Cursor → ℕ → List ℕ → Result (List ReadBinary × Cursor) DocFail
steps_in offset compressed hidden parts cursor n b = cond compressed (Err (Compressed offset)) (after_those parts cursor (record { number = n; bytes = b; hidden = hidden }))

-- in steps, with those before it
steps_of : (offset : ℕ) (compressed hidden : Bool) (number : Option ℕ) (bytes : Option (List ℕ)) (parts : List ReadBinary) (cursor : Cursor)
    → ((checked_value offset number >>= λ n. checked_value offset bytes >>= λ b. binary_in offset compressed hidden n b) >>= after_those parts cursor)
    ≡ (checked_value offset number >>= λ n. checked_value offset bytes >>= λ b. steps_in offset compressed hidden parts cursor n b)
steps_of offset compressed hidden None bytes parts cursor = refl
steps_of offset compressed hidden (Some n) None parts cursor = refl
steps_of offset true hidden (Some n) (Some b) parts cursor = refl
steps_of offset false hidden (Some n) (Some b) parts cursor = refl

pub binary_refused : {X W : Type 0} (seen : X → ElementText) (x : X) (any : W → List ReadBinary) (old new : Course) (tag : Tag) (parts : List ReadBinary) (e : DocFail)
    → Steps seen old new (Ok x) (text_step tag)
    → Fails e (binary_by_text tag.offset tag.attrs.raw.now (seen x))
    → Steps any old new (Err e) (child_step binary parts tag)
binary_refused seen x any old new tag parts e steps fails = record {
  gives = rw steps.gives
      (subst (Fails e) (steps_of tag.offset (is_marked (codes "Compressed") tag.attrs.raw.now) (is_hidden tag.attrs.raw.now) (option_and_then number64 (attribute_text tag.attrs.raw.now (codes "ID"))) (bytes_in (seen x)) parts new.cursor)
      (carried e (binary_by_text tag.offset tag.attrs.raw.now (seen x)) _ (λ same. ap (λ r. r >>= after_those parts new.cursor) same) fails));
  left = tt;
  shorter = tt;
  setting = steps.setting;
}
