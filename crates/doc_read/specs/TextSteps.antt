-- A text, some of whose outermost elements have been read.
use Rattle.std.specs.Prelude.{Option, Result, Ok}
use Rattle.markup_grammar.specs.Elements.{Content}
use Rattle.doc_forms.specs.declared.cursor.Cursor.{Cursor}
use Rattle.doc_forms.specs.declared.fails.DocFail.{DocFail}
use Rattle.doc_forms.specs.ElementTexts.{Setting}
use Rattle.doc_forms.specs.Children.{all_children, by_name}
use Rattle.doc_forms.specs.Documents.{FileParts, document_rows}
use Rattle.outside_core.specs.Results.{◌>>=◌}

-- what is known at the end of a text, of which this much is known before this content
abbrev pub parts_left : Setting → Content → Option FileParts → Cursor
    → Result (Option FileParts) DocFail
parts_left s content parts cursor =
    all_children (by_name s (document_rows s)) content parts cursor >>= λ x. Ok x.0
