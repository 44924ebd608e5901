-- What the tree of a text says, as a document.
use Rattle.std.specs.Prelude.{ℕ, Bool, List, None, Result}
use Rattle.markup_grammar.specs.Tree.{Tree}
use Rattle.markup_grammar.specs.TreeElements.{tree_content}
use Rattle.doc_forms.specs.declared.fails.DocFail.{DocFail}
use Rattle.doc_forms.specs.Children.{all_children, by_name}
use Rattle.doc_forms.specs.Documents.{DocumentAndHash, document_rows, resolved_document}
use Rattle.doc_forms.specs.ElementTexts.{Setting, start}
use Rattle.outside_core.specs.Results.{◌>>=◌}

-- what the elements of a tree say, read with binaries that the file keeps apart, or the first
-- refusal
abbrev pub document_of_tree : Setting → List (List ℕ × Bool) → Tree → Result DocumentAndHash DocFail
document_of_tree s given tree =
    all_children (by_name s (document_rows s)) (tree_content tree) None start >>= λ x.
    resolved_document s.form given x.0
