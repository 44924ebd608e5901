-- Terms whose texts are folded once, before entries are looked at.
use Rattle.std.specs.Prelude.{ℕ, Bool, not, if◌then◌else◌, List}
use Rattle.std.specs.List.{list_all, list_any}
use Rattle.find_core.specs.Folding.{case_folded, fits}
use Rattle.find_core.specs.Search.{values_of}
use Rattle.find_references.specs.declared.terms.Term.{Term}
use Rattle.vault_model.specs.Shape.{EntryRecord}

-- A term with its text folded.
abbrev pub folded_term : Term → Term
folded_term t = record { not = t.not; whole = t.whole; field = t.field; text = case_folded t.text }

-- A value has the folded text of a term in it, or is it.
abbrev pub has_folded : Term → List ℕ → Bool
has_folded term value = fits term.whole (case_folded value) term.text

-- A folded term matches an entry.
abbrev pub is_matched_folded : List ℕ → EntryRecord → Term → Bool
is_matched_folded group e term =
    let found = list_any (has_folded term) (values_of term.field group e) in
    if term.not then not found else found

-- All folded terms match an entry.
abbrev pub all_match_folded : List Term → List ℕ → EntryRecord → Bool
all_match_folded terms group e = list_all (is_matched_folded group e) terms
