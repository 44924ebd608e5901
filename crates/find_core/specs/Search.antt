-- Which entries terms match.
use Rattle.std.specs.Prelude.{ℕ, Bool, true, false, not, if◌then◌else◌, List, [], ◌∷◌, ◌++◌, codes, map}
use Rattle.std.specs.List.{filter, list_all, list_any}
use Rattle.find_core.specs.Folding.{case_folded, fits}
use Rattle.find_references.specs.Fields.{fields_of, is_other}
use Rattle.find_references.specs.declared.terms.SearchField.{SearchField}
use Rattle.find_references.specs.declared.terms.SearchField.TheVariants.{Any, Title, UserName, Password, Url, Notes, Tags, Group, Attr}
use Rattle.find_references.specs.declared.terms.Term.{Term}
use Rattle.vault_model.specs.Bare.{BareField}
use Rattle.vault_model.specs.declared.contents.Tri.{Tri}
use Rattle.vault_model.specs.declared.contents.Tri.TheVariants.{Inherit, No, Yes}
use Rattle.vault_model.specs.Db.{NodeId}
use Rattle.vault_model.specs.Shape.{EntryRecord}
use Rattle.vault_model.specs.Tree.{BareDoc, Tree, Trees, beside, node, none}
use Rattle.vault_model.specs.Walk.{value_of}

-- ---- an entry

-- The values that a term is compared with: of an entry in a group of this name.
abbrev pub values_of : SearchField → List ℕ → EntryRecord → List (List ℕ)
values_of Any group e =
    value_of (codes "Title") (fields_of e) ∷ value_of (codes "UserName") (fields_of e)
    ∷ value_of (codes "URL") (fields_of e) ∷ value_of (codes "Notes") (fields_of e)
    ∷ e.current.mark.content.tags ∷ []
values_of Title group e = value_of (codes "Title") (fields_of e) ∷ []
values_of UserName group e = value_of (codes "UserName") (fields_of e) ∷ []
values_of Password group e = value_of (codes "Password") (fields_of e) ∷ []
values_of Url group e = value_of (codes "URL") (fields_of e) ∷ []
values_of Notes group e = value_of (codes "Notes") (fields_of e) ∷ []
values_of Tags group e = e.current.mark.content.tags ∷ []
values_of Group group e = group ∷ []
values_of Attr group e = map (λ (f : BareField). f.value) (filter is_other (fields_of e))

-- A value has a term's text in it, or is it, but for the case of letters.
abbrev pub has_text : Term → List ℕ → Bool
has_text term value = fits term.whole (case_folded value) (case_folded term.text)

-- A term matches an entry: some value has its text, or none does where the term says "not".
abbrev pub is_matched : List ℕ → EntryRecord → Term → Bool
is_matched group e term =
    let found = list_any (has_text term) (values_of term.field group e) in
    if term.not then not found else found

-- All terms match an entry.
abbrev pub all_match : List Term → List ℕ → EntryRecord → Bool
all_match terms group e = list_all (is_matched group e) terms

-- ---- a document

-- Whether a group's entries are searched: as the nearest group says that does not leave it to its
-- parent, and where no group says it they are.
abbrev pub is_searched : Bool → Tri → Bool
is_searched above Inherit = above
is_searched above No = false
is_searched above Yes = true

-- Those of a group's entries that pass a test, in their order; the test looks at the group's name
-- too.
abbrev pub passing : (List ℕ → EntryRecord → Bool) → List ℕ → List (NodeId × EntryRecord)
    → List NodeId
passing test name es = map (λ (e : NodeId × EntryRecord). e.0) (filter
    (λ (e : NodeId × EntryRecord). test name e.1) es)

-- The entries of a group and below it that are searched and pass a test, in document order.
abbrev mutual
  pub found_in : (List ℕ → EntryRecord → Bool) → Bool → Tree → List NodeId
  found_in test above (node u group es ts) =
      let searched = is_searched above group.state.content.searching in
      (if searched then passing test group.state.content.name es else [])
      ++ found_among test searched ts

  -- the same of groups side by side
  pub found_among : (List ℕ → EntryRecord → Bool) → Bool → Trees → List NodeId
  found_among test above none = []
  found_among test above (beside t ts) = found_in test above t ++ found_among test above ts

-- The entries of a document that match all terms, in document order.
unfoldable pub entries_found : List Term → BareDoc → List NodeId
entries_found terms doc = found_in (all_match terms) true doc.tree
