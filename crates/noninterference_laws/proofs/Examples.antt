-- Two databases that differ in a password alone, computed.
use Rattle.std.proofs.Common.{◌≡◌, ◌≢◌, ℕ, true, List, [], ◌∷◌, Option, None, Some, Result, Ok, Err, codes, bytes_eq, refl, ap, subst, true≢false}
use Rattle.vault_model.specs.Db.{NodeId}
use Rattle.vault_model.specs.Shape.{EntryRecord}
use Rattle.vault_model.specs.Tree.{BareDoc, entry_rows}
use Rattle.vault_model.specs.Walk.{value_of}
use Rattle.tree_core.specs.After.{Holding, entry_named}
use Rattle.tree_core.specs.Finding.{entry_found}
use Rattle.tree_core.specs.declared.fails.TreeFail.{TreeFail}
use Rattle.find_references.specs.Fields.{fields_of}
use Rattle.find_references.specs.References.{reference_at}
use Rattle.find_references.specs.Terms.{term_before, terms_of}
use Rattle.find_references.specs.declared.fail.FindFail.{FindFail}
use Rattle.find_references.specs.declared.terms.Term.{Term}
use Rattle.find_core.specs.Search.{found_in}
use Rattle.cli_showing.specs.Showing.{version_shown}
use Rattle.noninterference_laws.specs.Example.{ExampleDatabases, one, other}
use Rattle.noninterference_laws.specs.Masks.{LooksAtNoSecret, looks_at_secret, shows_no_reference}

-- the password of the first entry
abbrev first_password : List (NodeId × EntryRecord) → List ℕ
first_password [] = []
first_password (e ∷ es) = value_of (codes "Password") (fields_of e.1)

differ : one ≢ other
differ same = true≢false (ap (λ (d : BareDoc). bytes_eq (codes "first") (first_password (entry_rows d.tree))) same)

abbrev held_or : Holding → Result Holding TreeFail → Holding
held_or held (Ok h) = h
held_or held (Err why) = held

abbrev shown_or : NodeId × EntryRecord → Option (NodeId × EntryRecord) → NodeId × EntryRecord
shown_or e (Some shown) = shown
shown_or e None = e

shows_plain : (held : Holding) (shown : NodeId × EntryRecord) → entry_named (codes "Bank") one ≡ Ok held → version_shown 0 held.entry ≡ Some shown → shows_no_reference true shown.1 ≡ true
unfolding entry_found reference_at
shows_plain held shown is num =
    subst (λ (e : NodeId × EntryRecord). shows_no_reference true e.1 ≡ true) (ap (shown_or held.entry) num)
    (subst (λ (h : Holding). shows_no_reference true h.entry.1 ≡ true) (ap (held_or held) is) refl)

abbrev terms_or : List Term → Result (List Term) FindFail → List Term
terms_or terms (Ok ts) = ts
terms_or terms (Err why) = terms

searches_openly : LooksAtNoSecret (codes "bank") one
unfolding terms_of term_before
searches_openly terms is = subst (λ (ts : List Term). found_in (λ name. looks_at_secret ts) true one.tree ≡ []) (ap (terms_or terms) is) refl

pub example_databases : ExampleDatabases
example_databases = record { apart = differ; alike = refl; marked = refl; plain = shows_plain; searched = searches_openly }
