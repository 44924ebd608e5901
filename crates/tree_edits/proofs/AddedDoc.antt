-- A new entry of texts leaves a document.
use Rattle.std.proofs.Common.{◌≡◌, ℕ, List, MatchOption, MatchResult, Option, Some, Result, true, false, ap, ◌∙◌}
use Rattle.std.specs.Str.{is_utf8}
use Rattle.vault_model.specs.Db.{NodeId}
use Rattle.vault_model.specs.Shape.{EntryRecord}
use Rattle.vault_model.specs.Tree.{BareDoc, IsDoc, Tree, is_proper_entry}
use Rattle.tree_core.specs.Finding.{group_at_path}
use Rattle.tree_core.specs.Changes.{changed_at, has_group, is_free, with_entry}
use Rattle.tree_core.specs.NewNodes.{GivenValues, new_entry, new_fields}
use Rattle.tree_core.specs.NewPaths.{after_last, before_last}
use Rattle.tree_core.proofs.Added.{put_is_doc}
use Rattle.tree_core.proofs.Named.{group_there}
use Rattle.tree_contents.specs.Texts.{AreTexts}
use Rattle.tree_edits.proofs.Proper.{new_entry_proper}

pub add_is_doc : {E : Type 0} (d : BareDoc) → IsDoc d → (path : List ℕ) (g id : NodeId) (v : GivenValues) (now : ℕ) (e : NodeId × EntryRecord)
    → e ≡ (id, new_entry (new_fields d.meta.settings.value.protect (after_last path) v) now)
    → group_at_path d (before_last path) ≡ Some g → is_free id d ≡ true → is_utf8 (after_last path) ≡ true → AreTexts v
    → (new : Tree) (o : Option (Result (Unit {0}) E))
    → MatchOption o ((has_group g d.tree ≡ false) × (new ≡ d.tree)) (λ out. MatchResult out (λ _. new ≡ changed_at g (with_entry e) d.tree) (λ _. new ≡ d.tree))
    → IsDoc (record d { tree = new })
add_is_doc d is path g id v now e same there free title texts new o h =
    put_is_doc d is g e (group_there d (before_last path) g there) (ap (λ (r : NodeId × EntryRecord). is_free r.0 d) same ∙ free)
    (ap (λ (r : NodeId × EntryRecord). is_proper_entry r.1) same ∙ new_entry_proper d.meta.settings.value.protect (after_last path) v now title texts) new o h
