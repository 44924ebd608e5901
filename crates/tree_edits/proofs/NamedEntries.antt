-- The entry that a path names is there, and a document in which it has other versions.
use Rattle.std.proofs.Common.{◌≡◌, ℕ, List, Option, None, Some, Result, Ok, Err, refl, sym, ap, subst, ◌∙◌, true}
use Rattle.vault_model.specs.Db.{NodeId}
use Rattle.vault_model.specs.Shape.{BareVersion, EntryRecord}
use Rattle.vault_model.specs.Tree.{BareDoc, IsDoc, is_proper_entry}
use Rattle.tree_core.specs.Finding.{entry_found}
use Rattle.tree_core.specs.declared.fails.TreeFail.{TreeFail}
use Rattle.tree_core.specs.declared.fails.TreeFail.TheVariants.{NoSuchPath}
use Rattle.tree_core.specs.After.{Holding, entry_named}
use Rattle.tree_core.specs.Changes.{entry_at, holder}
use Rattle.tree_core.proofs.Binds.{names, names_none}
use Rattle.tree_core.proofs.Edited.{entry_is_proper, found_key, set_is_doc}
use Rattle.tree_edits.specs.Versions.{with_versions}

same_held : (one other : Holding) → ◌≡◌ {A = Result Holding TreeFail} (Ok one) (Ok other) → one ≡ other
same_held one other e = cc e

refused : {A : Type 0} (held : Holding) → ◌≡◌ {A = Result Holding TreeFail} (Err NoSuchPath) (Ok held) → A
refused held e = absurd (cc e)

module _ (path : List ℕ) (d : BareDoc) (held : Holding) (is : entry_named path d ≡ Ok held) where
  pub named_there : entry_at held.group held.entry.0 d.tree ≡ Some held.entry
  named_there = found (entry_found d path) refl
    where
      at_entry : (u g : NodeId) → entry_found d path ≡ Some u → holder u d.tree ≡ Some g → (o : Option (NodeId × EntryRecord)) → entry_at g u d.tree ≡ o
          → entry_at held.group held.entry.0 d.tree ≡ Some held.entry
      at_entry u g p q None r =
          refused held (sym (names _ (entry_found d path) u p ∙ names _ (holder u d.tree) g q ∙ names_none _ (entry_at g u d.tree) r) ∙ is)
      at_entry u g p q (Some e) r =
          let same = same_held (record { group = g; entry = e }) held
          (sym (names _ (entry_found d path) u p ∙ names _ (holder u d.tree) g q ∙ names _ (entry_at g u d.tree) e r) ∙ is) in
          subst (λ (h : Holding). entry_at h.group h.entry.0 d.tree ≡ Some h.entry) same (ap (λ k. entry_at g k d.tree) (found_key g u e d.tree r) ∙ r)

      held_by : (u : NodeId) → entry_found d path ≡ Some u → (o : Option NodeId) → holder u d.tree ≡ o → entry_at held.group held.entry.0 d.tree ≡ Some held.entry
      held_by u p None q = refused held (sym (names _ (entry_found d path) u p ∙ names_none _ (holder u d.tree) q) ∙ is)
      held_by u p (Some g) q = at_entry u g p q (entry_at g u d.tree) refl

      found : (o : Option NodeId) → entry_found d path ≡ o → entry_at held.group held.entry.0 d.tree ≡ Some held.entry
      found None p = refused held (sym (names_none _ (entry_found d path) p) ∙ is)
      found (Some u) p = held_by u p (holder u d.tree) refl

  pub named_proper : IsDoc d → is_proper_entry held.entry.1 ≡ true
  named_proper doc = entry_is_proper d doc held.group held.entry.0 held.entry named_there

  -- with other versions that are in order it is a document
  pub with_versions_is_doc : (current : BareVersion) (history : List BareVersion) → IsDoc d
      → (is_proper_entry held.entry.1 ≡ true → is_proper_entry (record held.entry.1 { current = current; history = history }) ≡ true)
      → IsDoc (with_versions held.group held.entry.0 current history d)
  with_versions_is_doc current history doc keeps =
      set_is_doc d doc held.group held.entry.0 (λ (e : EntryRecord). record e { current = current; history = history }) (λ e old. keeps (named_proper doc)) _ refl
