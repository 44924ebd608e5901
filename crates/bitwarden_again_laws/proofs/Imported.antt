-- An export with one item is imported at two moments.
use Rattle.std.proofs.Common.{◌≡◌, ℕ, inl, [], Option, None, Some, Result, Ok, Err, refl, sym, ap, ◌∙◌, arith}
use Rattle.std.specs.FinMap.{get}
use Rattle.std.specs.Option.{option_map}
use Rattle.std.specs.Prelude.{codes}
use Rattle.std.specs.Str.{chars, is_utf8}
use Rattle.serde_json.proofs.OnLiterals.{serde_json_on_literals}
use Rattle.uuid.proofs.OnLiterals.{uuid_on_literals}
use Rattle.bitwarden_again_laws.specs.Example.{ExampleIsImported, one_item}
use Rattle.bitwarden_core.specs.Documents.{bitwarden_document}
use Rattle.bitwarden_forms.specs.declared.fails.BitwardenFail.{BitwardenFail}
use Rattle.growth_laws.proofs.Stays.{group_is}
use Rattle.import_ids.specs.Ids.{id_after}
use Rattle.import_tree.specs.Trees.{placed_document, root_id}
use Rattle.merge_core.proofs.Laid.{db_groups}
use Rattle.vault_model.specs.Db.{Db}
use Rattle.vault_model.specs.Empty.{new_group}
use Rattle.vault_model.specs.Proper.{is_proper_content, is_proper_group_content}
use Rattle.vault_model.specs.Shape.{GroupRecord}
use Rattle.vault_model.specs.Tree.{BareDoc, IsDoc, db_in, shape_of}
use Rattle.vault_model.specs.declared.nodes.GroupState.{GroupState}

-- the document that there is
abbrev doc_of : Result BareDoc BitwardenFail → BareDoc
doc_of (Ok doc) = doc
doc_of (Err refusal) = placed_document 0 []

abbrev example : ℕ → BareDoc
example now = doc_of (bitwarden_document one_item now)

at_one : bitwarden_document one_item 1 ≡ Ok (example 1)
unfolding id_after serde_json_on_literals uuid_on_literals is_utf8 chars lib.Utf8.encode
at_one = refl

at_two : bitwarden_document one_item 2 ≡ Ok (example 2)
unfolding id_after serde_json_on_literals uuid_on_literals is_utf8 chars lib.Utf8.encode
at_two = refl

doc_one : IsDoc (example 1)
unfolding id_after serde_json_on_literals uuid_on_literals is_proper_content is_proper_group_content is_utf8 chars lib.Utf8.encode
doc_one = record {
  distinct = refl;
  no_nil = refl;
  levels = omega arith;
  tombs_rise = refl;
  tombs_apart = refl;
  entries_proper = refl;
  groups_proper = refl;
  icons_rise = refl;
  items_rise = refl;
  meta_texts = refl;
}

doc_two : IsDoc (example 2)
unfolding id_after serde_json_on_literals uuid_on_literals is_proper_content is_proper_group_content is_utf8 chars lib.Utf8.encode
doc_two = record {
  distinct = refl;
  no_nil = refl;
  levels = omega arith;
  tombs_rise = refl;
  tombs_apart = refl;
  entries_proper = refl;
  groups_proper = refl;
  icons_rise = refl;
  items_rise = refl;
  meta_texts = refl;
}

-- the root's group at a moment
abbrev root_at : ℕ → GroupRecord
root_at now = let group = new_group (codes "Root") now in record group { state = record group.state { modified = 0 } }

state_one : get (db_in (example 1)).groups root_id ≡ Some (root_at 1).state
unfolding id_after serde_json_on_literals uuid_on_literals is_utf8 chars lib.Utf8.encode
state_one = db_groups (shape_of (example 1)) root_id ∙ ap (option_map (λ (g : GroupRecord). g.state)) (group_is (example 1) doc_one root_id (root_at 1) (inl refl))

state_two : get (db_in (example 2)).groups root_id ≡ Some (root_at 2).state
unfolding id_after serde_json_on_literals uuid_on_literals is_utf8 chars lib.Utf8.encode
state_two = db_groups (shape_of (example 2)) root_id ∙ ap (option_map (λ (g : GroupRecord). g.state)) (group_is (example 2) doc_two root_id (root_at 2) (inl refl))

abbrev made : Option GroupState → ℕ
made (Some state) = state.content.created
made None = 0

pub example_is_imported : ExampleIsImported
example_is_imported = record {
  one = example 1;
  other = example 2;
  first = at_one;
  second = at_two;
  one_doc = doc_one;
  other_doc = doc_two;
  differ = λ same.
      let moments : 1 ≡ 2 = ap made (sym state_one ∙ ap (λ (m : Db). get m.groups root_id) same ∙ state_two) in
      absurd (omega (arith, moments));
}
