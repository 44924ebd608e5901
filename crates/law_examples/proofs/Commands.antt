-- Conditions of commands, which hold of small databases.
use Rattle.std.proofs.Common.{◌≡◌, ◌≤◌, false, inl, inr, [], ◌∷◌, codes, refl, arith, subst}
use Rattle.std.specs.Str.{chars, is_utf8}
use Rattle.vault_model.specs.Bare.{BareField}
use Rattle.vault_model.specs.Db.{nil_id}
use Rattle.vault_model.specs.Join.{IsIn}
use Rattle.vault_model.specs.Proper.{is_proper_content, is_proper_group_content}
use Rattle.vault_model.specs.Tree.{BareDoc, IsDoc, node, none}
use Rattle.merge_core.specs.Example.{as_it_was, bank, edited, entry, group, home, root, work}
use Rattle.merge_examples.proofs.Merged.{doc_first, doc_second}
use Rattle.tree_core.specs.Finding.{entry_found, group_at_path, group_found}
use Rattle.frame_laws.specs.Example.{with_key, without_bin}
use Rattle.frame_laws.proofs.Examples.{example_changes}
use Rattle.condition_laws.proofs.Examples as tree
use Rattle.agreed_laws.specs.Merges.{AreDocs}
use Rattle.find_references.specs.Fields.{fields_of}
use Rattle.find_references.specs.References.{reference_at}
use Rattle.otp_core.specs.Reading.{base32, bytes32, decimal_from, equals_after, otp_of_fields, otp_of_label, otp_of_uri, parts_between, with_parameter, with_parameters, with_value, within_limits}
use Rattle.otp_core.specs.declared.hashes.OtpHash.TheVariants.{Sha1}
use Rattle.cli_codes.specs.Codes.{code_refusal}
use Rattle.cli_showing.specs.Showing.{is_missing}
use Rattle.content_condition_laws.specs.Conditions.{CanResolve}
use Rattle.content_condition_laws.proofs.Examples as content
use Rattle.law_examples.specs.Commands.{ExampleCode, ExampleCommands, coded, coded_version}

-- ---- a code

pub coded_doc : IsDoc coded
unfolding is_proper_content is_proper_group_content is_utf8 chars lib.Utf8.encode
coded_doc = record {
  distinct = refl;
  no_nil = refl;
  levels = omega arith;
  tombs_rise = refl;
  tombs_apart = refl;
  entries_proper = refl;
  groups_proper = refl;
  icons_rise = refl;
  items_rise = refl;
  meta_texts = refl;
}

resolves : (f : BareField) → IsIn f (fields_of (entry 10 nil_id coded_version [])) → CanResolve coded f.value
unfolding entry_found reference_at
resolves f h =
    let none_sought : 0 ≤ 65536 = omega arith in
    let title : 4 ≤ 1048576 = omega arith in
    let otp : 25 ≤ 1048576 = omega arith in
    elim h [
      | inl same ↦ subst (λ (g : BareField). CanResolve coded g.value) same (none_sought, title)
      | inr more ↦ elim more [
        | inl same ↦ subst (λ (g : BareField). CanResolve coded g.value) same (none_sought, otp)
        | inr no_more ↦ absurd no_more
      ]
    ]

pub example_code : ExampleCode
unfolding entry_found otp_of_fields otp_of_uri otp_of_label with_parameters with_parameter with_value within_limits parts_between base32 bytes32 equals_after decimal_from
example_code = record {
  held = record { group = root; entry = (bank, entry 10 nil_id coded_version []) };
  named = refl;
  entry = (bank, entry 10 nil_id coded_version []);
  numbered = refl;
  there = λ name h. elim h [ inl same ↦ subst (λ n. is_missing (fields_of (entry 10 nil_id coded_version [])) n ≡ false) same refl | inr no_more ↦ absurd no_more ];
  values = λ f h printed. resolves f h;
  otp = record { secret = codes "1"; hash = Sha1; period = 30; digits = 6 };
  says = refl;
  since = omega arith;
}

-- ---- commands

one_doc : (d : BareDoc) → IsDoc d → AreDocs (d ∷ [])
one_doc d is_doc e (inl same) = subst IsDoc same is_doc
one_doc d is_doc e (inr no_more) = absurd no_more

pub first_doc : AreDocs (as_it_was ∷ [])
first_doc = one_doc as_it_was doc_first

bare_doc : AreDocs (without_bin ∷ [])
bare_doc = one_doc without_bin example_changes.bare

keyed_doc : AreDocs (with_key ∷ [])
keyed_doc = one_doc with_key example_changes.keyed

pub example_commands : ExampleCommands
unfolding group_at_path group_found code_refusal
example_commands =
    let on_tree = tree.example_conditions in
    let on_content = content.example_conditions in
    record {
      list = record { in_calendar = omega arith; docs = first_doc; can = (as_it_was.tree, refl) };
      show = record { in_calendar = omega arith; docs = first_doc; can = on_content.show };
      code = record { in_calendar = omega arith; docs = one_doc coded coded_doc; can = example_code };
      history = record { in_calendar = omega arith; docs = first_doc; can = on_content.history };
      search = record { in_calendar = omega arith; docs = first_doc; can = on_content.search };
      add = record { in_calendar = omega arith; docs = first_doc; can = on_tree.add };
      edit = record { in_calendar = omega arith; docs = first_doc; can = record { code = refl; entry = record { entry = on_tree.edit.entry; fields = λ name i. absurd i; time = on_tree.edit.time } } };
      restore = record { in_calendar = omega arith; docs = one_doc edited doc_second; can = on_tree.restore };
      export_attachment = record {
        in_calendar = omega arith;
        docs = keyed_doc;
        can = record { entry = on_tree.detach.entry; attachment = on_tree.detach.attachment; there = on_tree.detach.there };
      };
      import_attachment = record { in_calendar = omega arith; docs = first_doc; can = on_tree.attach };
      remove_attachment = record { in_calendar = omega arith; docs = keyed_doc; can = on_tree.detach };
      move_entry = record { in_calendar = omega arith; docs = first_doc; can = on_tree.move_entry };
      move_group = record {
        in_calendar = omega arith;
        docs = one_doc edited doc_second;
        can = record {
          moving = record { id = work; group = node work (group 10 (codes "Work")) [] none; named = refl; is = refl };
          to = home;
          aimed = refl;
          apart = refl;
          no_root = refl;
          put = record { outside = refl; fits = omega arith; time = omega arith };
        };
      };
      delete_entry = record { in_calendar = omega arith; docs = first_doc; can = on_tree.delete_entry };
      recycle_entry = record { in_calendar = omega arith; docs = bare_doc; can = on_tree.recycle_entry };
      make_group = record { in_calendar = omega arith; docs = first_doc; can = on_tree.make_group };
      delete_group = record { in_calendar = omega arith; docs = first_doc; can = on_tree.delete_group };
      recycle_group = record { in_calendar = omega arith; docs = bare_doc; can = on_tree.recycle_group };
      merge = record { in_calendar = omega arith; docs = on_content.docs; can = on_content.merge };
      make_by_import = record { in_calendar = omega arith; docs = first_doc; can = tt };
      table = record { in_calendar = omega arith; docs = first_doc; can = on_content.table };
      document = record { in_calendar = omega arith; docs = first_doc; can = on_content.document };
      info = record { in_calendar = omega arith; docs = first_doc; can = tt };
    }
