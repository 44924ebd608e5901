-- Conditions of a small database, computed.
use Rattle.std.proofs.Common.{◌≡◌, true, [], ◌∷◌, Some, codes, refl, sym, ap, arith, inl, inr}
use Rattle.std.proofs.lemmas.Option.{same_Some}
use Rattle.vault_model.specs.Db.{nil_id}
use Rattle.vault_model.specs.Shape.{EntryRecord}
use Rattle.vault_model.specs.Tree.{node, none}
use Rattle.merge_core.specs.Example.{as_it_was, bank, edited, entry, group, home, mail, root, version, work}
use Rattle.frame_laws.specs.Example.{with_key, without_bin}
use Rattle.tree_core.specs.Finding.{entry_found, group_at_path, group_found, has_entry_path, has_group_path}
use Rattle.tree_core.specs.Attachments.{with_attachment}
use Rattle.tree_core.specs.Changes.{is_free}
use Rattle.tree_core.specs.FurtherChanges.{has_field}
use Rattle.frame_laws.specs.Frame.{entry_of}
use Rattle.frame_laws.proofs.Examples.{example_changes}
use Rattle.growth_laws.proofs.Stays.{entry_is}
use Rattle.condition_laws.specs.Example.{ExampleConditions}

bank_is : entry_of as_it_was bank ≡ Some (entry 10 nil_id (version 10 (codes "Bank") (codes "a")) [])
bank_is = entry_is as_it_was example_changes.doc bank (entry 10 nil_id (version 10 (codes "Bank") (codes "a")) []) (inl refl)

abbrev twice : EntryRecord
twice = entry 10 nil_id (version 20 (codes "Bank") (codes "b")) (version 10 (codes "Bank") (codes "a") ∷ [])

abbrev first : EntryRecord
first = entry 10 nil_id (version 10 (codes "Bank") (codes "a")) []

-- the entry with something attached to it
abbrev with_file : EntryRecord
with_file = record first {
  current = record first.current {
    mark = record first.current.mark { content = with_attachment (codes "key") (codes "k") first.current.mark.content };
  };
}

keyed_is : entry_of with_key bank ≡ Some with_file
keyed_is = entry_is with_key example_changes.keyed bank with_file (inl refl)

edited_is : entry_of edited bank ≡ Some twice
edited_is = entry_is edited example_changes.wide bank twice (inl refl)

mail_is : entry_of as_it_was mail ≡ Some (entry 10 nil_id (version 10 (codes "Mail") []) [])
mail_is = entry_is as_it_was example_changes.doc mail (entry 10 nil_id (version 10 (codes "Mail") []) []) (inr (inl refl))

bare_mail_is : entry_of without_bin mail ≡ Some (entry 10 nil_id (version 10 (codes "Mail") []) [])
bare_mail_is = entry_is without_bin example_changes.bare mail (entry 10 nil_id (version 10 (codes "Mail") []) []) (inr (inl refl))

pub example_conditions : ExampleConditions
unfolding entry_found group_found group_at_path has_entry_path has_group_path
example_conditions = record {
  edit = record {
    entry = record { entry = bank; group = root; before = entry 10 nil_id (version 10 (codes "Bank") (codes "a")) []; named = refl; held = refl; is = bank_is };
    fields = λ name h. elim h [
      | inl p ↦ ap (λ n. has_field n (version 10 (codes "Bank") (codes "a")).mark.content.fields) (sym p)
      | inr z ↦ absurd z
    ];
    time = omega arith;
  };
  attach = record {
    entry = record { entry = bank; group = root; before = entry 10 nil_id (version 10 (codes "Bank") (codes "a")) []; named = refl; held = refl; is = bank_is };
    free = λ e. refl;
    time = omega arith;
  };
  detach = record {
    entry = record { entry = bank; group = root; before = with_file; named = refl; held = refl; is = keyed_is };
    attachment = record { name = codes "key"; bytes = codes "k"; hidden = true };
    there = refl;
    time = omega arith;
  };
  restore = record {
    entry = record { entry = bank; group = root; before = twice; named = refl; held = refl; is = edited_is };
    version = version 10 (codes "Bank") (codes "a");
    numbered = refl;
    time = omega arith;
  };
  move_entry = record {
    entry = record { entry = bank; group = root; before = entry 10 nil_id (version 10 (codes "Bank") (codes "a")) []; named = refl; held = refl; is = bank_is };
    to = work;
    aimed = refl;
    apart = refl;
    time = omega arith;
  };
  move_group = record {
    moving = record { id = work; group = node work (group 10 (codes "Work")) [] none; named = refl; is = refl };
    to = home;
    aimed = refl;
    apart = refl;
    no_root = refl;
    put = record { outside = refl; fits = omega arith; time = omega arith };
  };
  add = record { group = work; named = refl; free_path = refl; free_id = refl };
  make_group = record { group = root; named = refl; free_path = refl; no_root = refl; fits = omega arith; free_id = refl };
  delete_entry = record {
    entry = record { entry = mail; group = root; before = entry 10 nil_id (version 10 (codes "Mail") []) []; named = refl; held = refl; is = mail_is };
    made = λ is. cc is;
    time = λ is. cc is;
  };
  recycle_entry = record {
    entry = record { entry = mail; group = root; before = entry 10 nil_id (version 10 (codes "Mail") []) []; named = refl; held = refl; is = bare_mail_is };
    made = λ is id given. (ap (λ u. is_free u without_bin) (sym (same_Some home id given)), omega arith);
    time = λ is. omega arith;
  };
  delete_group = record {
    removing = record { id = work; group = node work (group 10 (codes "Work")) [] none; named = refl; is = refl };
    no_root = refl;
    made = λ is. cc is;
    put = λ is. cc is;
  };
  recycle_group = record {
    removing = record { id = work; group = node work (group 10 (codes "Work")) [] none; named = refl; is = refl };
    no_root = refl;
    made = λ is id given. (ap (λ u. is_free u without_bin) (sym (same_Some home id given)), omega arith);
    put = λ is. record { outside = refl; fits = omega arith; time = omega arith };
  };
}
