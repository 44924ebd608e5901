use Rattle.std.proofs.Common.{◌≡◌, true, [], map}
use Rattle.std.specs.List.{list_all}
use Rattle.std.specs.Vec.Iter.{into_iter_items}
use Rattle.bitwarden_fields.specs.Keys.{put_all}
use Rattle.bitwarden_fields.specs.Seen.{fields_seen}
use Rattle.vault_model.specs.Proper.{is_text_field}
use Rattle.vault_model.specs.Seen.{bare_field}
use Rattle.bitwarden_fields.proofs.keys.by_key.Given as goal

-- the fields that are left, put among those that are there, are all fields
abbrev pub invariant-loop-text : goal.invariant-loop-text
invariant-loop-text l = record {
  is : put_all (fields_seen (into_iter_items l.text-iterator)) (map bare_field l.list) ≡ put_all (fields_seen l.fn.fields.items) [];
  texts : list_all is_text_field (map bare_field l.list) ≡ true;
}
