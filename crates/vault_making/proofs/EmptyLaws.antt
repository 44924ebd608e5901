-- A new database is a document whose parts are in order.
use Rattle.std.proofs.Common.{◌≡◌, ◌≢◌, ℕ, false, ◌||◌, [], ◌∷◌, refl, sym, ap, arith}
use Rattle.std.specs.List.{list_any}
use Rattle.std.specs.Str.{chars, is_utf8}
use Rattle.vault_model.specs.Db.{NodeId, nil_id}
use Rattle.vault_model.specs.Empty.{empty_bare}
use Rattle.vault_model.specs.Join.{is_id}
use Rattle.vault_model.specs.Proper.{is_proper_group_content}
use Rattle.vault_model.specs.Tree.{IsDoc}
use Rattle.vault_model.proofs.Ids.{same_id}
use Rattle.vault_model.proofs.Tests.{is_false, not_false}

-- an id that is not nil is another id
other_id : (root : NodeId) → root ≢ nil_id → is_id nil_id root ≡ false
other_id root n = is_false (is_id nil_id root) (λ e. n (sym (same_id nil_id root e)))

pub empty_is_doc : (root : NodeId) (now : ℕ) → root ≢ nil_id → IsDoc (empty_bare root now)
unfolding is_proper_group_content is_utf8 chars lib.Utf8.encode
empty_is_doc root now n = record {
  distinct = refl;
  no_nil = not_false (list_any (is_id nil_id) (root ∷ [])) (ap (λ b. b || false) (other_id root n));
  levels = omega arith;
  tombs_rise = refl;
  tombs_apart = refl;
  entries_proper = refl;
  groups_proper = refl;
  icons_rise = refl;
  items_rise = refl;
  meta_texts = refl;
}
