-- A new document may be written: the laws speak of something.
use Rattle.std.proofs.Common.{◌≡◌, ℕ, ◌&&◌, true, refl, ap₂, arith}
use Rattle.vault_model.specs.Db.{NodeId}
use Rattle.vault_model.specs.Empty.{empty_bare}
use Rattle.doc_spelling.specs.Ranges.{is_stamp, is_uuid, are_bytes, fits_tree, fits_meta, IsWritable}

new_tree_fits : (u : NodeId) (now : ℕ) → is_uuid u ≡ true → is_stamp now ≡ true → fits_tree (empty_bare u now).tree ≡ true
unfolding are_bytes
new_tree_fits u now id low = rw (id, low) refl

new_meta_fits : (u : NodeId) (now : ℕ) → fits_meta (empty_bare u now).meta ≡ true
unfolding are_bytes
new_meta_fits u now = refl

pub new_writable : (u : NodeId) (now : ℕ) → is_uuid u ≡ true → is_stamp now ≡ true → IsWritable (empty_bare u now)
new_writable u now id low = record {
  fits = ap₂ (λ a b. a && true && b) (new_tree_fits u now id low) (new_meta_fits u now);
  nodes = omega arith;
  pool = omega arith;
}
