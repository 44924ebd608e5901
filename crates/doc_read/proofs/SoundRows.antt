-- Each row of a document respects the first cut in its element.
use Rattle.std.proofs.Common.{ℕ, ◌-◌, ◌==◌, Bool, true, Option, None, Some, List, [], ◌∷◌, ◌++◌, codes, Ok, Err, bytes_eq, if◌then◌else◌, is_some, not, option_and_then}
use Rattle.markup_grammar.specs.Attributes.{attribute_text}
use Rattle.markup_grammar.specs.Elements.{Element, Content, element, last, also, cut, first_cut, first_cut_in, own_text}
use Rattle.vault_model.specs.Bare.{BareField}
use Rattle.vault_model.specs.Db.{NodeId, nil_id}
use Rattle.vault_model.specs.declared.contents.Item.{Item}
use Rattle.vault_model.specs.declared.forms.DocForm.{DocForm}
use Rattle.vault_model.specs.declared.forms.DocForm.TheVariants.{Plain, V3, V4}
use Rattle.vault_model.specs.Empty.{new_protection}
use Rattle.doc_forms.specs.declared.cursor.Cursor.{Cursor}
use Rattle.doc_forms.specs.declared.fails.DocFail.TheVariants.{BadValue, Compressed, NilId, TooDeep}
use Rattle.doc_forms.specs.declared.times.Times.{Times}
use Rattle.doc_forms.specs.Children.{by_name, children_and_end, count_node, name_of, offset_of}
use Rattle.doc_forms.specs.Documents.{document_rows, file_rows, no_file_parts, no_root, no_tomb, root, root_group, root_rows, tomb_rows, tombs_rows}
use Rattle.doc_forms.specs.ElementTexts.{Setting, is_hidden, is_marked, read_element, text_at_end}
use Rattle.doc_forms.specs.Entries.{ReadEntry, association_rows, attachment_rows, attachment_value, auto_type_rows, entry, entry_at, entry_rows, field_rows, held_rows, history, history_item, history_item_at, history_item_rows, history_rows, is_compressed, no_association, no_attachment, no_auto_type, no_entry, no_field, node_id, part_rows, source_in, text_rows, version_of, version_rows, with_association, with_attachment, with_field}
use Rattle.doc_forms.specs.Groups.{GroupParts, append_tree, group, group_child, group_end, group_parts, group_rows, no_group}
use Rattle.doc_forms.specs.Metas.{MetaParts, binaries_rows, binary, icon_rows, icons_rows, meta_rows, metas, no_icon, no_meta, protection_rows}
use Rattle.outside_core.specs.Results.{◌>>=◌}
use Rattle.doc_forms.specs.Refusals.{checked_value}
use Rattle.doc_forms.specs.Tables.{custom_data, item_rows, items_rows, no_item, no_times, times, times_rows}
use Rattle.doc_forms.specs.Values.{bytes_in, number64, text_in}
use Rattle.doc_read.proofs.Cuts.{AreSound, IsSound, Respects, container_sound, count_respects, cut_respects, element_respects, end_respects, hidden_sound, names_sound, one_of, refusal_respects, step_then, steps, value_respects, value_sound, within_respects}
use Rattle.doc_read.proofs.Keeping.{◌&◌}

-- ---- tables

times_rows_sound : (s : Setting) → AreSound (times_rows s)
times_rows_sound s = value_sound s _ _ & value_sound s _ _ & value_sound s _ _ & value_sound s _ _ & value_sound s _ _ & value_sound s _ _ & value_sound s _ _ & tt

times_sound : {P : Type 0} (s : Setting) (keep : P → Times → P) → IsSound (times s keep)
times_sound s keep = container_sound s (times_rows s) no_times keep (times_rows_sound s)

item_rows_sound : (s : Setting) → AreSound (item_rows s)
item_rows_sound s = value_sound s _ _ & value_sound s _ _ & value_sound s _ _ & tt

items_rows_sound : (s : Setting) → AreSound (items_rows s)
items_rows_sound s = container_sound s (item_rows s) no_item _ (item_rows_sound s) & tt

data_sound : {P : Type 0} (s : Setting) (keep : P → List Item → P) → IsSound (custom_data s keep)
data_sound s keep = container_sound s (items_rows s) [] keep (items_rows_sound s)

-- ---- entries

field_rows_sound : (s : Setting) → AreSound (field_rows s)
field_rows_sound s = value_sound s _ _ & hidden_sound s text_in (λ (p : BareField) v h. record p { value = v; hidden = h }) & tt

attachment_sound : (s : Setting) → IsSound (attachment_value s)
attachment_sound s p (element offset name raw content) cursor =
    step_then (first_cut content) (read_element s (element offset name raw content) cursor) _
    (element_respects s (element offset name raw content) cursor)
    (λ x. step_then None (checked_value offset (source_in offset (attribute_text raw (codes "Ref")) x.0)) _
    (value_respects offset (source_in offset (attribute_text raw (codes "Ref")) x.0))
    (λ source. one_of None (is_compressed raw) (Err (Compressed offset)) (Ok (record p { source = source; hidden = is_hidden raw }, x.1)) (tt {0}) (tt {0})))

attachment_rows_sound : (s : Setting) → AreSound (attachment_rows s)
attachment_rows_sound s = value_sound s _ _ & attachment_sound s & tt

association_rows_sound : (s : Setting) → AreSound (association_rows s)
association_rows_sound s = value_sound s _ _ & value_sound s _ _ & tt

auto_type_rows_sound : (s : Setting) → AreSound (auto_type_rows s)
auto_type_rows_sound s =
    value_sound s _ _ & value_sound s _ _ & value_sound s _ _
    & container_sound s (association_rows s) no_association with_association (association_rows_sound s) & tt

held_rows_sound : (s : Setting) → AreSound (held_rows s)
held_rows_sound s = container_sound s (auto_type_rows s) no_auto_type _ (auto_type_rows_sound s) & data_sound s _ & tt

part_rows_sound : (s : Setting) → AreSound (part_rows s)
part_rows_sound s =
    times_sound s _ & container_sound s (field_rows s) no_field with_field (field_rows_sound s)
    & container_sound s (attachment_rows s) no_attachment with_attachment (attachment_rows_sound s) & held_rows_sound s

text_rows_sound : (s : Setting) → AreSound (text_rows s)
text_rows_sound s = value_sound s _ _ & value_sound s _ _ & value_sound s _ _ & value_sound s _ _ & value_sound s _ _ & part_rows_sound s

version_rows_sound : (s : Setting) → AreSound (version_rows s)
version_rows_sound s = value_sound s _ _ & value_sound s _ _ & text_rows_sound s

history_item_rows_sound : (s : Setting) → AreSound (history_item_rows s)
history_item_rows_sound s = value_sound s _ _ & value_sound s _ _ & version_rows_sound s

item_respects : (s : Setting) (offset : ℕ) (raw : List ℕ) (content : Content) (cursor : Cursor)
    → Respects (first_cut content) (history_item_at s offset raw content cursor)
item_respects s offset raw content cursor =
    step_then (first_cut content) (children_and_end s (by_name s (history_item_rows s)) offset raw [] content no_entry cursor) _
    (within_respects s (history_item_rows s) (history_item_rows_sound s) offset raw [] content no_entry cursor)
    (λ x. step_then None (count_node x.1) (λ later. Ok (version_of x.0, later)) (count_respects x.1) (λ later. tt {0}))

history_item_sound : (s : Setting) → IsSound (history_item s)
history_item_sound s p (element offset name raw content) cursor =
    step_then (first_cut content) (history_item_at s offset raw content cursor) (λ x. Ok (p ++ x.0 ∷ [], x.1))
    (item_respects s offset raw content cursor) (λ x. tt {0})

history_sound : (s : Setting) → IsSound (history s)
history_sound s = container_sound s (history_rows s) [] _ (history_item_sound s & tt)

entry_rows_sound : (s : Setting) → AreSound (entry_rows s)
entry_rows_sound s = value_sound s _ _ & history_sound s & value_sound s _ _ & version_rows_sound s

id_respects : (offset : ℕ) (id : Option NodeId) → Respects None (node_id offset id)
id_respects offset None = tt
id_respects offset (Some u) = one_of None (bytes_eq u nil_id) (Err (NilId offset)) (Ok u) (tt {0}) (tt {0})

entry_respects : (s : Setting) (offset : ℕ) (raw : List ℕ) (content : Content) (cursor : Cursor)
    → Respects (first_cut content) (entry_at s offset raw content cursor)
entry_respects s offset raw content cursor =
    step_then (first_cut content) (children_and_end s (by_name s (entry_rows s)) offset raw [] content no_entry cursor) _
    (within_respects s (entry_rows s) (entry_rows_sound s) offset raw [] content no_entry cursor)
    (λ x. step_then None (count_node x.1) _ (count_respects x.1)
    (λ later. step_then None (node_id offset x.0.id) _ (id_respects offset x.0.id) (λ u. tt {0})))

entry_sound : {P : Type 0} (s : Setting) (keep : P → ReadEntry → P) → IsSound (entry s keep)
entry_sound s keep p (element offset name raw content) cursor =
    step_then (first_cut content) (entry_at s offset raw content cursor) (λ x. Ok (keep p x.0, x.1))
    (entry_respects s offset raw content cursor) (λ x. tt {0})

-- ---- groups

group_rows_sound : (s : Setting) → AreSound (group_rows s)
group_rows_sound s =
    value_sound s _ _ & value_sound s _ _ & value_sound s _ _ & value_sound s _ _ & value_sound s _ _ & value_sound s _ _ & times_sound s _
    & value_sound s _ _ & value_sound s _ _ & value_sound s _ _ & value_sound s _ _ & value_sound s _ _ & value_sound s _ _
    & data_sound s _ & entry_sound s _ & tt

group_end_respects : (s : Setting) (fits : Bool) (offset : ℕ) (raw text : List ℕ) (p : GroupParts) (cursor : Cursor)
    → Respects None (group_end s fits offset raw text p cursor)
group_end_respects s fits offset raw text p cursor =
    step_then None (text_at_end s offset raw text cursor) _ (end_respects s offset raw text cursor)
    (λ y. step_then None (if fits then count_node y.1 else Err (BadValue offset)) _
    (one_of None fits (count_node y.1) (Err (BadValue offset)) (count_respects y.1) (tt {0}))
    (λ later. step_then None (node_id offset p.id) _ (id_respects offset p.id) (λ u. tt {0})))

mutual
  group_respects : (s : Setting) (levels : ℕ) (fits : Bool) (e : Element) (cursor : Cursor)
      → Respects (first_cut_in e) (group s levels fits e cursor)
  group_respects s levels fits (element offset name raw content) cursor =
      step_then (first_cut content) (group_parts s levels content no_group cursor) (λ x. group_end s fits offset raw (own_text content) x.0 x.1)
      (parts_respect s levels content no_group cursor) (λ x. group_end_respects s fits offset raw (own_text content) x.0 x.1)

  parts_respect : (s : Setting) (levels : ℕ) (content : Content) (p : GroupParts) (cursor : Cursor)
      → Respects (first_cut content) (group_parts s levels content p cursor)
  parts_respect s levels (last text) p cursor = tt
  parts_respect s levels (also text e more) p cursor =
      steps (first_cut_in e) (first_cut more) (group_child s levels p e cursor) (λ x. group_parts s levels more x.0 x.1)
      (one_of (first_cut_in e) (bytes_eq (name_of e) (codes "Group"))
      (if levels == 0 then Err (TooDeep (offset_of e))
      else (group s (levels - 1) true e cursor >>= λ x. Ok (record p { groups = append_tree p.groups x.0 }, x.1)))
      (by_name s (group_rows s) p e cursor)
      (one_of (first_cut_in e) (levels == 0) (Err (TooDeep (offset_of e)))
      (group s (levels - 1) true e cursor >>= λ x. Ok (record p { groups = append_tree p.groups x.0 }, x.1))
      (refusal_respects _ (first_cut_in e) (TooDeep (offset_of e)) (tt {0}))
      (step_then (first_cut_in e) (group s (levels - 1) true e cursor) (λ x. Ok (record p { groups = append_tree p.groups x.0 }, x.1))
      (group_respects s (levels - 1) true e cursor) (λ x. tt {0})))
      (names_sound s (group_rows s) (group_rows_sound s) p e cursor))
      (λ x. parts_respect s levels more x.0 x.1)
  parts_respect s levels (cut text answer) p cursor = cut_respects _ answer

-- ---- what a database says of itself

protection_rows_sound : (s : Setting) → AreSound (protection_rows s)
protection_rows_sound s = value_sound s _ _ & value_sound s _ _ & value_sound s _ _ & value_sound s _ _ & value_sound s _ _ & tt

icon_rows_sound : (s : Setting) → AreSound (icon_rows s)
icon_rows_sound s = value_sound s _ _ & value_sound s _ _ & value_sound s _ _ & value_sound s _ _ & tt

icons_rows_sound : (s : Setting) → AreSound (icons_rows s)
icons_rows_sound s = container_sound s (icon_rows s) no_icon _ (icon_rows_sound s) & tt

binary_sound : (s : Setting) → IsSound (binary s)
binary_sound s p (element offset name raw content) cursor =
    step_then (first_cut content) (read_element s (element offset name raw content) cursor) _
    (element_respects s (element offset name raw content) cursor)
    (λ x. step_then None (checked_value offset (option_and_then number64 (attribute_text raw (codes "ID")))) _
    (value_respects offset (option_and_then number64 (attribute_text raw (codes "ID"))))
    (λ number. step_then None (checked_value offset (bytes_in x.0)) _ (value_respects offset (bytes_in x.0))
    (λ bytes. one_of None (is_marked (codes "Compressed") raw) (Err (Compressed offset))
    (Ok (p ++ record { number = number; bytes = bytes; hidden = is_hidden raw } ∷ [], x.1)) (tt {0}) (tt {0}))))

binaries_rows_sound : (form : DocForm) (s : Setting) → AreSound (binaries_rows form s)
binaries_rows_sound Plain s = container_sound s ((codes "Binary", binary s) ∷ []) [] _ (binary_sound s & tt) & tt
binaries_rows_sound V3 s = container_sound s ((codes "Binary", binary s) ∷ []) [] _ (binary_sound s & tt) & tt
binaries_rows_sound V4 s = tt

meta_rows_sound : (s : Setting) → AreSound (meta_rows s)
meta_rows_sound s =
    value_sound s _ _ & value_sound s _ _ & value_sound s _ _ & value_sound s _ _ & value_sound s _ _ & value_sound s _ _ & value_sound s _ _
    & value_sound s _ _ & value_sound s _ _ & value_sound s _ _ & value_sound s _ _ & value_sound s _ _ & value_sound s _ _ & value_sound s _ _ & value_sound s _ _
    & container_sound s (protection_rows s) new_protection _ (protection_rows_sound s)
    & container_sound s (icons_rows s) [] _ (icons_rows_sound s)
    & value_sound s _ _ & value_sound s _ _ & value_sound s _ _ & value_sound s _ _ & value_sound s _ _ & value_sound s _ _ & value_sound s _ _ & value_sound s _ _ & value_sound s _ _
    & data_sound s _ & binaries_rows_sound s.form s

metas_sound : {P : Type 0} (s : Setting) (keep : P → MetaParts → P) → IsSound (metas s keep)
metas_sound s keep = container_sound s (meta_rows s) no_meta keep (meta_rows_sound s)

-- ---- documents

tomb_rows_sound : (s : Setting) → AreSound (tomb_rows s)
tomb_rows_sound s = value_sound s _ _ & value_sound s _ _ & tt

tombs_rows_sound : (s : Setting) → AreSound (tombs_rows s)
tombs_rows_sound s = container_sound s (tomb_rows s) no_tomb _ (tomb_rows_sound s) & tt

root_group_sound : (s : Setting) → IsSound (root_group s)
root_group_sound s p e cursor =
    step_then (first_cut_in e) (group s 127 (not (is_some p.tree)) e cursor) (λ x. Ok (record p { tree = Some x.0 }, x.1))
    (group_respects s 127 (not (is_some p.tree)) e cursor) (λ x. tt {0})

root_rows_sound : (s : Setting) → AreSound (root_rows s)
root_rows_sound s = root_group_sound s & container_sound s (tombs_rows s) [] _ (tombs_rows_sound s) & tt

root_sound : (s : Setting) → IsSound (root s)
root_sound s p (element offset name raw content) cursor =
    step_then (first_cut content) (children_and_end s (by_name s (root_rows s)) offset raw [] content no_root cursor) _
    (within_respects s (root_rows s) (root_rows_sound s) offset raw [] content no_root cursor)
    (λ x. one_of None (is_some p.root) (Err (BadValue offset)) (Ok (record p { root = Some x.0 }, x.1)) (tt {0}) (tt {0}))

file_rows_sound : (s : Setting) → AreSound (file_rows s)
file_rows_sound s = metas_sound s _ & root_sound s & tt

pub document_rows_sound : (s : Setting) → AreSound (document_rows s)
document_rows_sound s = container_sound s (file_rows s) no_file_parts _ (file_rows_sound s) & tt
