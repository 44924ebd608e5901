-- A document is read back up to its end.
use Rattle.std.proofs.Common.{◌≡◌, ℕ, ◌+◌, ◌≤◌, Bool, cond, Option, Some, None, List, [], ◌∷◌, ◌++◌, Result, Ok, Err, length, option_map, is_some, subst, codes, ap, sym, refl, ◌∙◌, arith}
use Rattle.vault_model.specs.Db.{nil_id}
use Rattle.vault_model.specs.Tree.{BareDoc, height}
use Rattle.vault_model.specs.declared.nodes.Tombstone.{Tombstone}
use Rattle.markup_grammar.specs.Elements as told
use Rattle.markup_grammar.specs.Elements.{own_text}
use Rattle.markup_grammar.specs.Tree.{spelled, start_tag}
use Rattle.markup_grammar.specs.TreeElements.{element_at, content_at}
use Rattle.doc_forms.specs.declared.cursor.Cursor.{Cursor}
use Rattle.doc_forms.specs.declared.fails.DocFail.{DocFail}
use Rattle.doc_forms.specs.declared.fails.DocFail.TheVariants.{BadValue}
use Rattle.doc_forms.specs.Documents.{no_tomb, tomb_rows, tombs_rows, RootParts, no_root, root_group, root_rows, FileParts, no_file_parts, root, file_rows, document_rows}
use Rattle.doc_forms.specs.Groups.{ReadTree}
use Rattle.doc_forms.specs.Metas.{ReadBinary, MetaParts, metas}
use Rattle.doc_forms.specs.ElementTexts.{Setting, text_at_end}
use Rattle.doc_forms.specs.Children.{Child, by_name, container, all_children, unknown_child}
use Rattle.outside_core.specs.Results.{◌>>=◌}
use Rattle.doc_forms.specs.ElementTexts.{ElementText}
use Rattle.doc_spelling.specs.Pieces.{Piece, none, beside, hidden_len, hidden_len_all, element_of, content_of}
use Rattle.doc_spelling.specs.ResolvedParts.{root_parts_with, file_parts_with, own_tree}
use Rattle.doc_spelling.specs.Pool.{PoolPair}
use Rattle.doc_forms.specs.Attachments.{binaries_from}
use Rattle.vault_model.specs.declared.forms.DocForm.{DocForm}
use Rattle.doc_spelling.specs.Groups.{group_piece}
use Rattle.doc_spelling.specs.Metas.{meta_piece}
use Rattle.doc_spelling.specs.Documents.{tomb_piece, tombs_piece, root_piece, file_piece}
use Rattle.doc_spelling.proofs.Frame.{HasTexts, identity, cursor_after, cursor_twice, Reads, reads_none, ◌▸◌, by_row, row_of, piece_name, by_name_is, name_is, container_reads, text_value, plain_end, no_protection}
use Rattle.doc_spelling.proofs.TimeTexts.{stamp_says}
use Rattle.doc_spelling.proofs.ReadGroups.{GoodTree, tree_read, group_name}
use Rattle.doc_spelling.specs.Ranges.{tree_nodes}
use Rattle.doc_spelling.proofs.Goods.{Each, If, IsId, IsHash}
use Rattle.time_core.specs.Times.{last_stamp}
use Rattle.doc_spelling.proofs.ReadLists.{each_leaf, append_all}
use Rattle.doc_spelling.proofs.ReadMetas.{GoodMeta, GoodBinary, meta_known, meta_read}
use Rattle.doc_spelling.proofs.ValueTexts.{id_says}

-- ---- tombstones

pub record GoodTomb (t : Tombstone) : Type 0 where
  pub id : IsId t.id
  pub deleted : t.deleted ≤ last_stamp

tomb_read : {s : Setting} (form : DocForm) → (t : Tombstone) → GoodTomb t → Reads s identity (by_name s (tombs_rows s)) (tomb_piece form t) (λ l. l ++ t ∷ []) 0
tomb_read {s} form t h =
    by_row (tombs_rows s) (container_reads (tomb_rows s) no_tomb (λ tombs tomb. tombs ++ tomb ∷ []) (codes "DeletedObject") (λ l. l ++ t ∷ []) (λ p q e. ap (λ (q : Tombstone). p ++ q ∷ []) e)
    (by_row (tomb_rows s) (text_value s identity _ _ _ _ t.id (λ p. record p { id = t.id }) (id_says nil_id t.id h.id.bytes h.id.sixteen) (λ p. refl))
    ▸ by_row (tomb_rows s) (text_value s identity _ _ _ _ t.deleted (λ p. record p { deleted = t.deleted }) (stamp_says form t.deleted h.deleted) (λ p. refl))
    ▸ reads_none))

tombs_read : {s : Setting} (pool : List ReadBinary) (form : DocForm) → (tombs : List Tombstone) → Each GoodTomb tombs
    → Reads s (root_parts_with pool) (container s (tombs_rows s) [] (λ (p : RootParts) v. record p { tombs = v })) (tombs_piece form tombs) (λ p. record p { tombs = tombs }) 0
tombs_read {s} pool form tombs good =
    container_reads {view = root_parts_with pool} {seen = identity} (tombs_rows s) [] (λ (p : RootParts) v. record p { tombs = v }) (codes "DeletedObjects") (λ p. record p { tombs = tombs })
    (λ p q e. ap (λ l. record (root_parts_with pool p) { tombs = l }) (e ∙ append_all [] tombs))
    (each_leaf (tomb_piece form) (λ t l. l ++ t ∷ []) GoodTomb (tomb_read form) tombs good)

-- ---- the outermost elements, which are read where nothing was known

-- An element is read where this much is known.
pub record ReadsAt {P V : Type 0} (s : Setting) (view : P → V) (child : Child P) (piece : Piece) (p : P) (v : V) (n : ℕ) : Type 0 where
  pub read : (place : ℕ) (c : Cursor) → c.nodes + n ≤ 262144
      → (new : P) × (child p (element_at place (element_of s.keystream c.offset piece)) c ≡ Ok (new, cursor_after c (hidden_len piece) n)) × (view new ≡ v)

-- two elements, one after the other
pair_at : {P V : Type 0} {s : Setting} {view : P → V} {child : Child P} {x y : Piece} {p : P} {v u : V} {n m : ℕ}
    → ReadsAt s view child x p v n → ((q : P) → view q ≡ v → ReadsAt s view child y q u m)
    → (place : ℕ) (c : Cursor) → c.nodes + (n + m) ≤ 262144
    → (new : P) × (all_children child (content_at place (content_of s.keystream c.offset (beside x (beside y none)))) p c ≡ Ok (new, cursor_after c (hidden_len_all (beside x (beside y none))) (n + m))) × (view new ≡ u)
pair_at {P} {s = s} {view} {child} {x} {y} {p} {v} {u} {n} {m} rx ry place c room =
    let k = s.keystream in
    let e = element_of k c.offset x in
    let d = cursor_after c (hidden_len x) n in
    let a = rx.read (place + length {A = ℕ} []) c (omega arith) in
    let next = place + length {A = ℕ} [] + length (spelled e) in
    let b = (ry a.0 a.2).read (next + length {A = ℕ} []) d (omega arith) in
    let end = content_at (next + length {A = ℕ} [] + length (spelled (element_of k d.offset y))) (content_of k (d.offset + hidden_len y) none) in (
      b.0,
      ap (λ (r : Result (P × Cursor) DocFail). r >>= λ q. all_children child (content_at next (content_of k d.offset (beside y none))) q.0 q.1) a.1
          ∙ (ap (λ (r : Result (P × Cursor) DocFail). r >>= λ q. all_children child end q.0 q.1) b.1
          ∙ ap (λ (d : Cursor). Ok (b.0, d)) (cursor_twice c (hidden_len x) n (hidden_len y) m ∙ ap (λ h. cursor_after c h (n + m)) (more (hidden_len x) (hidden_len y)))),
      b.2,
    )
  where
    more : (h k : ℕ) → h + k ≡ h + (k + 0)
    more h k = omega arith

-- an element is read where the row of its name reads it
row_at : {P V : Type 0} {s : Setting} {view : P → V} (rows : List (List ℕ × Child P)) {x : Piece} {p : P} {v : V} {n : ℕ}
    → ReadsAt s view (row_of (piece_name x) rows (unknown_child s)) x p v n → ReadsAt s view (by_name s rows) x p v n
row_at {s = s} rows {x} {p} r = record {
  read = λ place c room.
      let a = r.read place c room in
      let e = element_at place (element_of s.keystream c.offset x) in
      (a.0, by_name_is s rows p e c ∙ (ap (λ (name : List ℕ). row_of name rows (unknown_child s) p e c) (name_is place s.keystream c.offset x) ∙ a.1), a.2);
}

from_any : {P V : Type 0} {s : Setting} {view : P → V} {child : Child P} {x : Piece} {f : V → V} {n : ℕ} → Reads s view child x f n → (p : P) → ReadsAt s view child x p (f (view p)) n
from_any r p = record { read = λ place c room. r.read place p c room }

-- ---- the tree

abbrev pub root_known : BareDoc → RootParts
root_known d = record { tree = Some (own_tree d.tree); tombs = d.tombs }

none_of : {A B : Type 0} (f : A → B) (o : Option A) → option_map f o ≡ None → o ≡ None
none_of f None e = refl
none_of f (Some x) e = cc e

module _ (s : Setting) (pool : List ReadBinary) (form : DocForm) (items : List PoolPair) (same_form : form ≡ s.form) (d : BareDoc) where
  group_at : GoodTree pool items d.tree → height d.tree ≤ 128 → ReadsAt s (root_parts_with pool) (root_group s) (group_piece form items d.tree) no_root (record { tree = Some (own_tree d.tree); tombs = [] }) (tree_nodes d.tree)
  group_at good low = record {
    read = λ place c room.
        let a = (tree_read s pool form items same_form d.tree good 127 low).read place c room in
        let new : RootParts = record { tree = Some a.0; tombs = [] } in (
          new,
          ap (λ (r : Result (ReadTree × Cursor) DocFail). r >>= λ x. Ok (record no_root { tree = Some x.0 }, x.1)) a.1,
          ap (λ t. let x : RootParts = record { tree = Some t; tombs = [] } in x) a.2,
        );
  }

  root_at : GoodTree pool items d.tree → height d.tree ≤ 128 → Each GoodTomb d.tombs → (q : FileParts) → q.root ≡ None
      → ReadsAt s (file_parts_with pool) (root s) (root_piece form items d) q (record { meta = q.meta; root = Some (root_known d) }) (tree_nodes d.tree + 0)
  root_at good low tombs q first = record {
    read = λ place c room.
        let T = tombs_piece form d.tombs in
        let inner = beside (group_piece form items d.tree) (beside T none) in
        let after = place + length (start_tag (codes "Root") []) in
        let content = content_at after (content_of s.keystream c.offset inner) in
        let last = λ (x : RootParts) (e : Cursor) (b : Bool). cond {A = Result (FileParts × Cursor) DocFail} b (Err (BadValue place)) (Ok (record q { root = Some x }, e)) in
        let at_group : ReadsAt s (root_parts_with pool) (row_of (piece_name (group_piece form items d.tree)) (root_rows s) (unknown_child s)) (group_piece form items d.tree) no_root (record { tree = Some (own_tree d.tree); tombs = [] }) (tree_nodes d.tree) =
        subst (λ (name : List ℕ). ReadsAt s (root_parts_with pool) (row_of name (root_rows s) (unknown_child s)) (group_piece form items d.tree) no_root (record { tree = Some (own_tree d.tree); tombs = [] }) (tree_nodes d.tree)) (sym (group_name form items d.tree)) (group_at good low) in
        let a = pair_at (row_at (root_rows s) at_group)
        (λ (p : RootParts) e. subst (λ (v : RootParts). ReadsAt s (root_parts_with pool) (by_name s (root_rows s)) T p v 0) (ap (λ (p : RootParts). record p { tombs = d.tombs }) e) (from_any (by_row (root_rows s) (tombs_read pool form d.tombs tombs)) p)) after c room in
        let e = cursor_after c (hidden_len_all inner) (tree_nodes d.tree + 0) in (
          record q { root = Some a.0 },
          ap (λ (r : Result (RootParts × Cursor) DocFail). ◌>>=◌ {A = RootParts × Cursor} (r >>= λ x. (text_at_end s place [] ([] ++ own_text content) x.1 >>= λ y. Ok (x.0, y.1))) (λ x. last x.0 x.1 (is_some q.root))) a.1
              ∙ (ap (λ (r : Result (ElementText × Cursor) DocFail). ◌>>=◌ {A = RootParts × Cursor} (r >>= λ y. Ok (a.0, y.1)) (λ x. last x.0 x.1 (is_some q.root))) (plain_end s place [] ([] ++ own_text content) e no_protection)
              ∙ ap (last a.0 e) (ap is_some first)),
          ap (λ r. let x : FileParts = record { meta = q.meta; root = Some r } in x) a.2,
        );
  }

  -- `KeePassFile` is read
  pub document_read : GoodTree pool items d.tree → height d.tree ≤ 128 → Each GoodTomb d.tombs
      → (hash : Option (List ℕ)) → If IsHash hash → Each GoodBinary (binaries_from 0 items) → GoodMeta d.meta
      → (place : ℕ) (c : Cursor) → c.nodes + tree_nodes d.tree ≤ 262144
      → (new : FileParts)
      × (all_children (by_name s (document_rows s)) (told.also [] (element_at place (element_of s.keystream c.offset (file_piece form hash items d))) (told.last [])) None c
      ≡ Ok (Some new, cursor_after c (hidden_len (file_piece form hash items d)) (tree_nodes d.tree)))
      × (file_parts_with pool new ≡ record { meta = meta_known form hash items d.meta; root = Some (root_known d) })
  document_read good low tombs hash good_hash good_listed good_meta place c room =
      let M = meta_known form hash items d.meta in
      let inner = beside (meta_piece form hash items d.meta) (beside (root_piece form items d) none) in
      let after = place + length (start_tag (codes "KeePassFile") []) in
      let content = content_at after (content_of s.keystream c.offset inner) in
      let at_meta = from_any (by_row (file_rows s) (meta_read {view = file_parts_with pool} form same_form hash good_hash items good_listed d.meta good_meta (λ p v. record p { meta = v }) (λ p. record p { meta = M }) (λ p. refl))) no_file_parts in
      let a = pair_at at_meta
      (λ (q : FileParts) e. row_at (file_rows s) (subst (λ (m : MetaParts). ReadsAt s (file_parts_with pool) (root s) (root_piece form items d) q (record { meta = m; root = Some (root_known d) }) (tree_nodes d.tree + 0)) (ap (λ (p : FileParts). p.meta) e) (root_at good low tombs q (none_of (root_parts_with pool) q.root (ap (λ (p : FileParts). p.root) e))))) after c (omega arith) in
      let e = cursor_after c (hidden_len_all inner) (0 + (tree_nodes d.tree + 0)) in
      let same : 0 + (tree_nodes d.tree + 0) ≡ tree_nodes d.tree = omega arith in
      let last = λ (r : Result (FileParts × Cursor) DocFail). ◌>>=◌ {A = Option FileParts × Cursor} {B = Option FileParts × Cursor} (r >>= λ x. Ok (Some x.0, x.1)) (λ x. Ok (x.0, x.1)) in (
        a.0,
        ap (λ (r : Result (FileParts × Cursor) DocFail). last (r >>= λ x. (text_at_end s place [] ([] ++ own_text content) x.1 >>= λ y. Ok (x.0, y.1)))) a.1
            ∙ (ap (λ (r : Result (ElementText × Cursor) DocFail). last (r >>= λ y. Ok (a.0, y.1))) (plain_end s place [] ([] ++ own_text content) e no_protection)
            ∙ ap (λ (n : ℕ). Ok (Some a.0, cursor_after c (hidden_len_all inner) n)) same),
        a.2,
      )

  -- and all its texts are UTF-8
  pub document_texts : GoodTree pool items d.tree → height d.tree ≤ 128 → Each GoodTomb d.tombs
      → (hash : Option (List ℕ)) → If IsHash hash → Each GoodBinary (binaries_from 0 items) → GoodMeta d.meta
      → HasTexts (file_piece form hash items d)
  document_texts good low tombs hash good_hash good_listed good_meta =
      let of_meta : Reads s identity (metas s (λ (p : MetaParts) v. v)) (meta_piece form hash items d.meta) (λ p. meta_known form hash items d.meta) 0 =
      meta_read form same_form hash good_hash items good_listed d.meta good_meta (λ p v. v) (λ p. meta_known form hash items d.meta) (λ p. refl) in
      (of_meta.texts, (((tree_read s pool form items same_form d.tree good 127 low).texts, ((tombs_read {s = s} pool form d.tombs tombs).texts, tt)), tt))
