-- The elements of a written document say that document.
use Rattle.std.proofs.Common.{◌≡◌, ℕ, ◌≤◌, Bool, true, Option, Some, None, List, [], Result, Ok, option_map, filter, ap, ap₂, refl, ◌∙◌, arith}
use Rattle.std.specs.List.{list_all}
use Rattle.vault_model.specs.Proper.{rises}
use Rattle.vault_model.specs.Tree.{Tree, BareDoc, height, node_ids, are_distinct, is_elsewhere}
use Rattle.vault_model.specs.declared.forms.DocForm.{DocForm}
use Rattle.vault_model.specs.declared.forms.DocForm.TheVariants.{Plain, V3, V4}
use Rattle.vault_model.specs.declared.nodes.Tombstone.{Tombstone}
use Rattle.markup_grammar.specs.Elements as told
use Rattle.markup_grammar.specs.TreeElements.{element_at}
use Rattle.doc_forms.specs.declared.cursor.Cursor.{Cursor}
use Rattle.doc_forms.specs.declared.fails.DocFail.{DocFail}
use Rattle.doc_forms.specs.declared.fails.RequiredElement.TheVariants.{Root, Group}
use Rattle.doc_forms.specs.Documents.{RootParts, FileParts, DocumentAndHash, document_rows, hash_of, required_part, resolved_document}
use Rattle.doc_forms.specs.Attachments.{Missing, resolved_tree, missing_in, pool_from, binaries_from, first_missing, refuse_missing}
use Rattle.doc_forms.specs.Ids.{least_duplicate, refuse_duplicate, tombs_of}
use Rattle.doc_forms.specs.Groups.{ReadTree}
use Rattle.doc_forms.specs.Metas.{ReadBinary, MetaParts}
use Rattle.doc_forms.specs.ElementTexts.{Setting, start}
use Rattle.doc_forms.specs.Children.{by_name, all_children}
use Rattle.outside_core.specs.Results.{◌>>=◌}
use Rattle.doc_spelling.specs.Pieces.{element_of}
use Rattle.doc_spelling.specs.ResolvedParts.{tree_with, root_parts_with, own_tree}
use Rattle.doc_spelling.specs.Documents.{pool_apart, hash_named}
use Rattle.doc_spelling.specs.Documents.{file_piece}
use Rattle.doc_spelling.proofs.FoundAgain.{found_again, none_missing, none_twice, in_order, all_stay}
use Rattle.doc_spelling.proofs.ReadDocuments.{GoodTomb, root_known, document_read}
use Rattle.doc_spelling.proofs.ReadOptions.{or_none}
use Rattle.doc_spelling.proofs.ReadGroups.{GoodTree}
use Rattle.doc_spelling.specs.Ranges.{tree_nodes}
use Rattle.doc_spelling.specs.Pool.{pool_of}
use Rattle.doc_spelling.proofs.Goods.{Each, If, IsHash}
use Rattle.doc_spelling.proofs.ReadMetas.{GoodMeta, GoodBinary, in_form, hash_or, meta_known}

pool_is : (form : DocForm) (d : BareDoc) → pool_from form (pool_apart form d) (in_form form (binaries_from 0 (pool_of d)) []) ≡ binaries_from 0 (pool_of d)
pool_is Plain d = refl
pool_is V3 d = refl
pool_is V4 d = refl

hash_is : (form : DocForm) (hash : Option (List ℕ)) (m : MetaParts) → m.hash ≡ hash_or form hash None → hash_of form m ≡ hash_named form hash
hash_is Plain hash m e = refl
hash_is V3 hash m e = e ∙ or_none hash
hash_is V4 hash m e = refl

some_of : {A B : Type 0} (f : A → B) (o : Option A) (y : B) → option_map f o ≡ Some y → (x : A) × (o ≡ Some x) × (f x ≡ y)
some_of f None y e = cc e
some_of f (Some x) y e = (x, refl, cc e)

resolved_is : (form : DocForm) (given : List (List ℕ × Bool)) (pool : List ReadBinary) (file : FileParts) (root : RootParts) (tree : ReadTree) (t : Tree)
    → file.root ≡ Some root → root.tree ≡ Some tree → pool_from form given file.meta.binaries ≡ pool
    → resolved_tree pool tree ≡ t → missing_in pool tree ≡ [] → are_distinct (node_ids t) ≡ true
    → resolved_document form given (Some file) ≡ Ok (record { tree = t; tombs = tombs_of t root.tombs; meta = file.meta.meta }, hash_of form file.meta)
resolved_is form given pool file root tree t is_root is_tree is_pool is_found none distinct =
    let rest = λ (r : RootParts) (found : Tree) (missing : List Missing). ◌>>=◌ {B = DocumentAndHash} (refuse_duplicate (least_duplicate (node_ids found))) (λ _. ◌>>=◌ {B = DocumentAndHash} (refuse_missing (first_missing missing)) (λ _.
    Ok (record { tree = found; tombs = tombs_of found r.tombs; meta = file.meta.meta }, hash_of form file.meta))) in
    let in_pool = λ (pool : List ReadBinary) (r : RootParts) (tree : ReadTree). rest r (resolved_tree pool tree) (missing_in pool tree) in
    ap (λ (o : Option RootParts). ◌>>=◌ {B = DocumentAndHash} (required_part Root o) (λ r. ◌>>=◌ {B = DocumentAndHash} (required_part Group r.tree) (λ tree. in_pool (pool_from form given file.meta.binaries) r tree))) is_root
    ∙ (ap (λ (o : Option ReadTree). ◌>>=◌ {B = DocumentAndHash} (required_part Group o) (λ tree. in_pool (pool_from form given file.meta.binaries) root tree)) is_tree
    ∙ (ap (λ (pool : List ReadBinary). in_pool pool root tree) is_pool
    ∙ (ap₂ (rest root) is_found none
    ∙ ap (λ o. ◌>>=◌ {B = DocumentAndHash} (refuse_duplicate o) (λ _. Ok (record { tree = t; tombs = tombs_of t root.tombs; meta = file.meta.meta }, hash_of form file.meta))) (none_twice (node_ids t) distinct))))

-- What a document must be so that it is read back.
pub record GoodDoc (d : BareDoc) : Type 0 where
  pub tree : GoodTree (binaries_from 0 (pool_of d)) (pool_of d) d.tree
  pub levels : height d.tree ≤ 128
  pub nodes : tree_nodes d.tree ≤ 262144
  pub binaries : Each GoodBinary (binaries_from 0 (pool_of d))
  pub distinct : are_distinct (node_ids d.tree) ≡ true
  pub tombs : Each GoodTomb d.tombs
  pub tombs_rise : rises (λ (t : Tombstone). t.id) d.tombs ≡ true
  pub tombs_apart : list_all (λ (t : Tombstone). is_elsewhere d.tree t.id) d.tombs ≡ true
  pub meta : GoodMeta d.meta

-- from the elements of a written document comes that document, wherever they begin
pub said_again : (s : Setting) (form : DocForm) → form ≡ s.form → (hash : Option (List ℕ)) → If IsHash hash → (d : BareDoc) → GoodDoc d
    → (place : ℕ) → (all_children (by_name s (document_rows s)) (told.also [] (element_at place (element_of s.keystream 0 (file_piece form hash (pool_of d) d))) (told.last [])) None start
    >>= λ x. resolved_document form (pool_apart form d) x.0) ≡ Ok (d, hash_named form hash)
said_again s form same_form hash good_hash d good place =
    let pool = binaries_from 0 (pool_of d) in
    let M = meta_known form hash (pool_of d) d.meta in
    let a = document_read s pool form (pool_of d) same_form d good.tree good.levels good.tombs hash good_hash good.binaries good.meta place start (omega (arith, good.nodes)) in
    let r = some_of (root_parts_with pool) a.0.root (root_known d) (ap (λ (p : FileParts). p.root) a.2) in
    let t = some_of (tree_with pool) r.0.tree (own_tree d.tree) (ap (λ (p : RootParts). p.tree) r.2) in
    let is_meta : a.0.meta ≡ M = ap (λ (p : FileParts). p.meta) a.2 in
    let is_tombs : r.0.tombs ≡ d.tombs = ap (λ (p : RootParts). p.tombs) r.2 in
    ap (λ (x : Result (Option FileParts × Cursor) DocFail). ◌>>=◌ {B = DocumentAndHash} x (λ x. resolved_document form (pool_apart form d) x.0)) a.1
    ∙ (resolved_is form (pool_apart form d) pool a.0 r.0 t.0 d.tree r.1 t.1
    (ap (λ (m : MetaParts). pool_from form (pool_apart form d) m.binaries) is_meta ∙ pool_is form d)
    (found_again pool t.0 d.tree t.2) (none_missing pool t.0 d.tree t.2) good.distinct
    ∙ ap₂ (λ (whole : BareDoc) (h : Option (List ℕ)). Ok (whole, h))
    (ap₂ (λ (tombs : List Tombstone) (m : MetaParts). let x : BareDoc = record { tree = d.tree; tombs = tombs; meta = m.meta } in x)
    (ap (λ l. tombs_of d.tree l) is_tombs ∙ (ap (λ l. filter (λ (t : Tombstone). is_elsewhere d.tree t.id) l) (in_order d.tombs good.tombs_rise) ∙ all_stay (λ (t : Tombstone). is_elsewhere d.tree t.id) d.tombs good.tombs_apart)) is_meta)
    (hash_is form hash a.0.meta (ap (λ (m : MetaParts). m.hash) is_meta)))
