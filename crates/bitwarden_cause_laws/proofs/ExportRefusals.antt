-- Refusals to import an export of Bitwarden have their causes.
use Rattle.std.proofs.Common.{◌≡◌, ◌≢◌, ◌⊎◌, ◌+◌, ◌<◌, ◌≤◌, ℕ, suc, Bool, true, false, not, inl, inr, cond, List, [], ◌∷◌, ◌++◌, length, codes, Option, None, Some, Result, Ok, Err, bytes_eq, nat_le, nat_lt, refl, sym, ap, subst, ◌∙◌, arith}
use Rattle.std.specs.List.{prefix_len}
use Rattle.std.specs.Option.{ok_or, option_and_then, option_map}
use Rattle.std.specs.Str.{is_utf8}
use Rattle.std.proofs.lemmas.Bool.{leb-false, leb-true, ltb-true}
use Rattle.std.proofs.lemmas.Slice.Eq.{bytes_eq-Decides}
use Rattle.std.proofs.lemmas.Str.{IsUtf8-from_is_utf8, is_utf8-from_IsUtf8}
use Rattle.outside_core.specs.Results.{◌>>=◌}
use Rattle.serde_json.specs.Data.{Data, array, boolean, null, number, object, string}
use Rattle.serde_json.specs.Find.{as_bool, get}
use Rattle.serde_json.specs.Read.{read}
use Rattle.time_core.specs.Times.{last_stamp}
use Rattle.vault_model.specs.Db.{NodeId, nil_id}
use Rattle.vault_model.specs.Join.{IsIn}
use Rattle.vault_model.specs.Shape.{EntryRecord}
use Rattle.vault_model.specs.Tree.{BareDoc}
use Rattle.vault_model.proofs.Tests.{apart}
use Rattle.import_ids.specs.Names.{EntryTexts}
use Rattle.import_tree.specs.Outcome.{sound_document}
use Rattle.import_tree.specs.Trees.{Placed, placed_document}
use Rattle.import_tree.specs.declared.fails.TreeFail.{TreeFail}
use Rattle.import_tree.specs.declared.fails.TreeFail.TheVariants as tree
use Rattle.bitwarden_forms.specs.Exports.{export_of, fault_in, first_other, folders_in, is_encrypted, items_in, json_of, refuse, refuse_encrypted, refuse_export, refuse_other}
use Rattle.bitwarden_forms.specs.Json.{values}
use Rattle.bitwarden_forms.specs.Kinds.{fits, given_id, holds, is_folder, is_item, is_list, is_not_nil, is_object, none_or}
use Rattle.bitwarden_forms.specs.declared.fails.BitwardenFail.{BitwardenFail}
use Rattle.bitwarden_forms.specs.declared.fails.BitwardenFail.TheVariants as fail
use Rattle.bitwarden_items.specs.Versions.{entry_modified, in_time, item_row, modified_at}
use Rattle.bitwarden_core.specs.Documents.{as_export, bitwarden_document, document_at, of_tree}
use Rattle.bitwarden_core.specs.Folders.{item_groups}
use Rattle.bitwarden_core.specs.Placing.{entry_place, export_places, item_id, placed_item, placed_items, texts_of}
use Rattle.import_cause_laws.proofs.TreeRefusals.{TreeCause, refused_at, same_fail, sound_refusals}
use Rattle.bitwarden_cause_laws.specs.ExportCauses.{ExportCause, ExportRefusalsHaveCauses, HasElement, IsJson, SaysNoList}
use Rattle.bitwarden_cause_laws.specs.OtherKinds.{IsNoList}
use Rattle.bitwarden_cause_laws.proofs.OtherKinds.{folder_kind, item_kind, list_kind, member_kind, object_kind}

-- ---- the first of a list that is not of a kind

-- The first element of a list that a test refuses, with what is before it and after it.
record First (kind : Data → Bool) (elements : List Data) (count : ℕ) : Type 0 where
  before : List Data
  element : Data
  after : List Data
  elements_are : elements ≡ before ++ element ∷ after
  number_is : count ≡ length before + 1
  refused : kind element ≡ false
  passed : (value : Data) → IsIn value before → kind value ≡ true

module _ (kind : Data → Bool) where
  -- how many elements are of the kind before the first that is not
  abbrev passing : List Data → ℕ
  passing us = prefix_len (λ u. not (not (kind u))) us

  first_at : (us : List Data) → passing us < length us → First kind us (passing us + 1)
  first_at [] less = absurd (omega (arith, less))
  first_at (u ∷ us) less = by (first_at us) (kind u) refl less
    where
      by : (passing us < length us → First kind us (passing us + 1)) → (b : Bool) → kind u ≡ b → cond (not (not b)) (1 + passing us) 0 < suc (length us) → First kind (u ∷ us) (cond (not (not b)) (1 + passing us) 0 + 1)
      by later true e l = more (later (omega (arith, l)))
        where
          more : First kind us (passing us + 1) → First kind (u ∷ us) (1 + passing us + 1)
          more f =
              let is = f.number_is in
              record {
                before = u ∷ f.before;
                element = f.element;
                after = f.after;
                elements_are = ap (λ vs. u ∷ vs) f.elements_are;
                number_is = counted is;
                refused = f.refused;
                passed = λ v. passed f v;
              }
            where
              counted : passing us + 1 ≡ length f.before + 1 → 1 + passing us + 1 ≡ suc (length f.before) + 1
              counted is = omega (arith, is)

              passed : (f : First kind us (passing us + 1)) (v : Data) → IsIn v (u ∷ f.before) → kind v ≡ true
              passed f v (inl same) = ap kind (sym same) ∙ e
              passed f v (inr there) = f.passed v there
      by later false e l = record { before = []; element = u; after = us; elements_are = refl; number_is = refl; refused = e; passed = λ v there. absurd there }

  first_is : (us : List Data) (count : ℕ) → first_other kind us ≡ Some count → First kind us count
  first_is us count h = by (nat_lt (passing us) (length us)) refl h
    where
      same : (a b : ℕ) → ◌≡◌ {A = Option ℕ} (Some a) (Some b) → a ≡ b
      same a b g = cc g

      by : (b : Bool) → nat_lt (passing us) (length us) ≡ b → option_map (λ at. at + 1) (cond b (Some (passing us)) None) ≡ Some count → First kind us count
      by true e g = subst (λ n. First kind us n) (same (passing us + 1) count g) (first_at us (ltb-true (passing us) (length us) e))
      by false e g = cc g

-- ---- items that cannot be placed

-- The first item that would be modified too late.
record Late (now : ℕ) (items : List Data) (why : BitwardenFail) : Type 0 where
  before : List Data
  item : Data
  after : List Data
  items_are : items ≡ before ++ item ∷ after
  refused : why ≡ fail.StampLimit (modified_at now item)
  late : last_stamp < modified_at now item
  earlier : (other : Data) → IsIn other before → modified_at now other ≤ last_stamp

module _ (now : ℕ) (folders : List Data) (why : BitwardenFail) where
  too_late : (time : ℕ) → in_time time ≡ Err why → (why ≡ fail.StampLimit time) × (last_stamp < time)
  too_late time h = by (nat_le time last_stamp) refl h
    where
      by : (b : Bool) → nat_le time last_stamp ≡ b → ◌≡◌ {A = Result ℕ BitwardenFail} (cond b (Ok time) (Err (fail.StampLimit time))) (Err why) → (why ≡ fail.StampLimit time) × (last_stamp < time)
      by true e g = cc g
      by false e g = (sym (same_fail (fail.StampLimit time) why g), leb-false time last_stamp e)

  early : (time modified : ℕ) → in_time time ≡ Ok modified → time ≤ last_stamp
  early time modified h = by (nat_le time last_stamp) refl h
    where
      by : (b : Bool) → nat_le time last_stamp ≡ b → ◌≡◌ {A = Result ℕ BitwardenFail} (cond b (Ok time) (Err (fail.StampLimit time))) (Ok modified) → time ≤ last_stamp
      by true e g = leb-true time last_stamp e
      by false e g = cc g

  row_refused : (id : NodeId) (item : Data) → item_row now id item ≡ Err why → in_time (modified_at now item) ≡ Err why
  row_refused id item h = elim (refused_at (in_time (modified_at now item)) _ why h) [
    | inl a ↦ a
    | inr a ↦ cc a.1.1
  ]

  place_refused : (names : List (List ℕ)) (id : NodeId) (item : Data) → entry_place now names id item ≡ Err why → in_time (modified_at now item) ≡ Err why
  place_refused names id item h = elim (refused_at (item_row now id item) _ why h) [
    | inl a ↦ row_refused id item a
    | inr a ↦ cc a.1.1
  ]

  row_taken : (id : NodeId) (item : Data) (row : NodeId × EntryRecord) → item_row now id item ≡ Ok row → modified_at now item ≤ last_stamp
  row_taken id item row h = by (in_time (modified_at now item)) refl h
    where
      by : (r : Result ℕ BitwardenFail) → in_time (modified_at now item) ≡ r → (r >>= λ modified. Ok (id, entry_modified now item modified)) ≡ Ok row → modified_at now item ≤ last_stamp
      by (Ok modified) is g = early (modified_at now item) modified is
      by (Err f) is g = cc g

  place_taken : (names : List (List ℕ)) (id : NodeId) (item : Data) (placed : Placed) → entry_place now names id item ≡ Ok placed → modified_at now item ≤ last_stamp
  place_taken names id item placed h = by (item_row now id item) refl h
    where
      by : (r : Result (NodeId × EntryRecord) BitwardenFail) → item_row now id item ≡ r
          → ◌≡◌ {A = Result Placed BitwardenFail} (r >>= λ row. Ok (record { now = now; names = names; rows = row ∷ [] })) (Ok placed) → modified_at now item ≤ last_stamp
      by (Ok row) is g = row_taken id item row is
      by (Err f) is g = cc g

  late_item : (before : List EntryTexts) (items : List Data) → placed_items now folders before items ≡ Err why → Late now items why
  late_item before [] h = cc h
  late_item before (item ∷ items) h = elim (refused_at (placed_item now folders before item) _ why h) [
    | inl a ↦
        let late = too_late (modified_at now item) (place_refused (item_groups folders item) (item_id folders before item) item a) in
        record { before = []; item = item; after = items; items_are = refl; refused = late.0; late = late.1; earlier = λ other there. absurd there }
    | inr a ↦ elim (refused_at (placed_items now folders (before ++ texts_of folders item ∷ []) items) _ why a.1.1) [
      | inl b ↦ more (place_taken (item_groups folders item) (item_id folders before item) item a.0 a.1.0) (late_item (before ++ texts_of folders item ∷ []) items b)
      | inr b ↦ cc b.1.1
    ]
  ]
    where
      more : modified_at now item ≤ last_stamp → Late now items why → Late now (item ∷ items) why
      more first l = record {
        before = item ∷ l.before;
        item = l.item;
        after = l.after;
        items_are = ap (λ us. item ∷ us) l.items_are;
        refused = l.refused;
        late = l.late;
        earlier = in_time_before;
      }
        where
          in_time_before : (other : Data) → IsIn other (item ∷ l.before) → modified_at now other ≤ last_stamp
          in_time_before other (inl same) = subst (λ (u : Data). modified_at now u ≤ last_stamp) same first
          in_time_before other (inr there) = l.earlier other there

-- ---- exports

-- the id of an item is nil where the test says so
nil_refused : (o : Option NodeId) → none_or (λ id. not (bytes_eq id nil_id)) o ≡ false → o ≡ Some nil_id
nil_refused None e = cc e
nil_refused (Some id) e = by (bytes_eq id nil_id) refl e
  where
    by : (b : Bool) → bytes_eq id nil_id ≡ b → not b ≡ false → ◌≡◌ {A = Option NodeId} (Some id) (Some nil_id)
    by true is g = ap Some ((bytes_eq-Decides id nil_id).0 is)
    by false is g = cc g

nil_passed : (o : Option NodeId) → none_or (λ id. not (bytes_eq id nil_id)) o ≡ true → o ≢ Some nil_id
nil_passed o e same = apart (none_or (λ id. not (bytes_eq id nil_id)) o) e (ap (none_or (λ id. not (bytes_eq id nil_id))) same)

-- a member that is true
says_true : (o : Option Data) → holds (λ b. b) (option_and_then as_bool o) ≡ true → o ≡ Some (boolean true)
says_true None e = cc e
says_true (Some d) e = ap Some (by d e)
  where
    by : (d : Data) → holds (λ b. b) (as_bool d) ≡ true → d ≡ boolean true
    by null e = cc e
    by (boolean true) e = refl
    by (boolean false) e = cc e
    by (number n) e = cc e
    by (string s) e = cc e
    by (array items) e = cc e
    by (object ms) e = cc e

module _ (bytes : List ℕ) (now : ℕ) (why : BitwardenFail) where
  abbrev Cause : BitwardenFail → Type 0
  Cause f = ExportCause f bytes now

  is_so : (f : BitwardenFail) → f ≡ why → Cause f → Cause why
  is_so f same c = subst (λ (g : BitwardenFail). Cause g) same c

  in_json : json_of bytes ≡ Err why → Cause why
  in_json h = by (is_utf8 bytes) refl h
    where
      reading : (o : Option Data) → read bytes ≡ o → ok_or o fail.JsonForm ≡ Err why → Cause why
      reading None is g = is_so fail.JsonForm (same_fail fail.JsonForm why g) (inr (inl is))
      reading (Some value) is g = cc g

      by : (b : Bool) → is_utf8 bytes ≡ b → ◌≡◌ {A = Result Data BitwardenFail} (cond b (ok_or (read bytes) fail.JsonForm) (Err fail.JsonForm)) (Err why) → Cause why
      by true is g = reading (read bytes) refl g
      by false is g = is_so fail.JsonForm (same_fail fail.JsonForm why g) (inl (λ text. apart (is_utf8 bytes) (is_utf8-from_IsUtf8 bytes text) is))

  said : (value : Data) → json_of bytes ≡ Ok value → IsJson bytes value
  said value h = by (is_utf8 bytes) refl h
    where
      reading : is_utf8 bytes ≡ true → (o : Option Data) → read bytes ≡ o → ok_or o fail.JsonForm ≡ Ok value → IsJson bytes value
      reading text None is g = cc g
      reading text (Some v) is g = record { is_text = IsUtf8-from_is_utf8 bytes text; is_read = is ∙ same v g }
        where
          same : (v : Data) → ◌≡◌ {A = Result Data BitwardenFail} (Ok v) (Ok value) → ◌≡◌ {A = Option Data} (Some v) (Some value)
          same v g = ap some g
            where
              some : Result Data BitwardenFail → Option Data
              some (Ok w) = Some w
              some (Err f) = None

      by : (b : Bool) → is_utf8 bytes ≡ b → ◌≡◌ {A = Result Data BitwardenFail} (cond b (ok_or (read bytes) fail.JsonForm) (Err fail.JsonForm)) (Ok value) → IsJson bytes value
      by true is g = reading is (read bytes) refl g
      by false is g = cc g

  module _ (value : Data) (is_json : IsJson bytes value) where
    in_object : (b : Bool) → is_object value ≡ b → refuse_other b ≡ Err why → Cause why
    in_object true is h = cc h
    in_object false is h = is_so fail.JsonForm (same_fail fail.JsonForm why h) (inr (inr (value, is_json, (object_kind value).0 is)))

    in_encrypted : (b : Bool) → is_encrypted value ≡ b → refuse_encrypted b ≡ Err why → Cause why
    in_encrypted true is h = is_so fail.Encrypted (same_fail fail.Encrypted why h) (value, is_json, says_true (get (codes "encrypted") value) is)
    in_encrypted false is h = cc h

    abbrev element : {kind : Data → Bool} (name : List ℕ) (count : ℕ) → First kind (values name (Some value)) count → HasElement name count bytes
    element name count f = record { value = value; is_json = is_json; before = f.before; element = f.element; after = f.after; elements_are = f.elements_are; number_is = f.number_is }

    -- the fault of a list
    list_fault : (kind : Data → Bool) (name : List ℕ) (count : ℕ) → fault_in kind name value ≡ Some count
        → ((count ≡ 0) × SaysNoList name bytes) ⊎ First kind (values name (Some value)) count
    list_fault kind name count h = by (fits is_list name value) refl h
      where
        same : (a b : ℕ) → ◌≡◌ {A = Option ℕ} (Some a) (Some b) → a ≡ b
        same a b g = cc g

        by : (b : Bool) → fits is_list name value ≡ b → cond b (first_other kind (values name (Some value))) (Some 0) ≡ Some count
            → ((count ≡ 0) × SaysNoList name bytes) ⊎ First kind (values name (Some value)) count
        by true is g = inr (first_is kind (values name (Some value)) count g)
        by false is g = inl (sym (same 0 count g), (value, is_json, (member_kind is_list IsNoList list_kind name value).0 is))

    in_folders : (o : Option ℕ) → fault_in is_folder (codes "folders") value ≡ o → refuse fail.FolderForm o ≡ Err why → Cause why
    in_folders None is h = cc h
    in_folders (Some count) is h = is_so (fail.FolderForm count) (same_fail (fail.FolderForm count) why h) (elim (list_fault is_folder (codes "folders") count is) [
      | inl a ↦ inl a
      | inr f ↦ inr (record {
        at = element (codes "folders") count f;
        is_none = (folder_kind f.element).0 f.refused;
        earlier = λ folder there other. apart (is_folder folder) (f.passed folder there) ((folder_kind folder).1 other);
      })
    ])

    in_items : (o : Option ℕ) → fault_in (is_item (folders_in value)) (codes "items") value ≡ o → refuse fail.Member o ≡ Err why → Cause why
    in_items None is h = cc h
    in_items (Some count) is h = is_so (fail.Member count) (same_fail (fail.Member count) why h) (elim (list_fault (is_item (folders_in value)) (codes "items") count is) [
      | inl a ↦ inl a
      | inr f ↦ inr (record {
        at = element (codes "items") count f;
        is_none = (item_kind (folders_in value) f.element).0 f.refused;
        earlier = λ item there other. apart (is_item (folders_in value) item) (f.passed item there) ((item_kind (folders_in value) item).1 other);
      })
    ])

    in_nil : (o : Option ℕ) → first_other is_not_nil (items_in value) ≡ o → refuse fail.NilId o ≡ Err why → Cause why
    in_nil None is h = cc h
    in_nil (Some count) is h = is_so (fail.NilId count) (same_fail (fail.NilId count) why h) (by (first_is is_not_nil (items_in value) count is))
      where
        by : First is_not_nil (items_in value) count → Cause (fail.NilId count)
        by f = record {
          at = element (codes "items") count f;
          is_nil = nil_refused (given_id f.element) f.refused;
          earlier = λ item there. nil_passed (given_id item) (f.passed item there);
        }

    in_value : refuse_export value ≡ Err why → Cause why
    in_value h = elim (refused_at (refuse_other (is_object value)) _ why h) [
      | inl a ↦ in_object (is_object value) refl a
      | inr a ↦ elim (refused_at (refuse_encrypted (is_encrypted value)) _ why a.1.1) [
        | inl b ↦ in_encrypted (is_encrypted value) refl b
        | inr b ↦ elim (refused_at (refuse fail.FolderForm (fault_in is_folder (codes "folders") value)) _ why b.1.1) [
          | inl c ↦ in_folders (fault_in is_folder (codes "folders") value) refl c
          | inr c ↦ elim (refused_at (refuse fail.Member (fault_in (is_item (folders_in value)) (codes "items") value)) _ why c.1.1) [
            | inl d ↦ in_items (fault_in (is_item (folders_in value)) (codes "items") value) refl d
            | inr d ↦ in_nil (first_other is_not_nil (items_in value)) refl d.1.1
          ]
        ]
      ]
    ]

    -- ---- the document

    in_late : Late now (items_in value) why → Cause why
    in_late l = is_so (fail.StampLimit (modified_at now l.item)) (sym l.refused) (record {
      number = length l.before + 1;
      at = record { value = value; is_json = is_json; before = l.before; element = l.item; after = l.after; elements_are = l.items_are; number_is = refl };
      time_is = refl;
      late = l.late;
      earlier = l.earlier;
    })

    in_places : export_places now value ≡ Err why → Cause why
    in_places h = elim (refused_at (placed_items now (folders_in value) [] (items_in value)) _ why h) [
      | inl a ↦ in_late (late_item now (folders_in value) why [] (items_in value) a)
      | inr a ↦ cc a.1.1
    ]

    in_tree : (places : List Placed) → export_places now value ≡ Ok places → (r : Result BareDoc TreeFail) → sound_document (placed_document now places) ≡ r → as_export r ≡ Err why → Cause why
    in_tree places are (Ok doc) is h = cc h
    in_tree places are (Err f) is h = is_so (of_tree f) (same_fail (of_tree f) why h) (of f (sound_refusals (placed_document now places) f is))
      where
        of : (f : TreeFail) → TreeCause f (placed_document now places).tree → Cause (of_tree f)
        of (tree.DuplicateId id) c = record { value = value; is_json = is_json; places = places; places_are = are; so = c }
        of (tree.TooDeep id) c = record { value = value; is_json = is_json; places = places; places_are = are; so = c }
        of tree.NoMemory c = c

    in_document : document_at now value ≡ Err why → Cause why
    in_document h = elim (refused_at (export_places now value) _ why h) [
      | inl a ↦ in_places a
      | inr a ↦ in_tree a.0 a.1.0 (sound_document (placed_document now a.0)) refl a.1.1
    ]

  in_export : export_of bytes ≡ Err why → Cause why
  in_export h = elim (refused_at (json_of bytes) _ why h) [
    | inl a ↦ in_json a
    | inr a ↦ elim (refused_at (refuse_export a.0) _ why a.1.1) [
      | inl b ↦ in_value a.0 (said a.0 a.1.0) b
      | inr b ↦ cc b.1.1
    ]
  ]

  -- the value of an export is what its bytes say
  export_said : (value : Data) → export_of bytes ≡ Ok value → IsJson bytes value
  export_said value h = by (json_of bytes) refl h
    where
      checked : (v : Data) (r : Result (Unit {0}) BitwardenFail) → (r >>= λ _. Ok v) ≡ Ok value → ◌≡◌ {A = Result Data BitwardenFail} (Ok v) (Ok value)
      checked v (Ok u) g = g
      checked v (Err f) g = cc g

      by : (r : Result Data BitwardenFail) → json_of bytes ≡ r → (r >>= λ v. refuse_export v >>= λ _. Ok v) ≡ Ok value → IsJson bytes value
      by (Ok v) is g = said value (is ∙ checked v (refuse_export v) g)
      by (Err f) is g = cc g

  in_bytes : bitwarden_document bytes now ≡ Err why → Cause why
  in_bytes h = elim (refused_at (export_of bytes) _ why h) [
    | inl a ↦ in_export a
    | inr a ↦ in_document a.0 (export_said a.0 a.1.0) a.1.1
  ]

pub export_refusals_have_causes : ExportRefusalsHaveCauses
export_refusals_have_causes bytes now why h = in_bytes bytes now why h
