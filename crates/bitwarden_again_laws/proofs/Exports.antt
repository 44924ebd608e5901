-- What an export of Bitwarden gives at a moment and at a later one.
use Rattle.std.proofs.Common.{◌≡◌, ◌<◌, ◌≤◌, ◌⊎◌, ◌+◌, inl, inr, ℕ, List, [], ◌∷◌, ◌++◌, map, Option, None, Some, Result, Ok, Err, cond, Bool, true, false, refl, ap, subst, ◌∙◌, arith}
use Rattle.std.specs.Option.{option_and_then, unwrap_or}
use Rattle.std.specs.Prelude.{codes, nat_le}
use Rattle.std.specs.declared.cmp.Ordering.{Ordering}
use Rattle.std.specs.declared.cmp.Ordering.TheVariants.{Equal, Greater, Less}
use Rattle.bitwarden_core.specs.Documents.{as_export, bitwarden_document, document_at}
use Rattle.bitwarden_core.specs.Placing.{export_places, folder_place, item_id, placed_item, placed_items, texts_of}
use Rattle.bitwarden_core.specs.Folders.{item_groups}
use Rattle.bitwarden_forms.specs.Dates.{date}
use Rattle.bitwarden_forms.specs.Exports.{export_of, folders_in, items_in}
use Rattle.bitwarden_forms.specs.Json.{values}
use Rattle.bitwarden_forms.specs.declared.fails.BitwardenFail.{BitwardenFail}
use Rattle.bitwarden_forms.specs.declared.fails.BitwardenFail.TheVariants as fail
use Rattle.bitwarden_items.specs.Passwords.{EarlierPassword, date_or, earlier_cmp, earlier_password, earlier_passwords, put_beside, put_password, put_passwords}
use Rattle.bitwarden_items.specs.Versions.{earlier_version, entry_modified, in_time, item_row, modified_at}
use Rattle.bitwarden_laws.proofs.Earlier.{all_have, from_map, in_map}
use Rattle.history_laws.proofs.Newest.{Lt}
use Rattle.import_again_laws.proofs.Later.{EntryRow, LaterEntry, LaterPlace, OneByOne, one_by_one-append}
use Rattle.import_again_laws.proofs.Moments.{IsLater, document_later}
use Rattle.import_again_laws.proofs.Newer.{newer_entry, newer_mark}
use Rattle.import_ids.specs.Names.{EntryTexts}
use Rattle.import_again_laws.proofs.ImportLaws.Sources.{same_ok, then_ok}
use Rattle.import_tree.specs.Outcome.{sound_document, sound_tree}
use Rattle.import_tree.specs.Trees.{Placed, placed_document}
use Rattle.import_tree.specs.declared.fails.TreeFail.{TreeFail}
use Rattle.outside_core.specs.Results.{◌>>=◌}
use Rattle.serde_json.specs.Data.{Data}
use Rattle.serde_json.specs.Find.{as_str, get}
use Rattle.time_core.specs.Times.{last_stamp}
use Rattle.vault_model.proofs.Tests.{greatest_above, greatest_below}
use Rattle.vault_model.specs.Db.{NodeId, greatest}
use Rattle.vault_model.specs.Join.{IsIn}
use Rattle.vault_model.specs.Shape.{BareVersion}
use Rattle.vault_model.specs.Tree.{BareDoc}

-- ---- rising passwords are those that were put

from_beside : (o : Ordering) (x p q : EarlierPassword) (qs after : List EarlierPassword) → (IsIn x after → (p ≡ x) ⊎ IsIn x qs) → IsIn x (put_beside o p q qs after) → (p ≡ x) ⊎ IsIn x (q ∷ qs)
from_beside Less x p q qs after rest (inl is) = inl is
from_beside Less x p q qs after rest (inr is) = inr is
from_beside Equal x p q qs after rest is = inr is
from_beside Greater x p q qs after rest (inl is) = inr (inl is)
from_beside Greater x p q qs after rest (inr is) = elim (rest is) [ inl new ↦ inl new | inr old ↦ inr (inr old) ]

from_put : (x p : EarlierPassword) (qs : List EarlierPassword) → IsIn x (put_password p qs) → (p ≡ x) ⊎ IsIn x qs
from_put x p [] (inl is) = inl is
from_put x p [] (inr is) = absurd is
from_put x p (q ∷ qs) is = from_beside (earlier_cmp p q) x p q qs (put_password p qs) (from_put x p qs) is

from_all : (x : EarlierPassword) (ps qs : List EarlierPassword) → IsIn x (put_passwords ps qs) → IsIn x ps ⊎ IsIn x qs
from_all x [] qs is = inr is
from_all x (p ∷ ps) qs is = elim (from_all x ps (put_password p qs) is) [
  | inl among ↦ inl (inr among)
  | inr among ↦ elim (from_put x p qs among) [ inl new ↦ inl (inl new) | inr old ↦ inr old ]
]

-- ---- what a tree gives

pub export_ok : (r : Result BareDoc TreeFail) (d : BareDoc) → as_export r ≡ Ok d → r ≡ Ok d
export_ok (Ok x) d h = ap (λ (y : BareDoc). let r : Result BareDoc TreeFail = Ok y in r) (cc h)
export_ok (Err f) d h = absurd (cc h)

pub sound_is : (doc d : BareDoc) → sound_document doc ≡ Ok d → doc ≡ d
sound_is doc d is = let a = then_ok (sound_tree doc.tree) _ d is in cc a.1.1

-- ---- times

limited : (b : Bool) (time m : ℕ) → (let r : Result ℕ BitwardenFail = cond b (Ok time) (Err (fail.StampLimit time)) in r) ≡ Ok m → time ≡ m
limited true time m e = cc e
limited false time m e = absurd (cc e)

module _ (now later : ℕ) (less : now < later) where
  date_later : (name : List ℕ) (value : Data) → date_or now name value ≤ date_or later name value
  date_later name value = or_moment (option_and_then date (option_and_then as_str (get name value)))
    where
      or_moment : (o : Option ℕ) → unwrap_or o now ≤ unwrap_or o later
      or_moment None = omega (arith, less)
      or_moment (Some time) = omega arith

  abbrev times : ℕ → Data → List ℕ
  times moment item = date_or moment (codes "revisionDate") item ∷ map (λ (p : EarlierPassword). p.date + 1) (earlier_passwords moment item)

  abbrev history : Data → List Data
  history item = values (codes "passwordHistory") (Some item)

  -- each password of the one moment has one of the other that is not earlier
  password_later : (item : Data) (p : EarlierPassword) → IsIn p (earlier_passwords now item) → p.date + 1 ≤ greatest (times later item)
  password_later item p among = elim (from_all p (map (earlier_password now) (history item)) [] among) [
    | inl listed ↦
        let found = from_map (earlier_password now) p (history item) listed in
        let q = earlier_password later found.0 in
        let there = all_have q (map (earlier_password later) (history item)) [] (in_map (earlier_password later) found.0 (history item) found.1) in
        let above = greatest_above (times later item) (q.date + 1) (inr (in_map (λ (r : EarlierPassword). r.date + 1) q (earlier_passwords later item) there)) in
        let dates = date_later (codes "lastUsedDate") found.0 in
        let is = ap (λ (r : EarlierPassword). r.date) found.2 in
        omega (arith, above, dates, is)
    | inr none ↦ absurd none
  ]

  modified_later : (item : Data) → modified_at now item ≤ modified_at later item
  modified_later item = greatest_below (times now item) (modified_at later item) (λ n among. elim among [
    | inl is ↦
        let above = greatest_above (times later item) (date_or later (codes "revisionDate") item) (inl refl) in
        let dates = date_later (codes "revisionDate") item in
        omega (arith, is, above, dates)
    | inr listed ↦
        let found = from_map (λ (p : EarlierPassword). p.date + 1) n (earlier_passwords now item) listed in
        let below = password_later item found.0 found.1 in
        let is = found.2 in
        omega (arith, is, below)
  ])

  -- ---- items

  abbrev row_at : ℕ → NodeId → Data → EntryRow
  row_at moment id item = (id, entry_modified moment item (modified_at moment item))

  row_is : (moment : ℕ) (id : NodeId) (item : Data) (row : EntryRow) → item_row moment id item ≡ Ok row → row_at moment id item ≡ row
  row_is moment id item row e =
      let made = then_ok (in_time (modified_at moment item)) _ row e in
      let same = limited (nat_le (modified_at moment item) last_stamp) (modified_at moment item) made.0 made.1.0 in
      ap (λ (m : ℕ). let r : EntryRow = (id, entry_modified moment item m) in r) same ∙ cc made.1.1

  item_versions : (item : Data) (v : BareVersion) → IsIn v ((entry_modified now item (modified_at now item)).current ∷ (entry_modified now item (modified_at now item)).history)
      → Lt v.mark (entry_modified later item (modified_at later item)).current.mark
  item_versions item v (inl is) =
      let x = entry_modified now item (modified_at now item) in
      let y = entry_modified later item (modified_at later item) in
      subst (λ (w : BareVersion). Lt w.mark y.current.mark) is
      (newer_mark x.current.mark y.current.mark (modified_later item) (date_later (codes "creationDate") item) less)
  item_versions item v (inr among) =
      let y = entry_modified later item (modified_at later item) in
      let found = from_map (earlier_version now item) v (earlier_passwords now item) among in
      let below = password_later item found.0 found.1 in
      subst (λ (w : BareVersion). Lt w.mark y.current.mark) found.2
      (newer_mark (earlier_version now item found.0).mark y.current.mark (omega (arith, below)) (date_later (codes "creationDate") item) less)

  row_later : (id : NodeId) (item : Data) → LaterEntry (row_at now id item) (row_at later id item)
  row_later id item = record {
    id = refl;
    stay = inl less;
    versions = newer_entry (entry_modified now item (modified_at now item)) (entry_modified later item (modified_at later item)) (item_versions item);
  }

  abbrev place_at : ℕ → List Data → List EntryTexts → Data → Placed
  place_at moment folders before item = record { now = moment; names = item_groups folders item; rows = row_at moment (item_id folders before item) item ∷ [] }

  place_is : (moment : ℕ) (folders : List Data) (before : List EntryTexts) (item : Data) (p : Placed) → placed_item moment folders before item ≡ Ok p → place_at moment folders before item ≡ p
  place_is moment folders before item p e =
      let made = then_ok (item_row moment (item_id folders before item) item) _ p e in
      ap (λ (r : EntryRow). let q : Placed = record { now = moment; names = item_groups folders item; rows = r ∷ [] } in q) (row_is moment (item_id folders before item) item made.0 made.1.0) ∙ cc made.1.1

  place_later : (folders : List Data) (before : List EntryTexts) (item : Data) → LaterPlace now later (place_at now folders before item) (place_at later folders before item)
  place_later folders before item = record { moment = refl; after = refl; names = refl; rows = (row_later (item_id folders before item) item, tt) }

  items_later : (folders : List Data) (before : List EntryTexts) (items : List Data) (ps qs : List Placed) → placed_items now folders before items ≡ Ok ps → placed_items later folders before items ≡ Ok qs
      → OneByOne (LaterPlace now later) ps qs
  items_later folders before [] ps qs h k =
      let none : [] ≡ ps = cc h in
      let too : [] ≡ qs = cc k in
      subst (λ (l : List Placed). OneByOne (LaterPlace now later) l qs) none (subst (λ (l : List Placed). OneByOne (LaterPlace now later) [] l) too tt)
  items_later folders before (item ∷ items) ps qs h k =
      let a = then_ok (placed_item now folders before item) _ ps h in
      let b = then_ok (placed_item later folders before item) _ qs k in
      let c = then_ok (placed_items now folders (before ++ texts_of folders item ∷ []) items) _ ps a.1.1 in
      let f = then_ok (placed_items later folders (before ++ texts_of folders item ∷ []) items) _ qs b.1.1 in
      let one = place_is now folders before item a.0 a.1.0 in
      let other = place_is later folders before item b.0 b.1.0 in
      let first : LaterPlace now later a.0 b.0 =
      subst (λ (p : Placed). LaterPlace now later p b.0) one (subst (λ (p : Placed). LaterPlace now later (place_at now folders before item) p) other (place_later folders before item)) in
      let rest = items_later folders (before ++ texts_of folders item ∷ []) items c.0 f.0 c.1.0 f.1.0 in
      let made : a.0 ∷ c.0 ≡ ps = cc c.1.1 in
      let too : b.0 ∷ f.0 ≡ qs = cc f.1.1 in
      subst (λ (l : List Placed). OneByOne (LaterPlace now later) l qs) made
      (subst (λ (l : List Placed). OneByOne (LaterPlace now later) (a.0 ∷ c.0) l) too (first, rest))

  folders_later : (folders : List Data) → OneByOne (LaterPlace now later) (map (folder_place now) folders) (map (folder_place later) folders)
  folders_later [] = tt
  folders_later (folder ∷ folders) = (record { moment = refl; after = refl; names = refl; rows = tt }, folders_later folders)

  places_later : (export : Data) (ps qs : List Placed) → export_places now export ≡ Ok ps → export_places later export ≡ Ok qs → OneByOne (LaterPlace now later) ps qs
  places_later export ps qs h k =
      let folders = folders_in export in
      let a = then_ok (placed_items now folders [] (items_in export)) _ ps h in
      let b = then_ok (placed_items later folders [] (items_in export)) _ qs k in
      let made : map (folder_place now) folders ++ a.0 ≡ ps = cc a.1.1 in
      let too : map (folder_place later) folders ++ b.0 ≡ qs = cc b.1.1 in
      let all = one_by_one-append (LaterPlace now later) (map (folder_place now) folders) (map (folder_place later) folders) a.0 b.0 (folders_later folders)
      (items_later folders [] (items_in export) a.0 b.0 a.1.0 b.1.0) in
      subst (λ (l : List Placed). OneByOne (LaterPlace now later) l qs) made
      (subst (λ (l : List Placed). OneByOne (LaterPlace now later) (map (folder_place now) folders ++ a.0) l) too all)

  -- ---- exports

  at_later : (export : Data) (d e : BareDoc) → document_at now export ≡ Ok d → document_at later export ≡ Ok e → IsLater d e
  at_later export d e h k =
      let a = then_ok (export_places now export) _ d h in
      let b = then_ok (export_places later export) _ e k in
      document_later now later less a.0 b.0 (places_later export a.0 b.0 a.1.0 b.1.0) d e
      (sound_is (placed_document now a.0) d (export_ok _ d a.1.1)) (sound_is (placed_document later b.0) e (export_ok _ e b.1.1))

  pub export_later : (bytes : List ℕ) (d e : BareDoc) → bitwarden_document bytes now ≡ Ok d → bitwarden_document bytes later ≡ Ok e → IsLater d e
  export_later bytes d e h k =
      let a = then_ok (export_of bytes) _ d h in
      let b = then_ok (export_of bytes) _ e k in
      let same = same_ok (export_of bytes) b.0 a.0 b.1.0 a.1.0 in
      at_later a.0 d e a.1.1 (subst (λ (export : Data). document_at later export ≡ Ok e) same b.1.1)
