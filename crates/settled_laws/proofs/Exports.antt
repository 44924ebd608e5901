-- The documents of exports of Bitwarden are in order.
use Rattle.std.proofs.Common.{◌≡◌, ℕ, true, List, [], ◌∷◌, ◌++◌, map, Ok, refl, sym, ap, subst, ◌∙◌}
use Rattle.bitwarden_again_laws.proofs.Exports.{export_ok, sound_is}
use Rattle.bitwarden_core.specs.Documents.{document_at}
use Rattle.bitwarden_core.specs.Folders.{item_groups}
use Rattle.bitwarden_core.specs.Placing.{export_places, folder_place, item_id, placed_item, placed_items, texts_of}
use Rattle.bitwarden_forms.specs.Exports.{export_of, folders_in, items_in}
use Rattle.bitwarden_items.specs.Versions.{item_row}
use Rattle.import_ids.specs.Names.{EntryTexts}
use Rattle.import_laws.proofs.Sources.{then_ok}
use Rattle.import_tree.specs.Trees.{Placed, placed_document}
use Rattle.serde_json.specs.Data.{Data}
use Rattle.settled_laws.proofs.Imports.{OrderlyPlaces, are_orderly, placed_orderly}
use Rattle.settled_laws.proofs.Passwords.{item_orderly}
use Rattle.settled_laws.proofs.Settled.{orderly_is_settled}
use Rattle.settled_laws.specs.Imports.{ExportsSettle}
use Rattle.settled_laws.specs.Settled.{is_orderly, is_orderly_entry}
use Rattle.vault_model.proofs.Tests.{and_both}
use Rattle.vault_model.specs.Tree.{BareDoc}

place_orderly : (now : ℕ) (folders : List Data) (before : List EntryTexts) (item : Data) (p : Placed) → placed_item now folders before item ≡ Ok p → are_orderly p.rows ≡ true
place_orderly now folders before item p h =
    let made = then_ok (item_row now (item_id folders before item) item) _ p h in
    let is : record { now = now; names = item_groups folders item; rows = made.0 ∷ [] } ≡ p = cc made.1.1 in
    ap (λ (x : Placed). are_orderly x.rows) (sym is)
    ∙ and_both (is_orderly_entry made.0.1) true (item_orderly now item (item_id folders before item) made.0 made.1.0) refl

items_orderly : (now : ℕ) (folders : List Data) (before : List EntryTexts) (items : List Data) (ps : List Placed) → placed_items now folders before items ≡ Ok ps → OrderlyPlaces ps
items_orderly now folders before [] ps h =
    let none : [] ≡ ps = cc h in
    subst OrderlyPlaces none tt
items_orderly now folders before (item ∷ items) ps h =
    let a = then_ok (placed_item now folders before item) _ ps h in
    let c = then_ok (placed_items now folders (before ++ texts_of folders item ∷ []) items) _ ps a.1.1 in
    let made : a.0 ∷ c.0 ≡ ps = cc c.1.1 in
    subst OrderlyPlaces made (place_orderly now folders before item a.0 a.1.0, items_orderly now folders (before ++ texts_of folders item ∷ []) items c.0 c.1.0)

folders_orderly : (now : ℕ) (folders : List Data) (ps : List Placed) → OrderlyPlaces ps → OrderlyPlaces (map (folder_place now) folders ++ ps)
folders_orderly now [] ps places = places
folders_orderly now (folder ∷ folders) ps places = (refl, folders_orderly now folders ps places)

places_orderly : (now : ℕ) (export : Data) (ps : List Placed) → export_places now export ≡ Ok ps → OrderlyPlaces ps
places_orderly now export ps h =
    let a = then_ok (placed_items now (folders_in export) [] (items_in export)) _ ps h in
    let made : map (folder_place now) (folders_in export) ++ a.0 ≡ ps = cc a.1.1 in
    subst OrderlyPlaces made (folders_orderly now (folders_in export) a.0 (items_orderly now (folders_in export) [] (items_in export) a.0 a.1.0))

export_orderly : (now : ℕ) (export : Data) (d : BareDoc) → document_at now export ≡ Ok d → is_orderly d ≡ true
export_orderly now export d h =
    let a = then_ok (export_places now export) _ d h in
    ap is_orderly (sym (sound_is (placed_document now a.0) d (export_ok _ d a.1.1))) ∙ placed_orderly now a.0 (places_orderly now export a.0 a.1.0)

pub exports_settle : ExportsSettle
exports_settle bytes now d h is =
    let a = then_ok (export_of bytes) _ d h in
    orderly_is_settled d is (export_orderly now a.0 d a.1.1)
