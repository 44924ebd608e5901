-- Entries and history items that have ended and are counted.
use Rattle.std.proofs.Common.{◌≡◌, ℕ, [], refl, ap, sym, ◌∙◌, Result, Ok, Err}
use Rattle.outside_core.specs.Results.{◌>>=◌}
use Rattle.vault_model.specs.Db.{NodeId}
use Rattle.doc_forms.specs.declared.cursor.Cursor.{Cursor}
use Rattle.doc_forms.specs.declared.fails.DocFail.{DocFail}
use Rattle.doc_forms.specs.Children.{by_name, children_and_end, count_node}
use Rattle.doc_forms.specs.Entries.{EntryParts, ReadEntry, ReadVersion, entry_of, entry_rows, history_item_rows, no_entry, node_id, version_of}
use Rattle.doc_forms.specs.Refusals.{Fails}
use Rattle.doc_walk.proofs.Branches.{then_rest}
use Rattle.doc_walk.proofs.Pieces.{carried}
use Rattle.doc_walk.proofs.Rests.{same_rest}
use Rattle.doc_walk.specs.declared.walk.Tag.{Tag}
use Rattle.doc_walk.specs.Steps.{Course, Rest, Steps, map_rest}
use Rattle.doc_walk.specs.Tags.{counted_step}
use Rattle.doc_entries.specs.EntrySteps.{entry_step, history_item_step, whole_entry}

-- the parts of an entry, when it has ended and is counted
abbrev pub entry_parts : Tag → Rest EntryParts
entry_parts tag = counted_step (λ s. by_name s (entry_rows s)) no_entry tag

-- those of a history item
abbrev pub item_parts : Tag → Rest EntryParts
item_parts tag = counted_step (λ s. by_name s (history_item_rows s)) no_entry tag

-- ---- what comes of the parts

abbrev parts_and : EntryParts → Cursor → Result (EntryParts × Cursor) DocFail
parts_and p after = Ok (p, after)

-- parts that are counted
abbrev counted : EntryParts × Cursor → Result (EntryParts × Cursor) DocFail
counted x = count_node x.1 >>= parts_and x.0

abbrev version_and : EntryParts → Cursor → Result (ReadVersion × Cursor) DocFail
version_and p after = Ok (version_of p, after)

abbrev version_from : EntryParts × Cursor → Result (ReadVersion × Cursor) DocFail
version_from x = version_and x.0 x.1

version_counted : (p : EntryParts) (count : Result Cursor DocFail) → ((count >>= parts_and p) >>= version_from) ≡ (count >>= version_and p)
version_counted p (Ok after) = refl
version_counted p (Err e) = refl

item_as : (d : Result (EntryParts × Cursor) DocFail) → ((d >>= counted) >>= version_from) ≡ (d >>= λ x. count_node x.1 >>= version_and x.0)
item_as (Ok x) = version_counted x.0 (count_node x.1)
item_as (Err e) = refl

abbrev entry_and : Cursor → ReadEntry → Result (ReadEntry × Cursor) DocFail
entry_and after e = Ok (e, after)

abbrev made_and : EntryParts → Cursor → NodeId → Result (ReadEntry × Cursor) DocFail
made_and p after u = Ok (entry_of u p, after)

with_id : (p : EntryParts) (id : Result NodeId DocFail) (after : Cursor)
    → ((id >>= λ u. Ok (entry_of u p)) >>= entry_and after) ≡ (id >>= made_and p after)
with_id p (Ok u) after = refl
with_id p (Err e) after = refl

-- the entry that parts make
abbrev entry_from : ℕ → EntryParts × Cursor → Result (ReadEntry × Cursor) DocFail
entry_from offset x = whole_entry offset x.0 >>= entry_and x.1

abbrev entry_after : ℕ → EntryParts → Cursor → Result (ReadEntry × Cursor) DocFail
entry_after offset p after = node_id offset p.id >>= made_and p after

entry_counted : (offset : ℕ) (p : EntryParts) (count : Result Cursor DocFail) → ((count >>= parts_and p) >>= entry_from offset) ≡ (count >>= entry_after offset p)
entry_counted offset p (Ok after) = with_id p (node_id offset p.id) after
entry_counted offset p (Err e) = refl

entry_as : (offset : ℕ) (d : Result (EntryParts × Cursor) DocFail) → ((d >>= counted) >>= entry_from offset) ≡ (d >>= λ x. count_node x.1 >>= entry_after offset x.0)
entry_as offset (Ok x) = entry_counted offset x.0 (count_node x.1)
entry_as offset (Err e) = refl

-- a history item is what its parts make
pub item_ended : {X : Type 0} {view : X → ReadVersion} {old new : Course} {r : Result X DocFail} (tag : Tag)
    → Steps view old new r (map_rest version_of (item_parts tag)) → Steps view old new r (history_item_step tag)
item_ended {view = view} {old = old} {new = new} {r = r} tag steps =
    same_rest view old new r (map_rest version_of (item_parts tag)) (history_item_step tag)
    (λ s content cursor. item_as (children_and_end s (by_name s (history_item_rows s)) tag.offset tag.attrs.raw.now [] content no_entry cursor))
    steps

-- an entry is what its parts make
pub entry_ended : {X : Type 0} {view : X → ReadEntry} {old new : Course} {r : Result X DocFail} (tag : Tag)
    → Steps view old new r (then_rest (entry_parts tag) (whole_entry tag.offset)) → Steps view old new r (entry_step tag)
entry_ended {view = view} {old = old} {new = new} {r = r} tag steps =
    same_rest view old new r (then_rest (entry_parts tag) (whole_entry tag.offset)) (entry_step tag)
    (λ s content cursor. entry_as tag.offset (children_and_end s (by_name s (entry_rows s)) tag.offset tag.attrs.raw.now [] content no_entry cursor))
    steps

-- ---- an entry whose id is known

pub entry_made : (offset : ℕ) (parts kept : EntryParts) (id : NodeId) (made : ReadEntry)
    → node_id offset parts.id ≡ Ok id → kept ≡ parts → made ≡ entry_of id kept → whole_entry offset parts ≡ Ok made
entry_made offset parts kept id made known same is =
    ap (λ d. d >>= λ u. Ok (entry_of u parts)) known
    ∙ (ap (λ (p : EntryParts). let r : Result ReadEntry DocFail = Ok (entry_of id p) in r) (sym same)
    ∙ ap (λ (e : ReadEntry). let r : Result ReadEntry DocFail = Ok e in r) (sym is))

-- or refused
pub id_refused : (offset : ℕ) (parts : EntryParts) (e : DocFail) → Fails e (node_id offset parts.id) → Fails e (whole_entry offset parts)
id_refused offset parts e fails = carried e (node_id offset parts.id) (whole_entry offset parts) (λ same. ap (λ d. d >>= λ u. Ok (entry_of u parts)) same) fails
