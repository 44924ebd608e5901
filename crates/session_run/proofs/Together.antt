-- What is seen of two spans of a session, one after the other.
use Rattle.std.proofs.Common.{◌≡◌, ◌≤◌, ◌+◌, ℕ, Bool, true, false, cond, List, [], ◌++◌, length, Option, Some, None, refl, sym, ◌∙◌, ap, inl, inr, arith, append-nil}
use Rattle.std.specs.Prelude.{IfSome, option_map, take}
use Rattle.std.specs.Ordering.{eq_by_cmp, nat_cmp}
use Rattle.std.specs.Cmp.Lexicographic.{slice_cmp}
use Rattle.std.specs.FinMap.{get, get-insert, insert, same_map}
use Rattle.std.proofs.lemmas.List.{append_assoc, length-append}
use Rattle.std.proofs.Math.Seq.{take-append-add, take-length}
use Rattle.outside_core.specs.Files.{FileMap}
use Rattle.outside_core.specs.Counts.{Increased}
use Rattle.outside_core.specs.Streams.{GainsPrefix}
use Rattle.vault_model.proofs.Orders.{bytes_order}
use Rattle.cli_reporting.specs.Reporting.{Gains}
use Rattle.cli_writing.specs.Writing.{KeepsDraft, KeepsFiles, NewFile, Store}
use Rattle.session_core.specs.CallRun.Endings.{Stores}
use Rattle.session_core.specs.Sessions.{last_file}
use Rattle.session_run.specs.Seen.{HasFiles, files_with}

-- ---- what is written

pub gains_none : (before now : Option (List ℕ)) → now ≡ before → Gains before now []
gains_none None now same = same
gains_none (Some w) now same = same ∙ ap Some (sym (append-nil w))

pub gains_both : (before mid now : Option (List ℕ)) (text more : List ℕ) → Gains before mid text → Gains mid now more → Gains before now (text ++ more)
gains_both None mid now text more h g = g ∙ ap (option_map (λ w. w ++ more)) h
gains_both (Some w) mid now text more h g = g ∙ ap (option_map (λ w. w ++ more)) h ∙ ap Some (append_assoc w text more)

pub gains_then : (before mid now : Option (List ℕ)) (text more : List ℕ) → Gains before mid text → GainsPrefix mid now more → GainsPrefix before now (text ++ more)
gains_then None mid now text more h g = (0, omega arith, g.2 ∙ ap (option_map (λ w. w ++ take g.0 more)) h)
gains_then (Some w) mid now text more h g = (
  length text + g.0,
  omega (arith, g.1, length-append text more),
  g.2 ∙ ap (option_map (λ w. w ++ take g.0 more)) h ∙ ap Some (append_assoc w text (take g.0 more) ∙ ap (λ t. w ++ t) (sym (take-append-add text more g.0))),
)

pub gains_prefix : (before now : Option (List ℕ)) (text : List ℕ) → Gains before now text → GainsPrefix before now text
gains_prefix before now text h = (length text, omega arith, h ∙ ap (λ (t : List ℕ). option_map (λ w. w ++ t) before) (sym (take-length text)))

-- ---- the store

insert_again : (files : FileMap) (name old new : List ℕ) → insert (insert files name old) name new ≡ insert files name new
insert_again files name old new = same_map bytes_order.total bytes_order.same _ _ (λ other.
    get-insert bytes_order.total (insert files name old) name new other
    ∙ by other (eq_by_cmp (slice_cmp nat_cmp) other name) (get-insert bytes_order.total files name old other)
    ∙ sym (get-insert bytes_order.total files name new other))
  where
    by : (other : List ℕ) (tie : Bool) → get (insert files name old) other ≡ cond tie (Some old) (get files other)
        → cond tie (Some new) (get (insert files name old) other) ≡ cond tie (Some new) (get files other)
    by other true h = refl
    by other false h = h

over_again : (files : Option FileMap) (file later : NewFile) (name : List ℕ) → file.name ≡ name → later.name ≡ name
    → files_with (Some later) (files_with (Some file) files) ≡ files_with (Some later) files
over_again None file later name f l = refl
over_again (Some files) file later name f l =
    ap (λ (n : List ℕ). Some (insert (insert files n file.bytes) later.name later.bytes)) (f ∙ sym l)
    ∙ ap Some (insert_again files later.name file.bytes later.bytes)

pub stores_both : (file later : Option NewFile) (name : List ℕ) (before mid now : Store) → IfSome file (λ f. f.name ≡ name) → IfSome later (λ f. f.name ≡ name)
    → Stores file before mid → Stores later mid now → Stores (last_file file later) before now
stores_both None None name before mid now f l h g = record {
  files = g.files ∙ h.files;
  draft_name = g.draft_name ∙ h.draft_name;
  draft_bytes = g.draft_bytes ∙ h.draft_bytes;
}
stores_both None (Some later) name before mid now f l h g = record {
  files = g.files ∙ ap (files_with (Some later)) h.files;
  draft_name = g.draft_name;
}
stores_both (Some file) None name before mid now f l h g = record {
  files = g.files ∙ h.files;
  draft_name = g.draft_name ∙ h.draft_name;
}
stores_both (Some file) (Some later) name before mid now f l h g = record {
  files = g.files ∙ ap (files_with (Some later)) h.files ∙ over_again before.files file later name f l;
  draft_name = g.draft_name;
}

pub last_named : (file later : Option NewFile) (name : List ℕ) → IfSome file (λ f. f.name ≡ name) → IfSome later (λ f. f.name ≡ name)
    → IfSome (last_file file later) (λ f. f.name ≡ name)
last_named file None name f l = f
last_named file (Some later) name f l = l

pub has_files : (file : Option NewFile) (before now : Store) → Stores file before now → HasFiles file before now
has_files None before now h = record { files = h.files; draft = inr (h.draft_name, h.draft_bytes) }
has_files (Some file) before now h = record { files = h.files; draft = inl h.draft_name }

pub draft_both : (before mid now : Store) → KeepsDraft before mid → KeepsDraft mid now → KeepsDraft before now
draft_both before mid now h g = elim g [
  | inl none ↦ inl none
  | inr same ↦ elim h [
    | inl none ↦ inl (same.0 ∙ none)
    | inr kept ↦ inr (same.0 ∙ kept.0, same.1 ∙ kept.1)
  ]
]

pub keeps_after : (file : Option NewFile) (before mid now : Store) → Stores file before mid → KeepsFiles mid now → HasFiles file before now
keeps_after file before mid now h g =
    let first = has_files file before mid h in
    record { files = g.files ∙ first.files; draft = draft_both before mid now first.draft g.draft }

-- ---- counts

-- A count that rose since a later moment rose since an earlier one.
pub rose_since : (first before now : ℕ) → first ≤ before → Increased before now → Increased first now
rose_since first before now h rose = elim rose [
  | inl more ↦ inl (omega (arith, h, more))
  | inr most ↦ inr most
]
