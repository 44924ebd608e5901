-- A file that a line wrote is opened again as the database that the line left.
use Rattle.std.proofs.Common.{◌≡◌, ◌≤◌, ℕ, Bool, true, false, List, [], length, Option, Some, None, Result, Ok, refl, sym, ap, subst, ◌∙◌}
use Rattle.std.specs.Prelude.{◌≢◌, option_map}
use Rattle.std.specs.FinMap.{insert}
use Rattle.outside_core.specs.Files.{FileMap}
use Rattle.key_core.specs.Keys.{composite_key}
use Rattle.vault_model.specs.Tree.{BareDoc}
use Rattle.doc_forms.specs.Documents.{DocumentAndHash}
use Rattle.doc_forms.specs.declared.fails.DocFail.{DocFail}
use Rattle.kdbx_frame.specs.Fields.{file_limit}
use Rattle.kdbx_frame.specs.declared.sealings.Sealing.{Sealing}
use Rattle.kdbx_frame.specs.declared.settings.Settings.{Settings}
use Rattle.file_limits.specs.KdbxOpen.Opening.{FileContents}
use Rattle.file_limits.specs.KdbxOpen.Sealed.{Sealed}
use Rattle.resealing_laws.proofs.Salts.{salted_again}
use Rattle.cli_files.specs.Files.{Opened, plain_document}
use Rattle.cli_files.specs.Held.{GivesKey, IsThere}
use Rattle.call_input.specs.CliDatabases.Databases.{opened_plain, opened_under}
use Rattle.call_input.specs.CliDatabases.Held.{HoldsBy}
use Rattle.cli_writing.specs.Held.{HoldsPlain}
use Rattle.file_limits.specs.CliSealing.Held.{contents_with}
use Rattle.file_limits.specs.CliSealing.Sealing.{settings_for}
use Rattle.session_core.specs.CallRun.Endings.{HoldsNew, opened_after, resealed}
use Rattle.session_laws.specs.SessionLaws.{AreAlike, unsalted_sealing}
use Rattle.session_laws.proofs.Files.{put_elsewhere, put_here}

-- A file holds a database that is alike this one.
pub record Reopens (plain : Bool) (key_file : Option (List ℕ)) (file : List ℕ) (password : Option (List ℕ)) (files : FileMap) (opened : Opened) : Type 0 where
  pub target : Opened
  pub holds : HoldsBy plain key_file file password files target
  pub alike : AreAlike target opened

-- ---- what is alike

no_sealing : (sealing : Option Sealing) → ◌≡◌ {A = Option Sealing} None (option_map unsalted_sealing sealing) → sealing ≡ None
no_sealing None h = refl
no_sealing (Some sealing) h = cc

-- What is alike a sealing has its composite key.
record IsSealing (one : Sealing) (other : Option Sealing) : Type 0 where
  pub sealing : Sealing
  pub is : other ≡ Some sealing
  pub composite : sealing.composite ≡ one.composite

same_sealing : (one other : Sealing) → ◌≡◌ {A = Option Sealing} (Some one) (Some other) → one ≡ other
same_sealing one other h = cc

is_sealing : (one : Sealing) (other : Option Sealing) → ◌≡◌ {A = Option Sealing} (Some (unsalted_sealing one)) (option_map unsalted_sealing other)
    → IsSealing one other
is_sealing one None h = cc
is_sealing one (Some other) h = record {
  sealing = other;
  is = refl;
  composite = sym (ap (λ (s : Sealing). s.composite) (same_sealing (unsalted_sealing one) (unsalted_sealing other) h));
}

-- ---- files

-- The key file is as it was where another file was put.
keys_stay : (key_file : Option (List ℕ)) (file : List ℕ) (files : FileMap) (bytes : List ℕ) (key : Option (List ℕ)) → key_file ≢ Some file
    → GivesKey key_file files key → GivesKey key_file (insert files file bytes) key
keys_stay None file files bytes key apart h = h
keys_stay (Some name) file files bytes key apart (k, (is, same)) = (
  k,
  (
    record {
      bytes = is.bytes;
      there = record { found = put_elsewhere files file bytes name (λ e. apart (ap Some e)) ∙ is.there.found; within = is.there.within };
      gives = is.gives;
    },
    same,
  ),
)

is_there : (files : FileMap) (file bytes : List ℕ) → length bytes ≤ file_limit → IsThere (insert files file bytes) file bytes
is_there files file bytes within = record { found = put_here files file bytes; within = within }

says_it : (doc : BareDoc) (bytes : List ℕ) → HoldsPlain doc bytes → ◌≡◌ {A = Result DocumentAndHash DocFail} (plain_document bytes) (Ok (doc, None))
unfolding plain_document
says_it doc bytes h = h

-- ---- a document that was written

pub written_again : (plain : Bool) (key_file : Option (List ℕ)) (file : List ℕ) (password : Option (List ℕ)) (files : FileMap) (opened : Opened) (doc : BareDoc) (bytes : List ℕ)
    → key_file ≢ Some file → length bytes ≤ file_limit → Reopens plain key_file file password files opened → HoldsNew opened.sealing doc bytes
    → Reopens plain key_file file password (insert files file bytes) (opened_after opened (Some doc))
written_again true key_file file password files opened doc bytes apart within r holds =
    let h = r.holds in
    let sealings : ◌≡◌ {A = Option Sealing} None (option_map unsalted_sealing opened.sealing) =
    ap (λ (o : Opened). option_map unsalted_sealing o.sealing) h.is ∙ ap (λ (o : Opened). o.sealing) r.alike in
    let none : opened.sealing ≡ None = no_sealing opened.sealing sealings in
    let passed : ◌≡◌ {A = List (List ℕ)} [] opened.passed_over = ap (λ (o : Opened). o.passed_over) h.is ∙ ap (λ (o : Opened). o.passed_over) r.alike in
    let sealed : ◌≡◌ {A = Option Sealing} None (option_map unsalted_sealing (option_map (resealed doc) opened.sealing)) =
    ap (λ (s : Option Sealing). option_map unsalted_sealing (option_map (resealed doc) s)) (sym none) in
    record {
      target = opened_plain doc;
      holds = record {
        bytes = bytes;
        there = is_there files file bytes within;
        read = (doc, None);
        says = says_it doc bytes (subst (λ (s : Option Sealing). HoldsNew s doc bytes) none holds);
        is = refl;
      };
      alike = λ i. record { doc = doc; sealing = sealed i; passed_over = passed i };
    }
written_again false key_file file password files opened doc bytes apart within r holds =
    let h = r.holds in
    let composite : List ℕ = composite_key password h.key in
    let was : Sealing = record { settings = h.vault.settings; composite = composite } in
    let sealings : ◌≡◌ {A = Option Sealing} (Some (unsalted_sealing was)) (option_map unsalted_sealing opened.sealing) =
    ap (λ (o : Opened). option_map unsalted_sealing o.sealing) h.is ∙ ap (λ (o : Opened). o.sealing) r.alike in
    let s = is_sealing was opened.sealing sealings in
    let new : HoldsNew (Some s.sealing) doc bytes = subst (λ (x : Option Sealing). HoldsNew x doc bytes) s.is holds in
    let settings : Settings = settings_for s.sealing.settings doc in
    let vault : FileContents = contents_with settings new.0 doc in
    let passed : ◌≡◌ {A = List (List ℕ)} [] opened.passed_over = ap (λ (o : Opened). o.passed_over) h.is ∙ ap (λ (o : Opened). o.passed_over) r.alike in
    let now : Sealing = record { settings = vault.settings; composite = composite } in
    let sealing : unsalted_sealing now ≡ unsalted_sealing (resealed doc s.sealing) =
    λ i. record { settings = record settings { kdf = salted_again settings.kdf new.0 [] i }; composite = sym s.composite i } in
    let sealed : ◌≡◌ {A = Option Sealing} (Some (unsalted_sealing now)) (option_map unsalted_sealing (option_map (resealed doc) opened.sealing)) =
    ap (λ (x : Sealing). Some x) sealing ∙ ap (λ (x : Option Sealing). option_map unsalted_sealing (option_map (resealed doc) x)) (sym s.is) in
    record {
      target = opened_under composite vault;
      holds = record {
        key = h.key;
        gives_key = keys_stay key_file file files bytes h.key apart h.gives_key;
        bytes = bytes;
        there = is_there files file bytes within;
        vault = vault;
        sealed = subst (λ (c : List ℕ). Sealed bytes c vault) s.composite new.1;
        is = refl;
      };
      alike = λ i. record { doc = doc; sealing = sealed i; passed_over = passed i };
    }
