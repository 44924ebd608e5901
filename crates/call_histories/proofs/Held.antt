-- What the files of copies hold, and what a call that opens them is given.
use Rattle.std.proofs.Common.{◌≡◌, ◌≢◌, ◌<◌, ◌⊎◌, ℕ, Bool, true, false, cond, inl, inr, List, [], ◌∷◌, Option, Some, None, Result, Ok, Err, map, nat_eq, refl, sym, ap, subst, ◌∙◌, true≢false}
use Rattle.std.specs.Prelude.{option_map}
use Rattle.std.proofs.lemmas.Bool.{eq-eqb, eqb-true}
use Rattle.std.proofs.lemmas.Option.{same_Some}
use Rattle.std.specs.FinMap.{get, get-insert, insert}
use Rattle.outside_core.specs.Files.{FileMap}
use Rattle.key_core.specs.Keys.{composite_key}
use Rattle.stream_core.specs.InnerStream.{NoKeystream}
use Rattle.vault_model.specs.Join.{is_id}
use Rattle.vault_model.specs.Plans.{Replica, put}
use Rattle.vault_model.specs.Plans as plans
use Rattle.vault_model.specs.Tree.{BareDoc, IsDoc}
use Rattle.vault_model.specs.declared.forms.DocForm.TheVariants.{Plain}
use Rattle.vault_model.proofs.Ids.{id_itself, same_id}
use Rattle.vault_model.proofs.Orders.{bytes_order}
use Rattle.vault_model.proofs.Tests.{is_false}
use Rattle.agreed_laws.specs.Runs.{docs_of}
use Rattle.doc_forms.specs.Documents.{DocumentAndHash, document}
use Rattle.doc_forms.specs.ElementTexts.{Setting}
use Rattle.doc_forms.specs.declared.fails.DocFail.{DocFail}
use Rattle.doc_read.proofs.ReadDocuments.{read_is_doc}
use Rattle.kdbx_frame.specs.Forms.{form_of}
use Rattle.kdbx_frame.specs.declared.sealings.Sealing.{Sealing}
use Rattle.kdbx_open.specs.Documents.{attachment, document_or_refusal}
use Rattle.kdbx_open.specs.Opening.{FileContents}
use Rattle.kdbx_open.specs.declared.fail.OpenFail.{OpenFail}
use Rattle.kdbx_open.proofs.SealedFiles.{one_vault}
use Rattle.cli_needs.specs.declared.command.Access.{Access}
use Rattle.cli_files.specs.Files.{Opened, plain_document}
use Rattle.cli_databases.specs.Databases.{password_from}
use Rattle.cli_databases.specs.Held.{HoldAll, HoldsBy}
use Rattle.cli_writing.specs.Writing.{IsSame, Store}
use Rattle.cli_sealing.specs.Held.{contents_with}
use Rattle.cli_sealing.specs.Sealing.{settings_for}
use Rattle.call_run.specs.Endings.{HoldsNew, ReadsBackSo, Stores, Targets, attachment_file}
use Rattle.call_conditions.specs.Copies.{AreApart, AreOpened, CallSeen, Copies, CopyHolds, Disks, HoldsDoc, IsKeyOf, IsOpened}
use Rattle.call_conditions.specs.Histories.{put_files}

-- ---- bytes

one_read : (a b : DocumentAndHash) → ◌≡◌ {A = Result DocumentAndHash DocFail} (Ok a) (Ok b) → a ≡ b
one_read a b h = cc h

-- bytes hold one document under a key
pub one_doc : (key : Option (List ℕ)) (bytes : List ℕ) (d e : BareDoc) → HoldsDoc key d bytes → HoldsDoc key e bytes → d ≡ e
one_doc None bytes d e h k = sym h.1.1 ∙ ap (λ (r : DocumentAndHash). r.0) (one_read h.0 k.0 (sym h.1.0 ∙ k.1.0)) ∙ k.1.1
one_doc (Some composite) bytes d e h k = sym h.1.1 ∙ ap (λ (v : FileContents). v.doc) (one_vault bytes composite h.0 k.0 h.1.0 k.1.0) ∙ k.1.1

plain_is_doc : (bytes : List ℕ) (read : DocumentAndHash) → plain_document bytes ≡ Ok read → IsDoc read.0
unfolding plain_document
plain_is_doc bytes read h = read_is_doc (record { form = Plain; keystream = NoKeystream }) [] bytes read h

of_read : (result : DocumentAndHash) (r : Result DocumentAndHash DocFail) → ((read : DocumentAndHash) → r ≡ Ok read → IsDoc read.0) → document_or_refusal r ≡ Ok result → IsDoc result.0
of_read result (Ok read) is h =
    let same : ◌≡◌ {A = Result DocumentAndHash OpenFail} (Ok read) (Ok result) → read ≡ result = λ e. cc e in
    subst (λ (one : DocumentAndHash). IsDoc one.0) (same h) (is read refl)
of_read result (Err fail) is h = cc h

-- what bytes hold keeps what every document keeps
pub held_is_doc : (key : Option (List ℕ)) (bytes : List ℕ) (d : BareDoc) → HoldsDoc key d bytes → IsDoc d
held_is_doc None bytes d h = subst IsDoc h.1.1 (plain_is_doc bytes h.0 h.1.0)
held_is_doc (Some composite) bytes d h =
    let s = h.1.0 in
    let setting : Setting = record { form = form_of s.payload.settings.version; keystream = s.payload.stream } in
    subst IsDoc (s.doc ∙ h.1.1) (of_read s.read (document setting (map attachment s.payload.pool) s.payload.text)
    (λ read e. read_is_doc setting (map attachment s.payload.pool) s.payload.text read e) s.document)

-- the key that a database is sealed under
abbrev pub key_in : Option Sealing → Option (List ℕ)
key_in None = None
key_in (Some sealing) = Some sealing.composite

holds_new : (sealing : Option Sealing) (doc : BareDoc) (bytes : List ℕ) → HoldsNew sealing doc bytes → HoldsDoc (key_in sealing) doc bytes
unfolding plain_document
holds_new None doc bytes h = ((doc, None), (h, refl))
holds_new (Some sealing) doc bytes h = (contents_with (settings_for sealing.settings doc) h.0 doc, (h.1, refl))

-- ---- what is opened

-- A file holds this under a key.
pub record IsHeld (files : FileMap) (name : List ℕ) (key : Option (List ℕ)) (d : BareDoc) : Type 0 where
  pub bytes : List ℕ
  pub found : get files name ≡ Some bytes
  pub holds : HoldsDoc key d bytes

-- What is opened is what the file holds, under its key.
pub record IsThat (key : Option (List ℕ)) (d : BareDoc) (opened : Opened) : Type 0 where
  pub doc : opened.doc ≡ d
  pub under : key_in opened.sealing ≡ key

pub opened_is : (plain : Bool) (key_file : Option (List ℕ)) (name : List ℕ) (password : Option (List ℕ)) (files : FileMap) (opened : Opened) (key : Option (List ℕ)) (d : BareDoc)
    → HoldsBy plain key_file name password files opened → IsKeyOf plain key_file password files key → IsHeld files name key d → IsThat key d opened
opened_is true key_file name password files opened key d h k held =
    let same : h.bytes ≡ held.bytes = same_Some h.bytes held.bytes (sym h.there.found ∙ held.found) in
    let here : HoldsDoc None h.read.0 h.bytes = (h.read, (h.says, refl)) in
    let there : HoldsDoc None d h.bytes = subst (λ (b : List ℕ). HoldsDoc None d b) (sym same) (subst (λ (o : Option (List ℕ)). HoldsDoc o d held.bytes) k held.holds) in
    record {
      doc = ap (λ (o : Opened). o.doc) (sym h.is) ∙ one_doc None h.bytes h.read.0 d here there;
      under = ap (λ (o : Opened). key_in o.sealing) (sym h.is) ∙ sym k;
    }
opened_is false key_file name password files opened key d h k held =
    let same : h.bytes ≡ held.bytes = same_Some h.bytes held.bytes (sym h.there.found ∙ held.found) in
    let composite = composite_key password h.key in
    let is : key ≡ Some composite = k h.key h.gives_key in
    let here : HoldsDoc (Some composite) h.vault.doc h.bytes = (h.vault, (h.sealed, refl)) in
    let there : HoldsDoc (Some composite) d h.bytes =
    subst (λ (b : List ℕ). HoldsDoc (Some composite) d b) (sym same) (subst (λ (o : Option (List ℕ)). HoldsDoc o d held.bytes) is held.holds) in
    record {
      doc = ap (λ (o : Opened). o.doc) (sym h.is) ∙ one_doc (Some composite) h.bytes h.vault.doc d here there;
      under = ap (λ (o : Opened). key_in o.sealing) (sym h.is) ∙ sym is;
    }

module _ (copies : Copies) (c : CallSeen) (w : plans.World)
    (held : (i : ℕ) → i < copies.count → (copies.copy i).disk ≡ c.disk → IsHeld c.world.files (copies.copy i).name (copies.copy i).key (w i).doc) where
  pub copy_opened : (access : Access) (password : Option (List ℕ)) (name : List ℕ) (i : ℕ) (opened : Opened) → HoldsBy access.plain access.key_file name password c.world.files opened
      → IsOpened copies c access password name i → IsThat (copies.copy i).key (w i).doc opened
  copy_opened access password name i opened h o =
      opened_is access.plain access.key_file name password c.world.files opened (copies.copy i).key (w i).doc h o.key
      (subst (λ (n : List ℕ). IsHeld c.world.files n (copies.copy i).key (w i).doc) o.named (held i o.there o.disk))

  pub copies_opened : (from : Access) (same : Bool) (target : Option (List ℕ)) (names : List (List ℕ)) (lines : List (Option (List ℕ))) (is : List ℕ) (docs : List BareDoc)
      → HoldAll from same target names lines c.world.files docs → AreOpened copies c from same target names lines is → docs ≡ docs_of w is
  copies_opened from same target [] lines [] [] h o = refl
  copies_opened from same target [] lines (i ∷ is) docs h o = absurd o
  copies_opened from same target [] lines [] (doc ∷ docs) h o = absurd h
  copies_opened from same target (name ∷ names) [] is docs h o = absurd o
  copies_opened from same target (name ∷ names) (line ∷ lines) [] docs h o = absurd o
  copies_opened from same target (name ∷ names) (line ∷ lines) (i ∷ is) [] h o = absurd h
  copies_opened from same target (name ∷ names) (line ∷ lines) (i ∷ is) (doc ∷ docs) h o =
      let one = copy_opened from (password_from same target line) name i h.0.opened h.0.holds o.0 in
      let rest = copies_opened from same target names lines is docs h.1 o.1 in
      ap (λ (d : BareDoc). d ∷ docs) (sym h.0.is ∙ one.doc) ∙ ap (λ ds. (w i).doc ∷ ds) rest

-- ---- what is written

-- files of other names stay where one is put beside them
one_put : (files : FileMap) (name bytes other : List ℕ) → other ≢ name → get (insert files name bytes) other ≡ get files other
one_put files name bytes other off =
    get-insert bytes_order.total files name bytes other
    ∙ ap (λ b. cond b (Some bytes) (get files other)) (is_false (is_id other name) (λ q. off (same_id other name q)))

-- The files hold this, and those of other names are as before.
pub record IsWritten (name : List ℕ) (key : Option (List ℕ)) (d : BareDoc) (before : FileMap) (now : Store) : Type 0 where
  pub files : FileMap
  pub are : now.files ≡ Some files
  pub held : IsHeld files name key d
  pub others : (other : List ℕ) → other ≢ name → get files other ≡ get before other

module _ (targets : Targets) (sealing : Option Sealing) (t e : BareDoc) (files : FileMap) (before now : Store) (are : before.files ≡ Some files) (held : IsHeld files targets.database (key_in sealing) t) where
  same_files : IsSame before now → t ≡ e → IsWritten targets.database (key_in sealing) e files now
  same_files h is = record {
    files = files;
    are = h.files ∙ are;
    held = subst (λ (d : BareDoc). IsHeld files targets.database (key_in sealing) d) is held;
    others = λ other off. refl;
  }

  new_files : (attachment : Option (List ℕ)) → ReadsBackSo targets sealing (Some e) attachment before now → IsWritten targets.database (key_in sealing) e files now
  new_files attachment h =
      let name = targets.database in
      record {
        files = insert files name h.bytes;
        are = h.alone.files ∙ ap (option_map (λ (m : FileMap). insert m name h.bytes)) are;
        held = record {
          bytes = h.bytes;
          found = get-insert bytes_order.total files name h.bytes name ∙ ap (λ b. cond b (Some h.bytes) (get files name)) (id_itself name);
          holds = holds_new sealing e h.bytes h.holds;
        };
        others = one_put files name h.bytes;
      }

  -- no attachment is taken out
  stays : (attachment : Option (List ℕ)) → Stores (attachment_file None attachment) before now → IsSame before now
  stays None h = h
  stays (Some bytes) h = h

  pub written : (doc : Option BareDoc) (attachment : Option (List ℕ)) → targets.attachment ≡ None → (doc ≡ Some e) ⊎ ((doc ≡ None) × (t ≡ e))
      → ReadsBackSo targets sealing doc attachment before now → IsWritten targets.database (key_in sealing) e files now
  written doc attachment none (inl is) h = new_files attachment (subst (λ (o : Option BareDoc). ReadsBackSo targets sealing o attachment before now) is h)
  written doc attachment none (inr is) h =
      same_files (stays attachment (subst (λ (o : Option (List ℕ)). Stores (attachment_file o attachment) before now) none
      (subst (λ (o : Option BareDoc). ReadsBackSo targets sealing o attachment before now) is.0 h))) is.1

-- Files of other names than this are as before.
pub record IsBeside (name : List ℕ) (before : FileMap) (now : Store) : Type 0 where
  pub files : FileMap
  pub are : now.files ≡ Some files
  pub others : (other : List ℕ) → other ≢ name → get files other ≡ get before other

-- so they are where an attachment is taken out into a file of this name
pub taken_out : (name : List ℕ) (attachment : Option (List ℕ)) (files : FileMap) (before now : Store) → before.files ≡ Some files → Stores (attachment_file (Some name) attachment) before now
    → IsBeside name files now
taken_out name None files before now are h = record { files = files; are = h.files ∙ are; others = λ other off. refl }
taken_out name (Some bytes) files before now are h = record {
  files = insert files name bytes;
  are = h.files ∙ ap (option_map (λ (m : FileMap). insert m name bytes)) are;
  others = one_put files name bytes;
}

-- ---- the files of all disks

there_now : (disks : Disks) (m k : ℕ) (files : FileMap) → k ≡ m → put_files disks m files k ≡ files
there_now disks m k files e = ap (λ b. cond b files (disks k)) (eq-eqb k m e)

as_before : (disks : Disks) (m k : ℕ) (files : FileMap) → k ≢ m → put_files disks m files k ≡ disks k
as_before disks m k files e = ap (λ b. cond b files (disks k)) (is_false (nat_eq k m) (λ t. e (eqb-true k m t)))

-- two numbers are one, or not
pub either : (k m : ℕ) → (k ≡ m) ⊎ (k ≢ m)
either k m = by (nat_eq k m) refl
  where
    by : (b : Bool) → nat_eq k m ≡ b → (k ≡ m) ⊎ (k ≢ m)
    by true t = inl (eqb-true k m t)
    by false t = inr (λ e. true≢false (sym (eq-eqb k m e) ∙ t))

module _ (copies : Copies) (disks : Disks) (w : plans.World) (hold : (k : ℕ) → k < copies.count → CopyHolds disks (copies.copy k) (w k).doc) where
  -- the files of copies on one disk are those of before
  pub kept : (m : ℕ) (files : FileMap)
      → ((k : ℕ) → k < copies.count → (copies.copy k).disk ≡ m → get files (copies.copy k).name ≡ get (disks m) (copies.copy k).name)
      → (k : ℕ) → k < copies.count → CopyHolds (put_files disks m files) (copies.copy k) (w k).doc
  kept m files same k less =
      let h = hold k less in
      record {
        bytes = h.bytes;
        found = elim (either (copies.copy k).disk m) [
          | inl e ↦
              ap (λ (f : FileMap). get f (copies.copy k).name) (there_now disks m (copies.copy k).disk files e) ∙ same k less e
              ∙ ap (λ (j : ℕ). get (disks j) (copies.copy k).name) (sym e) ∙ h.found
          | inr off ↦ ap (λ (f : FileMap). get f (copies.copy k).name) (as_before disks m (copies.copy k).disk files off) ∙ h.found
        ];
        holds = h.holds;
      }

  -- or all but one of them are, which holds another document
  pub changed : AreApart copies → (i : ℕ) → i < copies.count → (m : ℕ) → (copies.copy i).disk ≡ m → (files : FileMap) (r : Replica)
      → IsHeld files (copies.copy i).name (copies.copy i).key r.doc
      → ((k : ℕ) → k < copies.count → (copies.copy k).disk ≡ m → (copies.copy k).name ≢ (copies.copy i).name → get files (copies.copy k).name ≡ get (disks m) (copies.copy k).name)
      → (k : ℕ) → k < copies.count → CopyHolds (put_files disks m files) (copies.copy k) (put w i r k).doc
  changed apart i there m on files r held others k less =
      elim (either k i) [
        | inl e ↦
            subst (λ (x : Replica). CopyHolds (put_files disks m files) (copies.copy k) x.doc) (sym (ap (λ b. cond b r (w k)) (eq-eqb k i e)))
            (subst (λ (j : ℕ). CopyHolds (put_files disks m files) (copies.copy j) r.doc) (sym e) (record {
              bytes = held.bytes;
              found = ap (λ (f : FileMap). get f (copies.copy i).name) (there_now disks m (copies.copy i).disk files on) ∙ held.found;
              holds = held.holds;
            }))
        | inr off ↦
            subst (λ (x : Replica). CopyHolds (put_files disks m files) (copies.copy k) x.doc) (sym (ap (λ b. cond b r (w k)) (is_false (nat_eq k i) (λ t. off (eqb-true k i t)))))
            (other k less off)
      ]
    where
      other : (k : ℕ) → k < copies.count → k ≢ i → CopyHolds (put_files disks m files) (copies.copy k) (w k).doc
      other k less off =
          let h = hold k less in
          record {
            bytes = h.bytes;
            found = elim (either (copies.copy k).disk m) [
              | inl e ↦
                  ap (λ (f : FileMap). get f (copies.copy k).name) (there_now disks m (copies.copy k).disk files e)
                  ∙ others k less e (λ n. off (apart k i less there (e ∙ sym on) n))
                  ∙ ap (λ (j : ℕ). get (disks j) (copies.copy k).name) (sym e) ∙ h.found
              | inr away ↦ ap (λ (f : FileMap). get f (copies.copy k).name) (as_before disks m (copies.copy k).disk files away) ∙ h.found
            ];
            holds = h.holds;
          }
