-- After a history no merge of copies is refused because ids clash or moves make a cycle.
use Rattle.std.proofs.Common.{◌≡◌, ℕ, true, inl, inr, List, [], ◌∷◌, ◌++◌, map, refl, sym, ap, subst, ◌∙◌, true≢false}
use Rattle.vault_model.specs.Db.{Db, Sound}
use Rattle.vault_model.specs.Join.{join, IsIn, IsNotEmpty, IsWithin, Agreed}
use Rattle.vault_model.specs.Plans.{World, begin, learned_by}
use Rattle.vault_model.specs.Tree.{BareDoc, IsDoc, db_in}
use Rattle.vault_model.proofs.Tests.{from_map, in_back, in_front}
use Rattle.merge_core.specs.JoinLaws.{AreParts}
use Rattle.merge_core.proofs.PlanLaws.{join_one}
use Rattle.merge_core.proofs.Regroup.{joins_agreed, some_end}
use Rattle.merge_core.proofs.SoundDoc.{document_sound}
use Rattle.agreed_laws.specs.Runs.{docs_of}
use Rattle.history_laws.specs.Current.{current_view}
use Rattle.history_laws.proofs.CurrentAgreed.{agreed_alike}
use Rattle.history_laws.proofs.HistoryLaws.{there}
use Rattle.run_laws.specs.TrimmedRuns.{AreDocEvents, DocEvent, after_doc_event, after_doc_events, growth, joining, overwriting, world_after}
use Rattle.run_laws.proofs.RunLaws.{are_docs, doc_after, runs_join}
use Rattle.cli_needs.specs.declared.command.Command.{Command}
use Rattle.cli_needs.specs.declared.command.Command.TheVariants.{Ls, Show, History, Search, Add, Edit, Restore, ExportAttachment, ImportAttachment, RemoveAttachment, Move, Remove, MakeGroup, RemoveGroup, Merge, Import, Create, Export, EditFile, Info}
use Rattle.cli_commands.specs.Commands.{may_write}
use Rattle.keepass_call.specs.Merges.{IsAgreedMerge, merges}
use Rattle.call_histories.specs.HistoryLaws.{MergesGoOn}
use Rattle.call_conditions.specs.Histories.{disks_at_end, done}
use Rattle.call_histories.proofs.Steps.{sources_are, target_is}

-- ---- what a run leaves

docs_after : (w : World) (xs : List DocEvent) → ((j : ℕ) → IsDoc (w j).doc) → AreDocEvents w xs → (j : ℕ) → IsDoc (after_doc_events w xs j).doc
docs_after w [] doc h = doc
docs_after w (x ∷ xs) doc h = docs_after (after_doc_event w x) xs (doc_after w doc x h.0) h.1

some_after : (w : World) (x : DocEvent) → ((j : ℕ) → IsNotEmpty (w j).learned) → (j : ℕ) → IsNotEmpty (after_doc_event w x j).learned
some_after w (growth i d) some j = there (λ r. IsNotEmpty r.learned) w i (record { doc = d; learned = (w i).learned ++ db_in d ∷ [] }) j (some_end (w i).learned (db_in d ∷ []) (some i)) (some j)
some_after w (joining i js d) some j = there (λ r. IsNotEmpty r.learned) w i (record { doc = d; learned = (w i).learned ++ learned_by w js }) j (some_end (w i).learned (learned_by w js) (some i)) (some j)
some_after w (overwriting i k) some j = there (λ r. IsNotEmpty r.learned) w i (w k) j (some k) (some j)

learned_some : (w : World) (xs : List DocEvent) → ((j : ℕ) → IsNotEmpty (w j).learned) → (j : ℕ) → IsNotEmpty (after_doc_events w xs j).learned
learned_some w [] some = some
learned_some w (x ∷ xs) some = learned_some (after_doc_event w x) xs (some_after w x some)

-- ---- databases that agree, each a part

module _ (S : List Db) (a : Agreed S) where
  one_part : (m : Db) → IsIn m S → (n : Db) → IsIn n (m ∷ []) → IsIn n S
  one_part m h n k = elim k [ inl p ↦ subst (λ (x : Db). IsIn x S) p h | inr z ↦ absurd z ]

  each_part : (ms : List Db) → IsWithin ms S → AreParts (map (λ m. m ∷ []) ms) S
  each_part [] f = tt
  each_part (m ∷ ms) f = ((tt, one_part m (f m (inl refl))), each_part ms (λ n h. f n (inr h)))

  each_join : (ms : List Db) → IsWithin ms S → ms ≡ map join (map (λ m. m ∷ []) ms)
  each_join [] f = refl
  each_join (m ∷ ms) f = ap (λ (n : Db). n ∷ ms) (sym (join_one S a m (f m (inl refl)))) ∙ ap (λ ns. join (m ∷ []) ∷ ns) (each_join ms (λ n h. f n (inr h)))

-- ---- replicas that have learned what is within an agreed set

module _ (S : List Db) (a : Agreed S) (w : World) (doc : (j : ℕ) → IsDoc (w j).doc) (some : (j : ℕ) → IsNotEmpty (w j).learned)
    (same : (j : ℕ) → IsWithin (w j).learned S → current_view (db_in (w j).doc) ≡ current_view (join (w j).learned)) where
  parts : (js : List ℕ) → IsWithin (learned_by w js) S → AreParts (map (λ j. (w j).learned) js) S
  parts [] f = tt
  parts (j ∷ js) f = ((some j, λ m h. f m (in_front (w j).learned (learned_by w js) m h)), parts js (λ m h. f m (in_back (w j).learned (learned_by w js) m h)))

  alike : (js : List ℕ) → IsWithin (learned_by w js) S → map current_view (map db_in (docs_of w js)) ≡ map current_view (map join (map (λ j. (w j).learned) js))
  alike [] f = refl
  alike (j ∷ js) f =
      ap (λ (m : Db). m ∷ map current_view (map db_in (docs_of w js))) (same j (λ m h. f m (in_front (w j).learned (learned_by w js) m h)))
      ∙ ap (λ ms. current_view (join (w j).learned) ∷ ms) (alike js (λ m h. f m (in_back (w j).learned (learned_by w js) m h)))

  docs_agree : (js : List ℕ) → IsWithin (learned_by w js) S → Agreed (map db_in (docs_of w js))
  docs_agree js f =
      agreed_alike (map db_in (docs_of w js)) (map join (map (λ j. (w j).learned) js)) (alike js f)
      (λ m h. let d = from_map db_in (docs_of w js) m h in subst Sound d.1.1 (document_sound d.0 (are_docs w doc js d.0 d.1.0)))
      (joins_agreed S (map (λ j. (w j).learned) js) a (parts js f))

-- a merge may write
merge_writes : (command : Command) → merges command ≡ true → may_write command ≡ true
merge_writes (Ls access file group recursive flat ids) e = absurd (true≢false (sym e))
merge_writes (Show access file entry clear all attachments names totp at) e = absurd (true≢false (sym e))
merge_writes (History access file entry) e = absurd (true≢false (sym e))
merge_writes (Search access file term) e = absurd (true≢false (sym e))
merge_writes (Add access file entry asked) e = refl
merge_writes (Edit access file entry asked further) e = refl
merge_writes (Restore access file entry version) e = refl
merge_writes (ExportAttachment access file entry name to) e = absurd (true≢false (sym e))
merge_writes (ImportAttachment access file entry name source replaces) e = refl
merge_writes (RemoveAttachment access file entry name) e = refl
merge_writes (Move access file node group) e = refl
merge_writes (Remove access file entry) e = refl
merge_writes (MakeGroup access file group) e = refl
merge_writes (RemoveGroup access file group) e = refl
merge_writes (Merge access file names from same dry details) e = e
merge_writes (Import access format source from file) e = refl
merge_writes (Create access file name cipher kdf) e = refl
merge_writes (Export access format file) e = absurd (true≢false (sym e))
merge_writes (EditFile access file change) e = refl
merge_writes (Info access file) e = absurd (true≢false (sym e))

pub merges_go_on : MergesGoOn
merges_go_on copies docs disks es xs r S a c on task is_task m f =
    let w = world_after docs (done xs) in
    let doc : (j : ℕ) → IsDoc (w j).doc = docs_after (begin docs) (done xs) r.run.are_docs r.run.are_doc_events in
    let some : (j : ℕ) → IsNotEmpty (w j).learned = learned_some (begin docs) (done xs) (λ j. tt) in
    let js = c.target ∷ c.sources in
    let dbs = map db_in (docs_of w js) in
    let agreed : Agreed dbs = docs_agree S a w doc some (λ j k. runs_join S docs (done xs) a r.run j k) js f in
    let writes = merge_writes task.command m in
    let target = target_is copies (disks_at_end copies disks es) w r.hold c on task is_task writes in
    let sources = sources_are copies (disks_at_end copies disks es) w r.hold c on task is_task writes in
    let merge : IsAgreedMerge c.words c.time c.world (map (λ m. m ∷ []) dbs) = record {
      task = task;
      is_task = is_task;
      is_merge = m;
      set = dbs;
      agreed = agreed;
      are_parts = each_part dbs agreed dbs (λ n h. h);
      joins = ap (λ (d : BareDoc). map db_in (d ∷ task.sources)) target.doc ∙ ap (λ ss. map db_in ((w c.target).doc ∷ ss)) sources ∙ each_join dbs agreed dbs (λ n h. h);
    } in
    (on.is_call.agreed_merge c.world on.told (map (λ m. m ∷ []) dbs) merge).not_refused
