use Rattle.std.proofs.Common.{ap, Err}
use Rattle.vault_model.specs.SeenDoc.{doc_seen}
use Rattle.vault_model.proofs.DocumentLaws.{is_doc}
use Rattle.cli_sealing.proofs.HeldFiles.{sealed_holds}
use Rattle.cli_sealing.proofs.Sealed.{sealed_so, unsealed_caused, unsealed_draft, unsealed_so}
use Rattle.cli_sealing.proofs.sealing.seal.Goals as goal

pub returns-in-Ok-seal_file-clause-told : goal.returns-in-Ok-seal_file-clause-told
returns-in-Ok-seal_file-clause-told g c = λ truthful d is.
    let drew = c.in-Ok.ensures.told truthful d is in
    sealed_so c.args.name.now c.args.sealing.now.settings c.args.sealing.now.composite (doc_seen c.args.doc.now) d c.in-Ok.draws _ _ _ drew.0 drew.1
    c.in-Ok-seal_file.ensures.refusal (record { files = c.in-Ok-seal_file.ensures.files; draft_name = c.in-Ok-seal_file.ensures.no_draft })

pub returns-in-Ok-seal_file-clause-held : goal.returns-in-Ok-seal_file-clause-held
returns-in-Ok-seal_file-clause-held g c =
    sealed_holds c.args.sealing.now.settings c.in-Ok.draws c.args.sealing.now.composite (doc_seen c.args.doc.now) c.args.name.now _ _
    (is_doc c.args.doc.now) c.in-Ok-seal_file.ensures.writable c.in-Ok-seal_file.ensures.sealed (record { files = c.in-Ok-seal_file.ensures.files; draft_name = c.in-Ok-seal_file.ensures.no_draft })

pub returns-in-Err-seal_file-clause-told : goal.returns-in-Err-seal_file-clause-told
returns-in-Err-seal_file-clause-told g c = λ truthful d is.
    let drew = c.in-Ok.ensures.told truthful d is in
    unsealed_so c.in-Err-seal_file.fail c.unsealed.result c.args.name.now c.args.sealing.now.settings c.args.sealing.now.composite (doc_seen c.args.doc.now) d c.in-Ok.draws _ _ _
    c.unsealed.ensures.is drew.0 drew.1 c.in-Err-seal_file.ensures.refusal
    (λ n e. record {
      files = ap g.F.FileStore.files (c.in-Err-seal_file.ensures.too_many n (ap Err e));
      draft_name = ap g.F.FileStore.draft_name (c.in-Err-seal_file.ensures.too_many n (ap Err e));
      draft_bytes = ap g.F.FileStore.draft_bytes (c.in-Err-seal_file.ensures.too_many n (ap Err e));
    })
    (λ n e. record {
      files = ap g.F.FileStore.files (c.in-Err-seal_file.ensures.too_large n (ap Err e));
      draft_name = ap g.F.FileStore.draft_name (c.in-Err-seal_file.ensures.too_large n (ap Err e));
      draft_bytes = ap g.F.FileStore.draft_bytes (c.in-Err-seal_file.ensures.too_large n (ap Err e));
    })

pub returns-in-Err-seal_file-clause-draft : goal.returns-in-Err-seal_file-clause-draft
returns-in-Err-seal_file-clause-draft g c =
    unsealed_draft c.in-Err-seal_file.fail _ _ c.in-Err-seal_file.ensures.no_draft
    (λ n e. record {
      files = ap g.F.FileStore.files (c.in-Err-seal_file.ensures.too_many n (ap Err e));
      draft_name = ap g.F.FileStore.draft_name (c.in-Err-seal_file.ensures.too_many n (ap Err e));
      draft_bytes = ap g.F.FileStore.draft_bytes (c.in-Err-seal_file.ensures.too_many n (ap Err e));
    })
    (λ n e. record {
      files = ap g.F.FileStore.files (c.in-Err-seal_file.ensures.too_large n (ap Err e));
      draft_name = ap g.F.FileStore.draft_name (c.in-Err-seal_file.ensures.too_large n (ap Err e));
      draft_bytes = ap g.F.FileStore.draft_bytes (c.in-Err-seal_file.ensures.too_large n (ap Err e));
    })

pub returns-in-Err-seal_file-clause-kept : goal.returns-in-Err-seal_file-clause-kept
returns-in-Err-seal_file-clause-kept g c = record {
  files = c.in-Err-seal_file.ensures.files;
  draft = unsealed_draft c.in-Err-seal_file.fail _ _ c.in-Err-seal_file.ensures.no_draft
      (λ n e. record {
        files = ap g.F.FileStore.files (c.in-Err-seal_file.ensures.too_many n (ap Err e));
        draft_name = ap g.F.FileStore.draft_name (c.in-Err-seal_file.ensures.too_many n (ap Err e));
        draft_bytes = ap g.F.FileStore.draft_bytes (c.in-Err-seal_file.ensures.too_many n (ap Err e));
      })
      (λ n e. record {
        files = ap g.F.FileStore.files (c.in-Err-seal_file.ensures.too_large n (ap Err e));
        draft_name = ap g.F.FileStore.draft_name (c.in-Err-seal_file.ensures.too_large n (ap Err e));
        draft_bytes = ap g.F.FileStore.draft_bytes (c.in-Err-seal_file.ensures.too_large n (ap Err e));
      });
}

pub returns-in-Err-seal_file-clause-cause : goal.returns-in-Err-seal_file-clause-cause
returns-in-Err-seal_file-clause-cause g c =
    unsealed_caused c.in-Err-seal_file.fail c.unsealed.result _ _ _ _ _ c.unsealed.ensures.is (λ e. c.in-Err-seal_file.ensures.faults.rose (ap Err e))
