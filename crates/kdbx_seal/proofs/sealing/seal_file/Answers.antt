use Rattle.std.proofs.Common.{ℕ, ◌+◌, List, length, option_map, ap, ◌∙◌}
use Rattle.std.specs.FinMap as map
use Rattle.outside_core.specs.Files.{FileMap}
use Rattle.vault_model.specs.SeenDoc.{doc_seen}
use Rattle.kdbx_frame.specs.Header.{sums_len}
use Rattle.kdbx_writing.specs.Header.{spelled_header}
use Rattle.kdbx_seal.specs.Answers.{written_document}
use Rattle.kdbx_seal.specs.Made.{document_text}
use Rattle.kdbx_seal.proofs.Refusals.{not_refused, refused}
use Rattle.kdbx_seal.proofs.WrittenDocs.{is_made, is_sealed}
use Rattle.kdbx_seal.proofs.sealing.seal_file.Goals as goal

pub returns-in-Ok-seal_payload-clause-files : goal.returns-in-Ok-seal_payload-clause-files
returns-in-Ok-seal_payload-clause-files g c =
    c.in-Ok-seal_payload.ensures.files
    ∙ ap (λ (bytes : List ℕ). option_map (λ (m : FileMap). map.insert m c.args.name.now bytes) (g.F.FileStore.files c.args.files.now))
    (is_made c.args.settings.now c.args.draws c.args.composite.now (doc_seen c.args.doc.now) c.in-Ok.content c.in-Ok.ensures)

pub returns-in-Ok-seal_payload-clause-sealed : goal.returns-in-Ok-seal_payload-clause-sealed
returns-in-Ok-seal_payload-clause-sealed g c =
    is_sealed c.args.settings.now c.args.draws c.args.composite.now (doc_seen c.args.doc.now) c.in-Ok.content c.in-Ok.ensures
    c.in-Ok-seal_payload.ensures.sealed

pub returns-in-Ok-seal_payload-clause-refusal : goal.returns-in-Ok-seal_payload-clause-refusal
returns-in-Ok-seal_payload-clause-refusal g c =
    let d = doc_seen c.args.doc.now in
    not_refused (written_document c.args.settings.now c.args.draws d) (document_text c.args.settings.now c.args.draws d) (length (spelled_header c.args.settings.now c.args.draws) + sums_len c.args.settings.now.version)
    c.in-Ok.ensures.within c.in-Ok-seal_payload.ensures.end

pub returns-in-Err-seal_payload-clause-refusal : goal.returns-in-Err-seal_payload-clause-refusal
returns-in-Err-seal_payload-clause-refusal g c =
    let d = doc_seen c.args.doc.now in
    refused c.in-Err-seal_payload.refusal c.from-in-Err-seal_payload.result (written_document c.args.settings.now c.args.draws d) (document_text c.args.settings.now c.args.draws d)
    (length (spelled_header c.args.settings.now c.args.draws) + sums_len c.args.settings.now.version) c.from-in-Err-seal_payload.ensures c.in-Ok.ensures.within c.in-Err-seal_payload.ensures.end
