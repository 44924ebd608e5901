use Rattle.std.specs.Option.{option_copied}
use Rattle.std.proofs.Common.{ℕ, List, ◌++◌, Ok, ap, arith, sym, ◌∙◌}
use Rattle.doc_spelling.specs.Documents.{spelled_document}
use Rattle.stream_core.specs.InnerStream.{Keystream, keystream}
use Rattle.vault_model.specs.SeenDoc.{doc_seen}
use Rattle.doc_write.proofs.writing.write_doc.Goals as goal

pub append_doc-requires-clause-limit : goal.append_doc-requires-clause-limit
append_doc-requires-clause-limit c =
    let m = c.in-Ok.ensures.text (keystream c.replace-stream.result) in
    omega (arith, m.text, m.limit)

pub returns-clause-text : goal.returns-clause-text
returns-clause-text c =
    let hash = option_copied c.args.header_hash in
    let d = doc_seen c.args.doc.now in
    let text : Keystream → List ℕ = λ k. spelled_document c.args.form k hash d in
    let m = c.in-Ok.ensures.text (keystream c.args.stream.now) in
    m.outcome
    ∙ ap Ok (sym (c.append_doc.ensures.bytes
    ∙ ap (λ (b : List ℕ). b ++ text (keystream c.replace-stream.result)) c.in-Ok-with_room.ensures.bytes
    ∙ ap text (ap keystream c.replace-stream.ensures.value)))
