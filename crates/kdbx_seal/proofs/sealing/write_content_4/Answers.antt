use Rattle.std.proofs.Common.{ℕ, List, ◌++◌, None, ap, arith, ◌∙◌, map}
use Rattle.stream_core.specs.InnerStream.{keystream}
use Rattle.vault_model.specs.SeenDoc.{doc_seen}
use Rattle.vault_model.specs.declared.forms.DocForm.TheVariants.{V4}
use Rattle.doc_spelling.specs.Documents.{spelled_document}
use Rattle.kdbx_inner.specs.Seen.{binary_seen}
use Rattle.kdbx_writing.specs.Inner.{spelled_inner}
use Rattle.kdbx_seal.specs.PayloadMade.{chacha_keystream}
use Rattle.kdbx_seal.proofs.WrittenDocs.{content_limit, inner_is, is_written, items_fit, text_len}
use Rattle.kdbx_seal.proofs.sealing.write_content_4.Goals as goal

pub inner_len-requires : goal.inner_len-requires
inner_len-requires c =
    omega (arith, content_limit c.args.draws.now (doc_seen c.args.doc.now) c.requires c.bytes-key.result.now c.bytes-key.ensures c.in_ok-pool.pool c.in_ok-pool.ensures c.items.result.now c.items.ensures c.in_ok-len.len c.in_ok-len.ensures.text)

pub overflow_add-room : goal.overflow_add-room
overflow_add-room c =
    omega (arith, c.inner_len.ensures, content_limit c.args.draws.now (doc_seen c.args.doc.now) c.requires c.bytes-key.result.now c.bytes-key.ensures c.in_ok-pool.pool c.in_ok-pool.ensures c.items.result.now c.items.ensures c.in_ok-len.len c.in_ok-len.ensures.text)

pub overflow_add-room-2 : goal.overflow_add-room-2
overflow_add-room-2 c =
    omega (arith, c.inner_len.ensures, content_limit c.args.draws.now (doc_seen c.args.doc.now) c.requires c.bytes-key.result.now c.bytes-key.ensures c.in_ok-pool.pool c.in_ok-pool.ensures c.items.result.now c.items.ensures c.in_ok-len.len c.in_ok-len.ensures.text)

pub write_inner-requires-clause-small : goal.write_inner-requires-clause-small
write_inner-requires-clause-small c =
    items_fit c.args.draws.now (doc_seen c.args.doc.now) c.requires c.bytes-key.result.now c.bytes-key.ensures c.in_ok-pool.pool c.in_ok-pool.ensures c.items-2.result.now c.items-2.ensures c.in_ok-len.len c.in_ok-len.ensures.text

pub write_inner-requires-clause-spare : goal.write_inner-requires-clause-spare
write_inner-requires-clause-spare c =
    omega (
      arith,
      c.in_ok-content.ensures.spare,
      c.inner_len.ensures,
      inner_is c.args.draws.now (doc_seen c.args.doc.now) c.requires c.bytes-key.result.now c.bytes-key.ensures c.in_ok-pool.pool c.in_ok-pool.ensures c.items.result.now c.items.ensures c.in_ok-len.len c.in_ok-len.ensures.text,
      inner_is c.args.draws.now (doc_seen c.args.doc.now) c.requires c.bytes-key.result.now c.bytes-key.ensures c.in_ok-pool.pool c.in_ok-pool.ensures c.items-2.result.now c.items-2.ensures c.in_ok-len.len c.in_ok-len.ensures.text,
    )

pub append_doc-requires-clause-room : goal.append_doc-requires-clause-room
append_doc-requires-clause-room c =
    omega (
      arith,
      c.write_inner.ensures.spare,
      c.in_ok-content.ensures.spare,
      c.inner_len.ensures,
      text_len c.args.draws.now (doc_seen c.args.doc.now) c.requires c.bytes-key.result.now c.bytes-key.ensures c.in_ok-pool.pool c.in_ok-pool.ensures c.items-2.result.now c.items-2.ensures c.in_ok-len.len c.in_ok-len.ensures.text (keystream c.chacha_of-stream.result),
      inner_is c.args.draws.now (doc_seen c.args.doc.now) c.requires c.bytes-key.result.now c.bytes-key.ensures c.in_ok-pool.pool c.in_ok-pool.ensures c.items.result.now c.items.ensures c.in_ok-len.len c.in_ok-len.ensures.text,
      inner_is c.args.draws.now (doc_seen c.args.doc.now) c.requires c.bytes-key.result.now c.bytes-key.ensures c.in_ok-pool.pool c.in_ok-pool.ensures c.items-2.result.now c.items-2.ensures c.in_ok-len.len c.in_ok-len.ensures.text,
    )

pub returns : goal.returns
returns c =
    let k = keystream c.chacha_of-stream.result in
    let inner = spelled_inner c.bytes-key.result.now (map binary_seen c.items-2.result.now) in
    let text = spelled_document V4 k None (doc_seen c.args.doc.now) in
    is_written c.args.draws.now (doc_seen c.args.doc.now) c.requires c.bytes-key.result.now c.bytes-key.ensures c.in_ok-pool.pool c.in_ok-pool.ensures c.items-2.result.now c.items-2.ensures c.in_ok-len.len c.in_ok-len.ensures.text c.append_doc.result k
    (c.chacha_of-stream.ensures.keystream ∙ ap chacha_keystream c.bytes-key.ensures)
    (c.append_doc.ensures.bytes ∙ ap (λ (b : List ℕ). b ++ text) (c.write_inner.ensures.bytes ∙ ap (λ (b : List ℕ). b ++ inner) c.in_ok-content.ensures.bytes))
    (omega (
      arith,
      c.append_doc.ensures.spare,
      c.write_inner.ensures.spare,
      c.in_ok-content.ensures.spare,
      c.inner_len.ensures,
      text_len c.args.draws.now (doc_seen c.args.doc.now) c.requires c.bytes-key.result.now c.bytes-key.ensures c.in_ok-pool.pool c.in_ok-pool.ensures c.items-2.result.now c.items-2.ensures c.in_ok-len.len c.in_ok-len.ensures.text k,
      inner_is c.args.draws.now (doc_seen c.args.doc.now) c.requires c.bytes-key.result.now c.bytes-key.ensures c.in_ok-pool.pool c.in_ok-pool.ensures c.items.result.now c.items.ensures c.in_ok-len.len c.in_ok-len.ensures.text,
      inner_is c.args.draws.now (doc_seen c.args.doc.now) c.requires c.bytes-key.result.now c.bytes-key.ensures c.in_ok-pool.pool c.in_ok-pool.ensures c.items-2.result.now c.items-2.ensures c.in_ok-len.len c.in_ok-len.ensures.text,
    ))
    c.in_ok-len.ensures.writable
