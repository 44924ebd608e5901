use Rattle.std.proofs.Common.{◌≡◌, ℕ, ◌+◌, List, ◌++◌, length, replicate, Some, refl, ap, ◌∙◌, arith}
use Rattle.std.proofs.lemmas.List.{length-replicate}
use Rattle.stream_core.specs.InnerStream.{keystream}
use Rattle.vault_model.specs.SeenDoc.{doc_seen}
use Rattle.vault_model.specs.declared.forms.DocForm.TheVariants.{V3}
use Rattle.doc_spelling.specs.Documents.{spelled_document}
use Rattle.kdbx_blocks.specs.Pieces.{hashed_heads_len, hashed_to_end, pieces}
use Rattle.kdbx_seal.specs.PayloadMade.{salsa_keystream}
use Rattle.kdbx_seal.proofs.HashedDocs.{hashed_text_len, is_hashed, len_limit, parts_are, parts_len, split_is}
use Rattle.kdbx_seal.proofs.sealing.write_hashed.Goals as goal

pub hashed_heads_len-requires : goal.hashed_heads_len-requires
hashed_heads_len-requires c =
    omega (arith, len_limit c.args.draws.now (doc_seen c.args.doc.now) c.args.hash.now c.in_ok-len.len c.in_ok-len.ensures.text)

pub overflow_add-room : goal.overflow_add-room
overflow_add-room c =
    omega (arith, c.hashed_heads_len.ensures, len_limit c.args.draws.now (doc_seen c.args.doc.now) c.args.hash.now c.in_ok-len.len c.in_ok-len.ensures.text)

pub overflow_add-room-2 : goal.overflow_add-room-2
overflow_add-room-2 c =
    omega (arith, c.hashed_heads_len.ensures, len_limit c.args.draws.now (doc_seen c.args.doc.now) c.args.hash.now c.in_ok-len.len c.in_ok-len.ensures.text)

pub overflow_add-room-3 : goal.overflow_add-room-3
overflow_add-room-3 c =
    omega (arith, c.hashed_heads_len.ensures, len_limit c.args.draws.now (doc_seen c.args.doc.now) c.args.hash.now c.in_ok-len.len c.in_ok-len.ensures.text)

pub put_hashed_room-requires-clause-limit : goal.put_hashed_room-requires-clause-limit
put_hashed_room-requires-clause-limit c =
    omega (arith, len_limit c.args.draws.now (doc_seen c.args.doc.now) c.args.hash.now c.in_ok-len.len c.in_ok-len.ensures.text)

pub put_hashed_room-requires-clause-spare : goal.put_hashed_room-requires-clause-spare
put_hashed_room-requires-clause-spare c =
    omega (arith, c.extend.ensures.spare, c.in_ok-content.ensures.spare, c.hashed_heads_len.ensures, ap length c.bytes.ensures, c.requires.start)

pub append_doc-content-requires-clause-limit : goal.append_doc-content-requires-clause-limit
append_doc-content-requires-clause-limit c =
    let d = doc_seen c.args.doc.now in
    omega (
      arith,
      len_limit c.args.draws.now d c.args.hash.now c.in_ok-len.len c.in_ok-len.ensures.text,
      hashed_text_len c.args.draws.now d c.args.hash.now c.in_ok-len.len c.in_ok-len.ensures.text (keystream c.salsa_of-stream.result),
    )

pub append_doc-content-requires-clause-room : goal.append_doc-content-requires-clause-room
append_doc-content-requires-clause-room c =
    omega (
      arith,
      c.put_hashed_room.ensures.spare,
      c.extend.ensures.spare,
      c.in_ok-content.ensures.spare,
      c.hashed_heads_len.ensures,
      ap length c.bytes.ensures,
      c.requires.start,
      hashed_text_len c.args.draws.now (doc_seen c.args.doc.now) c.args.hash.now c.in_ok-len.len c.in_ok-len.ensures.text (keystream c.salsa_of-stream.result),
    )

pub split_hashed-requires-clause-limit : goal.split_hashed-requires-clause-limit
split_hashed-requires-clause-limit c =
    omega (arith, len_limit c.args.draws.now (doc_seen c.args.doc.now) c.args.hash.now c.in_ok-len.len c.in_ok-len.ensures.text)

pub split_hashed-requires-clause-room : goal.split_hashed-requires-clause-room
split_hashed-requires-clause-room c =
    let k = keystream c.salsa_of-stream.result in
    let start = c.bytes.result.now in
    let heads = hashed_heads_len c.in_ok-len.len in
    let zeros : List ℕ = replicate heads 0 in
    let text = spelled_document V3 k (Some c.args.hash.now) (doc_seen c.args.doc.now) in
    let start_len : length start ≡ 32 = ap length c.bytes.ensures ∙ c.requires.start in
    let is = parts_are _ _ _ _ start zeros text c.in_ok-content.ensures.bytes c.extend.ensures.bytes c.put_hashed_room.ensures.bytes c.append_doc-content.ensures.bytes in
    ap length is ∙ parts_len start zeros text heads start_len (length-replicate heads 0)
    ∙ ap (λ (n : ℕ). 32 + heads + n) (hashed_text_len c.args.draws.now (doc_seen c.args.doc.now) c.args.hash.now c.in_ok-len.len c.in_ok-len.ensures.text k)

pub returns : goal.returns
returns c =
    let draws = c.args.draws.now in
    let d = doc_seen c.args.doc.now in
    let hash = c.args.hash.now in
    let k = keystream c.salsa_of-stream.result in
    let start = c.bytes.result.now in
    let heads = hashed_heads_len c.in_ok-len.len in
    let zeros : List ℕ = replicate heads 0 in
    let text = spelled_document V3 k (Some hash) d in
    let start_len : length start ≡ 32 = ap length c.bytes.ensures ∙ c.requires.start in
    let is = parts_are _ _ _ _ start zeros text c.in_ok-content.ensures.bytes c.extend.ensures.bytes c.put_hashed_room.ensures.bytes c.append_doc-content.ensures.bytes in
    is_hashed draws d hash c.in_ok-len.len c.in_ok-len.ensures.text c.split_hashed.new.payload text k
    (c.salsa_of-stream.ensures.keystream ∙ ap salsa_keystream c.bytes-2.ensures)
    (split_is start zeros text heads start_len (length-replicate heads 0) _ c.split_hashed.new.payload.bytes is c.split_hashed.ensures.blocks
    ∙ ap (λ (xs : List ℕ). xs ++ hashed_to_end 0 (pieces text)) c.bytes.ensures)
    refl
    (omega (
      arith,
      c.split_hashed.ensures.spare,
      c.append_doc-content.ensures.spare,
      c.put_hashed_room.ensures.spare,
      c.extend.ensures.spare,
      c.in_ok-content.ensures.spare,
      c.hashed_heads_len.ensures,
      start_len,
      hashed_text_len draws d hash c.in_ok-len.len c.in_ok-len.ensures.text k,
    ))
    c.in_ok-len.ensures.writable
