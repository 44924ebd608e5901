use Rattle.std.proofs.Common.{◌≡◌, ◌+◌, ap, arith, length, min}
use Rattle.std.specs.Option.{option_copied}
use Rattle.doc_spelling.specs.Ranges.{tree_nodes}
use Rattle.vault_model.specs.SeenDoc.{doc_seen}
use Rattle.doc_write.proofs.WrittenTexts.{measured, too_large, too_many}
use Rattle.doc_write.proofs.writing.doc_len.Goals as goal

pub returns-then-nodes-gt-NODES-clause-text : goal.returns-then-nodes-gt-NODES-clause-text
returns-then-nodes-gt-NODES-clause-text c k = too_many c.args.form k (option_copied c.args.header_hash) (doc_seen c.args.doc.now) _ c.count_nodes-nodes.ensures c.if-nodes-gt-NODES.true

pub returns-then-len-gt-BYTES-clause-text : goal.returns-then-len-gt-BYTES-clause-text
returns-then-len-gt-BYTES-clause-text c k =
    too_large c.args.form k (option_copied c.args.header_hash) (doc_seen c.args.doc.now) _ c.requires _ _ _ _ c.count_nodes-nodes.ensures c.if-nodes-gt-NODES.false c.put_document.ensures.puts c.apart_len.ensures.len
    c.saturating_add-len.ensures c.if-len-gt-BYTES.true

pub returns-clause-text : goal.returns-clause-text
returns-clause-text c k =
    measured c.args.form k (option_copied c.args.header_hash) (doc_seen c.args.doc.now) _ c.requires _ _ _ _ c.count_nodes-nodes.ensures c.if-nodes-gt-NODES.false c.put_document.ensures.puts c.apart_len.ensures.len
    c.saturating_add-len.ensures c.if-len-gt-BYTES.false

pub returns-clause-writable : goal.returns-clause-writable
returns-clause-writable c =
    let d = doc_seen c.args.doc.now in
    let count : c.count_nodes-nodes.result ≡ min (0 + tree_nodes d.tree) 18446744073709551615 = c.count_nodes-nodes.ensures in
    record {
      fits = c.put_document.ensures.fits;
      nodes = omega (arith, count, c.if-nodes-gt-NODES.false);
      pool = omega (arith, ap length c.requires, c.apart_len.ensures.few);
    }
