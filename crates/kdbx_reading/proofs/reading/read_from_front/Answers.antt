use Rattle.std.proofs.Common.{◌≡◌, ◌<◌, ◌∙◌, ◌++◌, length, take, ap, sym, arith}
use Rattle.std.proofs.Math.Seq.{take-append_seam}
use Rattle.std.proofs.lemmas.List.{length-take-le}
use Rattle.sha2.specs.Sha256.{sha256}
use Rattle.outside_core.specs.Reports.{reported}
use Rattle.kdbx_payload.specs.Payloads.{payload_of}
use Rattle.kdbx_payload.specs.Results.{of_frame}
use Rattle.kdbx_payload.specs.Seen.{payload_seen}
use Rattle.kdbx_reading.proofs.StoredPayloads.{header_again, header_bytes, header_refused, of_answer, refused_at_front, text_read, text_refused}
use Rattle.kdbx_reading.proofs.reading.read_from_front.Goals as goal

pub returns-in-Err-clause-of_file : goal.returns-in-Err-clause-of_file
returns-in-Err-clause-of_file g c =
    let start = take c.args.file.now.len c.args.window.now in
    rw c.from.ensures (refused_at_front (reported (g.F.FileStore.truthful c.args.files.now) (g.F.FileStore.files c.args.files.now)) c.args.file.now.name.now start c.args.file.now.size payload_seen
    (λ file. payload_of file c.args.composite.now) (of_frame c.in-Err.fail)
    c.requires.sized c.requires.front (omega (arith, length-take-le c.args.file.now.len c.args.window.now c.requires.len, c.requires.size))
    (λ more len. header_refused (start ++ more) c.args.composite.now c.in-Err.fail
    (c.in-Err.ensures.file (start ++ more) len (sym (take-append_seam start more)))))

pub returns-in-Ok-Ok-clause-of_file : goal.returns-in-Ok-Ok-clause-of_file
returns-in-Ok-Ok-clause-of_file g c =
    let start = take c.args.file.now.len c.args.window.now in
    let header = c.in-Ok.header in
    let h = c.in-Ok-Ok.ensures.of_file in
    let long : length start ≡ c.args.file.now.len = length-take-le c.args.file.now.len c.args.window.now c.requires.len in
    let enough : length start < 65536 → length start ≡ c.args.file.now.size =
    λ short. long ∙ c.requires.enough (omega (arith, long, short)) in
    let read = header_again start h.file c.args.file.now.size header h.starts h.within enough c.in-Ok.ensures.gives in
    let bytes = header_bytes c.args.window.now h.file c.args.file.now.len header.size c.requires.len
    (omega (arith, c.in-Ok.ensures.within, long)) h.starts in
    record {
      file = h.file;
      is = h.is;
      starts = h.starts;
      within = h.within;
      returns = text_read h.file c.args.composite.now header read payload_seen c.payload_in.result c.digest-header_hash.result c.in-Ok-Ok.text.bytes
          (of_answer (λ s. s.bytes) _ _ _ c.in-Ok-Ok.field-0-is h.returns) (c.digest-header_hash.ensures ∙ ap sha256 bytes) c.payload_in.ensures.gives;
    }

pub returns-in-Ok-Err-clause-of_file : goal.returns-in-Ok-Err-clause-of_file
returns-in-Ok-Err-clause-of_file g c =
    let start = take c.args.file.now.len c.args.window.now in
    let header = c.in-Ok.header in
    let h = c.in-Ok-Err.ensures.of_file in
    let long : length start ≡ c.args.file.now.len = length-take-le c.args.file.now.len c.args.window.now c.requires.len in
    let enough : length start < 65536 → length start ≡ c.args.file.now.size =
    λ short. long ∙ c.requires.enough (omega (arith, long, short)) in
    let read = header_again start h.file c.args.file.now.size header h.starts h.within enough c.in-Ok.ensures.gives in
    record {
      file = h.file;
      is = h.is;
      starts = h.starts;
      within = h.within;
      returns = text_refused h.file c.args.composite.now header read c.in-Ok-Err.fail (of_answer (λ s. s.bytes) _ _ _ c.in-Ok-Err.field-0-is h.returns);
    }
