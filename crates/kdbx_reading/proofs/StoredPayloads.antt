-- The payload of a file that a store handed out.
use Rattle.std.proofs.Common.{◌≡◌, ℕ, ◌<◌, ◌≤◌, List, [], ◌++◌, length, take, replicate, refl, sym, ◌∙◌, ap, subst, arith, take-take, Option, Some, None, IfOk, IfSome, IsErrOf, Result, Ok, Err}
use Rattle.std.specs.FinMap as map
use Rattle.std.proofs.Math.Seq.{take-append_seam}
use Rattle.std.proofs.lemmas.List.{length-replicate, length-take}
use Rattle.sha2.specs.Sha256.{sha256}
use Rattle.outside_core.specs.Files.{FileMap}
use Rattle.outside_core.specs.Results as results
use Rattle.outside_core.specs.Results.{◌>>=◌}
use Rattle.outside_core.specs.declared.fails.FileFail.{FileFail}
use Rattle.outside_core.specs.declared.fails.FileFail.TheVariants as file
use Rattle.outside_core.proofs.Results.{fails_at_first}
use Rattle.secret_core.specs.ReadFail.{read_fail_of}
use Rattle.secret_core.specs.declared.files.ReadFail.TheVariants.{TooLarge, NoMemory}
use Rattle.kdbx_payload.specs.KdbxParts.Results as parts
use Rattle.kdbx_payload.specs.KdbxParts.declared.fail.FrameFail.{FrameFail}
use Rattle.kdbx_payload.specs.KdbxFrame.Header.{header_at, header_of}
use Rattle.kdbx_payload.specs.KdbxFrame.declared.header.Header.{Header}
use Rattle.kdbx_payload.proofs.KdbxFrame.Prefixes.{same_start}
use Rattle.kdbx_payload.specs.HeaderMacs.{base_of, key_of}
use Rattle.kdbx_payload.specs.Parts.{frame_or_refusal}
use Rattle.kdbx_payload.specs.Payloads as payloads
use Rattle.kdbx_payload.specs.Payloads.{hidden_text, payload_in, payload_of}
use Rattle.kdbx_payload.specs.Results.{Refuses, Returns, meaning_of, of_frame}
use Rattle.kdbx_reading.specs.Stored.{HasSize, IsFront, OfFileWith, PayloadOfName}
use Rattle.kdbx_payload.specs.declared.fail.PayloadFail.{PayloadFail}
use Rattle.kdbx_payload.proofs.KdbxFrame.HeaderSizes.{header_of_size}
use Rattle.kdbx_payload.proofs.Refusals.{frame_refused}
use Rattle.kdbx_reading.proofs.StoredFiles.{some_file}

-- ---- a refusal that every file with this front has

-- Each file of this size that begins with these bytes is refused, and so is that of the name.
pub refused_at_front : {X Y : Type 0} (files : Option FileMap) (name start : List ℕ) (size : ℕ) (seen : X → Y)
    (defined : List ℕ → Result Y PayloadFail) (fail : PayloadFail)
    → HasSize files name size → IsFront files name start → length start ≤ size
    → ((more : List ℕ) → length (start ++ more) ≡ size → Refuses fail (defined (start ++ more)))
    → OfFileWith files name start size seen defined (Err fail)
refused_at_front files name start size seen defined fail sized front within refuses =
    let some = some_file files name start size sized front within in
    record {
      file = start ++ some.more;
      is = some.is;
      starts = sym (take-append_seam start some.more);
      within = omega (arith, some.len);
      returns = refuses some.more some.len;
    }

-- The same answer.
pub of_answer : {X Y : Type 0} (seen : X → Y) (defined : Result Y PayloadFail) (one other : Result X PayloadFail) → one ≡ other
    → Returns seen one defined → Returns seen other defined
of_answer {X = X} seen defined one other same = subst (λ (r : Result X PayloadFail). Returns seen r defined) same

-- A file that begins with some bytes and is no longer than a size.
pub of_any_start : {X Y : Type 0} (files : Option FileMap) (name start : List ℕ) (size limit : ℕ) (seen : X → Y)
    (defined : List ℕ → Result Y PayloadFail) (result : Result (Result X PayloadFail) FileFail) → size ≤ limit
    → IfOk result (OfFileWith files name start size seen defined) → IfOk result (OfFileWith files name [] limit seen defined)
of_any_start files name start size limit seen defined (Ok answer) within h =
    record { file = h.file; is = h.is; starts = refl; within = omega (arith, within, h.within); returns = h.returns }
of_any_start files name start size limit seen defined (Err fail) within h = tt

-- ---- the header

-- A header that was read of a front is that of the file.
pub header_again : (start file : List ℕ) (size : ℕ) (header : Header) → start ≡ take (length start) file → length file ≤ size
    → (length start < 65536 → length start ≡ size) → header_at size (take 65536 start) ≡ Ok header → header_of file ≡ Ok header
header_again start file size header starts within enough h =
    let same : take 65536 start ≡ take 65536 file =
    same_start 65536 start file starts
    (λ short. omega (arith, enough short, within, ap length starts, length-take (length start) file)) in
    header_of_size size (length file) (take 65536 file) header (subst (λ (text : List ℕ). header_at size text ≡ Ok header) same h)

-- The header's bytes in an array are the file's.
pub header_bytes : (window file : List ℕ) (from size : ℕ) → from ≤ length window → size ≤ from
    → take from window ≡ take (length (take from window)) file → take size window ≡ take size file
header_bytes window file from size within short starts =
    let long : length (take from window) ≡ from = omega (arith, length-take from window, within) in
    sym (take-take size from window short)
    ∙ ap (take size) (starts ∙ ap (λ n. take n file) long)
    ∙ take-take size from file short

-- A header is refused.
pub header_refused : (file composite : List ℕ) (fail : FrameFail) → results.Fails (parts.meaning_of fail) (header_of file)
    → Refuses (of_frame fail) (payload_of file composite)
unfolding payload_of
header_refused file composite fail h = fails_at_first (meaning_of (of_frame fail)) _ _ (frame_refused fail (header_of file) h)

module _ (file composite : List ℕ) (header : Header) (read : header_of file ≡ Ok header) where
  abbrev text : Result (List ℕ) PayloadFail
  text = hidden_text header.settings.version (base_of header composite) (key_of header composite) header file

  after_header : payload_of file composite
      ≡ (text >>= payload_in header.settings.version header (sha256 (take header.size file)))
  unfolding payload_of
  after_header =
      ap (λ r. frame_or_refusal r >>= λ h. hidden_text h.settings.version (base_of h composite) (key_of h composite) h file
      >>= payload_in h.settings.version h (sha256 (take h.size file))) read

  -- the text is refused
  pub text_refused : (fail : PayloadFail) → Refuses fail text → Refuses fail (payload_of file composite)
  text_refused fail h = subst (Refuses fail) (sym after_header) (fails_at_first (meaning_of fail) text _ h)

  -- the text is read
  pub text_read : {X : Type 0} (seen : X → payloads.Payload) (result : Result X PayloadFail) (hash whole : List ℕ)
      → text ≡ Ok whole → hash ≡ sha256 (take header.size file)
      → Returns seen result (payload_in header.settings.version header hash whole) → Returns seen result (payload_of file composite)
  text_read seen result hash whole h is =
      subst (Returns seen result)
      (ap (λ (x : List ℕ). payload_in header.settings.version header x whole) is
      ∙ sym (after_header ∙ ap (λ r. r >>= payload_in header.settings.version header (sha256 (take header.size file))) h))

-- ---- the answer of a file's name

-- The file of a name, where the store reports its files; else none.
named : Option FileMap → List ℕ → Option (List ℕ)
named None name = None
named (Some m) name = map.get m name

is_named : (files : Option FileMap) (name : List ℕ) → IfSome files (λ m. map.get m name ≡ named files name)
unfolding named
is_named None name = tt
is_named (Some m) name = refl

none_named : (files : Option FileMap) (name : List ℕ) → IfSome files (λ m. map.get m name ≡ None) → named files name ≡ None
unfolding named
none_named None name h = refl
none_named (Some m) name h = h

module _ {X : Type 0} (seen : X → payloads.Payload) (files : Option FileMap) (name : List ℕ) (limit : ℕ) (composite : List ℕ) where
  -- the store could not give it
  pub not_given : {T : Type 0} (fail : FileFail) → (IsErrOf {T = T} (Err fail) file.NoSuchFile → IfSome files (λ m. map.get m name ≡ None))
      → PayloadOfName seen files name limit composite (Err (read_fail_of fail))
  not_given file.Failed missing = (named files name, (is_named files name, tt))
  not_given file.NoSuchFile missing = (named files name, (is_named files name, none_named files name (missing refl)))
  not_given file.NoMemory missing = (named files name, (is_named files name, tt))

  -- there is no memory for it
  pub no_memory : PayloadOfName seen files name limit composite (Err NoMemory)
  no_memory = (named files name, (is_named files name, tt))

  -- it is too large
  pub too_large : (size : ℕ) → HasSize files name size → PayloadOfName seen files name limit composite (Err (TooLarge size))
  too_large size sized = by files sized
    where
      by : (held : Option FileMap) → HasSize held name size → PayloadOfName seen held name limit composite (Err (TooLarge size))
      by None sized = (Some (replicate size 0), (tt, ap Some (length-replicate {A = ℕ} size 0)))
      by (Some m) sized = (map.get m name, (refl, sized))

  -- it was read
  pub was_read : (start : List ℕ) (size : ℕ) (result : Result X PayloadFail) → size ≤ limit
      → OfFileWith files name start size seen (λ bytes. payload_of bytes composite) result
      → PayloadOfName seen files name limit composite (Ok result)
  was_read start size result within h =
      (Some h.file, (h.is, (h.file, (refl, omega (arith, within, h.within), h.returns))))
