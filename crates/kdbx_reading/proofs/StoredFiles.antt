-- What a store handed out of a file, window by window.
use Rattle.std.proofs.Common.{◌≡◌, ℕ, ◌+◌, ◌-◌, ◌<◌, ◌≤◌, List, [], ◌++◌, length, take, drop, replicate, refl, sym, ◌∙◌, ap, arith, length-append, length-drop, take-take, Option, Some, None, option_map, IfSome}
use Rattle.std.specs.FinMap as map
use Rattle.std.proofs.Math.Seq.{take-add}
use Rattle.std.proofs.lemmas.List.{length-replicate, length-take, length-take-le, take-append-drop, take-append-le, take_all}
use Rattle.std.proofs.lemmas.Option.{none-some, same_Some}
use Rattle.outside_core.specs.Files.{FileMap, window_of}
use Rattle.secret_core.proofs.Windows.{window_told}
use Rattle.kdbx_payload.specs.Reading.{IsFed}
use Rattle.kdbx_reading.specs.Stored.{HasSize, IsFedFrom, IsFedWhole, IsFile, IsFront}
use Rattle.kdbx_payload.specs.declared.text.TextReader.{TextReader}

-- ---- a window more

-- The front of a file and the window after it are a front.
front_more : (bytes piece file : List ℕ) (room : ℕ) → bytes ≡ take (length bytes) file
    → take room (drop (length bytes) file) ≡ piece → length piece ≤ room
    → bytes ++ piece ≡ take (length (bytes ++ piece)) file
front_more bytes piece file room front window short =
    let n = length piece in
    let more : take n (drop (length bytes) file) ≡ piece =
    sym (take-take n room (drop (length bytes) file) short) ∙ ap (take n) window ∙ take_all n piece (omega arith) in
    sym (ap (λ k. take k file) (length-append bytes piece)
    ∙ take-add (length bytes) n file
    ∙ ap (λ l. l ++ take n (drop (length bytes) file)) (sym front)
    ∙ ap (λ l. bytes ++ l) more)

-- A start of some bytes is one of more bytes.
start_more : (start bytes piece : List ℕ) → start ≡ take (length start) bytes → start ≡ take (length start) (bytes ++ piece)
start_more start bytes piece h =
    h ∙ sym (take-append-le (length start) bytes piece (omega (arith, ap length h, length-take (length start) bytes)))

-- A reader that was fed with a window more.
pub fed_window : (files : Option FileMap) (name start : List ℕ) (reader after : TextReader) (at room : ℕ) (piece : List ℕ)
    → IsFedFrom files name start reader at
    → ((bytes : List ℕ) → IsFed reader bytes → IsFed after (bytes ++ piece))
    → IfSome files (λ m. window_of m name at room ≡ Some piece) → length piece ≤ room
    → IsFedFrom files name start after (at + length piece)
fed_window files name start reader after at room piece h feed window short = record {
  bytes = h.bytes ++ piece;
  fed = feed h.bytes h.fed;
  len = length-append h.bytes piece ∙ ap (λ n. n + length piece) h.len;
  starts = start_more start h.bytes piece h.starts;
  front = λ m file told found.
      front_more h.bytes piece file room (h.front m file told found)
      (ap (λ n. take room (drop n file)) h.len ∙ window_told files m file name piece at room told found window) short;
}

-- ---- the end

-- The file of a name, where a store reports it.
of_size : (files : Option FileMap) (name bytes : List ℕ) (size : ℕ) → HasSize files name size
    → ((m : FileMap) (file : List ℕ) → files ≡ Some m → map.get m name ≡ Some file → length file ≡ size → file ≡ bytes)
    → IsFile files name bytes
of_size None name bytes size sized same = tt
of_size (Some m) name bytes size sized same = by (map.get m name) refl sized
  where
    by : (found : Option (List ℕ)) → map.get m name ≡ found → option_map length found ≡ Some size → map.get m name ≡ Some bytes
    by None e h = absurd (none-some size h)
    by (Some file) e h = e ∙ ap Some (same m file refl e (same_Some (length file) size h))

-- All bytes of a file's size are the file.
pub fed_whole : (files : Option FileMap) (name start : List ℕ) (reader : TextReader) (at size : ℕ)
    → IsFedFrom files name start reader at → HasSize files name size → at ≡ size → IsFedWhole files name start size reader
fed_whole files name start reader at size h sized end = record {
  bytes = h.bytes;
  fed = h.fed;
  within = omega (arith, h.len, end);
  starts = h.starts;
  is = of_size files name h.bytes size sized
      (λ m file told found long. sym (h.front m file told found ∙ take_all (length h.bytes) file (omega (arith, long, h.len, end))));
}

-- A window that gives nothing is after the end, and a store that reports its files gives none before.
pub fed_short : (files : Option FileMap) (name start : List ℕ) (reader : TextReader) (at room size : ℕ) (piece : List ℕ)
    → IsFedFrom files name start reader at → HasSize files name size → at < size → 0 < room
    → IfSome files (λ m. window_of m name at room ≡ Some piece) → piece ≡ []
    → IsFedWhole files name start size reader
fed_short files name start reader at room size piece h sized before some window none = record {
  bytes = h.bytes;
  fed = h.fed;
  within = omega (arith, h.len, before);
  starts = h.starts;
  is = of_size files name h.bytes size sized
      (λ m file told found long.
      absurd (omega (
        arith,
        ap length (window_told files m file name piece at room told found window ∙ none),
        length-take room (drop at file),
        length-drop at file,
        long,
        before,
        some,
      )));
}

-- ---- some file

-- A file of this size that begins with these bytes, where the store reports its files the one of this name.
pub record SomeFile (files : Option FileMap) (name start : List ℕ) (size : ℕ) : Type 0 where
  pub more : List ℕ
  pub is : IsFile files name (start ++ more)
  pub len : length (start ++ more) ≡ size

pub some_file : (files : Option FileMap) (name start : List ℕ) (size : ℕ) → HasSize files name size → IsFront files name start
    → length start ≤ size → SomeFile files name start size
some_file None name start size sized front within = record {
  more = replicate (size - length start) 0;
  is = tt;
  len = omega (arith, length-append start (replicate {A = ℕ} (size - length start) 0), length-replicate {A = ℕ} (size - length start) 0, within);
}
some_file (Some m) name start size sized front within = by (map.get m name) refl sized
  where
    by : (found : Option (List ℕ)) → map.get m name ≡ found → option_map length found ≡ Some size → SomeFile (Some m) name start size
    by None e h = absurd (none-some size h)
    by (Some file) e h =
        let again : start ++ drop (length start) file ≡ file =
        ap (λ l. l ++ drop (length start) file) (front m file refl e) ∙ take-append-drop (length start) file in
        record {
          more = drop (length start) file;
          is = e ∙ ap Some (sym again);
          len = ap length again ∙ same_Some (length file) size h;
        }

-- What was read into an array is the front of a file.
pub front_read : (files : Option FileMap) (name out : List ℕ) (n : ℕ) → n ≤ length out
    → ((m : FileMap) (file : List ℕ) → files ≡ Some m → map.get m name ≡ Some file → take (length out) file ≡ take n out)
    → IsFront files name (take n out)
front_read files name out n within reads = λ m file told found.
    let long : length (take n out) ≡ n = length-take-le n out within in
    let front : take n (take (length out) file) ≡ take n out =
    ap (take n) (reads m file told found) ∙ take-take n n out (omega arith) in
    sym (ap (λ k. take k file) long ∙ sym (take-take n (length out) file within) ∙ front)

-- An array that a file did not fill has all of it.
pub size_read : (files : Option FileMap) (name out : List ℕ) (n size : ℕ) → n ≤ length out → n < length out → HasSize files name size
    → ((m : FileMap) (file : List ℕ) → files ≡ Some m → map.get m name ≡ Some file → take (length out) file ≡ take n out)
    → HasSize files name n
size_read None name out n size within short sized reads = tt
size_read (Some m) name out n size within short sized reads = by (map.get m name) refl sized
  where
    by : (found : Option (List ℕ)) → map.get m name ≡ found → option_map length found ≡ Some size → option_map length (map.get m name) ≡ Some n
    by None e h = absurd (none-some size h)
    by (Some file) e h =
        let long : length file ≡ n =
        omega (arith, ap length (reads m file refl e), length-take (length out) file, length-take-le n out within, short) in
        ap (option_map length) e ∙ ap Some long
