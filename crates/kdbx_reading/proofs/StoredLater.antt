-- What a store handed out of a file, after a further call.
use Rattle.std.proofs.Common.{◌≡◌, ℕ, List, length, Option, Some, Bool, option_map}
use Rattle.std.specs.FinMap as map
use Rattle.outside_core.specs.Files.{FileMap}
use Rattle.outside_core.specs.Reports.{StaysTruthful, reported}
use Rattle.outside_core.proofs.Reports.{holds_later, reported_before}
use Rattle.kdbx_payload.specs.declared.text.TextReader.{TextReader}
use Rattle.kdbx_reading.specs.Stored.{HasSize, IsFedFrom, IsFront}

module _ (before now : Bool) (content : Option FileMap) (name : List ℕ) (stays : StaysTruthful before now) where
  pub size_later : (size : ℕ) → HasSize (reported before content) name size → HasSize (reported now content) name size
  size_later size sized = holds_later before now content (λ m. option_map length (map.get m name) ≡ Some size) stays sized

  pub front_later : (front : List ℕ) → IsFront (reported before content) name front → IsFront (reported now content) name front
  front_later front is = λ m file told found. is m file (reported_before before now content m stays told) found

  pub fed_later : (start : List ℕ) (reader : TextReader) (at : ℕ) → IsFedFrom (reported before content) name start reader at
      → IsFedFrom (reported now content) name start reader at
  fed_later start reader at h =
      record { bytes = h.bytes; fed = h.fed; len = h.len; starts = h.starts; front = front_later h.bytes h.front }
