-- The host's objects as contracts see them.
use Rattle.std.specs.Prelude.{ℕ, Bool, List, Option, refl}
use Rattle.std.specs.Coded.{Coded, code_by, coded×, coded_ℕ, coded_bool, coded_list, coded_option}
use Rattle.std.specs.FinMap.{code}
use Rattle.outside_core.specs.Files.{FileMap}

-- What an outside holds when a call begins: files, bytes of input, and random bytes.
pub record World : Type 0 where
  pub files : FileMap
  pub input : List ℕ
  pub dice : List ℕ

-- The host's disk: the files that it is taken to hold, and whether every answer was theirs; the
-- draft; and the two counts.
pub record HostStore : Type 0 where
  pub files : FileMap
  pub truthful : Bool
  pub draft_name : Option (List ℕ)
  pub draft_bytes : List ℕ
  pub faults : ℕ
  pub absences : ℕ

-- A stream of the host: the bytes that it is taken to have left, and whether every answer was
-- theirs; and its count of faults.
pub record HostStream : Type 0 where
  pub left : List ℕ
  pub truthful : Bool
  pub faults : ℕ

-- A sink of the host: the bytes that it took, and its count of faults.
pub record HostSink : Type 0 where
  pub bytes : List ℕ
  pub faults : ℕ

-- Bytes are a list of numbers.
abbrev pub bytes_code : Coded (List ℕ)
bytes_code = coded_list coded_ℕ

-- Files are names with bytes.
abbrev pub files_code : Coded FileMap
files_code = code bytes_code bytes_code

-- A world is its parts.
abbrev pub world_code : Coded World
world_code =
    code_by (FileMap × (List ℕ × List ℕ)) (coded× files_code (coded× bytes_code bytes_code))
    (λ w. (w.files, (w.input, w.dice))) (λ p. record { files = p.0; input = p.1.0; dice = p.1.1 })
    (λ _. refl)

-- A disk is its parts.
abbrev pub store_code : Coded HostStore
store_code =
    code_by (FileMap × (Bool × (Option (List ℕ) × (List ℕ × (ℕ × ℕ)))))
    (coded× files_code (coded× coded_bool (coded× (coded_option bytes_code)
    (coded× bytes_code (coded× coded_ℕ coded_ℕ)))))
    (λ s. (s.files, (s.truthful, (s.draft_name, (s.draft_bytes, (s.faults, s.absences))))))
    (λ p. record {
      files = p.0;
      truthful = p.1.0;
      draft_name = p.1.1.0;
      draft_bytes = p.1.1.1.0;
      faults = p.1.1.1.1.0;
      absences = p.1.1.1.1.1;
    })
    (λ _. refl)

-- A stream is its parts.
abbrev pub stream_code : Coded HostStream
stream_code =
    code_by (List ℕ × (Bool × ℕ)) (coded× bytes_code (coded× coded_bool coded_ℕ))
    (λ s. (s.left, (s.truthful, s.faults)))
    (λ p. record { left = p.0; truthful = p.1.0; faults = p.1.1 }) (λ _. refl)

-- A sink is its parts.
abbrev pub sink_code : Coded HostSink
sink_code =
    code_by (List ℕ × ℕ) (coded× bytes_code coded_ℕ)
    (λ s. (s.bytes, s.faults)) (λ p. record { bytes = p.0; faults = p.1 }) (λ _. refl)
