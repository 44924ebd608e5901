-- Codes of the entries of a document that is laid side by side: each record is coded as its parts.
use Rattle.std.specs.Prelude.{ℕ, List, refl}
use Rattle.std.specs.Coded.{Coded, code_by, coded×, coded_ℕ, coded_list}
use Rattle.vault_model.specs.declared.contents.Stats.{Stats}
use Rattle.vault_model.specs.Db.{Mark}
use Rattle.vault_model.specs.Shape.{BareVersion, EntryRecord}
use Rattle.merge_tables.specs.Codes.{bytes_code, mark_code, stats_code}

-- versions
abbrev pub version_code : Coded BareVersion
version_code = code_by (Mark × Stats) (coded× mark_code stats_code) (λ v. (v.mark, v.stats))
    (λ p. record { mark = p.0; stats = p.1 }) (λ _. refl)

-- entries
abbrev pub entry_code : Coded EntryRecord
entry_code =
    code_by (ℕ × (List ℕ × (BareVersion × List BareVersion)))
    (coded× coded_ℕ (coded× bytes_code (coded× version_code (coded_list version_code))))
    (λ e. (e.placed, (e.previous, (e.current, e.history))))
    (λ p. record { placed = p.0; previous = p.1.0; current = p.1.1.0; history = p.1.1.1 })
    (λ _. refl)
