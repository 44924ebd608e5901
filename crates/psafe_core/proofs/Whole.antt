-- What was read of a file, as a whole.
use Rattle.std.proofs.Common.{◌≡◌, ℕ, List, Result, Ok}
use Rattle.mac_core.specs.Hmac.{hmac}
use Rattle.psafe_core.specs.Outcome.{content_outcome, or_field_form, records_outcome}
use Rattle.psafe_file.specs.Faults.{sound_fields}
use Rattle.psafe_file.specs.Fields.{SafeField, contents_of, records_of}
use Rattle.psafe_file.specs.Macs.{mac_check}
use Rattle.psafe_file.specs.Opened.{SafeContent}
use Rattle.psafe_file.specs.Results.{Returns}
use Rattle.psafe_file.specs.declared.fails.PsafeFail.{PsafeFail}
use Rattle.vault_model.specs.Tree.{BareDoc}

-- The document of the records whose MAC is right.
pub content_read : {X : Type 0} (seen : X → BareDoc) (key : List ℕ) (now : ℕ) (content : SafeContent) (fields : List SafeField) (records : List (List SafeField)) (result : Result X PsafeFail)
    → or_field_form (sound_fields content.bytes) ≡ Ok fields → mac_check content.mac (hmac key (contents_of fields)) ≡ Ok tt → records ≡ records_of fields
    → Returns seen result (records_outcome now records) → Returns seen result (content_outcome key now content)
unfolding content_outcome
content_read seen key now content fields records result read right all h = rw (read, right, ← all) h
