-- The laws of an export of Bitwarden that is imported again.
use Rattle.std.proofs.Common.{◌≡◌, ◌≤◌, ℕ, nat_lt, inl, inr, List, [], Ok, sym, ap, arith}
use Rattle.std.proofs.lemmas.Bool.{ltb-false}
use Rattle.std.proofs.lemmas.Bool.Decides.{Decides-ltb}
use Rattle.bitwarden_again_laws.proofs.Exports.{export_later, export_ok, sound_is}
use Rattle.bitwarden_again_laws.specs.Again.{ExportsAgree, ExportsReplace}
use Rattle.bitwarden_core.specs.Documents.{bitwarden_document}
use Rattle.bitwarden_core.specs.Placing.{export_places}
use Rattle.bitwarden_forms.specs.Exports.{export_of}
use Rattle.import_again_laws.proofs.Replacing.{agree, agree_turned, replaces}
use Rattle.import_again_laws.proofs.Moments.{IsLater, not_earlier}
use Rattle.import_again_laws.proofs.ImportLaws.Sources.{then_ok}
use Rattle.import_tree.specs.Trees.{placed_document}
use Rattle.vault_model.proofs.Tests.{decide}
use Rattle.vault_model.specs.Tree.{BareDoc}

export_bare : (bytes : List ℕ) (now : ℕ) (d : BareDoc) → bitwarden_document bytes now ≡ Ok d → d.tombs ≡ []
export_bare bytes now d h =
    let a = then_ok (export_of bytes) _ d h in
    let b = then_ok (export_places now a.0) _ d a.1.1 in
    ap (λ (x : BareDoc). x.tombs) (sym (sound_is (placed_document now b.0) d (export_ok _ d b.1.1)))

export_not_earlier : (bytes : List ℕ) (now later : ℕ) → now ≤ later → (d e : BareDoc) → bitwarden_document bytes now ≡ Ok d → bitwarden_document bytes later ≡ Ok e → IsLater d e
export_not_earlier bytes now later le d e h k =
    not_earlier (bitwarden_document bytes) (export_bare bytes) (λ a b less x y i j. export_later a b less bytes x y i j) now later le d e h k

pub exports_replace : ExportsReplace
exports_replace bytes now later d e le h k = replaces d e (export_not_earlier bytes now later le d e h k)

pub exports_agree : ExportsAgree
exports_agree bytes now later d e h k = elim (decide (nat_lt now later)) [
  | inl p ↦ let before = (Decides-ltb now later).0 p in agree d e (export_not_earlier bytes now later (omega (arith, before)) d e h k)
  | inr p ↦ agree_turned d e (export_not_earlier bytes later now (ltb-false now later p) e d k h)
]
