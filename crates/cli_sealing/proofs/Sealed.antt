-- How a document was sealed, or was not.
use Rattle.std.proofs.Common.{◌≡◌, ℕ, List, refl, inl, inr, sym, ◌∙◌, ap, subst, Option, None, Some, Err}
use Rattle.outside_core.specs.Counts.{Increased}
use Rattle.vault_making.specs.NeededVersion.{later, needed_version}
use Rattle.vault_model.specs.Tree.{BareDoc}
use Rattle.vault_model.specs.declared.forms.FileVersion.{FileVersion}
use Rattle.vault_model.specs.declared.forms.FileVersion.TheVariants.{V31, V40, V41}
use Rattle.kdbx_frame.specs.KeyCore.declared.kdf.Kdf.{Kdf}
use Rattle.kdbx_frame.specs.declared.settings.Settings.{Settings}
use Rattle.kdbx_frame.specs.Settings.{IsInOrder, IsOfVersion}
use Rattle.kdbx_seal.specs.KdbxWriting.declared.draws.Draws.{Draws}
use Rattle.kdbx_seal.specs.Answers as seal
use Rattle.kdbx_seal.specs.Answers.{size_refusal}
use Rattle.kdbx_seal.specs.Made.{made_file}
use Rattle.kdbx_seal.specs.declared.fail.SealFail.{SealFail}
use Rattle.kdbx_seal.specs.declared.fail.SealFail.TheVariants as fail
use Rattle.cli_messages.specs.Messages.{refusal_of}
use Rattle.cli_messages.specs.Phases.{IsCommandStop}
use Rattle.cli_messages.specs.declared.answers.Reason.{Reason}
use Rattle.cli_messages.specs.declared.answers.Reason.TheVariants as answer
use Rattle.cli_messages.specs.declared.answers.Refusal.{Refusal}
use Rattle.cli_messages.specs.declared.answers.Stop.{Stop}
use Rattle.cli_messages.specs.declared.answers.Stop.TheVariants.{Refused, FileFault, InputFault, NoMemory}
use Rattle.cli_writing.proofs.Sizes.{fault_sized, memory_sized, sized}
use Rattle.cli_writing.specs.Writing.{HasFile, IsSame, IsSizeStop, KeepsDraft, RefusesFile, Store, WritesFile}
use Rattle.cli_sealing.specs.Draws.{after_draws, draws_of}
use Rattle.cli_sealing.specs.Sealing.{IsUnsealed, Seals, file_by, file_unless, seal_answer, settings_for}

-- ---- versions

pub is_late : (v w : FileVersion) → later v (later v w) ≡ later v w
is_late V31 w = refl
is_late V40 V31 = refl
is_late V40 V40 = refl
is_late V40 V41 = refl
is_late V41 w = refl

-- What a version can have a later one can have too.
raised : (v w : FileVersion) (kdf : Kdf) (public : Option (List ℕ)) → IsOfVersion w kdf public → IsOfVersion (later v w) kdf public
raised V31 w kdf public h = h
raised V40 V31 kdf public h = tt
raised V40 V40 kdf public h = tt
raised V40 V41 kdf public h = tt
raised V41 w kdf public h = tt

pub in_order : (s : Settings) (doc : BareDoc) → IsInOrder s → IsInOrder (settings_for s doc)
in_order s doc h = record {
  kdf = h.kdf;
  version = raised (needed_version doc) s.version s.kdf s.public h.version;
  public = h.public;
}

-- Sealing is refused only as too much or too large.
pub unsealed_large : (why : SealFail) (stop : Stop) (name : List ℕ) → IsUnsealed why name stop → IsSizeStop stop
unsealed_large (fail.TooMany count) stop name h = sized stop (refusal_of answer.TooMany name) refl h
unsealed_large (fail.TooLarge length) stop name h = sized stop (refusal_of answer.TooLarge name) refl h
unsealed_large fail.FileFault stop name h = fault_sized stop name h
unsealed_large fail.NoMemory stop name h = memory_sized stop h

-- ---- what was written

pub sealed_so : (name : List ℕ) (s : Settings) (composite : List ℕ) (doc : BareDoc) (dice : List ℕ) (draws : Draws) (before now : Store) (left : Option (List ℕ))
    → draws ≡ draws_of s dice → left ≡ Some (after_draws s dice) → size_refusal s draws doc ≡ None
    → HasFile (record { name = name; bytes = made_file s draws composite doc }) before now
    → WritesFile (file_by name s composite doc dice).answer before now × (left ≡ Some (file_by name s composite doc dice).left)
unfolding file_by
sealed_so name s composite doc dice draws before now left d l none h = (
  subst (λ (x : Draws). WritesFile (file_unless name (size_refusal s x doc) (made_file s x composite doc)) before now) d
      (record {
        file = record { name = name; bytes = made_file s draws composite doc };
        is = ap (λ (r : Option SealFail). file_unless name r (made_file s draws composite doc)) none;
        has = h;
      }),
  l,
)

refused_as : (why : SealFail) (given : Refusal) (name : List ℕ) (s : Settings) (composite : List ℕ) (doc : BareDoc) (dice : List ℕ) (draws : Draws) (before now : Store)
    (left : Option (List ℕ)) → given ≡ refusal_of (seal_answer why) name → draws ≡ draws_of s dice → left ≡ Some (after_draws s dice)
    → size_refusal s draws doc ≡ Some why → IsSame before now
    → RefusesFile given (file_by name s composite doc dice).answer before now × (left ≡ Some (file_by name s composite doc dice).left)
unfolding file_by
refused_as why given name s composite doc dice draws before now left g d l r same = (
  subst (λ (x : Draws). RefusesFile given (file_unless name (size_refusal s x doc) (made_file s x composite doc)) before now) d
      (record {
        is = ap (λ (x : Option SealFail). file_unless name x (made_file s draws composite doc)) r ∙ ap Err (sym g);
        same = same;
      }),
  l,
)

-- What is refused of its size, or has another cause.
pub unsealed_so : (why : SealFail) (stop : Stop) (name : List ℕ) (s : Settings) (composite : List ℕ) (doc : BareDoc) (dice : List ℕ) (draws : Draws) (before now : Store)
    (left : Option (List ℕ)) → IsUnsealed why name stop → draws ≡ draws_of s dice → left ≡ Some (after_draws s dice)
    → seal.Refuses (Err why) (size_refusal s draws doc)
    → ((n : ℕ) → why ≡ fail.TooMany n → IsSame before now) → ((n : ℕ) → why ≡ fail.TooLarge n → IsSame before now)
    → Seals (Err stop) (file_by name s composite doc dice) before now left
unsealed_so (fail.TooMany n) (Refused given) name s composite doc dice draws before now left u d l r many large =
    refused_as (fail.TooMany n) given name s composite doc dice draws before now left u d l r (many n refl)
unsealed_so (fail.TooLarge n) (Refused given) name s composite doc dice draws before now left u d l r many large =
    refused_as (fail.TooLarge n) given name s composite doc dice draws before now left u d l r (large n refl)
unsealed_so fail.FileFault (Refused given) name s composite doc dice draws before now left u d l r many large = absurd u
unsealed_so fail.NoMemory (Refused given) name s composite doc dice draws before now left u d l r many large = absurd u
unsealed_so why (FileFault given) name s composite doc dice draws before now left u d l r many large = tt
unsealed_so why InputFault name s composite doc dice draws before now left u d l r many large = tt
unsealed_so why NoMemory name s composite doc dice draws before now left u d l r many large = tt

-- ---- the store and the causes

pub unsealed_draft : (why : SealFail) (before now : Store) → seal.LeavesNoDraft (Err why) now.draft_name
    → ((n : ℕ) → why ≡ fail.TooMany n → IsSame before now) → ((n : ℕ) → why ≡ fail.TooLarge n → IsSame before now) → KeepsDraft before now
unsealed_draft (fail.TooMany n) before now none many large = let s = many n refl in inr (s.draft_name, s.draft_bytes)
unsealed_draft (fail.TooLarge n) before now none many large = let s = large n refl in inr (s.draft_name, s.draft_bytes)
unsealed_draft fail.FileFault before now none many large = inl none
unsealed_draft fail.NoMemory before now none many large = inl none

not_missing : (given : Refusal) (reason : Reason) (name : List ℕ) → given ≡ refusal_of reason name → ¬ (reason ≡ answer.NoSuchFile) → ¬ (given.reason ≡ answer.NoSuchFile)
not_missing given reason name e h = λ x. h (sym (ap (λ (r : Refusal). r.reason) e) ∙ x)

pub unsealed_caused : (why : SealFail) (stop : Stop) (name : List ℕ) (f f' d d' : ℕ) → IsUnsealed why name stop → (why ≡ fail.FileFault → Increased f f')
    → IsCommandStop name f f' d d' stop
unsealed_caused (fail.TooMany n) (Refused given) name f f' d d' u h = not_missing given answer.TooMany name u (λ x. cc)
unsealed_caused (fail.TooLarge n) (Refused given) name f f' d d' u h = not_missing given answer.TooLarge name u (λ x. cc)
unsealed_caused fail.FileFault (Refused given) name f f' d d' u h = absurd u
unsealed_caused fail.NoMemory (Refused given) name f f' d d' u h = absurd u
unsealed_caused (fail.TooMany n) (FileFault given) name f f' d d' u h = absurd u
unsealed_caused (fail.TooLarge n) (FileFault given) name f f' d d' u h = absurd u
unsealed_caused fail.FileFault (FileFault given) name f f' d d' u h = (u, h refl)
unsealed_caused fail.NoMemory (FileFault given) name f f' d d' u h = absurd u
unsealed_caused (fail.TooMany n) InputFault name f f' d d' u h = absurd u
unsealed_caused (fail.TooLarge n) InputFault name f f' d d' u h = absurd u
unsealed_caused fail.FileFault InputFault name f f' d d' u h = absurd u
unsealed_caused fail.NoMemory InputFault name f f' d d' u h = absurd u
unsealed_caused why NoMemory name f f' d d' u h = tt
