-- What is said of the key and the settings of a file has a cause exactly where it does not fit.
use Rattle.std.proofs.Common.{◌≡◌, ℕ, Bool, true, false, List, [], ◌∷◌, Option, Some, None, refl, sym, ap, ap₂, ◌∙◌}
use Rattle.std.specs.Prelude.{not, ◌&&◌, ◌||◌, if◌then◌else◌, is_some}
use Rattle.std.specs.Option.{option_and_then, option_map, option_map_or, option_or}
use Rattle.cli_options.specs.declared.names.CommandName.{CommandName}
use Rattle.cli_options.specs.declared.names.CommandName.TheVariants as name
use Rattle.cli_options.specs.declared.forms.CommandOption.{CommandOption}
use Rattle.cli_options.specs.declared.forms.CommandOption.TheVariants as option
use Rattle.cli_options.specs.Credentials.{has_part, is_fit_change, is_fit_new}
use Rattle.cli_options.specs.Numbers.{number_of}
use Rattle.cli_options.specs.Said.{Said, is_given, text_of}
use Rattle.cli_needs.specs.declared.command.Command.{Command}
use Rattle.cli_needs.specs.declared.command.Command.TheVariants.{EditFile}
use Rattle.cli_needs.specs.declared.command.KdfAsked.{KdfAsked}
use Rattle.cli_needs.specs.declared.command.KdfKind.{KdfKind}
use Rattle.cli_parse.specs.Settings.{change_in, change_with, cipher_in, cipher_named, cost_or, has_argon_cost, has_file_change, if_named, is_argon, kdf_asked, kdf_in, kdf_named, kdf_of, kdf_with, usual_rounds, version_in, version_named}
use Rattle.cli_parse.specs.Words.{access_sealed, create_at, create_with, edit_file_at}
use Rattle.cli_needs.specs.KdbxFrame.declared.settings.Cipher.{Cipher}
use Rattle.vault_model.specs.declared.forms.FileVersion.{FileVersion}
use Rattle.cli_causes.specs.declared.cause.Cause.{Cause}
use Rattle.cli_causes.specs.declared.cause.Cause.TheVariants.{NeedsArgon, NeedsKdf, NoKeyLeft, NoNewKey, NotTogether, NotWithPlain, UnknownCipher, UnknownCost, UnknownKdf, UnknownVersion}
use Rattle.cli_causes.specs.Files.{argon_cause, cipher_cause, cost_cause, costs_cause, create_cause, edit_file_cause, file_change_cause, kdf_cause, key_change_cause, kind_cause, new_key_cause, no_change_cause, plain_settings_cause, settings_cause, version_cause}
use Rattle.cli_causes.specs.First.{first_of}
use Rattle.cli_causes.proofs.Tests.{some_mapped, some_or}

-- ---- new keys

pub fits_new : (command : CommandName) (p w k : Bool)
    → is_some (if p then first_of ((w, NotWithPlain option.SetPassword) ∷ (k, NotWithPlain option.SetKeyFile) ∷ []) else first_of ((not (w || k), NoNewKey command) ∷ []))
    ≡ not (if p then not (w || k) else (w || k))
fits_new command true true k = refl
fits_new command true false true = refl
fits_new command true false false = refl
fits_new command false true k = refl
fits_new command false false true = refl
fits_new command false false false = refl

-- ---- settings

ciphers : (t : Option (List ℕ)) → is_some (cipher_cause t) ≡ not (is_some (if_named cipher_named t))
ciphers None = refl
ciphers (Some name) = by (cipher_named name)
  where
    by : (o : Option Cipher) → is_some (if is_some o then None else Some (UnknownCipher name)) ≡ not (is_some (option_map Some o))
    by None = refl
    by (Some cipher) = refl

versions : (t : Option (List ℕ)) → is_some (version_cause t) ≡ not (is_some (if_named version_named t))
versions None = refl
versions (Some name) = by (version_named name)
  where
    by : (o : Option FileVersion) → is_some (if is_some o then None else Some (UnknownVersion name)) ≡ not (is_some (option_map Some o))
    by None = refl
    by (Some version) = refl

costs : (option : CommandOption) (usual : ℕ) (t : Option (List ℕ)) → is_some (cost_cause option t) ≡ not (is_some (cost_or usual t))
costs option usual None = refl
costs option usual (Some text) = by (number_of 10 text)
  where
    by : (o : Option ℕ) → is_some (if is_some o then None else Some (UnknownCost option text)) ≡ not (is_some o)
    by None = refl
    by (Some number) = refl

-- Of three costs each must be one.
three : (kind : KdfKind) (rounds kib lanes : Option ℕ)
    → (not (is_some rounds) || (not (is_some kib) || not (is_some lanes))) ≡ not (is_some (kdf_with kind rounds kib lanes))
three kind None kib lanes = refl
three kind (Some rounds) None lanes = refl
three kind (Some rounds) (Some kib) None = refl
three kind (Some rounds) (Some kib) (Some lanes) = refl

all_costs : (said : Said) (kind : KdfKind)
    → is_some (costs_cause said)
    ≡ not (is_some (kdf_with kind (cost_or (usual_rounds kind) (text_of option.Rounds said)) (cost_or 65536 (text_of option.Memory said)) (cost_or 2 (text_of option.Lanes said))))
all_costs said kind =
    some_or (cost_cause option.Rounds (text_of option.Rounds said)) _
    ∙ ap₂ (λ (a b : Bool). a || b) (costs option.Rounds (usual_rounds kind) (text_of option.Rounds said))
    (some_or (cost_cause option.Memory (text_of option.Memory said)) (cost_cause option.Lanes (text_of option.Lanes said))
    ∙ ap₂ (λ (a b : Bool). a || b) (costs option.Memory 65536 (text_of option.Memory said)) (costs option.Lanes 2 (text_of option.Lanes said)))
    ∙ three kind (cost_or (usual_rounds kind) (text_of option.Rounds said)) (cost_or 65536 (text_of option.Memory said)) (cost_or 2 (text_of option.Lanes said))

-- A cost that only Argon2 has, of another kind.
argon_first : (memory lanes : Bool) → is_some (first_of ((memory, NeedsArgon option.Memory) ∷ (lanes, NeedsArgon option.Lanes) ∷ [])) ≡ (memory || lanes)
argon_first true lanes = refl
argon_first false true = refl
argon_first false false = refl

by_kind : (said : Said) (kind : KdfKind) → is_some (kind_cause said kind) ≡ not (is_some (kdf_of said kind))
by_kind said kind = by (is_argon kind) (has_argon_cost said) (argon_first (is_given option.Memory said) (is_given option.Lanes said)) (all_costs said kind)
  where
    with : Option KdfAsked
    with = kdf_with kind (cost_or (usual_rounds kind) (text_of option.Rounds said)) (cost_or 65536 (text_of option.Memory said)) (cost_or 2 (text_of option.Lanes said))

    by : (argon has : Bool) → is_some (argon_cause said) ≡ has → is_some (costs_cause said) ≡ not (is_some with)
        → is_some (if argon then costs_cause said else option_or (argon_cause said) (costs_cause said)) ≡ not (is_some (if has && not argon then None else with))
    by true true h g = g
    by true false h g = g
    by false true h g = some_or (argon_cause said) (costs_cause said) ∙ ap (λ (a : Bool). a || is_some (costs_cause said)) h
    by false false h g = some_or (argon_cause said) (costs_cause said) ∙ ap (λ (a : Bool). a || is_some (costs_cause said)) h ∙ g

-- That what is said of a derivation does not fit.
abbrev no_derivation : Option (Option KdfAsked)
no_derivation = None

-- A cost where no derivation is named.
no_kdf_first : (rounds memory lanes : Bool)
    → is_some (first_of ((rounds, NeedsKdf option.Rounds) ∷ (memory, NeedsKdf option.Memory) ∷ (lanes, NeedsKdf option.Lanes) ∷ []))
    ≡ not (is_some (if rounds || (memory || lanes) then no_derivation else Some None))
no_kdf_first true memory lanes = refl
no_kdf_first false true lanes = refl
no_kdf_first false false true = refl
no_kdf_first false false false = refl

derivations : (said : Said) (t : Option (List ℕ)) → is_some (kdf_cause said t) ≡ not (is_some (kdf_asked said t))
derivations said None = no_kdf_first (is_given option.Rounds said) (is_given option.Memory said) (is_given option.Lanes said)
derivations said (Some name) = by (kdf_named name)
  where
    by : (o : Option KdfKind)
        → is_some (option_map_or (kind_cause said) o (Some (UnknownKdf name))) ≡ not (is_some (option_map Some (option_and_then (kdf_of said) o)))
    by None = refl
    by (Some kind) = by_kind said kind ∙ ap not (sym (some_mapped Some (kdf_of said kind)))

all_settings : (said : Said) → is_some (settings_cause said) ≡ (not (is_some (cipher_in said)) || not (is_some (kdf_in said)))
all_settings said =
    some_or (cipher_cause (text_of option.Cipher said)) (kdf_cause said (text_of option.Kdf said))
    ∙ ap₂ (λ (a b : Bool). a || b) (ciphers (text_of option.Cipher said)) (derivations said (text_of option.Kdf said))

-- ---- new files

with_plain : (plain cipher kdf : Bool)
    → is_some (first_of ((plain && cipher, NotTogether option.Cipher option.Plain) ∷ (plain && kdf, NotTogether option.Kdf option.Plain) ∷ []))
    ≡ (plain && (cipher || kdf))
with_plain true true kdf = refl
with_plain true false true = refl
with_plain true false false = refl
with_plain false cipher kdf = refl

both_known : (said : Said) (file : List ℕ) (cipher : Option (Option Cipher)) (kdf : Option (Option KdfAsked))
    → (not (is_some cipher) || not (is_some kdf)) ≡ not (is_some (create_with said file cipher kdf))
both_known said file None kdf = refl
both_known said file (Some cipher) None = refl
both_known said file (Some cipher) (Some kdf) = refl

in_new : (new plain unknown : Bool) (made : Option Command) → unknown ≡ not (is_some made)
    → (not new || (plain || unknown)) ≡ not (is_some (if new && not plain then made else None))
in_new false plain unknown made h = refl
in_new true true unknown made h = refl
in_new true false unknown made h = h

pub create_agrees : (said : Said) (file : List ℕ) → is_some (create_cause said) ≡ not (is_some (create_at said (file ∷ [])))
create_agrees said file =
    some_or (new_key_cause name.Create said) _
    ∙ ap₂ (λ (a b : Bool). a || b)
    (fits_new name.Create (is_given option.Plain said) (is_given option.SetPassword said) (is_given option.SetKeyFile said))
    (some_or (plain_settings_cause said) (settings_cause said)
    ∙ ap₂ (λ (a b : Bool). a || b) (with_plain (is_given option.Plain said) (is_given option.Cipher said) (is_given option.Kdf said)) (all_settings said))
    ∙ in_new (is_fit_new said) (is_given option.Plain said && (is_given option.Cipher said || is_given option.Kdf said))
    (not (is_some (cipher_in said)) || not (is_some (kdf_in said))) (create_with said file (cipher_in said) (kdf_in said))
    (both_known said file (cipher_in said) (kdf_in said))

-- ---- changed files

key_first : (password key_file part : Bool) (a b c : Cause)
    → is_some (first_of ((password, a) ∷ (key_file, b) ∷ (not part, c) ∷ [])) ≡ not (not password && (not key_file && part))
key_first true key_file part a b c = refl
key_first false true part a b c = refl
key_first false false true a b c = refl
key_first false false false a b c = refl

all_known : (said : Said) (cipher : Option (Option Cipher)) (kdf : Option (Option KdfAsked)) (version : Option (Option FileVersion))
    → ((not (is_some cipher) || not (is_some kdf)) || not (is_some version)) ≡ not (is_some (change_with said cipher kdf version))
all_known said None kdf version = refl
all_known said (Some cipher) None version = refl
all_known said (Some cipher) (Some kdf) None = refl
all_known said (Some cipher) (Some kdf) (Some version) = refl

no_change : (has : Bool) (cause : Cause) → is_some (if has then None else Some cause) ≡ not has
no_change true cause = refl
no_change false cause = refl

in_change : (has fit settings version : Bool) (made : Option Command) → (settings || version) ≡ not (is_some made)
    → (not fit || (settings || (version || not has))) ≡ not (is_some (if has && fit then made else None))
in_change false false settings version made h = refl
in_change false true true version made h = refl
in_change false true false true made h = refl
in_change false true false false made h = refl
in_change true false settings version made h = refl
in_change true true true version made h = h
in_change true true false true made h = h
in_change true true false false made h = h

pub edit_file_agrees : (said : Said) (file : List ℕ) → is_some (edit_file_cause said) ≡ not (is_some (edit_file_at said (file ∷ [])))
edit_file_agrees said file =
    some_or (key_change_cause said) _
    ∙ ap₂ (λ (a b : Bool). a || b) (key_first (is_given option.SetPassword said && is_given option.UnsetPassword said) (is_given option.SetKeyFile said && is_given option.UnsetKeyFile said)
    (has_part (is_given option.SetPassword said) (is_given option.UnsetPassword said) (not (is_given option.NoPassword said))
    || has_part (is_given option.SetKeyFile said) (is_given option.UnsetKeyFile said) (is_given option.KeyFile said))
    (NotTogether option.SetPassword option.UnsetPassword) (NotTogether option.SetKeyFile option.UnsetKeyFile) NoKeyLeft)
    (some_or (settings_cause said) _
    ∙ ap₂ (λ (a b : Bool). a || b) (all_settings said)
    (some_or (version_cause (text_of option.FileVersion said)) (file_change_cause said)
    ∙ ap₂ (λ (a b : Bool). a || b) (versions (text_of option.FileVersion said)) (no_change (has_file_change said) (no_change_cause said))))
    ∙ in_change (has_file_change said) (is_fit_change said) (not (is_some (cipher_in said)) || not (is_some (kdf_in said))) (not (is_some (version_in said)))
    (option_map (EditFile (access_sealed said) file) (change_in said))
    (all_known said (cipher_in said) (kdf_in said) (version_in said) ∙ ap not (sym (some_mapped (EditFile (access_sealed said) file) (change_in said))))
