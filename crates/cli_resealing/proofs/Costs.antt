-- Key derivations that stand for those that are asked for.
use Rattle.std.proofs.Common.{◌≡◌, ◌≤◌, ◌<◌, ◌*◌, ℕ, List, inl, inr, refl, sym, ◌∙◌, ap, cond, arith, Bool, true, false, length, Option, Some, None, Result, Ok, Err}
use Rattle.std.specs.Prelude.{◌||◌, nat_lt, replicate}
use Rattle.std.proofs.lemmas.Bool.{ltb-false}
use Rattle.argon_core.specs.declared.params.ArgonKind.{ArgonKind}
use Rattle.outside_core.specs.Results.{◌>>=◌}
use Rattle.key_core.specs.declared.kdf.Kdf.{Kdf}
use Rattle.key_core.specs.declared.kdf.Kdf.TheVariants.{Argon}
use Rattle.key_core.specs.declared.kdf.KdfFail.{KdfFail}
use Rattle.key_core.specs.declared.kdf.KdfFail.TheVariants as kdf
use Rattle.key_core.specs.declared.kdf.KdfField.{KdfField}
use Rattle.key_core.specs.declared.kdf.KdfField.TheVariants.{Lanes, Memory, Passes}
use Rattle.key_core.specs.Kdf.{check_range, checked_argon, checked_kdf}
use Rattle.vault_making.specs.NeededVersion.{later, needed_version}
use Rattle.vault_model.specs.Tree.{BareDoc}
use Rattle.kdbx_frame.specs.declared.sealings.Sealing.{Sealing}
use Rattle.cli_messages.specs.Messages.{Refuses, refusal_of}
use Rattle.cli_messages.specs.Phases.{Stops}
use Rattle.cli_messages.specs.declared.answers.Refusal.{Refusal}
use Rattle.cli_messages.specs.declared.answers.Stop.{Stop}
use Rattle.cli_messages.specs.declared.answers.Stop.TheVariants.{Refused, FileFault, InputFault, NoMemory}
use Rattle.vault_model.specs.declared.forms.FileVersion.{FileVersion}
use Rattle.kdbx_frame.specs.declared.settings.Cipher.{Cipher}
use Rattle.kdbx_frame.specs.declared.settings.Settings.{Settings}
use Rattle.kdbx_settings.specs.Changed.{changed_settings, changed_version, kdf_needs, public_needs, refuse_costs, version_after, with_change}
use Rattle.kdbx_settings.specs.declared.changing.SettingsChange.{SettingsChange}
use Rattle.kdbx_settings.specs.declared.changing.SettingsFail.{SettingsFail}
use Rattle.kdbx_settings.specs.declared.changing.SettingsFail.TheVariants.{KdfLimit}
use Rattle.cli_resealing.specs.Asked.{AsksFor, IsOrPasses, StandsFor, StandsIn, argon_of, resealed, settings_answer, settings_or_refusal, with_settings}

-- ---- costs that are out of their limits

within_by : (field : KdfField) (least most n : ℕ) (next : Result (Unit {0}) KdfFail) (a b : Bool) → nat_lt most n ≡ b
    → cond (a || b) (Err (kdf.KdfLimit field n)) next ≡ Ok tt → (n ≤ most) × (next ≡ Ok tt)
within_by field least most n next false false high h = (ltb-false most n high, h)
within_by field least most n next false true high h = cc
within_by field least most n next true b high h = cc

within : (field : KdfField) (least most n : ℕ) (next : Result (Unit {0}) KdfFail) → check_range field least most n next ≡ Ok tt → (n ≤ most) × (next ≡ Ok tt)
within field least most n next h = within_by field least most n next (nat_lt n least) (nat_lt most n) refl h

-- Costs of Argon2 that are not refused are within their limits.
inside : (passes bytes lanes salt : ℕ) → checked_argon passes bytes lanes salt ≡ Ok tt → (bytes ≤ 1073741824) × (lanes ≤ 1024)
inside passes bytes lanes salt h =
    let p = within Passes 1 4294967295 passes _ h in
    let m = within Memory (8192 * lanes) 1073741824 bytes _ p.1 in
    let l = within Lanes 1 1024 lanes _ m.1 in
    (m.0, l.0)

refused_by : (r : Result (Unit {0}) KdfFail) → (r ≡ Ok tt → ⊥) → refuse_costs r ≡ Err KdfLimit
refused_by (Ok u) never = absurd (never refl)
refused_by (Err fail) never = refl

much_memory : (passes bytes lanes salt : ℕ) → 1073741824 < bytes → refuse_costs (checked_argon passes bytes lanes salt) ≡ Err KdfLimit
much_memory passes bytes lanes salt much =
    refused_by (checked_argon passes bytes lanes salt) (λ h. let i = inside passes bytes lanes salt h in omega (arith, i.0, much))

many_lanes : (passes bytes lanes salt : ℕ) → 1024 < lanes → refuse_costs (checked_argon passes bytes lanes salt) ≡ Err KdfLimit
many_lanes passes bytes lanes salt many =
    refused_by (checked_argon passes bytes lanes salt) (λ h. let i = inside passes bytes lanes salt h in omega (arith, i.1, many))

-- ---- numbers that do not fit their types

pub stands_argon : (kind : ArgonKind) (rounds kib lanes bytes number : ℕ) (salt : List ℕ) → salt ≡ replicate 32 0
    → IsOrPasses 1073741824 bytes (1024 * kib) → IsOrPasses 1024 number lanes
    → StandsFor (Argon kind rounds bytes number salt) (argon_of kind rounds kib lanes)
stands_argon kind rounds kib lanes bytes number salt is (inl same) (inl lane) = (refl, inl (rw is (rw same (rw lane refl))))
stands_argon kind rounds kib lanes bytes number salt is (inr much) lane =
    (refl, inr (much_memory rounds bytes number (length salt) much.0, much_memory rounds (1024 * kib) lanes 32 much.1))
stands_argon kind rounds kib lanes bytes number salt is (inl same) (inr many) =
    (refl, inr (many_lanes rounds bytes number (length salt) many.0, many_lanes rounds (1024 * kib) lanes 32 many.1))

-- ---- what is changed

out_by : (r : Result FileVersion SettingsFail) (costs costs' : Result (Unit {0}) SettingsFail) (f g : FileVersion → Settings) → costs ≡ Err KdfLimit → costs' ≡ Err KdfLimit
    → ((r >>= λ w. costs >>= λ u. Ok w) >>= λ v. Ok (f v)) ≡ ((r >>= λ w. costs' >>= λ u. Ok w) >>= λ v. Ok (g v))
out_by (Ok w) costs costs' f g is is' = rw is (rw is' refl)
out_by (Err fail) costs costs' f g is is' = refl

by_kdf : (cipher : Option Cipher) (version : Option FileVersion) (kdf asked : Option Kdf) (before : Settings) (needed : FileVersion) → StandsIn kdf asked
    → changed_settings (record { cipher = cipher; kdf = kdf; version = version }) before needed
    ≡ changed_settings (record { cipher = cipher; kdf = asked; version = version }) before needed
unfolding version_after
by_kdf cipher version None None before needed h = refl
by_kdf cipher version (Some k) (Some a) before needed (needs, inl same) = rw same refl
by_kdf cipher version (Some k) (Some a) before needed (needs, inr out) =
    ap (λ n. (changed_version version before.version (later needed (later n (public_needs before.public))) >>= λ w. refuse_costs (checked_kdf k) >>= λ u. Ok w)
    >>= λ v. Ok (with_change (record { cipher = cipher; kdf = Some k; version = version }) before v)) needs
    ∙ out_by (changed_version version before.version (later needed (later (kdf_needs a) (public_needs before.public)))) (refuse_costs (checked_kdf k)) (refuse_costs (checked_kdf a))
    (with_change (record { cipher = cipher; kdf = Some k; version = version }) before) (with_change (record { cipher = cipher; kdf = Some a; version = version }) before) out.0 out.1
by_kdf cipher version None (Some a) before needed h = absurd h
by_kdf cipher version (Some k) None before needed h = absurd h

-- Settings that ask for the same are changed to the same.
pub changed_as : (change asked : SettingsChange) (before : Settings) (needed : FileVersion) → AsksFor change asked
    → changed_settings change before needed ≡ changed_settings asked before needed
changed_as change asked before needed h =
    by_kdf change.cipher change.version change.kdf asked.kdf before needed h.kdf
    ∙ ap (λ (c : Option Cipher). changed_settings (record { cipher = c; kdf = asked.kdf; version = change.version }) before needed) h.cipher
    ∙ ap (λ (v : Option FileVersion). changed_settings (record { cipher = asked.cipher; kdf = asked.kdf; version = v }) before needed) h.version

-- What a file is sealed with once they were changed.
pub settled_as : (file : List ℕ) (change asked : SettingsChange) (doc : BareDoc) (before : Sealing) (now : Settings) → AsksFor change asked
    → changed_settings change before.settings (needed_version doc) ≡ Ok now → resealed file asked doc (Some before) ≡ Ok (with_settings before.composite now)
settled_as file change asked doc before now h e =
    ap (λ r. settings_or_refusal file r >>= λ settings. Ok (with_settings before.composite settings))
    (sym (changed_as change asked before.settings (needed_version doc) h) ∙ e)

pub refused_as : (file : List ℕ) (change asked : SettingsChange) (doc : BareDoc) (before : Sealing) (fail : SettingsFail) → AsksFor change asked
    → changed_settings change before.settings (needed_version doc) ≡ Err fail → resealed file asked doc (Some before) ≡ Err (refusal_of (settings_answer fail) file)
refused_as file change asked doc before fail h e =
    ap (λ r. settings_or_refusal file r >>= λ settings. Ok (with_settings before.composite settings))
    (sym (changed_as change asked before.settings (needed_version doc) h) ∙ e)

-- A stop by a refusal that is defined.
pub refused_so : {Y : Type 0} (stop : Stop) (refusal : Refusal) (defined : Result Y Refusal) → Refuses stop refusal → defined ≡ Err refusal → Stops stop defined
refused_so (Refused given) refusal defined r is = is ∙ ap Err (sym r)
refused_so (FileFault name) refusal defined r is = absurd r
refused_so InputFault refusal defined r is = absurd r
refused_so NoMemory refusal defined r is = tt
