-- What the fields of an entry say of one-time codes. Bytes are numbers, those of ASCII.
use Rattle.std.specs.Prelude.{Bool, ◌&&◌, not, ℕ, zero, suc, ◌+◌, ◌-◌, ◌*◌, ◌/◌, ◌%◌, ◌^◌, nat_eq, nat_lt, nat_le, List, [], ◌∷◌, length, take, drop, codes, Option, None, Some, option_map, Result, Ok, Err, if◌then◌else◌, position, filter}
use Rattle.std.specs.List.{find, list_all, position_or_len}
use Rattle.std.specs.Str.{bytes_eq, str_eq_ignore_ascii_case}
use Rattle.vault_model.specs.Bare.{BareField}
use Rattle.otp_core.specs.declared.hashes.OtpHash.{OtpHash}
use Rattle.otp_core.specs.declared.hashes.OtpHash.TheVariants.{Sha1, Sha256, Sha512}
use Rattle.otp_core.specs.declared.fails.OtpFail.{OtpFail}
use Rattle.otp_core.specs.declared.fails.OtpFail.TheVariants.{NoOtp, OtpForm, OtpUnknown, OtpLimit}
use Rattle.otp_core.specs.declared.parameters.Key.{Key}
use Rattle.otp_core.specs.declared.parameters.Key.TheVariants.{Secret, Period, Digits, Algorithm, Encoder, Other}

-- the bytes before the first byte like this: all of them if there is none
abbrev pub prefix_before : ℕ → List ℕ → List ℕ
prefix_before mark text = take (position_or_len (λ b. nat_eq b mark) text) text

-- the bytes after the first byte like this, if there is one
abbrev pub suffix_after : ℕ → List ℕ → Option (List ℕ)
suffix_after mark text = option_map (λ i. drop (i + 1) text) (position (λ b. nat_eq b mark) text)

-- a byte before the first of some parts
abbrev pub onto_first : ℕ → List (List ℕ) → List (List ℕ)
onto_first b [] = (b ∷ []) ∷ []
onto_first b (p ∷ ps) = (b ∷ p) ∷ ps

-- the parts between the bytes like this, at least one
unfoldable pub parts_between : ℕ → List ℕ → List (List ℕ)
parts_between mark [] = [] ∷ []
parts_between mark (b ∷ text) =
    if nat_eq b mark then [] ∷ parts_between mark text else onto_first b (parts_between mark text)

-- a number of decimal digits after another
unfoldable pub decimal_from : ℕ → List ℕ → Option ℕ
decimal_from n [] = Some n
decimal_from n (b ∷ text) =
    if nat_le 48 b && nat_le b 57 then decimal_from (n * 10 + (b - 48)) text else None

-- one to ten decimal digits
abbrev pub decimal : List ℕ → Option ℕ
decimal text =
    if nat_le 1 (length text) && nat_le (length text) 10 then decimal_from 0 text else None

-- a digit of base 32 (RFC 4648, section 6), in either case
abbrev pub digit32 : ℕ → Option ℕ
digit32 b =
    if nat_le 65 b && nat_le b 90 then Some (b - 65)
    else if nat_le 97 b && nat_le b 122 then Some (b - 97)
    else if nat_le 50 b && nat_le b 55 then Some (b - 24)
    else None

-- The bytes of digits of base 32, after so many bits that are not yet a byte, fewer than 8, and
-- their number. Bits that are no whole byte at the end are dropped.
unfoldable pub bytes32 : ℕ → ℕ → List ℕ → Option (List ℕ)
bytes32 bits held [] = Some []
bytes32 bits held (b ∷ text) = elim (digit32 b) as (λ _. Option (List ℕ)) [
  | None ↦ None
  | Some d ↦
      if nat_lt bits 3 then bytes32 (bits + 5) (held * 32 + d) text
      else option_map (λ bytes. (held * 32 + d) / 2 ^ (bits - 3) ∷ bytes)
      (bytes32 (bits - 3) ((held * 32 + d) % 2 ^ (bits - 3)) text)
]

-- the text begins with `%3D`, in either case of its letter
abbrev pub is_escape : List ℕ → Bool
is_escape text = str_eq_ignore_ascii_case (take 3 text) (codes "%3D")

-- the text without so many bytes at its start, and with `=` for every `%3D` after them
unfoldable pub equals_after : ℕ → List ℕ → List ℕ
equals_after skip [] = []
equals_after (suc skip) (b ∷ text) = equals_after skip text
equals_after zero (b ∷ text) =
    if is_escape (b ∷ text) then 61 ∷ equals_after 2 text else b ∷ equals_after 0 text

-- every `=` that stands as `%3D`
abbrev pub with_equals : List ℕ → List ℕ
with_equals text = equals_after 0 text

-- the text has no `=` but at its end
abbrev pub ends_padded : List ℕ → Bool
ends_padded text = list_all (λ b. nat_eq b 61) (drop (length (prefix_before 61 text)) text)

-- the bytes of a text in base 32 without spaces, which has at least one digit
abbrev pub digits32 : List ℕ → Option (List ℕ)
digits32 text =
    if nat_lt 0 (length (prefix_before 61 text)) && ends_padded text
    then bytes32 0 0 (prefix_before 61 text) else None

-- the bytes of a text in base 32
unfoldable pub base32 : List ℕ → Option (List ℕ)
base32 text = digits32 (filter (λ b. not (nat_eq b 32)) text)

-- What the parameters of a URI, or the older fields, say of codes.
pub record BareParameters : Type 0 where
  pub secret : Option (List ℕ)
  pub hash : OtpHash
  pub period : ℕ
  pub digits : ℕ

-- the parameters where none is given
abbrev pub default_parameters : BareParameters
default_parameters = record { secret = None; hash = Sha1; period = 30; digits = 6 }

-- which key a word is
abbrev pub key_of : List ℕ → Key
key_of word =
    if str_eq_ignore_ascii_case word (codes "secret") then Secret
    else if str_eq_ignore_ascii_case word (codes "period") then Period
    else if str_eq_ignore_ascii_case word (codes "digits") then Digits
    else if str_eq_ignore_ascii_case word (codes "algorithm") then Algorithm
    else if str_eq_ignore_ascii_case word (codes "encoder") then Encoder
    else Other

-- which hash a word is
abbrev pub hash_of : List ℕ → Option OtpHash
hash_of word =
    if str_eq_ignore_ascii_case word (codes "SHA1") then Some Sha1
    else if str_eq_ignore_ascii_case word (codes "SHA256") then Some Sha256
    else if str_eq_ignore_ascii_case word (codes "SHA512") then Some Sha512
    else None

-- the value, or this refusal
abbrev pub or_else : {A B : Type 0} → OtpFail → (A → B) → Option A → Result B OtpFail
or_else fail f None = Err fail
or_else fail f (Some x) = Ok (f x)

-- the parameters after a value of a key, which is at this offset
unfoldable pub with_value : Key → ℕ → List ℕ → BareParameters → Result BareParameters OtpFail
with_value Secret at value found =
    or_else (OtpForm at) (λ (s : List ℕ). record found { secret = Some s })
    (base32 (with_equals value))
with_value Period at value found =
    or_else (OtpForm at) (λ (n : ℕ). record found { period = n }) (decimal value)
with_value Digits at value found =
    or_else (OtpForm at) (λ (n : ℕ). record found { digits = n }) (decimal value)
with_value Algorithm at value found =
    or_else (OtpUnknown at) (λ (h : OtpHash). record found { hash = h }) (hash_of value)
with_value Encoder at value found = Err (OtpUnknown at)
with_value Other at value found = Ok found

-- the parameters after one more, which is at this offset
unfoldable pub with_parameter : ℕ → List ℕ → BareParameters → Result BareParameters OtpFail
with_parameter at text found = elim (suffix_after 61 text) as (λ _. Result BareParameters OtpFail) [
  | None ↦ Err (OtpForm at)
  | Some value ↦
      with_value (key_of (prefix_before 61 text)) (at + length (prefix_before 61 text) + 1) value
      found
]

-- the parameters after some more, the first of which is at this offset, with one byte between two
unfoldable pub with_parameters : ℕ → List (List ℕ) → BareParameters → Result BareParameters OtpFail
with_parameters at [] found = Ok found
with_parameters at (p ∷ ps) found =
    elim (with_parameter at p found) as (λ _. Result BareParameters OtpFail) [
      | Err fail ↦ Err fail
      | Ok after_it ↦ with_parameters (at + length p + 1) ps after_it
    ]

-- A secret and how codes are made of it.
pub record BareOtp : Type 0 where
  pub secret : List ℕ
  pub hash : OtpHash
  pub period : ℕ
  pub digits : ℕ

-- a secret with its parameters, if they are within the limits; else the first that is not
unfoldable pub within_limits : List ℕ → BareParameters → Result BareOtp OtpFail
within_limits secret found =
    if not (nat_le 1 found.period && nat_le found.period 86400) then Err (OtpLimit found.period)
    else if not (nat_le 6 found.digits && nat_le found.digits 8) then Err (OtpLimit found.digits)
    else if nat_lt 256 (length secret) then Err (OtpLimit (length secret))
    else Ok (record {
      secret = secret;
      hash = found.hash;
      period = found.period;
      digits = found.digits;
    })

-- what has a secret, within the limits; a missing secret is refused at this offset
abbrev pub with_secret : ℕ → Result BareParameters OtpFail → Result BareOtp OtpFail
with_secret end (Err fail) = Err fail
with_secret end (Ok found) = elim found.secret as (λ _. Result BareOtp OtpFail) [
  | None ↦ Err (OtpForm end)
  | Some secret ↦ within_limits secret found
]

-- what the field `otp` begins with
abbrev pub uri_prefix : List ℕ
uri_prefix = codes "otpauth://totp/"

-- what follows the prefix, of a URI of so many bytes: a label, `?`, and parameters
unfoldable pub otp_of_label : ℕ → List ℕ → Result BareOtp OtpFail
otp_of_label end body = elim (suffix_after 63 body) as (λ _. Result BareOtp OtpFail) [
  | None ↦ Err (OtpForm end)
  | Some rest ↦ with_secret end
      (with_parameters (end - length rest) (parts_between 38 rest) default_parameters)
]

-- the field `otp`, which is a URI
unfoldable pub otp_of_uri : List ℕ → Result BareOtp OtpFail
otp_of_uri text =
    if bytes_eq (take 15 text) uri_prefix then otp_of_label (length text) (drop 15 text)
    else Err (OtpForm 0)

-- what follows `;` in `PERIOD;DIGITS`, after so many bytes and a period
abbrev pub digits_of_settings : ℕ → ℕ → List ℕ → BareParameters → Result BareParameters OtpFail
digits_of_settings at period text found =
    if bytes_eq text (codes "S") then Err (OtpUnknown at)
    else or_else (OtpForm 0)
    (λ (n : ℕ). record found { period = period; digits = n })
    (decimal text)

-- the field `TOTP Settings`
unfoldable pub parameters_of_settings : Option (List ℕ) → BareParameters
    → Result BareParameters OtpFail
parameters_of_settings None found = Ok found
parameters_of_settings (Some text) found =
    elim (decimal (prefix_before 59 text)) as (λ _. Result BareParameters OtpFail) [
      | None ↦ Err (OtpForm 0)
      | Some period ↦ elim (suffix_after 59 text) as (λ _. Result BareParameters OtpFail) [
        | None ↦ Err (OtpForm 0)
        | Some rest ↦ digits_of_settings (length (prefix_before 59 text) + 1) period rest found
      ]
    ]

-- the older fields
unfoldable pub otp_of_seed : List ℕ → Option (List ℕ) → Result BareOtp OtpFail
otp_of_seed seed settings = elim (base32 seed) as (λ _. Result BareOtp OtpFail) [
  | None ↦ Err (OtpForm 0)
  | Some secret ↦ with_secret 0
      (parameters_of_settings settings (record default_parameters { secret = Some secret }))
]

-- What the fields `otp`, `TOTP Seed` and `TOTP Settings` say of codes, each where it is there.
unfoldable pub otp_of_fields : Option (List ℕ) → Option (List ℕ) → Option (List ℕ)
    → Result BareOtp OtpFail
otp_of_fields (Some otp) seed settings = otp_of_uri otp
otp_of_fields None (Some seed) settings = otp_of_seed seed settings
otp_of_fields None None settings = Err NoOtp

-- the value of the field of a key, where there is one
abbrev pub value_of : List ℕ → List BareField → Option (List ℕ)
value_of key fields =
    option_map (λ (f : BareField). f.value) (find (λ (f : BareField). bytes_eq key f.key) fields)

-- what the fields of an entry's current version say of codes
abbrev pub otp_of_entry : List BareField → Result BareOtp OtpFail
otp_of_entry fields =
    otp_of_fields (value_of (codes "otp") fields) (value_of (codes "TOTP Seed") fields)
    (value_of (codes "TOTP Settings") fields)
