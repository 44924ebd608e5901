-- One-time codes as they are shown, and what is refused of them.
use Rattle.std.specs.Prelude.{ℕ, zero, suc, ◌+◌, ◌-◌, ◌/◌, ◌%◌, ◌==◌, nat_lt, if◌then◌else◌, length, List, [], ◌∷◌, ◌++◌, codes, Option, None, Some, Result, Ok, Err}
use Rattle.outside_core.specs.Results.{◌>>=◌}
use Rattle.vault_model.specs.Bare.{BareField}
use Rattle.otp_core.specs.declared.fails.OtpFail.{OtpFail}
use Rattle.otp_core.specs.declared.fails.OtpFail.TheVariants as fail
use Rattle.otp_core.specs.Codes.{code}
use Rattle.otp_core.specs.Reading.{BareOtp, otp_of_entry, otp_of_uri}
use Rattle.cli_messages.specs.Messages.{Refuses, refusal_of}
use Rattle.cli_messages.specs.Phases.{IsMemoryStop}
use Rattle.cli_messages.specs.declared.answers.Reason.{Reason}
use Rattle.cli_messages.specs.declared.answers.Reason.TheVariants.{NoOtp, OtpForm, OtpUnknown, OtpLimit, OutOfMemory}
use Rattle.cli_messages.specs.declared.answers.Refusal.{Refusal}
use Rattle.cli_messages.specs.declared.answers.Stop.{Stop}

-- ---- the line of a code

-- The last so many decimal digits of a number, zeros before it among them.
unfoldable pub last_digits : ℕ → ℕ → List ℕ
last_digits zero n = []
last_digits (suc count) n = last_digits count (n / 10) ++ (48 + n % 10) ∷ []

-- The first second of 1970, in seconds since the year 1.
abbrev pub EPOCH : ℕ
EPOCH = 62135596800

-- A moment in seconds since 1970; there are no codes before that.
abbrev pub unix_of : ℕ → Result ℕ OtpFail
unix_of now = if nat_lt now EPOCH then Err (fail.OtpLimit now) else Ok (now - EPOCH)

-- The code of a secret, with all its digits, and the end of its line.
abbrev pub line_of : BareOtp → ℕ → List ℕ
line_of otp unix =
    last_digits otp.digits (code otp.hash otp.secret otp.period otp.digits unix) ++ codes "\n"

-- The line of the code that the fields of an entry give at a moment.
unfoldable pub code_line : List BareField → ℕ → Result (List ℕ) OtpFail
code_line fields now = do
  otp ← otp_of_entry fields
  unix ← unix_of now
  Ok (line_of otp unix)

-- ---- refusals

-- Why a command is refused for what is said of codes.
abbrev pub reason_of : OtpFail → Reason
reason_of fail.NoOtp = NoOtp
reason_of (fail.OtpForm place) = OtpForm place
reason_of (fail.OtpUnknown place) = OtpUnknown place
reason_of (fail.OtpLimit number) = OtpLimit
reason_of fail.NoMemory = OutOfMemory

-- What is said of codes in the document of a file, or the refusal.
abbrev pub code_or_refusal : {A : Type 0} → List ℕ → Result A OtpFail → Result A Refusal
code_or_refusal file (Ok a) = Ok a
code_or_refusal file (Err why) = Err (refusal_of (reason_of why) file)

-- A text that is to become the field `otp` of an entry must be one that codes are made from; an
-- empty one takes the field away.
unfoldable pub code_refusal : List ℕ → Option (List ℕ) → Result (Unit {0}) Refusal
code_refusal file None = Ok tt
code_refusal file (Some text) = if length text == 0 then Ok tt
    else (code_or_refusal file (otp_of_uri text) >>= λ otp. Ok tt)

-- ---- how the code relates to it

-- The stop of a call for what is said of codes.
abbrev pub IsCodeStop : OtpFail → List ℕ → Stop → Type 0
IsCodeStop fail.NoMemory file stop = IsMemoryStop stop
IsCodeStop why file stop = Refuses stop (refusal_of (reason_of why) file)
