-- What the readers of fields answer, beside their definitions.
use Rattle.std.specs.Prelude.{◌≡◌, option_map, Result, Ok, Err}
use Rattle.secret_core.specs.Secret.{SecretBuffer}
use Rattle.otp_core.specs.declared.codes.Otp.{Otp}
use Rattle.otp_core.specs.declared.fails.OtpFail.{OtpFail}
use Rattle.otp_core.specs.declared.fails.OtpFail.TheVariants.{NoOtp, OtpForm, OtpUnknown, OtpLimit, NoMemory}
use Rattle.otp_core.specs.declared.parameters.Parameters.{Parameters}
use Rattle.otp_core.specs.Reading.{BareParameters, BareOtp}

-- parameters without memory
abbrev pub parameters_seen : Parameters → BareParameters
parameters_seen found = record {
  secret = option_map (λ (s : SecretBuffer). s.bytes) found.secret;
  hash = found.hash;
  period = found.period;
  digits = found.digits;
}

-- a secret with its parameters, without memory
abbrev pub otp_seen : Otp → BareOtp
otp_seen otp = record {
  secret = otp.secret.bytes;
  hash = otp.hash;
  period = otp.period;
  digits = otp.digits;
}

-- The answer is that of the definition, which was then this, unless memory ran out.
abbrev pub AnswersBy : {A B : Type 0} → Result B OtpFail → B → Result A OtpFail → Type 0
AnswersBy wanted made (Ok x) = wanted ≡ Ok made
AnswersBy wanted made (Err NoMemory) = Unit {0}
AnswersBy wanted made (Err NoOtp) = wanted ≡ Err NoOtp
AnswersBy wanted made (Err (OtpForm n)) = wanted ≡ Err (OtpForm n)
AnswersBy wanted made (Err (OtpUnknown n)) = wanted ≡ Err (OtpUnknown n)
AnswersBy wanted made (Err (OtpLimit n)) = wanted ≡ Err (OtpLimit n)

-- The answer is that of the definition, of what this gives, unless memory ran out.
abbrev pub Answers : {A B : Type 0} → (A → B) → Result B OtpFail → Result A OtpFail → Type 0
Answers f wanted (Ok x) = wanted ≡ Ok (f x)
Answers f wanted (Err NoMemory) = Unit {0}
Answers f wanted (Err NoOtp) = wanted ≡ Err NoOtp
Answers f wanted (Err (OtpForm n)) = wanted ≡ Err (OtpForm n)
Answers f wanted (Err (OtpUnknown n)) = wanted ≡ Err (OtpUnknown n)
Answers f wanted (Err (OtpLimit n)) = wanted ≡ Err (OtpLimit n)
