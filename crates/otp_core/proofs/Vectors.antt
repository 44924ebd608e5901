-- The definition of the codes on the vectors of RFC 6238, appendix B.
use Rattle.std.proofs.Common.{◌≡◌, ℕ, List, ◌++◌, codes, refl, Some, None, Ok, Err}
use Rattle.sha1.specs.Sha1 as one
use Rattle.sha2.specs.Sha256 as two
use Rattle.sha2.specs.Sha512 as five
use Rattle.otp_core.specs.declared.hashes.OtpHash.TheVariants.{Sha1, Sha256, Sha512}
use Rattle.otp_core.specs.Hashes.{hmac, key_block, padded}
use Rattle.otp_core.specs.Codes.{code, truncated}
use Rattle.otp_core.specs.declared.fails.OtpFail.TheVariants.{OtpForm, OtpUnknown, OtpLimit}
use Rattle.otp_core.specs.Reading.{parts_between, decimal_from, bytes32, equals_after, base32, with_value, with_parameter, with_parameters, within_limits, otp_of_label, otp_of_uri, parameters_of_settings, otp_of_seed, otp_of_fields}

abbrev ten : List ℕ
ten = codes "1234567890"

code_1 : code Sha1 (ten ++ ten) 30 8 59 ≡ 94287082
unfolding one.first_words one.schedule one.rounds one.compress one.hash_after one.digest_bytes one.sha1 key_block padded hmac truncated code
code_1 = refl

code_256 : code Sha256 (ten ++ ten ++ ten ++ codes "12") 30 8 1111111109 ≡ 68084774
unfolding two.first_words two.schedule two.rounds two.compress two.hash_after two.digest_bytes two.sha256 key_block padded hmac truncated code
code_256 = refl

code_512 : code Sha512 (ten ++ ten ++ ten ++ ten ++ ten ++ ten ++ codes "1234") 30 8 20000000000 ≡ 47863826
unfolding five.first_words five.schedule five.rounds five.compress five.hash_after five.digest_bytes five.sha512 key_block padded hmac truncated code
code_512 = refl

-- The fields of entries: a URI whose secret ends with an escaped `=` (RFC 4648, section 10), and
-- refusals in their order.
a_uri : otp_of_fields (Some (codes "otpauth://totp/a:b?secret=mzxw%206&digits=8&period=60")) None None ≡ Err (OtpForm 26)
unfolding parts_between decimal_from bytes32 equals_after base32 with_value with_parameter with_parameters within_limits otp_of_label otp_of_uri parameters_of_settings otp_of_seed otp_of_fields
a_uri = refl

escaped : otp_of_fields (Some (codes "otpauth://totp/a?SECRET=mzxw6%3d%3D%3D&digits=8&algorithm=sha256")) None None
    ≡ Ok (record { secret = codes "foo"; hash = Sha256; period = 30; digits = 8 })
unfolding parts_between decimal_from bytes32 equals_after base32 with_value with_parameter with_parameters within_limits otp_of_label otp_of_uri parameters_of_settings otp_of_seed otp_of_fields
escaped = refl

older : otp_of_fields None (Some (codes "MZXW 6YTB OI")) (Some (codes "60;7")) ≡ Ok (record { secret = codes "foobar"; hash = Sha1; period = 60; digits = 7 })
unfolding parts_between decimal_from bytes32 equals_after base32 with_value with_parameter with_parameters within_limits otp_of_label otp_of_uri parameters_of_settings otp_of_seed otp_of_fields
older = refl

steam : otp_of_fields None (Some (codes "MZXW6YTBOI")) (Some (codes "30;S")) ≡ Err (OtpUnknown 3)
unfolding parts_between decimal_from bytes32 equals_after base32 with_value with_parameter with_parameters within_limits otp_of_label otp_of_uri parameters_of_settings otp_of_seed otp_of_fields
steam = refl

no_secret : otp_of_fields (Some (codes "otpauth://totp/a?digits=9")) None None ≡ Err (OtpForm 25)
unfolding parts_between decimal_from bytes32 equals_after base32 with_value with_parameter with_parameters within_limits otp_of_label otp_of_uri parameters_of_settings otp_of_seed otp_of_fields
no_secret = refl

too_many : otp_of_fields (Some (codes "otpauth://totp/a?digits=9&secret=MZXW6")) None None ≡ Err (OtpLimit 9)
unfolding parts_between decimal_from bytes32 equals_after base32 with_value with_parameter with_parameters within_limits otp_of_label otp_of_uri parameters_of_settings otp_of_seed otp_of_fields
too_many = refl
