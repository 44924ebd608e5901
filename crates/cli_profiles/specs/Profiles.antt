-- Of which characters a generated password is made, and of how many. Bytes are numbers, those of
-- ASCII.
use Rattle.std.specs.Prelude.{Bool, true, false, not, ◌&&◌, ◌||◌, ◌==◌, ℕ, ◌<◌, ◌≤◌, nat_le, if◌then◌else◌, All, List, [], ◌∷◌, ◌++◌, length, codes, filter, Option, None, Some, option_and_then}
use Rattle.std.specs.List.{list_any}
use Rattle.gen_core.specs.Chosen.{IsAlphabet}
use Rattle.cli_options.specs.declared.forms.CommandOption.TheVariants as option
use Rattle.cli_options.specs.Numbers.{number_of}
use Rattle.cli_options.specs.Said.{Said, is_given, text_of}
use Rattle.cli_profiles.specs.declared.profiles.Classes.{Classes}
use Rattle.cli_profiles.specs.declared.profiles.PasswordProfile.{PasswordProfile}

-- ---- the characters

-- The characters that a password can have: letters in small and in large, digits, and signs.
abbrev pub characters : List ℕ
characters =
    codes "abcdefghijklmnopqrstuvwxyz" ++ codes "ABCDEFGHIJKLMNOPQRSTUVWXYZ"
    ++ codes "0123456789" ++ codes "!\"#$%&'()*+,-./:;<=>?@[\\]^_`{|}~"

-- A class of characters is asked for.
abbrev pub has_class : Said → Bool
has_class said =
    is_given option.Lower said || is_given option.Upper said || is_given option.Numeric said
    || is_given option.Special said

-- Letters and digits.
abbrev pub default_classes : Classes
default_classes = record { lower = true; upper = true; numeric = true; special = false }

-- The classes that are asked for, or else letters and digits.
abbrev pub classes_of : Said → Classes
classes_of said = if has_class said
    then record {
      lower = is_given option.Lower said;
      upper = is_given option.Upper said;
      numeric = is_given option.Numeric said;
      special = is_given option.Special said;
    }
    else default_classes

-- A character is of one of these classes; what is no letter and no digit is a sign.
abbrev pub has_character : Classes → ℕ → Bool
has_character classes c =
    if nat_le 97 c && nat_le c 122 then classes.lower
    else (if nat_le 65 c && nat_le c 90 then classes.upper
    else (if nat_le 48 c && nat_le c 57 then classes.numeric
    else classes.special))

-- A text has this byte.
abbrev pub text_has : List ℕ → ℕ → Bool
text_has text c = list_any (λ b. b == c) text

-- A text, where there is one, has this byte.
abbrev pub has_byte : Option (List ℕ) → ℕ → Bool
has_byte None c = false
has_byte (Some text) c = text_has text c

-- A character is of a class that is asked for, and is not excluded.
abbrev pub is_wanted : Said → ℕ → Bool
is_wanted said c =
    has_character (classes_of said) c && not (has_byte (text_of option.Exclude said) c)

-- The characters that the password can have.
abbrev pub alphabet_of : Said → List ℕ
alphabet_of said = filter (is_wanted said) characters

-- ---- the length

-- The number, if a password can be so long: 1 to 4,096.
abbrev pub as_length : ℕ → Option ℕ
as_length number = if nat_le 1 number && nat_le number 4096 then Some number else None

-- The length that a text of one to four digits is.
abbrev pub length_named : List ℕ → Option ℕ
length_named text = option_and_then as_length (number_of 4 text)

-- The length that is asked for: 32 where none is named.
abbrev pub length_asked : Option (List ℕ) → Option ℕ
length_asked None = Some 32
length_asked (Some text) = length_named text

-- ---- the profile

-- A profile of this length, if there is one, and of these characters, if there are any.
abbrev pub profile_with : Option ℕ → List ℕ → Option PasswordProfile
profile_with None alphabet = None
profile_with (Some length) [] = None
profile_with (Some length) (c ∷ cs) = Some (record { length = length; alphabet = c ∷ cs })

-- The profile that is asked for, if its length is one and it has any character.
abbrev pub profile_in : Said → Option PasswordProfile
profile_in said = profile_with (length_asked (text_of option.Length said)) (alphabet_of said)

-- A password can be chosen by this profile: of 1 to 94 characters of ASCII, none of them twice, and
-- of 1 to 4,096 in all.
pub record IsProfile (profile : PasswordProfile) : Type 0 where
  pub alphabet : IsAlphabet profile.alphabet
  pub ascii : All (λ b. b < 128) profile.alphabet
  pub some : 0 < profile.length
  pub few : profile.length ≤ 4096
