-- What is seen of lines in memory.
use Rattle.std.specs.Prelude.{ℕ, Bool, if◌then◌else◌, List, Option, None, Some, map, option_map}
use Rattle.secret_core.specs.Secret.{SecretBuffer}
use Rattle.cli_lines.specs.declared.lines.Lines as declared
use Rattle.cli_lines.specs.declared.lines.LastLines as last
use Rattle.cli_lines.specs.Lines.{LastLines, Lines}

-- The bytes of a line, if there is one.
abbrev pub line_seen : Option SecretBuffer → Option (List ℕ)
line_seen = option_map (λ line. line.bytes)

-- The bytes of a line that may have been found, in memory that it was read into.
abbrev pub found_seen : Bool → SecretBuffer → Option (List ℕ)
found_seen found line = if found then Some line.bytes else None

-- The bytes of lines that are there.
abbrev pub values_seen : List SecretBuffer → List (List ℕ)
values_seen = map (λ line. line.bytes)

-- The bytes of all lines.
abbrev pub lines_seen : declared.Lines → Lines
lines_seen lines = record {
  password = line_seen lines.password;
  sources = map line_seen lines.sources;
  more = line_seen lines.more;
  otp = line_seen lines.otp;
  fields = values_seen lines.fields;
}

-- The bytes of the lines after all passwords.
abbrev pub last_seen : last.LastLines → LastLines
last_seen lines = record {
  more = line_seen lines.more;
  otp = line_seen lines.otp;
  fields = values_seen lines.fields;
}
