-- What is seen of what a command asks for.
use Rattle.std.specs.Prelude.{Option, option_map}
use Rattle.cli_needs.specs.declared.needs.Needs as declared
use Rattle.cli_needs.specs.declared.needs.CreateNeeds as made
use Rattle.cli_needs.specs.declared.needs.ImportNeeds as lent
use Rattle.cli_needs.specs.declared.needs.Origin as from
use Rattle.cli_needs.specs.declared.needs.Origin.TheVariants as origin
use Rattle.cli_needs.specs.Needs.{Attached, CreateNeeds, Changed, Created, Exported, Imported, ImportNeeds, Needs, Opened, Origin}

-- the same without the loans
abbrev pub needs_seen : declared.Needs → Needs
needs_seen needs = record {
  access = needs.access.now;
  file = needs.file.now;
  from = needs.from.now;
  same = needs.same;
  sources = needs.sources.now;
  has_line = needs.has_line;
  has_otp = needs.has_otp;
  fields = needs.fields.now;
}

-- what an import asks for without the loans
abbrev pub import_seen : lent.ImportNeeds → ImportNeeds
import_seen needs = record {
  format = needs.format;
  source = needs.source.now;
  access = needs.access.now;
  file = needs.file.now;
}

-- the same where there is an import
abbrev pub imports_seen : Option lent.ImportNeeds → Option ImportNeeds
imports_seen = option_map import_seen

-- what an empty database is made by without the loans
abbrev pub create_seen : made.CreateNeeds → CreateNeeds
create_seen needs = record {
  access = needs.access.now;
  file = needs.file.now;
  name = needs.name.now;
  cipher = needs.cipher;
  kdf = needs.kdf;
}

-- where a database comes from without the loans
abbrev pub origin_seen : from.Origin → Origin
origin_seen origin.Opened = Opened
origin_seen (origin.Exported to) = Exported to.now
origin_seen (origin.Attached source) = Attached source.now
origin_seen (origin.Imported import) = Imported (import_seen import)
origin_seen (origin.Created create) = Created (create_seen create)
origin_seen (origin.Changed change) = Changed change.now
