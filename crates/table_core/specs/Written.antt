-- The writer of the crate `csv` that quotes every field.
use Rattle.csv.specs.Writing.{default_writer, with_style}
use Rattle.csv.specs.declared.writer.QuoteStyle.TheVariants.{Always}
use Rattle.csv.specs.declared.writer.WriterBuilder.{WriterBuilder}

-- Its settings: commas, and a line feed after each row.
abbrev pub quoting_writer : WriterBuilder
quoting_writer = with_style default_writer Always
