-- Refusals of a few bytes, computed.
use Rattle.std.proofs.Common.{refl}
use Rattle.outside_core.specs.Results.{repeat_steps}
use Rattle.markup_grammar.specs.Bytes.{begins_name, is_digit, is_name_byte, is_space, is_text}
use Rattle.markup_grammar.specs.Elements.{open_contents}
use Rattle.markup_grammar.specs.Machine.{answers_from}
use Rattle.markup_grammar.specs.Reading.{answers}
use Rattle.markup_grammar.specs.Utf8.{utf8_front_from, utf8_step}
use Rattle.kdbx_parts.specs.Parts.{field_at}
use Rattle.kdbx_parts.specs.Dictionary.{dictionary_of}
use Rattle.kdbx_frame.specs.Fields.{field_step, with_common_field, with_field_4}
use Rattle.kdbx_frame.specs.Header.{header_at}
use Rattle.kdbx_frame.specs.Settings.{checked_header_31}
use Rattle.key_core.specs.KeyFile.{key_file_key}
use Rattle.header_cause_laws.specs.Examples.{ExampleRefusals}

pub example_refusals : ExampleRefusals
unfolding header_at field_at field_step repeat_steps checked_header_31 with_field_4 with_common_field dictionary_of key_file_key answers answers_from utf8_front_from utf8_step is_space begins_name is_name_byte is_digit is_text open_contents
example_refusals = record { empty = refl; later = refl; cut = refl; bare = refl; short = refl; twice = refl; formless = refl; key = refl }
