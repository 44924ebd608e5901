-- Refusals of a few texts, computed.
use Rattle.std.proofs.Common.{refl}
use lib.Utf8.{encode}
use Rattle.std.specs.Str.{is_utf8, chars}
use Rattle.base64.specs.Decode.{groups_bytes, groups_error, scan_steps}
use Rattle.markup_grammar.specs.Attributes.{attributes_from, last_named}
use Rattle.markup_grammar.specs.Bytes.{begins_name, is_digit, is_name_byte, is_space, is_text, is_value}
use Rattle.markup_grammar.specs.Elements.{open_contents}
use Rattle.markup_grammar.specs.Escapes.{unescaped_from}
use Rattle.markup_grammar.specs.Machine.{answers_from}
use Rattle.markup_grammar.specs.Reading.{answers}
use Rattle.markup_grammar.specs.Utf8.{utf8_front_from, utf8_step}
use Rattle.text_forms.specs.Texts.{base64_bytes, trim}
use Rattle.document_cause_laws.specs.Examples.{ExampleDepths, ExampleFaults, ExampleRefusals}

pub example_refusals : ExampleRefusals
unfolding answers answers_from utf8_front_from utf8_step is_space begins_name is_name_byte is_digit is_text open_contents attributes_from last_named
example_refusals = record { empty = refl; other = refl; bare = refl; rootless = refl; nameless = refl }

pub example_faults : ExampleFaults
unfolding answers answers_from utf8_front_from utf8_step is_space begins_name is_name_byte is_digit is_text open_contents attributes_from last_named is_value unescaped_from base64_bytes trim groups_error scan_steps groups_bytes is_utf8 chars encode
example_faults = record { second = refl; number = refl; hidden = refl; nil = refl; packed = refl; twice = refl; unbound = refl }

pub example_depths : ExampleDepths
unfolding answers answers_from utf8_front_from utf8_step is_space begins_name is_name_byte is_digit is_text open_contents attributes_from last_named
example_depths = record { open_elements = refl; groups = refl }
