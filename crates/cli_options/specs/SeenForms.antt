-- What is seen of how an option is written.
use Rattle.cli_options.specs.declared.forms.OptionForm as declared
use Rattle.cli_options.specs.Options.{OptionForm}

-- the same without the loan
abbrev pub form_seen : declared.OptionForm → OptionForm
form_seen form = record {
  name = form.name.now;
  letter = form.letter;
  has_value = form.has_value;
  is_repeatable = form.is_repeatable;
}
