use Rattle.std.proofs.Common.{List, ℕ, Option, Bool, Result, Ok, ap, sym, ◌∙◌}
use Rattle.std.specs.Option.{option_map}
use Rattle.doc_forms.specs.MarkupGrammar.Escapes.{unescaped}
use Rattle.doc_forms.specs.declared.fails.DocFail.{DocFail}
use Rattle.doc_forms.specs.ElementTexts.{is_true}
use Rattle.doc_values.proofs.marks.is_marked.Goals as goal

abbrev marked_by : Option (List ℕ) → Result Bool DocFail
marked_by raw = Ok (is_true (option_map unescaped raw))

pub returns-in_default : goal.returns-in_default
returns-in_default c = ap marked_by (sym c.in_default.ensures)

pub returns-in-Ok : goal.returns-in-Ok
returns-in-Ok c = ap marked_by (sym c.in-Some.ensures) ∙ ap Ok (sym c.in-Ok.ensures)
