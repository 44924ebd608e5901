use Rattle.markup_grammar.proofs.EscapedRuns.{escaped_text, escaped_value}
use Rattle.markup_grammar.proofs.meaning_laws.escaped_texts.Goals as goal

pub returns-clause-text : goal.returns-clause-text
returns-clause-text c = escaped_text

pub returns-clause-value : goal.returns-clause-value
returns-clause-value c = escaped_value
