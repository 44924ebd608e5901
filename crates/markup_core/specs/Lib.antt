pub mod AttributeRuns
pub mod Next
pub mod Reader
pub use Rattle.markup_grammar.specs as MarkupGrammar
