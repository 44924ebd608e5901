pub mod Texts
pub use Rattle.markup_grammar.specs as MarkupGrammar
