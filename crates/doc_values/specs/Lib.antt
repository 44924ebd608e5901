pub use Rattle.markup_core.specs as MarkupCore
