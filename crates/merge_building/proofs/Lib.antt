pub mod BuiltTrees
pub mod LaidParts
