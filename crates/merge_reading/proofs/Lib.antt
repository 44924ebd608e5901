pub mod ReadColumns
pub mod ReadRows
pub mod SeenRoots
