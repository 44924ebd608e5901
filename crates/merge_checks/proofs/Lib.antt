pub mod FirstHeld
pub mod LeastClash
pub mod OwnDocs
pub mod RootIds
pub mod SeenBelow
