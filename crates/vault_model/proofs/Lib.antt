pub mod DocumentLaws
pub mod Examples
pub mod Ids
pub mod Orders
pub mod SeenGroups
pub mod Tests
