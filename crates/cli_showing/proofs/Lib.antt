pub mod Examples
pub mod FoundIds
pub mod NamedChanges
pub mod PutNames
pub mod RisingNames
pub mod SameContents
pub mod WalkedPaths
