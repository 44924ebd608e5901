mod OnlyRoot
mod TextPieces
pub mod ReadDocuments
mod Examples
pub mod Cuts
pub mod Keeping
pub mod KeptDocuments
pub mod KeptEntries
pub mod KeptGroups
pub mod KeptMetas
pub mod Rising
pub mod SoundDocuments
pub mod SoundRows
