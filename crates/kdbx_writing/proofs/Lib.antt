mod HeaderPieces
mod InnerPieces
mod KdfPieces
mod DrawnParts
mod FieldReading
mod HeaderFields
mod HeaderParts
pub mod HeaderReading
pub mod InnerReading
mod KdfLimits
mod KdfReading
mod Readings
mod SettingsReading
mod SpelledVectors
mod SpelledVectors31
