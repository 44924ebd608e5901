pub mod BinaryTexts
