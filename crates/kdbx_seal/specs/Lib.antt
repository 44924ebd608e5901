pub mod Answers
pub mod Made
pub mod PayloadAnswers
pub mod Enciphered
pub mod PayloadMade
pub mod Parts
pub use Rattle.kdbx_writing.specs as KdbxWriting
