pub mod AnswerLaws
pub mod BlockLists
pub mod BlockMoves
mod BlockVectors
pub mod ContentSteps
pub mod FourMacSteps
pub mod HashedBlocks
mod HashedVectors
mod HmacVectors
pub mod JoiningSteps
pub mod OneReading
pub mod ReaderContents
pub mod RightSteps
pub mod StateSteps
