mod AesVectors
mod TwofishVectors
pub mod ByteTables
pub mod AesColumns
pub mod AesRounds
pub mod SlicedSteps
pub mod KeyWords
pub mod CbcSteps
pub mod PaddingSteps
pub mod TimesSteps
pub mod TwofishWords
pub mod TwofishH
pub mod TwofishRounds
