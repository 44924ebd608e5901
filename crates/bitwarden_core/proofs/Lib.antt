pub mod OneByOne
pub mod NotNil
