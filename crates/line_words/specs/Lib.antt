pub mod Results
pub mod Spelling
pub mod Words
pub mod inside
