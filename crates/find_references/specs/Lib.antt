pub mod Fields
pub mod Laws
pub mod References
pub mod Resolved
pub mod inside
pub mod Results
pub mod SeenTerms
pub mod Terms
