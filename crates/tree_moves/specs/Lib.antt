pub mod Places
pub mod GroupPlaces
