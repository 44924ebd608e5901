pub mod Agreement
pub mod Contents
pub mod Documents
pub mod Growing
pub mod Lists
pub mod Numbers
