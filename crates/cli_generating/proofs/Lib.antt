mod Characters
mod Returned
