pub mod KnownIds
