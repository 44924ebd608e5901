pub mod ChangedAt
