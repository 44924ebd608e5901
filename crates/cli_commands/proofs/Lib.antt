pub mod Changes
mod RootIds
