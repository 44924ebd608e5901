pub mod NeededVersion
