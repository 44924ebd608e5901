pub mod Standalone
