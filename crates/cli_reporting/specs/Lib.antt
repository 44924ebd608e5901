pub mod Reporting
