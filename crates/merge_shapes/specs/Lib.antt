pub mod NodeTables
