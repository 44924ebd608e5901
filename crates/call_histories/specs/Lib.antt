pub mod FreeHistories
pub mod HistoryLaws
