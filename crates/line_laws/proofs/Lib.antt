pub mod LineCalls
pub mod OpenedSessions
