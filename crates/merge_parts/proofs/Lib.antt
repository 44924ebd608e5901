pub mod GatherMembers
pub mod JoinKnown
pub mod Members
pub mod Trails
