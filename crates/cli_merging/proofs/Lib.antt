pub mod AfterMerges
pub mod DryRuns
pub mod Examples
pub mod JoinedNumbers
pub mod NamedNodes
pub mod UntoldNames
