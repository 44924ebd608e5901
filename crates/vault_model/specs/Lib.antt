pub mod Bare
pub mod Db
pub mod Empty
pub mod Join
pub mod Orders
pub mod Plans
pub mod Proper
pub mod Seen
pub mod SeenDoc
pub mod SeenNodes
pub mod Shape
pub mod TotalOrders
pub mod Tree
pub mod Unite
pub mod Walk
pub use Rattle.secret_core.specs.OutsideCore
pub use Rattle.time_core.specs as TimeCore
