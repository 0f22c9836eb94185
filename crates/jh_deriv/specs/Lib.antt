pub use Rattle.jh_open_branches.specs.Placed
pub use Rattle.jh_open_branches.specs.Waits
pub mod Replays
pub use Rattle.jh_reach.specs as jh_reach
