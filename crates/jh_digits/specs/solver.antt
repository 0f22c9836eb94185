pub use Rattle.jh_digits.specs.systems.Solution
pub use Rattle.jh_digits.specs.systems.Nodes
pub use Rattle.jh_digits.specs.systems.Totals
pub use Rattle.jh_digits.specs.systems.Answers
pub mod Cells
pub mod Closed
pub mod Table
