pub mod causes
pub mod report
pub use Rattle.jh_prove.specs as jh_prove
pub use Rattle.jh_splitting.specs as jh_splitting
