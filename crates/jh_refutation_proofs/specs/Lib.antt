pub use Rattle.jh_search.specs as jh_search
