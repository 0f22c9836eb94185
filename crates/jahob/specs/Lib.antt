pub use Rattle.jh_reply.specs as jh_reply
