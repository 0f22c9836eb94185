use Rattle.jh_heap_theorems.proofs.round_trip.Written.{written_read}
use Rattle.jh_heap_theorems.proofs.round_trip.laws.what_is_written_is_read.Goals as goal

pub returns : goal.returns
returns c = written_read
