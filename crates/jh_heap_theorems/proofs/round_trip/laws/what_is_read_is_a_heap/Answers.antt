use Rattle.jh_heap_theorems.proofs.round_trip.Written.{read_is_heap}
use Rattle.jh_heap_theorems.proofs.round_trip.laws.what_is_read_is_a_heap.Goals as goal

pub returns : goal.returns
returns c = read_is_heap
