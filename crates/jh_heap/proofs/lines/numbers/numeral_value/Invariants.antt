use Rattle.std.proofs.Common.{◌≡◌, drop}
use Rattle.jh_heap.specs.lines.Bytes.{numeral_value, value_from}
use Rattle.jh_heap.proofs.lines.numbers.numeral_value.Given as goal

abbrev pub invariant-loop-byte : goal.invariant-loop-byte
invariant-loop-byte l = numeral_value l.word ≡ value_from l.value (drop l.byte-index l.word)
