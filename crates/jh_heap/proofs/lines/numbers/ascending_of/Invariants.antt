use Rattle.std.proofs.Common.{◌≡◌, ◌++◌, None, drop, map, option_map}
use Rattle.jh_heap.specs.lines.Bytes.{ascending_from}
use Rattle.jh_heap.proofs.lines.numbers.ascending_of.Given as goal

abbrev pub invariant-loop-word : goal.invariant-loop-word
invariant-loop-word l = option_map (λ rest. l.made.items ++ rest) (ascending_from l.least (map (λ word. word.now) (drop l.word-index l.words))) ≡ ascending_from None (map (λ word. word.now) l.words)
