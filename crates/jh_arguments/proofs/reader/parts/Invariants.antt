use Rattle.std.proofs.Common.{◌≡◌, drop, map, string_bytes}
use Rattle.jh_arguments.specs.Arguments.{parts}
use Rattle.jh_arguments.specs.Held.{reader_in}
use Rattle.jh_arguments.specs.Reading.{resumed}
use Rattle.jh_arguments.proofs.reader.parts.Given as goal

abbrev pub invariant-loop-word : goal.invariant-loop-word
invariant-loop-word l = resumed (reader_in l.reader) (map (λ word. string_bytes word) (drop l.word-index l.words)) ≡ parts (map (λ word. string_bytes word) l.words)
