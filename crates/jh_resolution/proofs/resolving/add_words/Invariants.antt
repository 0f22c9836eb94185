use Rattle.std.proofs.Common.{◌≡◌, ◌++◌, map, drop}
use Rattle.jh_rules.specs.Words.{text_of}
use Rattle.jh_resolution.specs.Spots.{texts_of}
use Rattle.jh_resolution.proofs.resolving.add_words.Given as goal

abbrev pub invariant-loop-word : goal.invariant-loop-word
invariant-loop-word l = texts_of l.made.items ++ map text_of (drop l.word-index l.words) ≡ texts_of l.fn.made.items ++ map text_of l.words
