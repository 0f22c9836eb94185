use Rattle.std.proofs.Common.{◌≡◌, ◌++◌, map, drop}
use Rattle.jh_rules.specs.Words.{text_of}
use Rattle.jh_type.proofs.formula_kinds.binding.add_words.Given as goal

-- what is made and the rest are what is made in the end
abbrev pub invariant-loop-word : goal.invariant-loop-word
invariant-loop-word l = l.made.items ++ map text_of (drop l.word-index l.words) ≡ l.initial.made.items ++ map text_of l.words
