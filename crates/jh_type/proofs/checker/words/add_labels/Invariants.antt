use Rattle.jh_symbols.specs.scopes.Firsts.{is_behind}
use Rattle.jh_type.specs.checker.Parts.{words_of}
use Rattle.jh_type.proofs.checker.Following.{Follows}
use Rattle.jh_type.proofs.checker.words.add_labels.Given as goal

-- the names so far and the rest are all names
abbrev pub invariant-loop-invariant : goal.invariant-loop-invariant
invariant-loop-invariant l = Follows words_of (is_behind l.initial.found) (is_behind l.found) l.invariants l.invariant-index
