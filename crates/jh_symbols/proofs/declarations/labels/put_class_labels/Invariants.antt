use Rattle.indexmap.specs.IndexMap.{get_by_text}
use Rattle.jh_ast.specs.Bare.{labelled_part}
use Rattle.jh_rules.specs.Names.{label_of}
use Rattle.jh_symbols.proofs.declarations.Labelling.{Labels}
use Rattle.jh_symbols.proofs.declarations.labels.put_class_labels.Given as goal

-- the names so far and the rest are all names
abbrev pub invariant-loop-invariant : goal.invariant-loop-invariant
invariant-loop-invariant l = Labels (λ i. label_of (labelled_part i)) (λ x. get_by_text l.initial.table x) (λ x. get_by_text l.table x) l.invariants l.invariant-index
