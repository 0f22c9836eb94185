use Rattle.indexmap.specs.IndexMap.{get_by_text}
use Rattle.jh_ast.specs.Bare.{class_part}
use Rattle.jh_symbols.specs.declarations.Entries.{class_labels}
use Rattle.jh_symbols.proofs.declarations.Labelling.{Labels}
use Rattle.jh_symbols.proofs.declarations.labels.put_labels.Given as goal

-- the names so far and the rest are all names
abbrev pub invariant-loop-class : goal.invariant-loop-class
invariant-loop-class l = Labels (λ c. class_labels (class_part c)) (λ x. get_by_text l.initial.table x) (λ x. get_by_text l.table x) l.classes l.class-index
