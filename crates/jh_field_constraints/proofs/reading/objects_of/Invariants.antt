use Rattle.std.proofs.Common.{List, take}
use Rattle.jh_name.specs.declared.naming.Name.{Name}
use Rattle.jh_form.specs.Tree.{TermTree}
use Rattle.jh_field_constraints.specs.Standing.{AreTerms, AreReads}
use Rattle.jh_field_constraints.proofs.reading.objects_of.Given as goal

-- the first terms, one by one
abbrev pub invariant-loop-place : goal.invariant-loop-place
invariant-loop-place l = (f : Name) (reads : List TermTree) → AreReads l.table f l.list reads → AreTerms l.table l.made.items (take l.place reads)
