use Rattle.std.proofs.Common.{List, map, take}
use Rattle.jh_form.specs.Tree.{TermTree}
use Rattle.jh_arena.specs.table.Growth.{Extends}
use Rattle.jh_fca.specs.elimination.Exchanged.{varied_term}
use Rattle.jh_field_constraints.specs.Standing.{IsTerm, AreTerms}
use Rattle.jh_field_constraints.proofs.exchanging.vary_all.Given as goal

-- the first terms, one by one
abbrev pub invariant-loop-place : goal.invariant-loop-place
invariant-loop-place l = record {
  made : (all : List TermTree) (b : TermTree) → AreTerms l.initial.table l.terms all → IsTerm l.initial.table l.read b → AreTerms l.table l.made.items (map (λ a. varied_term a b) (take l.place all));
  grows : Extends l.initial.table l.table;
}
