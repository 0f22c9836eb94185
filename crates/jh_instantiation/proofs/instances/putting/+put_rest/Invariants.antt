use Rattle.std.proofs.Common.{◌≡◌, ◌+◌, ◌*◌, ◌-◌, List, ◌++◌, take}
use Rattle.jh_form.specs.Tree.{TermTree, FormulaTree}
use Rattle.jh_arena.specs.table.Growth.{Extends}
use Rattle.jh_instantiation.specs.closed_terms.Listed.{AreTerms}
use Rattle.jh_inst.specs.instances.Entries.{Entry}
use Rattle.jh_inst.specs.instances.Rounds as rounds
use Rattle.jh_inst.specs.instances.Rounds.{made_constants, puts}
use Rattle.jh_instantiation.specs.skolem_constants.Standing.{IsFormula}
use Rattle.jh_instantiation.specs.instances.Choosing.{Leads}
use Rattle.jh_instantiation.specs.instances.Standing.{IsMade}
use Rattle.jh_instantiation.specs.instances.Progressing.{IsAtHand}
use Rattle.jh_instantiation.proofs.instances.Fronts.{next_choices}
use Rattle.jh_instantiation.proofs.instances.putting.+put_rest.Given as goal

-- with each put fewer variables are left
abbrev pub decreases-put_rest : goal.decreases-put_rest
decreases-put_rest l = 2 * l.left + 1

abbrev pub decreases-put_next : goal.decreases-put_next
decreases-put_next l = 2 * l.left

-- it was put at all choices whose next term is one of those that were passed
abbrev pub invariant-put_rest-loop-place : goal.invariant-put_rest-loop-place
invariant-put_rest-loop-place l = record {
  grows : Extends l.initial.table l.table;
  chosen : l.chosen.items ≡ l.initial.chosen.items;
  made : (es : List Entry) (ts : List TermTree) (h : rounds.AtHand) (a : FormulaTree) (c : List TermTree) → IsMade l.initial.table l.initial.entries es → AreTerms l.initial.table l.terms.nodes.keys ts → IsAtHand l.initial.table ts l.universal h →
      AreTerms l.initial.table l.initial.chosen.items c → IsFormula l.initial.table l.node a → Leads h.formula c a → IsMade l.table l.entries (es ++ puts h (next_choices c l.is_new (l.left - 1) ts h.old (take l.place ts)) l.fn.next);
  next : (ts : List TermTree) (h : rounds.AtHand) (a : FormulaTree) (c : List TermTree) → AreTerms l.initial.table l.terms.nodes.keys ts → IsAtHand l.initial.table ts l.universal h → AreTerms l.initial.table l.initial.chosen.items c → IsFormula l.initial.table l.node a →
      Leads h.formula c a → l.free ≡ l.fn.next + made_constants (puts h (next_choices c l.is_new (l.left - 1) ts h.old (take l.place ts)) l.fn.next);
}
