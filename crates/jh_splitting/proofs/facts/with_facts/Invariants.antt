use Rattle.std.proofs.Common.{ℕ, List, ◌++◌, None}
use Rattle.jh_name.specs.declared.naming.Name.{Name}
use Rattle.jh_form.specs.Tree.{FormulaTree}
use Rattle.jh_arena.specs.table.Growth.{Extends}
use Rattle.jh_seq.specs.sequent.Sequents.{HypTree}
use Rattle.jh_seq.specs.splitting.Split.{facts_of, facts_next}
use Rattle.jh_splitting.specs.Standing.{IsFormula, AreHyps}
use Rattle.jh_splitting.specs.Left.{AreConstants, FactsLeft, Kept}
use Rattle.jh_splitting.proofs.facts.with_facts.Given as goal

-- something is left, and where the assumption is known that is what was left of it
abbrev pub invariant-loop-turn : goal.invariant-loop-turn
invariant-loop-turn l = record {
  some : (total : List HypTree) × (next : ℕ) × FactsLeft l.table l.lists l.waiting.items l.found total next;
  left : (a : FormulaTree) (ws : List Name) (hs : List HypTree) → IsFormula l.initial.table l.fn.node a → AreConstants l.initial.lists.binders l.fn.binders ws → AreHyps l.initial.table l.initial.lists.hyps l.fn.facts.hyps hs →
      FactsLeft l.table l.lists l.waiting.items l.found (hs ++ facts_of a None ws l.fn.facts.next) (facts_next a l.fn.facts.next);
  grows : Extends l.initial.table l.table;
  kept : Kept l.initial.lists l.lists;
}
