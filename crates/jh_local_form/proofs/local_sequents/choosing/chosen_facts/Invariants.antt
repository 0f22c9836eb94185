use Rattle.std.proofs.Common.{ℕ, List, map, take}
use Rattle.std.specs.Prelude.{filter}
use Rattle.jh_seq.specs.sequent.Sequents.{HypTree, SequentTree}
use Rattle.jh_reach.specs.Standing.{AreFormulas}
use Rattle.jh_abstraction.specs.choice_of_hypotheses.Asking.{IsAsked}
use Rattle.jh_fca.specs.local_form.Chosen.{is_chosen}
use Rattle.jh_local_form.proofs.local_sequents.choosing.chosen_facts.Given as goal

-- those that are chosen of the first hypotheses
abbrev pub invariant-loop-place : goal.invariant-loop-place
invariant-loop-place l = (wanted : ℕ) (s : SequentTree) → IsAsked l.table l.hyps l.label l.facts wanted s → AreFormulas l.table l.made.items (map (λ (h : HypTree). h.fact) (filter (is_chosen s.mark.from) (take l.place s.hyps)))
