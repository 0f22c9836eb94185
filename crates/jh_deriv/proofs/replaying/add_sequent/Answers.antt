use Rattle.std.proofs.Common.{subst, [], ◌∷◌, List}
use Rattle.jh_form.specs.Tree.{FormulaTree}
use Rattle.jh_form.specs.Tree as t
use Rattle.jh_form.specs.Bare.{formula_tree}
use Rattle.jh_boxed_operations.specs.comparison.Unmarked.{unmarked_formula}
use Rattle.jh_arena.specs.table.Nodes.{nodes}
use Rattle.jh_seq.specs.declared.sequent.sequent.Hyp.{Hyp}
use Rattle.jh_open_branches.specs.Placed.{noted}
use Rattle.jh_deriv.specs.Replays.{Gains, bare_facts}
use Rattle.jh_deriv.proofs.Following.{gains-two, facts-are, on-ok-one}
use Rattle.jh_deriv.proofs.replaying.add_sequent.Goals as goal

pub returns-clause-gains : goal.returns-clause-gains
returns-clause-gains c =
    let t0 = nodes c.args.table.now in
    let t1 = nodes c.add_hyps.new.table in
    let t2 = nodes c.add_goal.new.table in
    let old = c.args.facts.now.facts.items in
    let mid = c.add_hyps.new.facts.facts.items in
    let new = c.add_goal.new.facts.facts.items in
    let s = c.args.sequent.now in
    on-ok-one c.add_goal.result (λ gains.
    subst (λ (fs : List FormulaTree). Gains t0 t2 old new (noted c.add_goal.new.facts.places) fs) (facts-are s)
    (gains-two t0 t1 t2 old mid new (noted c.add_hyps.new.facts.places) (noted c.add_goal.new.facts.places) (bare_facts s.hyps) (t.negation (unmarked_formula (formula_tree s.goal)) ∷ []) (subst (λ (hs : List Hyp). Gains t0 t1 old mid (noted c.add_hyps.new.facts.places) (bare_facts hs)) c.items.ensures c.in_ok-add_hyps.ensures.gains) gains))
    c.add_goal.ensures.gains
