use Rattle.std.proofs.Common.{◌≡◌, ◌∙◌, sym, subst, ◌+◌, ◌*◌, true, false, List}
use Rattle.jh_command_terms.proofs.command.CodeSteps.{is_truth-grows}
use Rattle.jh_seq.specs.counting.Goals.{Weights, capped}
use Rattle.jh_weakest.specs.declared.sequent_count.tally.Share.{Share}
use Rattle.jh_weakest.specs.sequent_count.Tallies.{AreNames, Lacks, name_at, shares_of}
use Rattle.jh_weakest.proofs.sequent_count.Takings.{names-grow}
use Rattle.jh_weakest.proofs.sequent_count.Values.{given-counts}
use Rattle.jh_weakest.proofs.sequent_count.names.given_truth.Goals as goal

pub add_formula-requires : goal.add_formula-requires
add_formula-requires c = record { there = is_truth-grows c.args.table.now c.truth_leaf.new.table c.truth_leaf.ensures.grows c.args.value c.requires }

pub add_formula-requires-2 : goal.add_formula-requires-2
add_formula-requires-2 c = record { there = is_truth-grows c.args.table.now c.truth_leaf.new.table c.truth_leaf.ensures.grows c.args.value c.requires }

pub returns-clause-goals : goal.returns-clause-goals
returns-clause-goals c = λ g counts.
    let t0 = c.args.table.now in
    let u = c.truth_leaf.new.table in
    let ss = c.args.tally.shares.items in
    let rest = c.in_ok-rest.field-0.rest.items in
    let there : AreNames u ss = names-grow t0 u c.truth_leaf.ensures.grows ss counts.names in
    let given : AreNames u c.as_slice.result.now = subst (λ (zs : List Share). AreNames u zs) (sym c.as_slice.ensures.value) there in
    let named : AreNames u rest = c.in_ok-rest.ensures.names u given in
    let lacks : Lacks c.in_ok-leaf.leaf rest = c.in_ok-rest.ensures.lacks in
    let taken : (w : Weights) → capped (shares_of u ss w) ≡ capped (shares_of u rest w + (c.in_ok-rest.field-0.plain * w (name_at u c.in_ok-leaf.leaf) false + c.in_ok-rest.field-0.marked * w (name_at u c.in_ok-leaf.leaf) true)) =
    λ w. (λ i. capped (shares_of u (sym c.as_slice.ensures.value i) w)) ∙ c.in_ok-rest.ensures.goals u w in
    given-counts t0 u c.args.tally.fixed ss rest c.in_ok-rest.field-0.plain c.in_ok-rest.field-0.marked c.in_ok-leaf.leaf c.args.name.now g c.truth_leaf.ensures.grows c.nodes_differ.ensures.different c.in_ok-leaf.ensures.node named lacks taken counts
    c.add_formula.new.tally.shares.items c.add_formula-2.new.tally.shares.items c.add_formula.new.tally.fixed c.add_formula-2.new.tally.fixed c.args.value c.requires
    (c.in_ok-add_formula-2.ensures.names (c.in_ok-add_formula.ensures.names named)) c.in_ok-add_formula.ensures.goals c.in_ok-add_formula-2.ensures.goals
