use Rattle.std.proofs.Common.{◌≡◌, ◌∙◌, sym, subst, ◌+◌, ◌*◌, true, false, List}
use Rattle.jh_form.specs.Tree.{of_truth}
use Rattle.jh_form.specs.Tree as tree
use Rattle.jh_arena.proofs.table.Listed.{extends-trans}
use Rattle.jh_seq.specs.counting.Goals.{Weights, capped}
use Rattle.jh_weakest.specs.declared.sequent_count.tally.Share.{Share}
use Rattle.jh_weakest.specs.sequent_count.Tallies.{AreNames, Lacks, name_at, shares_of}
use Rattle.jh_weakest.proofs.sequent_count.Takings.{names-grow, leaf-is}
use Rattle.jh_weakest.proofs.sequent_count.Values.{renamed-counts}
use Rattle.jh_weakest.proofs.sequent_count.names.renamed.Goals as goal

pub returns-clause-goals : goal.returns-clause-goals
returns-clause-goals c = λ g counts.
    let t0 = c.args.table.now in
    let t1 = c.truth_leaf.new.table in
    let u = c.truth_leaf-2.new.table in
    let grows = extends-trans t0 t1 u c.truth_leaf.ensures.grows c.truth_leaf-2.ensures.grows in
    let leaf = c.in_ok-leaf.leaf in
    let ss = c.args.tally.shares.items in
    let rest = c.in_ok-rest.field-0.rest.items in
    let at = c.truth_leaf-2.ensures.grows.nodes.keeps leaf (of_truth (tree.free_truth c.args.name.now)) c.in_ok-leaf.ensures.node in
    let given : AreNames u c.as_slice.result.now = subst (λ (zs : List Share). AreNames u zs) (sym c.as_slice.ensures.value) (names-grow t0 u grows ss counts.names) in
    let named : AreNames u rest = c.in_ok-rest.ensures.names u given in
    let lacks : Lacks leaf rest = c.in_ok-rest.ensures.lacks in
    let other = leaf-is u c.in_ok-other.other c.args.with.now c.in_ok-other.ensures.node in
    let taken : (w : Weights) → capped (shares_of u ss w) ≡ capped (shares_of u rest w + (c.in_ok-rest.field-0.plain * w (name_at u leaf) false + c.in_ok-rest.field-0.marked * w (name_at u leaf) true)) =
    λ w. (λ i. capped (shares_of u (sym c.as_slice.ensures.value i) w)) ∙ c.in_ok-rest.ensures.goals u w in
    renamed-counts t0 u c.args.tally.fixed ss rest c.in_ok-rest.field-0.plain c.in_ok-rest.field-0.marked leaf c.args.name.now g grows c.nodes_differ.ensures.different at named lacks taken counts
    c.add.new.self.shares.items c.add-2.new.self.shares.items c.add.new.self.fixed c.add-2.new.self.fixed c.in_ok-other.other c.args.with.now c.in_ok-other.ensures.node
    (c.in_ok-add-2.ensures.names u (c.in_ok-add.ensures.names u named other) other) (λ w. c.in_ok-add.ensures.goals u w) (λ w. c.in_ok-add-2.ensures.goals u w)
