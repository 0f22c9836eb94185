use Rattle.std.proofs.Common.{ap, ◌∙◌, [], ◌∷◌, Some}
use Rattle.jh_form.specs.Tree.{FormulaTree, ValueTree, of_truth, of_object, of_field}
use Rattle.jh_form.specs.Tree as t
use Rattle.jh_arena.specs.table.Nodes.{nodes}
use Rattle.jh_arena.proofs.table.NodeSteps.{tree-EqObject}
use Rattle.jh_derivation_rules.specs.Rules.{reads_equal, rule_of}
use Rattle.jh_derivation_steps.specs.declared.premises.nodes.Nodes.TheVariants as n
use Rattle.jh_derivation_steps.specs.premises.Nodes.{term_at, field_at}
use Rattle.jh_derivation_steps.proofs.premises.Carried.{keeps}
use Rattle.jh_derivation_steps.proofs.premises.Ruling.{one-is, goes}
use Rattle.jh_derivation_steps.proofs.premises.rules.reading.Goals as goal

pub returns-clause-rule : goal.returns-clause-rule
unfolding rule_of
returns-clause-rule c =
    let t0 = c.args.table.now in
    let t1 = c.make.new.self in
    let t2 = c.reads_equal.new.table in
    let f = field_at (nodes t0) c.args.field in
    let u = term_at (nodes t0) c.args.left in
    let v = term_at (nodes t0) c.args.right in
    let given = c.in_ok-given.ensures.node ∙ ap Some (tree-EqObject t0.pools (nodes t0) c.args.left c.args.right u v c.requires.left c.requires.right) in
    let made = c.in_ok-made.ensures.made f u v (keeps t0 t1 c.make.ensures.grows c.args.field (of_field f) c.requires.field) (keeps t0 t1 c.make.ensures.grows c.args.left (of_object u) c.requires.left) (keeps t0 t1 c.make.ensures.grows c.args.right (of_object v) c.requires.right) in
    goes (nodes t2) (n.One c.in_ok-given.given) (n.One c.in_ok-made.made) (t.eq_object u v ∷ []) (reads_equal c.args.kind f u v ∷ [])
    (one-is (nodes t2) c.in_ok-given.given (t.eq_object u v) (keeps t1 t2 c.reads_equal.ensures.grows c.in_ok-given.given (of_truth (t.eq_object u v)) given)) (one-is (nodes t2) c.in_ok-made.made (reads_equal c.args.kind f u v) made)
