use Rattle.std.proofs.Common.{◌≡◌, ◌↔◌, ℕ, List, ap, sym, subst, ◌∙◌, map, slice_get}
use Rattle.std.proofs.lemmas.Result.{IfOk-weaker}
use Rattle.jh_form.specs.Tree.{FormulaTree}
use Rattle.jh_form.specs.Bare.{formula_tree}
use Rattle.jh_arena.specs.table.Entries.{the_truth}
use Rattle.jh_arena.specs.table.Nodes.{nodes}
use Rattle.jh_seq.specs.splitting.Laws.{AllValid, IsTautology}
use Rattle.jh_seq.specs.splitting.Split.{split_of}
use Rattle.jh_seq.specs.sequent.Sequents.{SequentTree, sequent_tree}
use Rattle.jh_splitting.specs.Numbering.{IsFirst}
use Rattle.jh_boxed_commands.proofs.conditions.SequentSteps.{formula-is, formula-there}
use Rattle.jh_boxed_commands.proofs.conditions.splitting.split.Goals as goal

pub split_in-requires : goal.split_in-requires
split_in-requires c = record { there = formula-there c.enter_formula.new.table c.in_ok-node.node (formula_tree c.args.formula.now) c.in_ok-node.ensures.node }

pub boxed_sequents-requires : goal.boxed_sequents-requires
boxed_sequents-requires c =
    let s = c.in_ok-made.ensures.sequents in
    (split_of c.args.method (the_truth (slice_get (nodes c.enter_formula.new.table) c.in_ok-node.node)) s.0, s.2)

pub returns-clause-sequents : goal.returns-clause-sequents
returns-clause-sequents c =
    let a = the_truth (slice_get (nodes c.enter_formula.new.table) c.in_ok-node.node) in
    let b = formula_tree c.args.formula.now in
    let same : a ≡ b = formula-is c.enter_formula.new.table c.in_ok-node.node b c.in_ok-node.ensures.node in
    let s = c.in_ok-made.ensures.sequents in
    IfOk-weaker c.boxed_sequents.result (λ made. map sequent_tree made.items ≡ split_of c.args.method a s.0) (λ made. (k : ℕ) × IsFirst b k × (map sequent_tree made.items ≡ split_of c.args.method b k))
    (λ made e. (s.0, subst (λ (x : FormulaTree). IsFirst x s.0) same s.1, e ∙ ap (λ x. split_of c.args.method x s.0) same))
    (c.boxed_sequents.ensures (split_of c.args.method a s.0) s.2)

pub returns-clause-exact : goal.returns-clause-exact
returns-clause-exact c =
    let a = the_truth (slice_get (nodes c.enter_formula.new.table) c.in_ok-node.node) in
    let b = formula_tree c.args.formula.now in
    let same : a ≡ b = formula-is c.enter_formula.new.table c.in_ok-node.node b c.in_ok-node.ensures.node in
    let s = c.in_ok-made.ensures.sequents in
    IfOk-weaker c.boxed_sequents.result (λ made. map sequent_tree made.items ≡ split_of c.args.method a s.0) (λ made. AllValid (map sequent_tree made.items) ↔ IsTautology b)
    (λ made e. subst (λ (x : FormulaTree). AllValid (map sequent_tree made.items) ↔ IsTautology x) same (subst (λ (ss : List SequentTree). AllValid ss ↔ IsTautology a) (sym e) (c.split_in.ensures.exact s.0 s.1)))
    (c.boxed_sequents.ensures (split_of c.args.method a s.0) s.2)
