use Rattle.std.proofs.Common.{◌≡◌, ap, ◌∙◌, map}
use Rattle.std.specs.List.{flat_map}
use Rattle.std.proofs.lemmas.Result.{IfOk-weaker}
use Rattle.jh_form.specs.Bare.{formula_tree}
use Rattle.jh_arena.specs.table.Nodes.{nodes}
use Rattle.jh_arena.specs.makers.Joined.{are_truths, truths_at}
use Rattle.jh_reach.specs.Axioms.{axioms_of}
use Rattle.jh_reach.specs.Named.{backbone_tree}
use Rattle.jh_reach.proofs.Standings.{formulas-are, formulas-at}
use Rattle.jh_reach.proofs.reaching.boxed_axioms.Goals as goal

pub boxed-requires : goal.boxed-requires
boxed-requires c =
    ap (are_truths (nodes c.all_nodes.new.table)) c.as_slice.ensures.value
    ∙ formulas-are c.all_nodes.new.table c.in_ok-nodes.nodes.items (flat_map (λ b. axioms_of (backbone_tree b)) c.args.backbones.now) c.in_ok-nodes.ensures.nodes

pub returns : goal.returns
returns c =
    let ts = nodes c.all_nodes.new.table in
    let all = flat_map (λ b. axioms_of (backbone_tree b)) c.args.backbones.now in
    IfOk-weaker c.boxed.result
    (λ made. map formula_tree made.items ≡ truths_at ts c.as_slice.result.now)
    (λ made. map formula_tree made.items ≡ all)
    (λ made e. e ∙ ap (truths_at ts) c.as_slice.ensures.value ∙ formulas-at c.all_nodes.new.table c.in_ok-nodes.nodes.items all c.in_ok-nodes.ensures.nodes)
    c.boxed.ensures
