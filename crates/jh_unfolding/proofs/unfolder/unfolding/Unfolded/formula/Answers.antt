use Rattle.std.proofs.Common.{◌≡◌, ◌∙◌, ◌<◌, ap, sym, subst, length, slice_get, Some, IfSome}
use Rattle.jh_ast.specs.Bare.{program_tree}
use Rattle.jh_arena.specs.table.Entries.{Listing, the_value}
use Rattle.jh_arena.specs.table.Nodes.{nodes}
use Rattle.jh_rules.specs.Names.{◌then◌}
use Rattle.jh_vars.specs.Opened.{opened}
use Rattle.jh_definitions.proofs.of_jh_resolution.Coercions.{there}
use Rattle.jh_unfolding.proofs.unfolder.Addings.{if-ok}
use Rattle.jh_unfolding.proofs.unfolder.unfolding.Unfolded.formula.Goals as goal

pub boxed_value-requires : goal.boxed_value-requires
boxed_value-requires c =
    let inside : c.in-Some.node < length (nodes c.args.self.now.listing) = subst (λ o. IfSome o (λ k. k < length (nodes c.args.self.now.listing))) c.in-Some.is c.node.ensures.inside in
    subst (λ (l : Listing). c.in-Some.node < length (nodes l)) (sym c.table.ensures) inside

pub returns : goal.returns
returns c =
    let ts = nodes c.args.self.now.listing in
    let known : opened (program_tree c.args.self.now.program) c.args.number ≡ slice_get ts c.in-Some.node = sym c.node.ensures.value ∙ ap (λ o. o then slice_get ts) c.in-Some.is in
    let inside : c.in-Some.node < length ts = subst (λ o. IfSome o (λ k. k < length ts)) c.in-Some.is c.node.ensures.inside in
    if-ok c.boxed_value.result (λ made e. known ∙ there ts c.in-Some.node inside ∙ ap Some (sym (e ∙ (λ i. the_value (slice_get (nodes (c.table.ensures i)) c.in-Some.node))))) c.boxed_value.ensures.tree
