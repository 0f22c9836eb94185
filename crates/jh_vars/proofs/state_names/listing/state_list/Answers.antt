use Rattle.std.proofs.Common.{◌≡◌, ap, ◌∙◌, ◌++◌, ◌∷◌, [], map, codes, None}
use Rattle.jh_ast.specs.Bare.{class_part, program_tree}
use Rattle.jh_vars.specs.declared.state_names.state.StateName.{StateName}
use Rattle.jh_vars.specs.state_names.States.{set_state, class_sets, members}
use Rattle.jh_vars.proofs.state_names.Named.{names-are}
use Rattle.jh_vars.proofs.state_names.listing.state_list.Goals as goal

pub returns-clause-list : goal.returns-clause-list
unfolding program_tree
returns-clause-list c =
    let classes = c.args.program.now.classes in
    let first : c.push.new.self.items ≡ set_state (codes "alloc") None ∷ [] = c.in_ok-push.ensures.items ∙ (λ i. c.new-list.ensures.items i ++ c.in_ok-allocated.ensures i ∷ []) in
    let sets : c.push_sets.new.list.items ≡ set_state (codes "alloc") None ∷ class_sets 0 (map class_part classes) =
    c.in_ok-push_sets.ensures ∙ (λ i. first i ++ class_sets 0 (map class_part (c.items.ensures i))) in
    c.in_ok-push_classes.ensures ∙ (λ i. sets i ++ members 0 (map class_part (c.items-2.ensures i)))

pub returns-clause-names : goal.returns-clause-names
returns-clause-names c = ap (map (λ (s : StateName). s.name)) (returns-clause-list c) ∙ names-are (program_tree c.args.program.now)
