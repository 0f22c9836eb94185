use Rattle.std.proofs.Common.{[], ◌∷◌, ◌++◌, ◌∙◌, ap, map, codes}
use Rattle.jh_state_facts.specs.changes.Added.{sorted_in, set_sorted, member_sorted}
use Rattle.jh_state_facts.proofs.changes.ItemSteps.{all-sorted}
use Rattle.jh_state_facts.proofs.changes.items.state_names.Goals as goal

pub returns : goal.returns
returns c = λ p e f.
    let classes = c.args.classes.now in
    let members = c.args.members.now in
    let first = c.in_ok-push_set_name.ensures ∙ ap (λ xs. sorted_in xs ++ set_sorted (codes "alloc") ∷ []) c.new-names.ensures.items in
    let second = c.in_ok-push_set_names.ensures ∙ ap (λ xs. xs ++ map set_sorted classes) first in
    let third = c.in_ok-push_set_name-2.ensures ∙ ap (λ xs. xs ++ set_sorted (codes "Object") ∷ []) second in
    c.in_ok-push_member_names.ensures ∙ ap (λ xs. xs ++ map member_sorted members) third ∙ all-sorted p classes members e f
