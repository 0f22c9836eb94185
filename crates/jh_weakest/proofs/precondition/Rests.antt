-- The weakest precondition of what is left of a list of commands, from a place on.
use Rattle.std.proofs.Common.{◌≡◌, sym, ap, ◌∙◌, ℕ, ◌+◌, ◌<◌, arith, true, List, length, drop, get_or, Some}
use Rattle.jh_form.specs.Tree.{FormulaTree, of_truth}
use Rattle.jh_form.specs.Tree as t
use Rattle.jh_arena.specs.table.Entries.{Listing}
use Rattle.jh_arena.specs.table.Growth.{Extends}
use Rattle.jh_wp.specs.Wp.{wp, wp_all}
use Rattle.jh_command_terms.specs.declared.command.command.Command.{Command}
use Rattle.jh_command_terms.specs.command.Code.{truth_at, is_truth_at, IsTruth, command_in, command_fits, list_in, list_fits}
use Rattle.jh_command_terms.proofs.command.CodeSteps.{truth-listed, listed-truth, command-grows, truth-grows, step-fits, rest-at, rest-end}

pub rest-start : (u : Listing) (cs : List Command) (n : ℕ) (r : FormulaTree) → is_truth_at u n ≡ true → IsTruth u n (wp_all (list_in u (drop (length cs) cs)) (truth_at u n) r)
unfolding wp_all
rest-start u cs n r h = truth-listed u n h ∙ (λ i. Some (of_truth (wp_all (sym (rest-end u cs (length cs) (omega arith)) i) (truth_at u n) r)))

pub rest-step : (u v w : Listing) (cs : List Command) (j n m : ℕ) (a : Command) (q r z : FormulaTree) → j < length cs → a ≡ get_or cs j a → Extends u v → list_fits u cs ≡ true → z ≡ r →
    IsTruth v n (wp_all (list_in u (drop (j + 1) cs)) q r) →
    IsTruth w m (wp (command_in v a) (truth_at v n) z) →
    IsTruth w m (wp_all (list_in u (drop j cs)) q r)
unfolding wp_all
rest-step u v w cs j n m a q r z lt at g fit same e f =
    let step : command_fits u a ≡ true = ap (command_fits u) at ∙ step-fits u cs j a fit lt in
    f ∙ (λ i. Some (of_truth (wp (command-grows u v g a step i) (listed-truth v n (wp_all (list_in u (drop (j + 1) cs)) q r) e i) (same i))))
    ∙ (λ i. Some (of_truth (wp_all (sym (rest-at u cs j a lt at) i) q r)))

-- the two sides of a choice
pub both-made : (u v w z : Listing) (l k m : ℕ) (a b : Command) (q r : ℕ) → Extends u v → Extends v w →
    command_fits u b ≡ true → is_truth_at u q ≡ true → is_truth_at u r ≡ true →
    IsTruth v l (wp (command_in u a) (truth_at u q) (truth_at u r)) →
    IsTruth w k (wp (command_in v b) (truth_at v q) (truth_at v r)) →
    IsTruth z m (t.and (truth_at w l) (truth_at w k)) →
    IsTruth z m (t.and (wp (command_in u a) (truth_at u q) (truth_at u r)) (wp (command_in u b) (truth_at u q) (truth_at u r)))
both-made u v w z l k m a b q r g h fit hq hr el ek em =
    let el' : IsTruth w l (wp (command_in u a) (truth_at u q) (truth_at u r)) = h.nodes.keeps l (of_truth (wp (command_in u a) (truth_at u q) (truth_at u r))) el in
    let left_is = listed-truth w l (wp (command_in u a) (truth_at u q) (truth_at u r)) el' in
    let right_is = listed-truth w k (wp (command_in v b) (truth_at v q) (truth_at v r)) ek in
    let moved : wp (command_in v b) (truth_at v q) (truth_at v r) ≡ wp (command_in u b) (truth_at u q) (truth_at u r) =
    λ x. wp (command-grows u v g b fit x) (truth-grows u v g q hq x) (truth-grows u v g r hr x) in
    em ∙ (λ x. Some (of_truth (t.and (left_is x) ((right_is ∙ moved) x))))
