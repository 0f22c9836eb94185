use Rattle.std.proofs.Common.{◌≡◌, ap, ◌∙◌, ℕ, List, true, slice_get}
use Rattle.std.proofs.lemmas.Result.{IfOk-weaker}
use Rattle.jh_form.specs.Meaning.{Interp, truth}
use Rattle.jh_arena.specs.table.Entries.{the_truth}
use Rattle.jh_arena.specs.table.Nodes.{nodes}
use Rattle.jh_normal_forms.specs.negation_normal_form.Memos.{found}
use Rattle.jh_normal_forms.specs.negation_normal_form.Normal.{normal, is_normal, signed}
use Rattle.jh_normal_forms.specs.negation_normal_form.Negating.{IsNormalised}
use Rattle.jh_normal_forms.proofs.negation_normal_form.Arms.{truth-inside, truth-at, normal-at, holds-none}
use Rattle.jh_normal_forms.proofs.negation_normal_form.Normals.{truth-normal, normal-is}
use Rattle.jh_normal_forms.proofs.negation_normal_form.negating.negation_normal.Goals as goal

pub is_shallow-requires : goal.is_shallow-requires
is_shallow-requires c = truth-inside (nodes c.args.table.now) c.args.formula c.requires.formula

pub normalised-requires-clause-memo : goal.normalised-requires-clause-memo
normalised-requires-clause-memo c = holds-none (nodes c.args.table.now) (found c.new-memo.result.answers) c.new-memo.ensures

pub returns-clause-tree : goal.returns-clause-tree
returns-clause-tree c =
    IfOk-weaker
    c.normalised.result
    (λ made. IsNormalised (nodes c.normalised.new.table) c.args.formula c.args.positive made)
    _
    (λ made m. normal-at c.args.table.now c.normalised.new.table c.args.formula made c.args.positive c.normalised.ensures.grows c.requires.formula m)
    c.normalised.ensures.node

pub returns-clause-normal : goal.returns-clause-normal
returns-clause-normal c =
    IfOk-weaker
    c.normalised.result
    (λ made. IsNormalised (nodes c.normalised.new.table) c.args.formula c.args.positive made)
    (λ made. is_normal (the_truth (slice_get (nodes c.normalised.new.table) made)) ≡ true)
    (λ made m. ap is_normal (truth-at (slice_get (nodes c.normalised.new.table) made) _ m.is) ∙ normal-is (the_truth (slice_get (nodes c.normalised.new.table) c.args.formula)) c.args.positive)
    c.normalised.ensures.node

pub returns-clause-meaning : goal.returns-clause-meaning
returns-clause-meaning c =
    let old = the_truth (slice_get (nodes c.args.table.now) c.args.formula) in
    IfOk-weaker
    c.normalised.result
    (λ made. IsNormalised (nodes c.normalised.new.table) c.args.formula c.args.positive made)
    (λ made. (m : Interp) (e : List ℕ) → truth (the_truth (slice_get (nodes c.normalised.new.table) made)) m e ≡ signed c.args.positive (truth old m e))
    (λ made h m e. ap (λ a. truth a m e) (truth-at (slice_get (nodes c.normalised.new.table) made) (normal old c.args.positive) (normal-at c.args.table.now c.normalised.new.table c.args.formula made c.args.positive c.normalised.ensures.grows c.requires.formula h)) ∙ truth-normal old c.args.positive m e)
    c.normalised.ensures.node
