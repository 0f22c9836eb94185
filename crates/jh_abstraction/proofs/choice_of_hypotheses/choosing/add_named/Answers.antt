use Rattle.std.proofs.Common.{◌≡◌, refl, sym, ap, subst, ◌∙◌, Bool, true, false, Some}
use Rattle.jh_form.specs.Tree.{of_truth}
use Rattle.jh_arena.specs.table.Nodes.{nodes}
use Rattle.jh_seq.specs.splitting.Split.{mark_of}
use Rattle.jh_approx.specs.definition.Shown.{shown}
use Rattle.jh_approx.specs.definition.Links.{named_in}
use Rattle.jh_query_names.proofs.mentioned_names.Growing.{truth-there, truth-is}
use Rattle.jh_abstraction.specs.choice_of_hypotheses.Asking.{AddsSaid}
use Rattle.jh_abstraction.proofs.choice_of_hypotheses.choosing.add_named.Goals as goal

pub is_chosen-requires-clause-hyp : goal.is_chosen-requires-clause-hyp
is_chosen-requires-clause-hyp c = (c.requires.hyp.1.mark, c.requires.hyp.1.is_label)

pub shown-requires-clause-formula : goal.shown-requires-clause-formula
shown-requires-clause-formula c = truth-there (nodes c.args.table.now) c.args.fact c.requires.hyp.0.fact c.requires.hyp.2

pub returns-then-not-is_chosen-clause-kept : goal.returns-then-not-is_chosen-clause-kept
returns-then-not-is_chosen-clause-kept c = λ h mark name fact label.
    let e : named_in (mark_of mark).from h.name ≡ false = ap (named_in (mark_of mark).from) name.is ∙ sym (c.is_chosen.ensures mark name.mark label name.is_label) ∙ c.if-not-is_chosen.true in
    subst (λ (b : Bool). AddsSaid (nodes c.args.table.now) c.args.kept.now.items c.args.kept.now.items b h.fact) (sym e) refl

pub returns-clause-kept : goal.returns-clause-kept
returns-clause-kept c = λ h mark name fact label.
    let e : named_in (mark_of mark).from h.name ≡ true = ap (named_in (mark_of mark).from) name.is ∙ sym (c.is_chosen.ensures mark name.mark label name.is_label) ∙ c.if-not-is_chosen.false in
    subst (λ (b : Bool). AddsSaid (nodes c.shown.new.table) c.args.kept.now.items c.push.new.self.items b h.fact) (sym e)
    (c.in_ok-node.node, c.in_ok-push.ensures.items, c.in_ok-node.ensures.tree ∙ ap (λ a. Some (of_truth (shown a false))) (truth-is (nodes c.args.table.now) c.args.fact h.fact fact))
