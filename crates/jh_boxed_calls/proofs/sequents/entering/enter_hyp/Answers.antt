use Rattle.std.proofs.Common.{sym, ◌∙◌, None, Some}
use Rattle.jh_form.specs.Tree.{of_truth}
use Rattle.jh_form.specs.Bare.{formula_tree}
use Rattle.jh_seq.specs.sequent.Sequents.{hyp_tree}
use Rattle.jh_boxed_calls.proofs.sequents.entering.enter_hyp.Goals as goal

pub returns-in-None-clause-hyp : goal.returns-in-None-clause-hyp
unfolding hyp_tree
returns-in-None-clause-hyp c = record { mark = None; label = tt; name = c.in-None.is; fact = c.in_ok-fact.ensures.node }

pub returns-in_ok-mark-in-Some-clause-hyp : goal.returns-in_ok-mark-in-Some-clause-hyp
unfolding hyp_tree
returns-in_ok-mark-in-Some-clause-hyp c =
    let named = c.in_ok-mark-in-Some.ensures.mark in
    record {
      mark = Some named.mark;
      label = named.there;
      name = c.in-Some.is ∙ sym named.name_is;
      fact = c.mark_named.ensures.grows.nodes.keeps c.in_ok-fact.fact (of_truth (formula_tree c.args.hyp.now.fact)) c.in_ok-fact.ensures.node;
    }
