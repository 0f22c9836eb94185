use Rattle.std.proofs.Common.{map}
use Rattle.jh_form.specs.Tree.{of_truth}
use Rattle.jh_seq.specs.sequent.Sequents.{HypTree}
use Rattle.jh_reach.proofs.Standings.{formulas-grow}
use Rattle.jh_normal_forms.specs.declared.rebuilding.polarity.Polarity.TheVariants as pol
use Rattle.jh_normal_forms.specs.set_opening.SetsOpened.{sets_opened}
use Rattle.jh_fca.specs.cutting.Cut.{cut}
use Rattle.jh_local_form.proofs.local_sequents.Forms.{goal-truth, lent, each-formed}
use Rattle.jh_local_form.proofs.local_sequents.localizing.cut_down.Goals as goal

pub cut_one-requires : goal.cut_one-requires
cut_one-requires c = record { formula = goal-truth c.args.table.now c.args.form.now c.requires.form.0 c.requires.form.1 }

pub all_cut-requires : goal.all_cut-requires
all_cut-requires c =
    let s = c.requires.form.0 in
    let facts = map (λ (h : HypTree). h.fact) s.hyps in
    record {
      facts = (
        facts,
        lent c.cut_one.new.table c.args.form.now.facts c.items.result.now facts c.items.ensures (formulas-grow c.args.table.now c.cut_one.new.table c.args.form.now.facts facts c.cut_one.ensures.grows c.requires.form.1.facts),
      );
    }

pub returns-clause-form : goal.returns-clause-form
returns-clause-form c = λ s is.
    let t0 = c.args.table.now in
    let t1 = c.cut_one.new.table in
    let t2 = c.all_cut.new.table in
    let facts = map (λ (h : HypTree). h.fact) s.hyps in
    each-formed t2 (λ a. cut (sets_opened a) pol.Negative) (λ a. cut (sets_opened a) pol.Positive) s (record { facts = c.of.result; goal = c.in_ok-goal.goal })
    (lent t2 c.in_ok-facts.facts.items c.of.result (map (λ a. cut (sets_opened a) pol.Negative) facts) c.of.ensures
    (c.in_ok-facts.ensures.all facts (lent t1 c.args.form.now.facts c.items.result.now facts c.items.ensures (formulas-grow t0 t1 c.args.form.now.facts facts c.cut_one.ensures.grows is.facts))))
    (c.all_cut.ensures.grows.nodes.keeps c.in_ok-goal.goal (of_truth (cut (sets_opened s.goal) pol.Positive)) (c.in_ok-goal.ensures.node s.goal is.goal))
