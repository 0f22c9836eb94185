use Rattle.std.proofs.Common.{sym, subst, List}
use Rattle.std.proofs.lemmas.Result.{IfOk-weaker, on_ok_weaker}
use Rattle.jh_form.specs.Tree.{FormulaTree}
use Rattle.jh_arena.specs.table.Nodes.{nodes}
use Rattle.jh_arena.proofs.table.Listed.{grows-refl}
use Rattle.jh_seq.specs.sequent.Sequents.{SequentTree}
use Rattle.jh_approx.specs.definition.Links.{named_in, is_linked}
use Rattle.jh_approx.specs.definition.Regions.{kept_facts}
use Rattle.jh_query_names.specs.mentioned_names.Memos.{found}
use Rattle.jh_query_names.proofs.mentioned_names.Growing.{notes-grow}
use Rattle.jh_abstraction.specs.choice_of_hypotheses.Asking.{AreNodes, IsStated, IsAsked}
use Rattle.jh_abstraction.specs.choice_of_hypotheses.Choosing.{is_near, said_of}
use Rattle.jh_abstraction.proofs.choice_of_hypotheses.Askings.{names-some, names-none, kept-named, kept-near}
use Rattle.jh_abstraction.proofs.choice_of_hypotheses.choosing.kept_facts.Goals as goal

pub names_facts-requires : goal.names_facts-requires
names_facts-requires c = (c.requires.sequent.1.mark, c.requires.sequent.1.is_label)

pub kept_by_names-requires-clause-memo : goal.kept_by_names-requires-clause-memo
kept_by_names-requires-clause-memo c = c.requires.memo.shown_before

pub returns-then-names_facts-clause-kept : goal.returns-then-names_facts-clause-kept
returns-then-names_facts-clause-kept c =
    let t = c.args.table.now in
    let us = nodes c.kept_by_names.new.table in
    IfOk-weaker
    c.kept_by_names.result
    (λ made. (s : SequentTree) → IsAsked t c.args.hyps.now c.args.label c.args.facts.now c.args.goal s → AreNodes us made.items (said_of (λ h. named_in s.mark.from h.name) s.hyps))
    (λ made. (s : SequentTree) → IsAsked t c.args.hyps.now c.args.label c.args.facts.now c.args.goal s → AreNodes us made.items (kept_facts s))
    (λ made h s asked. subst (λ (fs : List FormulaTree). AreNodes us made.items fs)
    (sym (kept-named s (names-some s asked.mark c.names_facts.result (c.names_facts.ensures asked.mark asked.is_label) asked.under c.if-names_facts.true)))
    (h s asked))
    c.kept_by_names.ensures.kept

pub returns-then-names_facts-clause-memo : goal.returns-then-names_facts-clause-memo
returns-then-names_facts-clause-memo c =
    let notes = c.args.memo.now.notes.items in
    on_ok_weaker c.kept_by_names.result
    (λ h. record {
      shown_before = h;
      noted_before = notes-grow (nodes c.args.table.now) (nodes c.kept_by_names.new.table) c.kept_by_names.ensures.grows.nodes (found c.args.memo.now.places) notes notes (grows-refl notes) c.requires.memo.noted_before;
    })
    c.kept_by_names.ensures.memo

pub kept_by_links-requires-clause-sequent : goal.kept_by_links-requires-clause-sequent
kept_by_links-requires-clause-sequent c = (c.requires.sequent.0, c.requires.sequent.1.stated)

pub returns-else-names_facts-clause-kept : goal.returns-else-names_facts-clause-kept
returns-else-names_facts-clause-kept c =
    let t = c.args.table.now in
    let us = nodes c.kept_by_links.new.table in
    IfOk-weaker
    c.kept_by_links.result
    (λ made. (s : SequentTree) → IsStated (nodes t) c.args.facts.now c.args.goal s → AreNodes us made.items (said_of (λ h. is_near s.goal (is_linked s) h.fact) s.hyps))
    (λ made. (s : SequentTree) → IsAsked t c.args.hyps.now c.args.label c.args.facts.now c.args.goal s → AreNodes us made.items (kept_facts s))
    (λ made h s asked. subst (λ (fs : List FormulaTree). AreNodes us made.items fs)
    (sym (kept-near s (names-none s asked.mark c.names_facts.result (c.names_facts.ensures asked.mark asked.is_label) asked.under c.if-names_facts.false)))
    (h s asked.stated))
    c.kept_by_links.ensures.kept
