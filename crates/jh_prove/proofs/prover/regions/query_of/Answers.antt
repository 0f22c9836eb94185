use Rattle.std.proofs.Common.{◌≡◌, refl, sym, subst, ℕ, List, true, slice_get}
use Rattle.std.proofs.lemmas.Result.{IfOk-weaker}
use Rattle.jh_approx.specs.definition.Regions.{bapa_of, kept_facts, query_from, unlabelled}
use Rattle.jh_local.specs.jh_abstraction.choice_of_hypotheses.Asking.{AreNodes, IsAsked}
use Rattle.jh_arena.specs.makers.Joined.{are_truths, truths_at}
use Rattle.jh_local.proofs.of_jh_query_names.mentioned_names.Growing.{mentions-grow, mentions-shown, on-ok}
use Rattle.jh_local.specs.jh_query_names.declared.mentioned_names.memo.Memo.{Memo}
use Rattle.jh_query.specs.queries.Bare.{query_tree}
use Rattle.jh_seq.specs.sequent.Sequents.{SequentTree}
use Rattle.jh_arena.specs.table.Entries.{the_truth}
use Rattle.jh_arena.specs.table.Nodes.{nodes}
use Rattle.jh_arena.proofs.table.Listed.{extends-trans}
use Rattle.jh_prove.proofs.prover.Bareness.{formula-there}
use Rattle.jh_prove.proofs.prover.Querying.{nodes-are-truths, nodes-grow, query-is}
use Rattle.jh_prove.proofs.prover.regions.query_of.Goals as goal

pub shown-requires-clause-formula : goal.shown-requires-clause-formula
shown-requires-clause-formula c =
    let a = c.args.asked in
    formula-there (nodes c.kept_facts.new.table) a.goal _ (c.kept_facts.ensures.grows.nodes.keeps a.goal _ c.requires.sequent.1.stated.wanted)

pub query_from-requires-clause-facts : goal.query_from-requires-clause-facts
query_from-requires-clause-facts c =
    subst (λ (ns : List ℕ). are_truths (nodes c.shown.new.table) ns ≡ true) (sym c.as_slice.ensures.value)
    (nodes-are-truths (nodes c.shown.new.table) c.in_ok-kept.kept.items _
    (nodes-grow (nodes c.kept_facts.new.table) (nodes c.shown.new.table) c.shown.ensures.grows.nodes c.in_ok-kept.kept.items _ (c.in_ok-kept.ensures.kept (unlabelled c.requires.sequent.0) c.requires.sequent.1)))

pub query_from-requires-clause-goal : goal.query_from-requires-clause-goal
query_from-requires-clause-goal c = formula-there (nodes c.shown.new.table) c.in_ok-goal.goal _ c.in_ok-goal.ensures.tree

pub returns-clause-query : goal.returns-clause-query
returns-clause-query c =
    let t = c.args.table.now in
    let a = c.args.asked in
    let u = c.query_from.new.table in
    IfOk-weaker
    c.query_from.result
    (λ made. query_tree made ≡ query_from (truths_at (nodes u) c.as_slice.result.now) (the_truth (slice_get (nodes u) c.in_ok-goal.goal)))
    (λ made. (s : SequentTree) → IsAsked t a.hyps.now a.label a.facts.now a.goal (unlabelled s) → query_tree made ≡ bapa_of s)
    (λ made is s h. query-is (nodes t) (nodes c.kept_facts.new.table) (nodes c.shown.new.table) (nodes u) c.kept_facts.ensures.grows.nodes c.shown.ensures.grows.nodes c.query_from.ensures.grows.nodes
    s c.as_slice.result.now a.goal c.in_ok-goal.goal h.stated.wanted
    (subst (λ (ns : List ℕ). AreNodes (nodes c.kept_facts.new.table) ns (kept_facts (unlabelled s))) (sym c.as_slice.ensures.value) (c.in_ok-kept.ensures.kept (unlabelled s) h)) c.in_ok-goal.ensures.tree (query_tree made) is)
    c.query_from.ensures.tree

pub returns-clause-seen : goal.returns-clause-seen
returns-clause-seen c =
    let u = c.kept_facts.new.table in
    let v = c.shown.new.table in
    let w = c.query_from.new.table in
    let old = c.kept_facts.new.memo in
    let new : Memo = record { shown = c.shown.new.memo; places = old.places; notes = old.notes } in
    on-ok c.query_from.result
    (mentions-grow (nodes v) (nodes w) c.query_from.ensures.grows.nodes new
    (mentions-shown (nodes u) (nodes v) c.shown.ensures.grows.nodes old new refl refl c.in_ok-goal.ensures.memo c.in_ok-kept.ensures.memo))

pub returns-clause-grows : goal.returns-clause-grows
returns-clause-grows c = extends-trans c.args.table.now c.shown.new.table c.query_from.new.table (extends-trans c.args.table.now c.kept_facts.new.table c.shown.new.table c.kept_facts.ensures.grows c.shown.ensures.grows) c.query_from.ensures.grows
