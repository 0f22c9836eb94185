use Rattle.std.proofs.Common.{◌≡◌, sym, subst, ◌∙◌, ℕ, List, map, IfOk}
use Rattle.jh_instantiation.specs.instance_count.Grouping.{AreFormulas, single_groups}
use Rattle.jh_query.specs.queries.Size.{capped}
use Rattle.jh_inst.specs.instances.Count.{Tally, tally, tally_rounds, tally_end}
use Rattle.jh_inst.specs.instances.Rounds as rounds
use Rattle.jh_instantiation.specs.declared.instances.making.AtHand.{AtHand}
use Rattle.jh_instantiation.specs.instances.Progressing.{AreAtHand}
use Rattle.jh_instantiation.proofs.instances.Passes.{groups-are}
use Rattle.jh_instantiation.proofs.instances.Placing.{terms-length}
use Rattle.jh_instantiation.proofs.instances.counting.count_begun.Goals as goal

pub count_from-requires : goal.count_from-requires
count_from-requires c =
    let p = c.requires.there in
    let t = c.args.table.now in
    let q = rounds.begun p.0 p.1 in
    let hands = subst (λ (xs : List AtHand). AreAtHand t q.terms xs q.at_hand) (sym c.as_slice.ensures.value) p.2.at_hand in
    record { there = (map (λ (h : rounds.AtHand). h.formula) q.at_hand, subst (λ (ns : List ℕ). AreFormulas t ns (map (λ (h : rounds.AtHand). h.formula) q.at_hand)) (sym c.as_slice-2.ensures.value) (c.in_ok-formulas.ensures q.terms q.at_hand hands)) }

pub returns-clause-count : goal.returns-clause-count
returns-clause-count c = λ fs k hp.
    let t = c.args.table.now in
    let q = rounds.begun fs k in
    let hands = subst (λ (xs : List AtHand). AreAtHand t q.terms xs q.at_hand) (sym c.as_slice.ensures.value) hp.at_hand in
    let are = subst (λ (ns : List ℕ). AreFormulas t ns (map (λ (h : rounds.AtHand). h.formula) q.at_hand)) (sym c.as_slice-2.ensures.value) (c.in_ok-formulas.ensures q.terms q.at_hand hands) in
    let long = c.len.ensures ∙ terms-length t c.args.progress.now.terms.nodes.keys q.terms hp.terms in
    let same : record { puts = 0; at_hand = single_groups (map (λ (h : rounds.AtHand). h.formula) q.at_hand); terms = c.len.result } ≡ tally q = λ i. record { puts = 0; at_hand = sym (groups-are 0 q.entries) i; terms = long i } in
    subst (λ (x : Tally). IfOk c.count_from.result (λ made. made ≡ capped (tally_end (tally_rounds c.args.turns x)))) same (c.count_from.ensures.count (map (λ (h : rounds.AtHand). h.formula) q.at_hand) are)
