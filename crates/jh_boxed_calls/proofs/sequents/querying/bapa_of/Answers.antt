use Rattle.std.proofs.Common.{◌≡◌, subst, []}
use Rattle.std.proofs.lemmas.Result.{IfOk-weaker}
use Rattle.jh_prove.specs.jh_approx.definition.Regions.{bapa_of}
use Rattle.jh_query.specs.queries.Bare.{query_tree}
use Rattle.jh_query.specs.queries.Tree.{QueryTree}
use Rattle.jh_query.specs.queries.Truth.{IsTrueQuery}
use Rattle.jh_seq.specs.sequent.Sequents.{IsValid, SequentTree, sequent_tree}
use Rattle.jh_prove.specs.jh_splitting.Standing.{IsSequent}
use Rattle.jh_boxed_calls.proofs.sequents.Firsts.{first-is, first-there}
use Rattle.jh_boxed_calls.proofs.sequents.querying.bapa_of.Goals as goal

pub first_sequent-first-requires : goal.first_sequent-first-requires
first_sequent-first-requires c =
    let all = c.in_ok-entered.entered in
    let t = c.enter_sequent.new.table in
    first-there (IsSequent t all.hyps all.method) all.sequents.items (sequent_tree c.args.sequent.now) [] c.in_ok-entered.ensures.sequents

pub query_of_sequent-requires : goal.query_of_sequent-requires
query_of_sequent-requires c =
    let all = c.in_ok-entered.entered in
    let t = c.enter_sequent.new.table in
    let s = sequent_tree c.args.sequent.now in
    (s, first-is (IsSequent t all.hyps all.method) all.sequents.items s [] c.first_sequent-first.result c.in_ok-entered.ensures.sequents c.first_sequent-first.ensures)

pub returns-clause-query : goal.returns-clause-query
returns-clause-query c =
    let all = c.in_ok-entered.entered in
    let t = c.enter_sequent.new.table in
    let s = sequent_tree c.args.sequent.now in
    let x = c.first_sequent-first.result in
    let is = first-is (IsSequent t all.hyps all.method) all.sequents.items s [] x c.in_ok-entered.ensures.sequents c.first_sequent-first.ensures in
    IfOk-weaker
    c.query_of_sequent.result
    (λ made. (u : SequentTree) → IsSequent t all.hyps all.method x u → query_tree made ≡ bapa_of u)
    (λ made. query_tree made ≡ bapa_of s)
    (λ made query. query s is)
    c.query_of_sequent.ensures.query

pub returns-clause-valid : goal.returns-clause-valid
returns-clause-valid c =
    let all = c.in_ok-entered.entered in
    let t = c.enter_sequent.new.table in
    let s = sequent_tree c.args.sequent.now in
    let x = c.first_sequent-first.result in
    let is = first-is (IsSequent t all.hyps all.method) all.sequents.items s [] x c.in_ok-entered.ensures.sequents c.first_sequent-first.ensures in
    IfOk-weaker
    c.query_of_sequent.result
    (λ made. (u : SequentTree) → IsSequent t all.hyps all.method x u → query_tree made ≡ bapa_of u)
    (λ made. IsTrueQuery (query_tree made) → IsValid s)
    (λ made query holds. c.true_query_is_valid.ensures s (subst (λ (q : QueryTree). IsTrueQuery q) (query s is) holds))
    c.query_of_sequent.ensures.query
