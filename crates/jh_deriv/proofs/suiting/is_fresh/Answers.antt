use Rattle.std.proofs.Common.{sym, ◌∙◌, true, false, get_or}
use Rattle.std.proofs.lemmas.Bool.{true≢false}
use Rattle.std.proofs.lemmas.List.{drop_more}
use Rattle.std.proofs.lemmas.Option.{slice_get-get_or}
use Rattle.jh_arena.specs.table.Nodes.{nodes}
use Rattle.jh_deriv.proofs.Following.{all-at, fresh-more, fresh-not}
use Rattle.jh_deriv.proofs.suiting.is_fresh.Goals as goal

pub lacks-requires : goal.lacks-requires
lacks-requires c =
    let ks = c.args.facts.now in
    let i = c.loop-fact.fact-index in
    all-at (nodes c.args.table.now) ks i (get_or ks i 0) c.requires (slice_get-get_or ks i 0 c.loop-fact-test.true)

pub returns-then-not-branch : goal.returns-then-not-branch
returns-then-not-branch c =
    let ts = nodes c.args.table.now in
    let ks = c.args.facts.now in
    let i = c.loop-fact.fact-index in
    let k = get_or ks i 0 in
    let is = all-at ts ks i k c.requires (slice_get-get_or ks i 0 c.loop-fact-test.true) in
    (λ h. absurd (true≢false (sym h)), λ h. absurd (fresh-not ts ks c.args.name.now i k is (drop_more ks i 0 c.loop-fact-test.true) (sym c.in_ok-lacks.ensures ∙ c.if-not-branch.true) c.loop-fact.invariant h))

pub loop-fact-preserved : goal.loop-fact-preserved
loop-fact-preserved c =
    let ts = nodes c.args.table.now in
    let ks = c.args.facts.now in
    let i = c.loop-fact.fact-index in
    let k = get_or ks i 0 in
    let is = all-at ts ks i k c.requires (slice_get-get_or ks i 0 c.loop-fact-test.true) in
    fresh-more ts ks c.args.name.now i k is (drop_more ks i 0 c.loop-fact-test.true) (sym c.in_ok-lacks.ensures ∙ c.if-not-branch.false) c.loop-fact.invariant
