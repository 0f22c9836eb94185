use Rattle.std.proofs.Common.{◌≡◌, ap, sym, ◌∙◌, ◌+◌, ◌-◌, length, drop, Some, if◌then◌else◌, arith}
use Rattle.std.specs.Option.{option_map_or}
use Rattle.jh_rules.specs.Words.{same_text, text_of}
use Rattle.jh_vars.specs.Resolved as r
use Rattle.jh_resolution.specs.Spots.{texts_of}
use Rattle.jh_resolution.proofs.Members.{bound-step, bound-end, chosen-then, chosen-else}
use Rattle.jh_resolution.proofs.values.bound_as.Goals as goal
use Rattle.jh_resolution.proofs.values.bound_as.Goals.{then-eq, else-eq}

-- src/values.rt
pub loop-index-preserved : goal.loop-index-preserved
loop-index-preserved c =
    let ws = c.args.bound.now in
    let x = c.args.text.now in
    let j = c.loop-index.index in
    let whole = r.bound_as x (texts_of ws) in
    let step : whole ≡ option_map_or (λ i. Some i) (r.bound_as x (texts_of (drop (j + 1) ws))) (if c.eq.result then Some (length ws - j - 1) else c.loop-index.found) =
    bound-step ws j c.index-bound-index.result x whole c.loop-index.found c.eq.result c.loop-index-test.true c.index-bound-index.is (c.eq.ensures ∙ ap (λ y. same_text y x) c.text.ensures ∙ ap (λ w. same_text (text_of w.now) x) (sym c.index-bound-index.is)) c.loop-index.invariant in
    elim c.if-eq.branch [
      | then-eq w ↦ step ∙ ap (option_map_or (λ i. Some i) (r.bound_as x (texts_of (drop (j + 1) ws)))) (chosen-then c.eq.result (length ws - j - 1) c.loop-index.found c.if-eq.found w.if-eq.true w.found-is)
      | else-eq w ↦ step ∙ ap (option_map_or (λ i. Some i) (r.bound_as x (texts_of (drop (j + 1) ws)))) (chosen-else c.eq.result (length ws - j - 1) c.loop-index.found c.if-eq.found w.if-eq.false w.found-is)
    ]

-- src/values.rt
pub returns : goal.returns
returns c = bound-end c.args.bound.now c.loop-index.index c.args.text.now (r.bound_as c.args.text.now (texts_of c.args.bound.now)) c.loop-index.found (omega arith) c.loop-index.invariant
