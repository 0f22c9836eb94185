use Rattle.std.proofs.Common.{◌≡◌, ◌∙◌, ap, subst, ◌+◌, ◌*◌, ◌^◌, sym, arith, add-one, ℕ}
use native.Mathlib.Nat.{pow-suc, pow-zero}
use Rattle.jh_query.specs.queries.Size.{capped}
use Rattle.jh_query.proofs.queries.Ceilings.{times-capped, fits-capped}
use Rattle.jh_instantiation.proofs.instance_count.powers.power.Goals as goal

pub loop-turn-init : goal.loop-turn-init
loop-turn-init c = sym (ap capped (pow-zero c.args.base))

pub loop-turn-preserved : goal.loop-turn-preserved
loop-turn-preserved c =
    let n = c.loop-turn._turn in
    let more : c.args.base ^ n * c.args.base ≡ c.args.base ^ (n + 1) = sym (pow-suc c.args.base n) ∙ ap (λ k. c.args.base ^ k) (sym (add-one n)) in
    times-capped c.times-made.result c.loop-turn.made c.args.base (c.args.base ^ n) c.args.base c.times-made.ensures c.loop-turn.invariant (fits-capped c.args.base (omega arith)) ∙ ap capped more

pub returns : goal.returns
returns c =
    let end : c.loop-turn._turn ≡ c.args.exponent = search arith in
    subst (λ (n : ℕ). c.loop-turn.made ≡ capped (c.args.base ^ n)) end c.loop-turn.invariant
