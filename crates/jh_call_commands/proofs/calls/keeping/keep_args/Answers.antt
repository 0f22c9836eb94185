use Rattle.std.proofs.Common.{arith, map, subst, List, [], ◌∷◌}
use Rattle.jh_wp.specs.Command.{CommandTree}
use Rattle.jh_wp.specs.Command as w
use Rattle.jh_semantics.specs.Code.{Text}
use Rattle.jh_guard.specs.Steps.{fresh}
use Rattle.jh_guard.specs.Terms.{value_term}
use Rattle.jh_semantics.specs.typed_code.Statements.{local_in}
use Rattle.jh_state_facts.specs.changes.Added.{AddsCommands}
use Rattle.jh_call_commands.proofs.calls.KeepSteps.{keep-is, keep-more, keep-end, keep-stop}
use Rattle.jh_call_commands.proofs.calls.keeping.keep_args.Goals as goal

pub loop-place-preserved : goal.loop-place-preserved
loop-place-preserved c =
    let t = c.args.table.now in
    let before = c.loop-place.commands.items in
    let after = c.keep.new.commands.items in
    record {
      rest = λ new vs are h.
          c.loop-place.invariant.rest new vs are
          (keep-more t c.args.params.now c.args.args.now before after new c.param_at.result.now c.node_at.result c.loop-place.place c.loop-place.next c.in_ok-next.next vs c.param_at.ensures c.node_at.ensures c.in_ok-next.ensures are
          (λ v e. subst (λ (x : Text). AddsCommands t before after (w.assign (fresh x c.loop-place.next) v ∷ [])) c.text-text.ensures (c.in_ok-keep.ensures v e)) h);
    }

pub returns-then-place-params : goal.returns-then-place-params
returns-then-place-params c = λ es are.
    subst (λ (fs : List CommandTree). AddsCommands c.args.table.now c.args.commands.now.items c.loop-place.commands.items fs) (keep-is (map local_in c.args.params.now) es c.args.turn)
    (c.loop-place.invariant.rest c.loop-place.commands.items (map value_term es) are
    (keep-stop c.args.table.now c.args.params.now c.args.args.now c.loop-place.commands.items c.loop-place.place c.loop-place.next (map value_term es) (omega (arith, c.if-place-params.true))))

pub returns : goal.returns
returns c = λ es are.
    subst (λ (fs : List CommandTree). AddsCommands c.args.table.now c.args.commands.now.items c.loop-place.commands.items fs) (keep-is (map local_in c.args.params.now) es c.args.turn)
    (c.loop-place.invariant.rest c.loop-place.commands.items (map value_term es) are
    (keep-end c.args.table.now c.args.params.now c.args.args.now c.loop-place.commands.items c.loop-place.place c.loop-place.next (map value_term es) (omega (arith, c.loop-place-test.false)) are))
