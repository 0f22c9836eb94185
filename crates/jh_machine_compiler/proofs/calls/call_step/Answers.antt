use Rattle.std.proofs.Common.{ap, subst, ◌∙◌, List, ℕ, map}
use Rattle.jh_semantics.specs.declared.typed_code.code.AnyCode.{AnyCode}
use Rattle.jh_semantics.specs.typed_code.Codes.{any_code}
use Rattle.jh_machine_code.proofs.numbering.Standing.{grows_twice}
use Rattle.jh_machine_compiler.specs.Lasting.{AreArguments}
use Rattle.jh_machine_compiler.specs.Sources.{numbered_in}
use Rattle.jh_machine_compiler.proofs.Growing.{destination_still}
use Rattle.jh_machine_compiler.proofs.CallSteps.{receiver_still, call_made}
use Rattle.jh_machine_compiler.proofs.calls.call_step.Goals as goal

pub returns-clause-is : goal.returns-clause-is
returns-clause-is c = λ p keeps t.
    let call = c.args.call.now in
    let names = c.arguments_of.new.names in
    call_made p call (destination_still (grows_twice c.receiver_of.ensures.grows c.arguments_of.ensures.grows) c.in_ok-destination.ensures.is) (receiver_still c.arguments_of.ensures.grows c.in_ok-receiver.ensures.is)
    (subst (λ (codes : List AnyCode). AreArguments names (map any_code codes) c.in_ok-args.args) c.items.ensures c.in_ok-args.ensures.are)
    (c.number-method.ensures ∙ ap (λ (name : List ℕ). numbered_in c.args.source.now (record { class = call.class; name = name })) c.text.ensures)
