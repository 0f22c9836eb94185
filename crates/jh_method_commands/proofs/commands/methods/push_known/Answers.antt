use Rattle.std.proofs.Common.{[], ◌∷◌, List, codes, map, option_map, subst}
use Rattle.jh_semantics.specs.Code.{Local}
use Rattle.jh_semantics.specs.WellFormed.{well_formed}
use Rattle.jh_guard.specs.Methods.{assume_requires}
use Rattle.jh_guard.specs.Steps.{assume_named}
use Rattle.jh_semantics.specs.typed_code.Statements.{claim_in, local_in}
use Rattle.jh_state_facts.specs.well_formedness.States.{local_of}
use Rattle.jh_state_facts.specs.changes.Added.{AddsCommands}
use Rattle.jh_state_facts.proofs.changes.AddedSteps.{adds-two, on-ok}
use Rattle.jh_method_commands.specs.environment.Outlines.{source_of, program_in}
use Rattle.jh_method_commands.specs.commands.Made.{formed_in}
use Rattle.jh_method_commands.proofs.commands.SideSteps.{truth-there}
use Rattle.jh_method_commands.proofs.commands.methods.push_known.Goals as goal

pub assume_named-requires : goal.assume_named-requires
assume_named-requires c = truth-there c.formed_node.new.table c.in_ok-formed.formed _ c.in_ok-formed.ensures.node

pub returns-clause-commands : goal.returns-clause-commands
returns-clause-commands c =
    let o = c.args.outline.now in
    let x = c.args.method.now in
    let rest = assume_requires (option_map (claim_in (source_of o)) x.pre) in
    let u = c.assume_named.new.table in
    on-ok c.push_requires.result
    (λ h.
    subst (λ (ls : List Local). AddsCommands c.push_requires.new.table c.args.commands.now.items c.push_requires.new.commands.items (assume_named (codes "wf") x.place (well_formed (program_in o) ls x.this) ∷ rest)) c.requires.scope
    (adds-two u c.push_requires.new.table c.args.commands.now.items c.assume_named.new.commands.items c.push_requires.new.commands.items (assume_named (codes "wf") x.place (well_formed (program_in o) (map local_of c.args.scope.now) x.this) ∷ []) rest
    (c.in_ok-assume_named.ensures.commands (well_formed (program_in o) (map local_of c.args.scope.now) x.this) c.in_ok-formed.ensures.node) c.push_requires.ensures.grows h))
    c.push_requires.ensures.commands
