use Rattle.std.proofs.Common.{◌≡◌, ◌++◌, drop}
use Rattle.std.specs.List.{flat_map}
use Rattle.jh_semantics.specs.LoweredProgram.{program_of, member_from}
use Rattle.jh_state_facts.specs.well_formedness.States.{members_in}
use Rattle.jh_lowering.specs.Lowering.{source_of}
use Rattle.jh_outline.proofs.declarations.state.members_of.Given as goal

abbrev pub invariant-loop-state : goal.invariant-loop-state
invariant-loop-state l = members_in (program_of (source_of l.context)).classes l.made.items ++ flat_map (member_from (source_of l.context)) (drop l.state-index l.states) ≡ flat_map (member_from (source_of l.context)) l.states
