-- What an outline says of its program, and that it stays one while the table grows.
use Rattle.std.proofs.Common.{◌≡◌, refl, map, option_map}
use Rattle.jh_arena.specs.table.Entries.{Listing}
use Rattle.jh_arena.specs.table.Growth.{Extends}
use Rattle.jh_vars.specs.Written.{Callee}
use Rattle.jh_semantics.specs.Code.{Text}
use Rattle.jh_state_facts.specs.well_formedness.Formed.{head_facts, tail_facts}
use Rattle.jh_state_facts.specs.well_formedness.States.{members_in}
use Rattle.jh_state_facts.proofs.well_formedness.FactSteps.{facts-grow}
use Rattle.jh_call_commands.proofs.of_jh_command_statements.checks.ToldSteps.{formulas-grow}
use Rattle.jh_semantics.specs.typed_code.Statements.{claim_in, method_in}
use Rattle.jh_method_commands.specs.declared.environment.outline.Outline.{Outline}
use Rattle.jh_method_commands.specs.environment.Outlines.{source_of, method_of, program_in, writes_in, written_by, is_at, IsOutline}

module _ (o : Outline) where
  pub program-classes : (program_in o).classes ≡ o.classes.now
  unfolding program_in
  program-classes = refl

  pub program-members : (program_in o).members ≡ members_in o.classes.now o.members.now
  unfolding program_in
  program-members = refl

  pub program-invariants : (program_in o).invariants ≡ map (claim_in (source_of o)) o.invariants.now
  unfolding program_in
  program-invariants = refl

  pub program-method : (m : Callee) → (program_in o).method m ≡ option_map (method_in (source_of o)) (method_of o m)
  unfolding program_in
  program-method m = refl

-- what a method may write, by its texts
pub writes-written : (o : Outline) (m : Callee) (y : Text) → (writes_in o).written m y ≡ is_at o (written_by o m) y
unfolding writes_in
writes-written o m y = refl

pub outline_grows : (t u : Listing) (o : Outline) → IsOutline t o → Extends t u → IsOutline u o
outline_grows t u o h g = record {
  head = facts-grow t u o.facts.now.head (head_facts o.classes.now (members_in o.classes.now o.members.now)) g h.head;
  tail = facts-grow t u o.facts.now.tail (tail_facts o.classes.now (members_in o.classes.now o.members.now)) g h.tail;
  formulas = formulas-grow t u g (source_of o) o.formulas.now h.formulas;
  names = h.names;
  writes = h.writes;
  frames = h.frames;
}

pub ruleset outline_steps = (outline_grows)
