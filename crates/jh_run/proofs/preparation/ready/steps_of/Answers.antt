use Rattle.std.proofs.Common.{refl, codes}
use Rattle.jh_arena.proofs.table.Listed.{extends-refl}
use Rattle.jh_outline.specs.jh_method_commands.environment.Outlines.{program_in, source_of}
use Rattle.jh_exec.proofs.of_jh_machine_code.numbering.Standing.{grows_twice}
use Rattle.jh_heap_layout.proofs.layout.Numbering.{named-there}
use Rattle.jh_run.proofs.preparation.ready.steps_of.Goals as goal

pub returns-clause-steps : goal.returns-clause-steps
unfolding program_in
returns-clause-steps c =
    let o = c.args.outline.now in
    record {
      are_bodies = λ later grows.
          c.in_ok-methods.ensures.bodies (source_of o) (program_in o) c.requires (λ m. refl) later c.bodies_of.new.table (grows_twice c.places_of.ensures.grows (grows_twice c.text_number.ensures.grows grows)) (extends-refl c.bodies_of.new.table);
      are_places = λ later grows. (c.in_ok-places.ensures.places (program_in o) refl refl).are later (grows_twice c.text_number.ensures.grows grows);
      is_this = λ later grows. named-there c.text_number.new.names (codes "this") c.in_ok-this.this c.in_ok-this.ensures.is later grows;
    }
