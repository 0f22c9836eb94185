-- What a draft of a program is, and what it lends to an outline.
use Rattle.std.specs.Prelude.{◌≡◌, ◌+◌, List, map, length, Some}
use Rattle.jh_ast.specs.Programs.{ProgramTree, MethodPart}
use Rattle.jh_arena.specs.table.Entries.{Listing}
use Rattle.jh_vars.specs.Written.{Callee, MayWrite, Names, all_state, named_by, part_of}
use Rattle.jh_effects.specs.written_state.Arising.{ArePlaces}
use Rattle.jh_effects.specs.written_state.Methods.{AreAll, AreMethods, AreNumbered, places_in}
use Rattle.jh_effects.specs.declared.written_state.methods.Listed.{Listed}
use Rattle.jh_effects.specs.declared.written_state.places.MethodPlaces.{MethodPlaces}
use Rattle.jh_semantics.specs.LoweredProgram.{program_of}
use Rattle.jh_semantics.specs.typed_code.Statements.{claim_in, method_in}
use Rattle.jh_state_facts.specs.well_formedness.Facts.{AreFacts}
use Rattle.jh_state_facts.specs.well_formedness.Formed.{head_facts, tail_facts}
use Rattle.jh_state_facts.specs.well_formedness.States.{members_in}
use Rattle.jh_state_facts.specs.declared.well_formedness.formed.StateFacts.{StateFacts}
use Rattle.jh_method_commands.specs.declared.environment.outline.Outline.{Outline}
use Rattle.jh_method_commands.specs.environment.Outlines.{IsOutline, program_in, writes_in}
use Rattle.jh_outline.specs.declared.outline.draft.Declared.{Declared}
use Rattle.jh_outline.specs.declared.outline.draft.Draft.{Draft}
use Rattle.jh_outline.specs.declared.outline.draft.Tabled.{Tabled}
use Rattle.jh_outline.specs.outline.Listing.{code_of, framed_for, places_of}
use Rattle.jh_outline.specs.outline.Rows.{AreExact}

-- the classes, members and invariants of a program
pub record IsDeclaredOf (p : ProgramTree) (d : Declared) : Type 0 where
  pub classes : d.classes.items ≡ (program_of p).classes
  pub members : members_in (program_of p).classes d.members.items ≡ (program_of p).members
  pub invariants : map (claim_in p) d.invariants.items ≡ (program_of p).invariants

-- its methods by their numbers: their code, and their places among so many sets and members
pub record IsTabled (p : ProgramTree) (written modified : MethodPlaces) (d : Declared) (t : Tabled) : Type 0 where
  pub list : List Listed
  pub methods : AreMethods p list
  pub numbered : AreNumbered t.numbers list
  pub all : AreAll p t.numbers
  pub codes : map (method_in p) t.methods.items ≡ map (code_of p) list
  pub writes : t.written.items ≡ map (places_of written) list
  pub names : t.modified.items ≡ map (places_of modified) list
  pub frames : t.framed.items ≡ map (framed_for written modified (length d.classes.items + 2) (length d.members.items)) list

-- the facts of each state, in a table
pub record AreStateFacts (l : Listing) (d : Declared) (facts : StateFacts) : Type 0 where
  pub head : AreFacts l facts.head (head_facts d.classes.items (members_in d.classes.items d.members.items))
  pub tail : AreFacts l facts.tail (tail_facts d.classes.items (members_in d.classes.items d.members.items))

pub record IsDraft (p : ProgramTree) (written modified : MethodPlaces) (l : Listing) (d : Draft) : Type 0 where
  pub declared : IsDeclaredOf p d.declared
  pub tabled : IsTabled p written modified d.declared d.tabled
  pub facts : AreStateFacts l d.declared d.facts

-- what an outline has of a draft
pub record Lends (d : Draft) (o : Outline) : Type 0 where
  pub classes : o.classes.now ≡ d.declared.classes.items
  pub members : o.members.now ≡ d.declared.members.items
  pub invariants : o.invariants.now ≡ d.declared.invariants.items
  pub numbers : o.numbers.now ≡ d.tabled.numbers
  pub methods : o.methods.now ≡ d.tabled.methods.items
  pub written : o.written.now ≡ d.tabled.written.items
  pub modified : o.modified.now ≡ d.tabled.modified.items
  pub framed : o.framed.now ≡ d.tabled.framed.items
  pub facts : o.facts.now ≡ d.facts

-- the places of what each method may write, and of what its `modifies` names
abbrev pub AreWritten : ProgramTree → MethodPlaces → Type 0
AreWritten p written = (m : Callee) → ArePlaces (MayWrite p m) (all_state p) (places_in written m)

abbrev pub AreModified : ProgramTree → MethodPlaces → Type 0
AreModified p modified = (m : Callee) (part : MethodPart) → part_of p m ≡ Some part → ArePlaces (Names p (named_by p m.class part)) (all_state p) (places_in modified m)

-- an outline of a program, which tells commands what the methods of its source write and name
pub record Outlines (p : ProgramTree) (l : Listing) (o : Outline) : Type 0 where
  pub outline : IsOutline l o
  pub program : program_in o ≡ program_of p
  pub exact : AreExact p (writes_in o)
