-- What is owed over the outline of a source is what the source owes.
use Rattle.std.proofs.Common.{◌≡◌, subst, List}
use Rattle.jh_ast.specs.Programs.{ProgramTree}
use Rattle.jh_arena.specs.table.Entries.{Listing}
use Rattle.jh_semantics.specs.Program.{Program}
use Rattle.jh_outline.specs.jh_method_commands.declared.environment.outline.Outline.{Outline}
use Rattle.jh_outline.specs.jh_method_commands.environment.Outlines.{program_in, source_of, writes_in}
use Rattle.jh_outline.specs.outline.Drafts.{Outlines}
use Rattle.jh_obligations.specs.program_sequents.Owed.{Debt, AreOwed, FirstMany, IsWhy}
use Rattle.jh_obligations.specs.program_sequents.Owing.{owing_of}
use Rattle.jh_obligations.specs.program_sequents.Sources.{Owes, IsLogicFault}
use Rattle.jh_obligations.specs.declared.program_sequents.fault.LogicError.{LogicError}
use Rattle.jh_obligations.specs.declared.program_sequents.fault.LogicError.TheVariants as fault

module _ (p : ProgramTree) (l : Listing) (o : Outline) (is : Outlines p l o) (source : source_of o ≡ p) where
  pub owes-source : (ds : List Debt) → AreOwed (program_in o) (writes_in o) (owing_of (source_of o)) ds → Owes p ds
  owes-source ds h = record {
    writes = writes_in o;
    exact = is.exact;
    owed = subst (λ (q : Program). AreOwed q (writes_in o) (owing_of p) ds) is.program (subst (λ (s : ProgramTree). AreOwed (program_in o) (writes_in o) (owing_of s) ds) source h);
  }

  pub fault-source : (e : LogicError) → IsWhy (program_in o) (writes_in o) (owing_of (source_of o)) e → IsLogicFault p e
  fault-source (fault.TooManySequents id n) h = record {
    writes = writes_in o;
    exact = is.exact;
    first = subst (λ (q : Program). FirstMany q (writes_in o) (owing_of p) id n) is.program (subst (λ (s : ProgramTree). FirstMany (program_in o) (writes_in o) (owing_of s) id n) source h);
  }
  fault-source fault.Memory h = tt
