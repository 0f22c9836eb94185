-- The tree of a program is that of its classes, and why one isn't unfolded.
use Rattle.std.proofs.Common.{◌≡◌, sym, ap, subst, map, List}
use Rattle.jh_name.specs.declared.naming.Name.{Name}
use Rattle.jh_ast.specs.declared.program.Class.{Class}
use Rattle.jh_ast.specs.declared.program.Program.{Program}
use Rattle.jh_ast.specs.declared.word.Word.{Word}
use Rattle.jh_ast.specs.Bare.{program_tree, class_part}
use Rattle.jh_ast.specs.Programs.{ProgramTree}
use Rattle.jh_vars.specs.Reading.{IsFirstCyclic}
use Rattle.jh_definitions.specs.expansion.Opening.{source_of}
use Rattle.jh_definitions.specs.dependency_order.Defining.{named}
use Rattle.jh_unfolding.specs.declared.unfolder.faults.VarsError.{VarsError}
use Rattle.jh_unfolding.specs.declared.unfolder.faults.VarsError.TheVariants as e
use Rattle.jh_unfolding.specs.unfolder.Holding.{IsCause, IsNamed}

pub source-is : (program : Program) (cs : List Class) → cs ≡ program.classes → program_tree program ≡ source_of cs
unfolding program_tree
source-is program cs e = ap (λ us. record { classes = map class_part us }) (sym e)

-- a fault that names the first cyclic variable, or is want of memory
pub cause-of : (p : ProgramTree) (w : Word) (fault : VarsError) → IsNamed w fault → (c : _) × IsFirstCyclic p (named c w) → IsCause p fault
cause-of p w (e.CyclicDef name) is h = (h.0, subst (λ (x : Name). IsFirstCyclic p (record { class = h.0; name = x.text })) (sym is) h.1)
cause-of p w e.Memory is h = tt
