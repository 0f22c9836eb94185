-- What a method names and a definition reads, by what stands there.
use Rattle.std.proofs.Common.{◌≡◌, sym, ap, ◌∙◌, List, [], map, length, Option, Some}
use Rattle.std.specs.Option.{option_map_or}
use Rattle.std.proofs.lemmas.List.{length-map}
use Rattle.jh_ast.specs.declared.program.Class.{Class}
use Rattle.jh_ast.specs.declared.program.Method.{Method}
use Rattle.jh_ast.specs.declared.program.Program.{Program}
use Rattle.jh_ast.specs.Bare.{class_part, form_tree, method_part, program_tree}
use Rattle.jh_ast.specs.Forms.{FormTree}
use Rattle.jh_ast.specs.Programs.{ProgramTree, MethodPart, DefPart}
use Rattle.jh_definitions.specs.declared.expansion.opening.Definition.{Definition}
use Rattle.jh_definitions.specs.expansion.Opening.{IsDefinition, defined_by, source_of}
use Rattle.jh_rules.specs.Names.{declared_in}
use Rattle.jh_vars.specs.Reading.{reads, definition_reads, fields_read}
use Rattle.jh_vars.specs.Written.{Callee, named_by, part_of}
use Rattle.jh_effects.specs.modified_state.Modifying.{named_in}

pub named-is : (p : ProgramTree) (m : Callee) (method : Method) → part_of p m ≡ Some (method_part method) → named_in p m ≡ fields_read (declared_in p) m.class method.modifies
unfolding method_part
named-is p m method e = ap (λ (o : Option MethodPart). option_map_or (λ (part : MethodPart). named_by p m.class part) o []) e

pub reads-are : (p : ProgramTree) (d : Definition) → IsDefinition p d → definition_reads p (defined_by d) ≡ reads (declared_in p) (form_tree d.body.now) d.class []
reads-are p d is = ap (λ (o : Option DefPart). option_map_or (λ (part : DefPart). reads (declared_in p) part.spec.form d.class []) o []) is.found ∙ ap (λ (a : FormTree). reads (declared_in p) a d.class []) is.form

pub classes-long : (p : Program) → length (program_tree p).classes ≡ length p.classes
unfolding program_tree
classes-long p = length-map p.classes class_part

-- the tree of a program is that of its classes
pub source-is : (p : Program) (cs : List Class) → cs ≡ p.classes → program_tree p ≡ source_of cs
unfolding program_tree
source-is p cs e = ap (λ (us : List Class). record { classes = map class_part us }) (sym e)
