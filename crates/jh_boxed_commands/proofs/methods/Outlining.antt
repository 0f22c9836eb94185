-- The command of a method over the outline of a source is that of the source.
use Rattle.std.proofs.Common.{◌≡◌, refl, sym, ap, subst, ◌∙◌, Option, Some, None, option_map, slice_get}
use Rattle.jh_name.specs.declared.place.MethodId.{MethodId}
use Rattle.jh_ast.specs.Programs.{ClassPart, MethodPart, ProgramTree}
use Rattle.jh_arena.specs.table.Entries.{Listing}
use Rattle.jh_rules.specs.Names.{◌then◌}
use Rattle.jh_rules.specs.Words.{text_of}
use Rattle.jh_outline.specs.jh_vars.Written.{Callee, method_in, part_of}
use Rattle.jh_semantics.specs.Program.{Program, Method}
use Rattle.jh_semantics.specs.LoweredProgram.{program_of, method_code}
use Rattle.jh_outline.specs.jh_method_commands.declared.environment.outline.Outline.{Outline}
use Rattle.jh_outline.specs.jh_method_commands.declared.environment.outline.Callable.{Callable}
use Rattle.jh_semantics.specs.typed_code.Statements.{method_in as code_in}
use Rattle.jh_outline.specs.jh_method_commands.environment.Outlines.{IsCallable, callee_of, method_of, program_in, source_of, writes_in}
use Rattle.jh_outline.proofs.of_jh_method_commands.environment.OutlineSteps.{program-method}
use Rattle.jh_outline.proofs.of_jh_logic.source.Declared.{method-some}
use Rattle.std.proofs.lemmas.Option.{same_Some}
use Rattle.jh_outline.proofs.of_jh_logic.source.Lists.{at-has, no-none}
use Rattle.jh_outline.specs.outline.Drafts.{Outlines}
use Rattle.jh_boxed_commands.specs.declared.commands.command.MethodCommand.{MethodCommand}
use Rattle.jh_boxed_commands.specs.methods.Methods.{IsCommandOf, IsMethodCommand, callee_at, callee_with}

module _ (p : ProgramTree) (id : MethodId) where
  abbrev named : ClassPart → Option Callee
  named c = option_map (λ (m : MethodPart). callee_with id (text_of m.name)) (slice_get c.methods id.method)

  -- a method by its numbers is one of the program
  in-class : (c : ClassPart) (callee : Callee) (q : Option MethodPart) → slice_get p.classes id.class ≡ Some c → slice_get c.methods id.method ≡ q → option_map (λ (m : MethodPart). callee_with id (text_of m.name)) q ≡ Some callee → (program_of p).method callee ≡ None → ⊥
  in-class c callee None at is e none = no-none callee e
  in-class c callee (Some m) at is e none =
      let some = method-some (text_of m.name) c.methods m (at-has c.methods id.method m is) refl in
      let same : callee_with id (text_of m.name) ≡ callee = same_Some (callee_with id (text_of m.name)) callee e in
      let part : part_of p (callee_with id (text_of m.name)) ≡ Some some.0 = ap (λ o. o then λ (k : ClassPart). method_in (text_of m.name) k.methods) at ∙ some.1 in
      no-none (method_code p id.class some.0) (sym none ∙ ap (program_of p).method (sym same) ∙ ap (option_map (method_code p id.class)) part)

  in-classes : (o : Option ClassPart) (callee : Callee) → slice_get p.classes id.class ≡ o → (o then named) ≡ Some callee → (program_of p).method callee ≡ None → ⊥
  in-classes None callee at e none = no-none callee e
  in-classes (Some c) callee at e none = in-class c callee (slice_get c.methods id.method) at refl e none

  pub is-there : (callee : Callee) → callee_at p id ≡ Some callee → (program_of p).method callee ≡ None → ⊥
  is-there callee e none = in-classes (slice_get p.classes id.class) callee refl e none

  -- what is made over an outline of the source is made of the source
  pub of-source : (l : Listing) (o : Outline) (callee : Callee) (made : MethodCommand) → Outlines p l o → callee_at p id ≡ Some callee →
      (code : Method) × ((program_in o).method callee ≡ Some code) × IsCommandOf (program_in o) (writes_in o) callee code made → IsMethodCommand p id made
  of-source l o callee made is e h = record {
    callee = callee;
    named = e;
    code = h.0;
    there = subst (λ (q : Program). q.method callee ≡ Some h.0) is.program h.1;
    writes = writes_in o;
    exact = is.exact;
    is = subst (λ (q : Program). IsCommandOf q (writes_in o) callee h.0 made) is.program h.2;
  }

-- a method of an outline, by its class and its name
pub callable-there : (o : Outline) (x : Callable) (callee : Callee) (made : MethodCommand) → callee_of x ≡ callee → IsCallable o x →
    IsCommandOf (program_in o) (writes_in o) (callee_of x) (code_in (source_of o) x.code.now) made →
    (code : Method) × ((program_in o).method callee ≡ Some code) × IsCommandOf (program_in o) (writes_in o) callee code made
callable-there o x callee made same is h = (
  code_in (source_of o) x.code.now,
  ap (program_in o).method (sym same) ∙ program-method o (callee_of x) ∙ ap (option_map (code_in (source_of o))) is.code,
  subst (λ (m : Callee). IsCommandOf (program_in o) (writes_in o) m (code_in (source_of o) x.code.now) made) same h,
)

-- where there is none, the program has none
pub none-there : (o : Outline) (callee : Callee) → method_of o callee ≡ None → (program_in o).method callee ≡ None
none-there o callee e = program-method o callee ∙ ap (option_map (code_in (source_of o))) e
