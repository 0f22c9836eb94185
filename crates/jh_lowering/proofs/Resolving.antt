-- What names are in code, where what is looked up is what the program declares.
use Rattle.std.proofs.Common.{◌≡◌, refl, sym, ap, ◌∙◌, ℕ, zero, suc, List, [], ◌∷◌, map, slice_get, true, Option}
use Rattle.std.specs.Option.{option_map_or}
use Rattle.jh_name.specs.declared.place.Kind.TheVariants as k
use Rattle.jh_ast.specs.declared.program.Class.{Class}
use Rattle.jh_ast.specs.declared.program.Program.{Program}
use Rattle.jh_ast.specs.declared.word.Word.{Word}
use Rattle.jh_ast.specs.Bare.{class_part, program_tree}
use Rattle.jh_ast.specs.Programs.{ProgramTree, ClassPart}
use Rattle.jh_rules.specs.declared.entries.FieldEntry.{FieldEntry}
use Rattle.jh_rules.specs.declared.entries.LocalEntry.{LocalEntry}
use Rattle.jh_rules.specs.declared.entries.MethodEntry.{MethodEntry}
use Rattle.jh_rules.specs.Words.{text_of}
use Rattle.jh_rules.specs.Names.{declared_in}
use Rattle.jh_rules.specs.Scopes.{Scope}
use Rattle.jh_symbols.specs.scopes.Lookings.{declared_by}
use Rattle.jh_vars.specs.States.{class_text}
use Rattle.jh_vars.specs.Written.{Callee}
use Rattle.jh_semantics.specs.Code as c
use Rattle.jh_semantics.specs.Lowered.{field_kind, member_kind, own_code, word_code, name_code}
use Rattle.jh_semantics.specs.LoweredStmts.{own_target, word_target, calls_static}
use Rattle.jh_vars.specs.Resolved.{kind_of_local}
use Rattle.jh_lowering.specs.declared.context.Context.{Context}
use Rattle.jh_lowering.specs.Lowering.{source_of, spelled, IsDeclared}

spelled-class : (cs : List Class) (n : ℕ) → option_map_or (λ (c : ClassPart). text_of c.name) (slice_get (map class_part cs) n) [] ≡ spelled cs n
unfolding class_part
spelled-class [] n = refl
spelled-class (c ∷ cs) zero = refl
spelled-class (c ∷ cs) (suc n) = spelled-class cs n

-- the text of the class of a number, over the program as it is and as its tree
pub class_spelled : (p : Program) (n : ℕ) → spelled p.classes n ≡ class_text (program_tree p) n
unfolding program_tree
class_spelled p n = sym (spelled-class p.classes n)

module _ (context : Context) (is : IsDeclared context) where
  -- what was found of a field is so in the program
  pub field-is : (n : ℕ) (x : List ℕ) (o : Option FieldEntry) → o ≡ (declared_by context.lookups.now).field_of n x → (declared_in (source_of context)).field_of n x ≡ o
  field-is n x o e = ap (λ l. l.field_of n x) (sym is) ∙ sym e

  pub method-is : (n : ℕ) (x : List ℕ) (o : Option MethodEntry) → o ≡ (declared_by context.lookups.now).method_of n x → (declared_in (source_of context)).method_of n x ≡ o
  method-is n x o e = ap (λ l. l.method_of n x) (sym is) ∙ sym e

module _ (p : ProgramTree) where
  pub kind-of-member : (n : ℕ) (x : List ℕ) (o : Option FieldEntry) → (declared_in p).field_of n x ≡ o → option_map_or field_kind o k.Obj ≡ member_kind p n x
  kind-of-member n x o e = ap (λ o. option_map_or field_kind o k.Obj) (sym e)

  pub word-is : (at : Scope) (w : Word) (l : Option LocalEntry) (o : Option FieldEntry) → at.local (text_of w) ≡ l → (declared_in p).field_of at.class (text_of w) ≡ o →
      option_map_or (λ (x : LocalEntry). name_code (kind_of_local x) (text_of w)) l (option_map_or (own_code p at w) o (c.an_object c.null)) ≡ word_code p at w
  word-is at w l o e f = λ i. option_map_or (λ (x : LocalEntry). name_code (kind_of_local x) (text_of w)) (sym e i) (option_map_or (own_code p at w) (sym f i) (c.an_object c.null))

  pub target-is : (at : Scope) (w : Word) (l : Option LocalEntry) (o : Option FieldEntry) → at.local (text_of w) ≡ l → (declared_in p).field_of at.class (text_of w) ≡ o →
      option_map_or (λ (x : LocalEntry). c.to_name (text_of w)) l (option_map_or (own_target p at w) o c.nowhere) ≡ word_target p at w
  target-is at w l o e f = λ i. option_map_or (λ (x : LocalEntry). c.to_name (text_of w)) (sym e i) (option_map_or (own_target p at w) (sym f i) c.nowhere)

  pub static-is : (m : Callee) (o : Option MethodEntry) → (declared_in p).method_of m.class m.name ≡ o → option_map_or (λ (x : MethodEntry). x.fixed) o true ≡ calls_static p m
  static-is m o e = ap (λ o. option_map_or (λ (x : MethodEntry). x.fixed) o true) (sym e)
