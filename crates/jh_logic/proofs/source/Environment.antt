-- What the proofs about code need of what a program declares, and of the scope in which code stands. What is declared is shown in
-- `Members` and `Classes`.
use Rattle.std.proofs.Common.{◌≡◌, ℕ, true, false, ◌++◌, map, Some, None}
use Rattle.std.specs.List.{Contains}
use Rattle.jh_ast.specs.declared.word.Param.{Param}
use Rattle.jh_ast.specs.Programs.{ProgramTree, MethodPart}
use Rattle.jh_rules.specs.declared.types.Ty.{Ty}
use Rattle.jh_rules.specs.declared.entries.FieldEntry.{FieldEntry}
use Rattle.jh_rules.specs.declared.entries.LocalEntry.{LocalEntry}
use Rattle.jh_rules.specs.declared.entries.MethodEntry.{MethodEntry}
use Rattle.jh_rules.specs.Names.{declared_in, type_of, param_type}
use Rattle.jh_rules.specs.Scopes.{Scope}
use Rattle.jh_vars.specs.Written.{part_of}
use Rattle.jh_semantics.specs.Code.{Text, Local}
use Rattle.jh_semantics.specs.Program.{Member, class_at}
use Rattle.jh_semantics.specs.Lowered.{member_text}
use Rattle.jh_semantics.specs.LoweredProgram.{program_of}
use Rattle.jh_semantics.specs.Typed.{Surroundings, IsMember}

module _ (p : ProgramTree) where
  -- a field or static of the rules is a member of the program
  pub record FieldFits (n : ℕ) (x : Text) (entry : FieldEntry) : Type 0 where
    pub member : Member
    pub type : Ty
    pub has_type : entry.ty ≡ Some type
    pub stands : IsMember (program_of p) member entry.fixed type
    pub text : member.text ≡ member_text p n x
    pub class : member.class ≡ class_at (program_of p).classes n

  -- a class of the rules is one of the program
  pub record ClassFits (n : ℕ) (x : Text) : Type 0 where
    pub stands : Contains (program_of p).classes (class_at (program_of p).classes n)
    pub text : class_at (program_of p).classes n ≡ x

  -- a method of the rules is one of the program, and its types are known
  pub record MethodPartFits (n : ℕ) (x : Text) (entry : MethodEntry) : Type 0 where
    pub method : MethodPart
    pub is : part_of p (record { class = n; name = x }) ≡ Some method
    pub fixed : method.fixed ≡ entry.fixed
    pub result : Ty
    pub known : type_of (declared_in p).class_named method.result ≡ Some result
    pub entry_result : entry.result ≡ Some result
    pub params : entry.params ≡ map (param_type p) method.params
    pub params_known : (d : Param) → Contains method.params d → (t : Ty) × (param_type p d ≡ Some t)

  pub record Declares : Type 0 where
    pub fields : (n : ℕ) (x : Text) (entry : FieldEntry) → (declared_in p).field_of n x ≡ Some entry → FieldFits n x entry
    pub classes : (x : Text) (n : ℕ) → (declared_in p).class_named x ≡ Some n → ClassFits n x
    pub methods : (n : ℕ) (x : Text) (entry : MethodEntry) → (declared_in p).method_of n x ≡ Some entry → MethodPartFits n x entry

-- a parameter or local of the rules is one in scope
pub record LocalFits (s : Surroundings) (x : Text) (entry : LocalEntry) : Type 0 where
  pub local : Local
  pub stands : Contains (s.params ++ s.locals) local
  pub text : local.text ≡ x
  pub has_type : entry.ty ≡ Some local.type
  pub assigned : entry.is_param ≡ false → Contains s.locals local

-- The scope of the rules and that of code agree.
pub record Agrees (at : Scope) (s : Surroundings) : Type 0 where
  pub this : at.fixed ≡ false → s.this ≡ Some at.class
  pub no_this : at.fixed ≡ true → s.this ≡ None
  pub known : (x : Text) (entry : LocalEntry) → at.local x ≡ Some entry → LocalFits s x entry
  pub unknown : (x : Text) → at.local x ≡ None → (y : Local) → Contains (s.params ++ s.locals) y → y.text ≡ x → ⊥
