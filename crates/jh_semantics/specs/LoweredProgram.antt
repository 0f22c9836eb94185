-- The program that a source is, for runs.
use Rattle.std.specs.Prelude.{◌≡◌, ℕ, not, if◌then◌else◌, List, [], ◌∷◌, map, Option, Some, None, option_map}
use Rattle.std.specs.List.{flat_map}
use Rattle.std.specs.Option.{option_map_or}
use Rattle.jh_name.specs.declared.place.Sort.{Sort}
use Rattle.jh_ast.specs.Programs.{ProgramTree, ClassPart, MethodPart}
use Rattle.jh_form.specs.Sorts.{same_sort}
use Rattle.jh_rules.specs.declared.types.Ty.{Ty}
use Rattle.jh_rules.specs.declared.entries.FieldEntry.{FieldEntry}
use Rattle.jh_rules.specs.Words.{text_of}
use Rattle.jh_rules.specs.Names.{declared_in, own_name}
use Rattle.jh_vars.specs.States.{class_text}
use Rattle.jh_vars.specs.Written.{Written, Callee, part_of, Names, named_by, written_name}
use Rattle.jh_vars.specs.Statements.{entry_scope}
use Rattle.jh_vars.specs.declared.state_names.state.StateName.{StateName}
use Rattle.jh_vars.specs.state_names.States.{state_list}
use Rattle.jh_semantics.specs.Code.{Text, Claim}
use Rattle.jh_semantics.specs.Program.{Program, Method, Member}
use Rattle.jh_semantics.specs.State.{named}
use Rattle.jh_semantics.specs.Sound.{Sound}
use Rattle.jh_semantics.specs.LoweredStmts.{word_type, local_code, claim_of, labelled_claim, stmts_code}

module _ (p : ProgramTree) where
  -- the type of a static or field; a ghost variable has none
  abbrev pub member_type : StateName → ℕ → Option Ty
  member_type x n = if x.is_ghost then None else option_map_or (λ (f : FieldEntry). f.ty) ((declared_in p).field_of n (own_name x.name.text)) None

  abbrev pub member_in : StateName → ℕ → Member
  member_in x n = record { text = x.name.text; class = class_text p n; kind = x.kind; is_static = not (same_sort x.sort Sort.Field); type = member_type x n }

  -- of the state names those of members
  abbrev pub member_from : StateName → List Member
  member_from x = if x.is_member then option_map_or (λ n. member_in x n ∷ []) x.class [] else []

  abbrev pub method_code : ℕ → MethodPart → Method
  method_code n m = record {
    place = m.name.place;
    is_public = m.is_public;
    this = if m.fixed then None else Some n;
    params = map (local_code p) m.params;
    result = word_type p m.result;
    requires = option_map (claim_of p) m.pre;
    ensures = option_map (claim_of p) m.post;
    body = stmts_code p m.body (entry_scope p n m);
  }

  abbrev pub class_claims : ClassPart → List Claim
  class_claims c = map (labelled_claim p) c.invariants

  abbrev pub program_of : Program
  program_of = record {
    classes = map (λ (c : ClassPart). text_of c.name) p.classes;
    members = flat_map member_from (state_list p);
    method = λ m. option_map (method_code m.class) (part_of p m);
    invariants = flat_map class_claims p.classes;
  }

  -- a name is one that a method's `modifies` names, itself or through definitions
  pub record IsNamedBy (n : ℕ) (m : MethodPart) (x : Text) : Type 0 where
    pub state : Written
    pub is_named : Names p (named_by p n m) state
    pub text : written_name p state ≡ named x

  abbrev pub NamedBySome : ℕ → Option MethodPart → Text → Type 0
  NamedBySome n None x = ⊥
  NamedBySome n (Some m) x = IsNamedBy n m x

  -- what the `modifies` of a method names
  abbrev pub ModifiesOf : Callee → Text → Type 0
  ModifiesOf m x = NamedBySome m.class (part_of p m) x

  -- a source is sound
  abbrev pub IsSound : Type 0
  IsSound = Sound program_of ModifiesOf
