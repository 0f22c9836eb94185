-- What the members of a program are.
use Rattle.std.proofs.Common.{◌≡◌, refl, sym, ap, ◌∙◌, ℕ, zero, suc, not, if◌then◌else◌, false, List, [], ◌∷◌, map, slice_get, Option, None}
use Rattle.std.specs.Option.{option_map_or}
use Rattle.jh_name.specs.declared.place.Sort.TheVariants as sort
use Rattle.jh_form.specs.Sorts.{same_sort}
use Rattle.jh_ast.specs.Programs.{ProgramTree, ClassPart}
use Rattle.jh_rules.specs.declared.entries.FieldEntry.{FieldEntry}
use Rattle.jh_rules.specs.Words.{text_of}
use Rattle.jh_rules.specs.Names.{declared_in, own_name}
use Rattle.jh_vars.specs.States.{class_text}
use Rattle.jh_vars.specs.declared.state_names.state.StateName.{StateName}
use Rattle.jh_semantics.specs.Program.{class_at}
use Rattle.jh_semantics.specs.LoweredProgram as lowered
use Rattle.jh_state_facts.specs.declared.well_formedness.state.Member.{Member}
use Rattle.jh_state_facts.specs.well_formedness.States.{member_in}

class-at : (cs : List ClassPart) (n : ℕ) → class_at (map (λ (c : ClassPart). text_of c.name) cs) n ≡ option_map_or (λ (c : ClassPart). text_of c.name) (slice_get cs n) []
class-at [] n = refl
class-at (c ∷ cs) zero = refl
class-at (c ∷ cs) (suc n) = class-at cs n

module _ (p : ProgramTree) where
  -- the text of the class of a number
  pub class-is : (n : ℕ) → class_at (lowered.program_of p).classes n ≡ class_text p n
  class-is n = class-at p.classes n

  pub type-is : (x : StateName) (n : ℕ) (o : Option FieldEntry) → x.is_ghost ≡ false → (declared_in p).field_of n (own_name x.name.text) ≡ o → option_map_or (λ (f : FieldEntry). f.ty) o None ≡ lowered.member_type p x n
  type-is x n o h e = ap (λ o. option_map_or (λ (f : FieldEntry). f.ty) o None) (sym e) ∙ ap (λ b. if b then None else option_map_or (λ (f : FieldEntry). f.ty) ((declared_in p).field_of n (own_name x.name.text)) None) (sym h)

  pub member-is : (x : Member) (s : StateName) (n : ℕ) → x.text ≡ s.name.text → x.class ≡ n → x.kind ≡ s.kind → x.is_static ≡ not (same_sort s.sort sort.Field) → x.ty ≡ lowered.member_type p s n → member_in (lowered.program_of p).classes x ≡ lowered.member_in p s n
  member-is x s n text class kind static type = λ i. record { text = text i; class = (ap (class_at (lowered.program_of p).classes) class ∙ class-is n) i; kind = kind i; is_static = static i; type = type i }
