-- The state names of a program, each with what it is.
use Rattle.std.specs.Prelude.{ℕ, ◌+◌, Bool, true, false, List, [], ◌∷◌, ◌++◌, map, Option, Some, None, codes, if◌then◌else◌}
use Rattle.jh_name.specs.declared.place.Kind.{Kind}
use Rattle.jh_name.specs.declared.place.Kind.TheVariants as k
use Rattle.jh_name.specs.declared.place.Sort.{Sort}
use Rattle.jh_name.specs.declared.place.Sort.TheVariants as sort
use Rattle.jh_ast.specs.Programs.{ProgramTree, ClassPart}
use Rattle.jh_rules.specs.Words.{text_of}
use Rattle.jh_vars.specs.Resolved.{own}
use Rattle.jh_vars.specs.Written.{Piece, pieces_of}
use Rattle.jh_vars.specs.declared.state_names.state.StateName.{StateName}

-- the sort of a value of a kind
abbrev pub sort_of : Kind → Sort
sort_of k.Obj = sort.Obj
sort_of k.Int = sort.Int
sort_of k.Bool = sort.Bool
sort_of k.Set = sort.Set

-- a static is a value, and what each object has is a field
abbrev pub member_sort : Kind → Bool → Sort
member_sort kind fixed = if fixed then sort_of kind else sort.Field

abbrev pub member_state : ℕ → List ℕ → Piece → StateName
member_state n class x = record {
  name = own (class ++ codes "." ++ text_of x.word) 0;
  sort = member_sort x.kind x.fixed;
  kind = x.kind;
  class = Some n;
  is_member = true;
  is_ghost = x.is_ghost;
}

abbrev pub set_state : List ℕ → Option ℕ → StateName
set_state text class = record { name = own text 0; sort = sort.Set; kind = k.Set; class = class; is_member = false; is_ghost = false }

abbrev pub class_states : ℕ → ClassPart → List StateName
class_states n c = map (member_state n (text_of c.name)) (pieces_of c)

-- the sets of the objects of the classes from number n on, and that of the plain objects
unfoldable pub class_sets : ℕ → List ClassPart → List StateName
class_sets n [] = set_state (codes "Object") None ∷ []
class_sets n (c ∷ cs) = set_state (text_of c.name) (Some n) ∷ class_sets (n + 1) cs

-- the members of the classes from number n on
unfoldable pub members : ℕ → List ClassPart → List StateName
members n [] = []
members n (c ∷ cs) = class_states n c ++ members (n + 1) cs

abbrev pub state_list : ProgramTree → List StateName
state_list p = set_state (codes "alloc") None ∷ class_sets 0 p.classes ++ members 0 p.classes
