-- What the members of a class are in its table.
use Rattle.std.specs.Prelude.{ℕ, ◌≡◌, ◌+◌, ◌++◌, not, Bool, true, false, List, [], ◌∷◌, map, Option, Some, None, is_some, option_map, if◌then◌else◌}
use Rattle.std.specs.List.{flat_map}
use Rattle.jh_name.specs.declared.place.Place.{Place}
use Rattle.jh_ast.specs.declared.word.Param.{Param}
use Rattle.jh_ast.specs.declared.program.Class.{Class}
use Rattle.jh_ast.specs.Bare.{field_part, method_part, var_part}
use Rattle.jh_ast.specs.Programs.{ClassPart, FieldPart, VarPart, DefPart, MethodPart}
use Rattle.jh_rules.specs.declared.types.Ty.{Ty}
use Rattle.jh_rules.specs.Kinds.{kind_of}
use Rattle.jh_rules.specs.Words.{same_text, text_of, is_before}
use Rattle.jh_rules.specs.Names.{MemberPart, label_of, type_of, def_in, first_named, members_of}
use Rattle.jh_rules.specs.Names as n
use Rattle.jh_symbols.specs.declared.scopes.looking.Member.{Member}
use Rattle.jh_symbols.specs.declared.scopes.looking.Members.{Members}
use Rattle.jh_symbols.specs.declared.scopes.looking.MemberEntry.TheVariants as entry
use Rattle.indexmap.specs.IndexMap.{get_by_text}

abbrev pub field_member : (List ℕ → Option ℕ) → ℕ → FieldPart → Member
field_member numbers c x = record {
  place = x.name.place;
  entry = entry.Field (record { fixed = x.fixed; ty = type_of numbers x.jtype }) (record {
    class = c;
    kind = option_map kind_of (type_of numbers x.jtype);
    fixed = x.fixed;
    is_variable = false;
    is_ghost = false;
    is_defined = false;
  });
}

abbrev pub param_types : (List ℕ → Option ℕ) → List Param → List (Option Ty)
param_types numbers ds = map (λ (d : Param). type_of numbers d.jtype) ds

abbrev pub method_member : (List ℕ → Option ℕ) → MethodPart → Member
method_member numbers m = record {
  place = m.name.place;
  entry = entry.Method (record { fixed = m.fixed; result = type_of numbers m.result; params = param_types numbers m.params });
}

abbrev pub var_member : ℕ → Bool → VarPart → Member
var_member c is_defined v = record {
  place = v.name.place;
  entry = entry.Variable (record {
    class = c;
    kind = Some v.kind;
    fixed = v.fixed;
    is_variable = true;
    is_ghost = v.is_ghost;
    is_defined = is_defined;
  });
}

abbrev pub entry_of : (List ℕ → Option ℕ) → ℕ → List DefPart → MemberPart → Member
entry_of numbers c defs (n.field x) = field_member numbers c x
entry_of numbers c defs (n.method m) = method_member numbers m
entry_of numbers c defs (n.var v) = var_member c (is_some (def_in (text_of v.name) defs)) v

-- of two members of a name the first in the text
abbrev pub kept : Option Member → Member → Member
kept None m = m
kept (Some n) m = if is_before n.place m.place then n else m

abbrev pub is_first : Option Member → Place → Bool
is_first None p = true
is_first (Some n) p = not (is_before n.place p)

-- one member more of a name
abbrev pub Puts : (List ℕ → Option Member) → (List ℕ → Option Member) → List ℕ → Member → Type 0
Puts old new w m = (x : List ℕ) → new x ≡ (if same_text w x then Some (kept (old w) m) else old x)

-- what a table says of each name is the first member of that name
abbrev pub Holds : (MemberPart → Member) → (List ℕ → Option Member) → List MemberPart → Type 0
Holds E look ms = (x : List ℕ) → look x ≡ option_map E (first_named x ms)

-- each table holds the members of its class
abbrev pub AreTables : (List ℕ → Option ℕ) → ℕ → List Members → List ClassPart → Type 0
AreTables numbers k [] [] = Unit {0}
AreTables numbers k [] (c ∷ cs) = ⊥
AreTables numbers k (t ∷ ts) [] = ⊥
AreTables numbers k (t ∷ ts) (c ∷ cs) = Holds (entry_of numbers k c.defs) (λ x. get_by_text t.names x) (members_of c) × AreTables numbers (k + 1) ts cs

-- whether a definition is there
abbrev pub marked : Option DefPart → Option Bool
marked o = option_map (λ d. true) o

-- the members of a class
abbrev pub members : Class → List MemberPart
members c = map n.field (map field_part c.fields) ++ map n.method (map method_part c.methods) ++ map n.var (map var_part c.vars)

-- the names of the invariants of a class
abbrev pub class_labels : ClassPart → List (List ℕ)
class_labels c = flat_map label_of c.invariants
