-- Which names are in scope at a place.
use Rattle.std.specs.Prelude.{ℕ, ◌+◌, ◌&&◌, ◌||◌, Bool, true, false, List, [], ◌∷◌, ◌++◌, Option, Some, None, if◌then◌else◌}
use Rattle.std.specs.List.{flat_map}
use Rattle.jh_ast.specs.jh_name.declared.place.Kind.{Kind}
use Rattle.jh_ast.specs.jh_name.declared.place.Kind.TheVariants as k
use Rattle.jh_ast.specs.declared.word.Param.{Param}
use Rattle.jh_ast.specs.Forms.{LabelledPart}
use Rattle.jh_ast.specs.Stmts.{StmtTree, StmtTrees}
use Rattle.jh_ast.specs.Stmts as s
use Rattle.jh_rules.specs.declared.entries.LocalEntry.{LocalEntry}
use Rattle.jh_rules.specs.declared.entries.Sorts.{Sorts}
use Rattle.jh_rules.specs.Words.{same_text, is_one_of, text_of}
use Rattle.jh_rules.specs.Names.{Declared, type_of, kind_of_word, label_of}

-- Where code stands: the class, whether the method is static, what each name stands for as a parameter or
-- local in scope, the sorts of the declarations of each name and the labels before it in the text of the method.
pub record Scope : Type 0 where
  pub class : ℕ
  pub fixed : Bool
  pub local : List ℕ → Option LocalEntry
  pub earlier : List ℕ → Sorts
  pub labels : List ℕ → Bool

unfoldable mutual
  -- the declarations in a statement, in the order of the text
  pub declared : StmtTree → List Param
  declared (s.block p ss) = all_declared ss
  declared (s.local p d r) = d ∷ []
  declared (s.branch p c a b) = declared a ++ all_declared b
  declared (s.loop p is c a) = declared a
  declared _ = []

  pub all_declared : StmtTrees → List Param
  all_declared s.none = []
  all_declared (s.more a ss) = declared a ++ all_declared ss

unfoldable mutual
  -- the labels of the loop invariants and notes in a statement
  pub labels_in : StmtTree → List (List ℕ)
  labels_in (s.block p ss) = all_labels_in ss
  labels_in (s.branch p c a b) = labels_in a ++ all_labels_in b
  labels_in (s.loop p is c a) = flat_map label_of is ++ labels_in a
  labels_in (s.note p l) = label_of l
  labels_in _ = []

  pub all_labels_in : StmtTrees → List (List ℕ)
  all_labels_in s.none = []
  all_labels_in (s.more a ss) = labels_in a ++ all_labels_in ss

-- with a declaration of that kind
abbrev pub with_sort : Kind → Sorts → Sorts
with_sort k.Int s = record { objects = s.objects; numbers = true; truths = s.truths }
with_sort k.Bool s = record { objects = s.objects; numbers = s.numbers; truths = true }
with_sort _ s = record { objects = true; numbers = s.numbers; truths = s.truths }

abbrev pub no_sorts : Sorts
no_sorts = record { objects = false; numbers = false; truths = false }

-- whether there is a declaration of another kind
abbrev pub has_other_sort : Kind → Sorts → Bool
has_other_sort k.Int s = s.objects || s.truths
has_other_sort k.Bool s = s.objects || s.numbers
has_other_sort _ s = s.numbers || s.truths

abbrev pub with_declared : (List ℕ → Sorts) → Param → List ℕ → Sorts
with_declared f d x = if same_text (text_of d.name) x then with_sort (kind_of_word d.jtype) (f x) else f x

unfoldable pub with_all_declared : (List ℕ → Sorts) → List Param → List ℕ → Sorts
with_all_declared f [] = f
with_all_declared f (d ∷ ds) = with_all_declared (with_declared f d) ds

abbrev pub with_labels : (List ℕ → Bool) → List (List ℕ) → List ℕ → Bool
with_labels f labels x = f x || is_one_of x labels

-- Behind a statement, or behind its first part, the text before has grown; what it declared inside is no
-- longer in scope.
abbrev pub text_behind : Scope → StmtTree → Scope
text_behind at a = record {
  class = at.class;
  fixed = at.fixed;
  local = at.local;
  earlier = with_all_declared at.earlier (declared a);
  labels = with_labels at.labels (labels_in a);
}

module _ (l : Declared) where
  abbrev pub local_of : Bool → Param → LocalEntry
  local_of is_param d = record { ty = type_of l.class_named d.jtype; is_param = is_param }

  abbrev pub declare : Bool → Scope → Param → Scope
  declare is_param at d = record {
    class = at.class;
    fixed = at.fixed;
    local = λ x. if same_text (text_of d.name) x then Some (local_of is_param d) else at.local x;
    earlier = with_declared at.earlier d;
    labels = at.labels;
  }

  -- the scope of the statement behind one
  abbrev pub behind : Scope → StmtTree → Scope
  behind at (s.local p d r) = declare false at d
  behind at a = text_behind at a

  unfoldable pub declare_all : Scope → List Param → Scope
  declare_all at [] = at
  declare_all at (d ∷ ds) = declare_all (declare true at d) ds

-- the scope of a loop's body
abbrev pub in_loop : Scope → List LabelledPart → Scope
in_loop at is = record {
  class = at.class;
  fixed = at.fixed;
  local = at.local;
  earlier = at.earlier;
  labels = with_labels at.labels (flat_map label_of is);
}

-- the scope of a method's first parameter
abbrev pub outermost : ℕ → Bool → Scope
outermost c fixed = record {
  class = c;
  fixed = fixed;
  local = λ x. None;
  earlier = λ x. no_sorts;
  labels = λ x. false;
}

unfoldable mutual
  -- the statements of a statement, blocks and parts included
  pub count : StmtTree → ℕ
  count (s.block p ss) = 1 + all_counted ss
  count (s.branch p c a b) = 1 + count a + all_counted b
  count (s.loop p is c a) = 1 + count a
  count _ = 1

  pub all_counted : StmtTrees → ℕ
  all_counted s.none = 0
  all_counted (s.more a ss) = count a + all_counted ss

unfoldable mutual
  -- whether a statement always returns
  pub is_closed : StmtTree → Bool
  is_closed (s.block p ss) = ends_closed ss
  is_closed (s.branch p c a b) = is_closed a && is_closed_part b
  is_closed (s.return p r) = true
  is_closed _ = false

  -- whether the last of a list is closed
  pub ends_closed : StmtTrees → Bool
  ends_closed s.none = false
  ends_closed (s.more a s.none) = is_closed a
  ends_closed (s.more a (s.more b ss)) = ends_closed (s.more b ss)

  -- whether there is a second part and it is closed
  pub is_closed_part : StmtTrees → Bool
  is_closed_part s.none = false
  is_closed_part (s.more a ss) = is_closed a
