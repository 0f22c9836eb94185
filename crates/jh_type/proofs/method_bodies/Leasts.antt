-- Least faults of lists in parts, and what texts are.
use Rattle.std.proofs.Common.{true, ◌≡◌, refl, sym, ap, ◌∙◌, ℕ, ◌+◌, ◌<◌, ◌≤◌, length, get_or, drop, map, List, [], ◌∷◌, ◌++◌, Option}
use Rattle.std.specs.List.{flat_map}
use Rattle.std.proofs.lemmas.List.{drop_all, append_assoc}
use Rattle.jh_ast.specs.declared.word.Param.{Param}
use Rattle.jh_ast.specs.declared.stmt.Stmt.{Stmt}
use Rattle.jh_ast.specs.Bare.{stmt_tree, stmt_trees}
use Rattle.jh_name.specs.declared.place.Place.{Place}
use Rattle.jh_ast.specs.Exprs.{ExprTree}
use Rattle.jh_ast.specs.Forms.{LabelledPart}
use Rattle.jh_ast.specs.Stmts.{StmtTree}
use Rattle.jh_ast.specs.Stmts as s
use Rattle.jh_type.specs.method_bodies.Parts.{loop_head}
use Rattle.jh_ast.specs.Programs.{MethodPart}
use Rattle.jh_rules.specs.Names.{Declared}
use Rattle.jh_rules.specs.Scopes.{Scope, in_loop, behind, declare, declare_all}
use Rattle.jh_rules.specs.Statements.{declared_faults, param_faults, stmt_faults, all_faults}
use Rattle.jh_symbols.specs.declared.scopes.scope.Undo.{Undo}
use Rattle.jh_symbols.proofs.scopes.Lists.{drop-at}
use Rattle.jh_type.specs.method_bodies.Scoping.{after_all, undos_in, undos_of}
use Rattle.jh_rules.specs.declared.fault.Fault.{Fault}
use Rattle.jh_rules.specs.declared.found.Found.{Found}
use Rattle.jh_rules.specs.Faults.{Judged}
use Rattle.jh_rules.specs.Found.{Finds, least, lesser}
use Rattle.jh_rules.proofs.Judgements.{least-append, lesser-assoc, lesser-none}

-- a list in two parts
pub least-two : (xs ys : List Fault) (a b o : Option Fault) → a ≡ least xs → b ≡ least ys → o ≡ lesser a b → o ≡ least (xs ++ ys)
least-two xs ys a b o e f g = g ∙ (λ i. lesser (e i) (f i)) ∙ sym (least-append xs ys)

pub least-of : {T : Type 0} (j : Judged T) (u : Found T) → Finds u j → u.least ≡ least j.faults
least-of j u h = h.least_is

pub append-none : {A : Type 0} (xs : List A) → xs ++ [] ≡ xs
append-none [] = refl
append-none (x ∷ xs) = ap (λ ys. x ∷ ys) (append-none xs)

pub flat-mapped : {A B C : Type 0} (f : B → List C) (t : A → B) (xs : List A) → flat_map f (map t xs) ≡ flat_map (λ a. f (t a)) xs
flat-mapped f t [] = refl
flat-mapped f t (x ∷ xs) = ap (λ ys. f (t x) ++ ys) (flat-mapped f t xs)

-- one more of a list, of which the rest stands in a new scope
gathered : (xs ys : List Fault) (found new f : Option Fault) → f ≡ least xs → new ≡ lesser found f → lesser new (least ys) ≡ lesser found (least (xs ++ ys))
gathered xs ys found new f e n = ap (λ a. lesser a (least ys)) (n ∙ ap (lesser found) e) ∙ lesser-assoc found (least xs) (least ys) ∙ ap (lesser found) (sym (least-append xs ys))

ungathered : (found : Option Fault) → lesser found (least []) ≡ found
unfolding least
ungathered found = lesser-none found

module _ (l : Declared) where
  pub params-next : (at to : Scope) (ds : List Param) (i : ℕ) (d : Param) (found new f : Option Fault) → i < length ds → d ≡ get_or ds i d → f ≡ least (declared_faults l at d) → new ≡ lesser found f → to ≡ declare l true at d → lesser new (least (param_faults l to (drop (i + 1) ds))) ≡ lesser found (least (param_faults l at (drop i ds)))
  unfolding param_faults
  params-next at to ds i d found new f lt is e n h =
      ap (λ t. lesser new (least (param_faults l t (drop (i + 1) ds)))) h
      ∙ gathered (declared_faults l at d) (param_faults l (declare l true at d) (drop (i + 1) ds)) found new f e n
      ∙ ap (λ ys. lesser found (least (param_faults l at ys))) (sym (drop-at ds i d lt is))

  pub params-end : (at : Scope) (ds : List Param) (i : ℕ) (found : Option Fault) → length ds ≤ i → lesser found (least (param_faults l at (drop i ds))) ≡ found
  unfolding param_faults
  params-end at ds i found le = ap (λ ys. lesser found (least (param_faults l at ys))) (drop_all i ds le) ∙ ungathered found

  pub declares-next : (at to : Scope) (ds : List Param) (i : ℕ) (d : Param) → i < length ds → d ≡ get_or ds i d → to ≡ declare l true at d → declare_all l to (drop (i + 1) ds) ≡ declare_all l at (drop i ds)
  unfolding declare_all
  declares-next at to ds i d lt is h = ap (λ t. declare_all l t (drop (i + 1) ds)) h ∙ ap (declare_all l at) (sym (drop-at ds i d lt is))

  pub declares-end : (at : Scope) (ds : List Param) (i : ℕ) → length ds ≤ i → declare_all l at (drop i ds) ≡ at
  unfolding declare_all
  declares-end at ds i le = ap (declare_all l at) (drop_all i ds le)

  module _ (m : MethodPart) where
    pub stmts-next : (at to : Scope) (ss : List Stmt) (i : ℕ) (a : Stmt) (found new f : Option Fault) → i < length ss → a ≡ get_or ss i a → f ≡ least (stmt_faults l m (stmt_tree a) at) → new ≡ lesser found f → to ≡ behind l at (stmt_tree a) → lesser new (least (all_faults l m (stmt_trees (drop (i + 1) ss)) to)) ≡ lesser found (least (all_faults l m (stmt_trees (drop i ss)) at))
    unfolding all_faults
    stmts-next at to ss i a found new f lt is e n h =
        ap (λ t. lesser new (least (all_faults l m (stmt_trees (drop (i + 1) ss)) t))) h
        ∙ gathered (stmt_faults l m (stmt_tree a) at) (all_faults l m (stmt_trees (drop (i + 1) ss)) (behind l at (stmt_tree a))) found new f e n
        ∙ ap (λ ys. lesser found (least (all_faults l m (stmt_trees ys) at))) (sym (drop-at ss i a lt is))

    pub stmts-end : (at : Scope) (ss : List Stmt) (i : ℕ) (found : Option Fault) → length ss ≤ i → lesser found (least (all_faults l m (stmt_trees (drop i ss)) at)) ≡ found
    unfolding all_faults
    stmts-end at ss i found le = ap (λ ys. lesser found (least (all_faults l m (stmt_trees ys) at))) (drop_all i ss le) ∙ ungathered found

  pub after-next : (at to : Scope) (ss : List Stmt) (i : ℕ) (a : Stmt) → i < length ss → a ≡ get_or ss i a → to ≡ behind l at (stmt_tree a) → after_all l to (stmt_trees (drop (i + 1) ss)) ≡ after_all l at (stmt_trees (drop i ss))
  unfolding after_all
  after-next at to ss i a lt is h = ap (λ t. after_all l t (stmt_trees (drop (i + 1) ss))) h ∙ ap (λ ys. after_all l at (stmt_trees ys)) (sym (drop-at ss i a lt is))

  pub after-end : (at : Scope) (ss : List Stmt) (i : ℕ) → length ss ≤ i → after_all l at (stmt_trees (drop i ss)) ≡ at
  unfolding after_all
  after-end at ss i le = ap (λ ys. after_all l at (stmt_trees ys)) (drop_all i ss le)

  pub undos-next : (at to : Scope) (ss : List Stmt) (i : ℕ) (a : Stmt) (us vs : List Undo) → i < length ss → a ≡ get_or ss i a → to ≡ behind l at (stmt_tree a) → vs ≡ us ++ undos_in at (stmt_tree a) → vs ++ undos_of l to (stmt_trees (drop (i + 1) ss)) ≡ us ++ undos_of l at (stmt_trees (drop i ss))
  unfolding undos_of
  undos-next at to ss i a us vs lt is h e =
      (λ j. e j ++ undos_of l (h j) (stmt_trees (drop (i + 1) ss))) ∙ append_assoc us (undos_in at (stmt_tree a)) (undos_of l (behind l at (stmt_tree a)) (stmt_trees (drop (i + 1) ss)))
      ∙ ap (λ ys. us ++ undos_of l at (stmt_trees ys)) (sym (drop-at ss i a lt is))

  pub undos-end : (at : Scope) (ss : List Stmt) (i : ℕ) (us : List Undo) → length ss ≤ i → us ++ undos_of l at (stmt_trees (drop i ss)) ≡ us
  unfolding undos_of
  undos-end at ss i us le = ap (λ ys. us ++ undos_of l at (stmt_trees ys)) (drop_all i ss le) ∙ append-none us

pub loop-faults : (l : Declared) (m : MethodPart) (at : Scope) (q : Place) (is : List LabelledPart) (c : ExprTree) (a : StmtTree) → stmt_faults l m (s.loop q is c a) at ≡ loop_head l at is c ++ stmt_faults l m a (in_loop at is)
unfolding stmt_faults
loop-faults l m at q is c a = refl

pub ruleset least_steps = (least-two, least-of)
