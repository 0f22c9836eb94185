-- Scopes along statements, and putting them back.
use Rattle.std.proofs.Common.{◌<◌, get_or, ◌≡◌, refl, sym, ap, ◌∙◌, ℕ, ◌≤◌, ◌||◌, ◌+◌, Bool, true, false, List, [], ◌∷◌, ◌++◌, map, length, take, drop, Option, Some, arith, if◌then◌else◌}
use Rattle.std.specs.Cmp.Lexicographic.{bytes_decides}
use Rattle.std.specs.List.{list_any, flat_map}
use Rattle.jh_name.specs.declared.place.Place.{Place}
use Rattle.jh_ast.specs.declared.word.Param.{Param}
use Rattle.jh_ast.specs.Exprs.{ExprTree}
use Rattle.jh_ast.specs.Forms.{SpecPart, LabelledPart}
use Rattle.jh_ast.specs.Stmts.{StmtTree, StmtTrees, RhsTree, CallTree}
use Rattle.jh_ast.specs.Stmts as s
use Rattle.jh_rules.specs.declared.entries.LocalEntry.{LocalEntry}
use Rattle.jh_rules.specs.declared.entries.Sorts.{Sorts}
use Rattle.jh_rules.specs.Words.{same_text, is_one_of, text_of}
use Rattle.jh_rules.specs.Names.{Declared, label_of}
use Rattle.jh_rules.specs.Scopes.{Scope, local_of, behind, text_behind, in_loop, with_declared, with_all_declared, with_labels, declared, all_declared, labels_in, all_labels_in}
use Rattle.jh_symbols.specs.declared.scopes.scope.Undo.{Undo}
use Rattle.jh_symbols.specs.scopes.Changing.{undone, with_local}
use Rattle.jh_symbols.proofs.scopes.Lists.{drop-at}
use Rattle.std.proofs.lemmas.List.{drop_all}
use Rattle.jh_ast.specs.declared.spec.Labelled.{Labelled}
use Rattle.jh_ast.specs.Bare.{labelled_part}
use Rattle.jh_type.specs.method_bodies.Scoping.{after_all, undos_in, undos_of, labelled, text_after}

or-false : (a : Bool) → a || false ≡ a
or-false true = refl
or-false false = refl

or-assoc : (a b c : Bool) → (a || b) || c ≡ a || (b || c)
or-assoc true b c = refl
or-assoc false b c = refl

append-none : {A : Type 0} (xs : List A) → xs ++ [] ≡ xs
append-none [] = refl
append-none (x ∷ xs) = ap (λ ys. x ∷ ys) (append-none xs)

any-append : {A : Type 0} (t : A → Bool) (xs ys : List A) → list_any t (xs ++ ys) ≡ list_any t xs || list_any t ys
any-append t [] ys = refl
any-append t (x ∷ xs) ys = ap (λ b. t x || b) (any-append t xs ys) ∙ sym (or-assoc (t x) (list_any t xs) (list_any t ys))

grown-labels : (f : List ℕ → Bool) (xs ys : List (List ℕ)) (x : List ℕ) → with_labels (with_labels f xs) ys x ≡ with_labels f (xs ++ ys) x
grown-labels f xs ys x = or-assoc (f x) (is_one_of x xs) (is_one_of x ys) ∙ ap (λ b. f x || b) (sym (any-append (same_text x) xs ys))

grown-sorts : (f : List ℕ → Sorts) (ds es : List Param) → with_all_declared (with_all_declared f ds) es ≡ with_all_declared f (ds ++ es)
unfolding with_all_declared
grown-sorts f [] es = refl
grown-sorts f (d ∷ ds) es = grown-sorts (with_declared f d) ds es

-- a text before that has grown by some declarations and labels
abbrev grown : Scope → List Param → List (List ℕ) → Scope
grown at ds labels = record {
  class = at.class;
  fixed = at.fixed;
  local = at.local;
  earlier = with_all_declared at.earlier ds;
  labels = with_labels at.labels labels;
}

grown-twice : (at : Scope) (ds es : List Param) (xs ys : List (List ℕ)) → grown (grown at ds xs) es ys ≡ grown at (ds ++ es) (xs ++ ys)
grown-twice at ds es xs ys = λ i. record {
  class = at.class;
  fixed = at.fixed;
  local = at.local;
  earlier = grown-sorts at.earlier ds es i;
  labels = λ x. grown-labels at.labels xs ys x i;
}

grown-none : (at : Scope) → grown at [] [] ≡ at
unfolding with_all_declared
grown-none at = λ i. record {
  class = at.class;
  fixed = at.fixed;
  local = at.local;
  earlier = at.earlier;
  labels = λ x. or-false (at.labels x) i;
}

module _ (l : Declared) (at : Scope) (p : Place) where
  pub behind-empty : behind l at (s.empty p) ≡ at
  unfolding declared labels_in
  behind-empty = grown-none at

  pub behind-assign : (a : ExprTree) (r : RhsTree) → behind l at (s.assign p a r) ≡ at
  unfolding declared labels_in
  behind-assign a r = grown-none at

  pub behind-call : (c : CallTree) → behind l at (s.call p c) ≡ at
  unfolding declared labels_in
  behind-call c = grown-none at

  pub behind-return : (r : Option ExprTree) → behind l at (s.return p r) ≡ at
  unfolding declared labels_in
  behind-return r = grown-none at

  pub behind-assert : (a : LabelledPart) → behind l at (s.assert p a) ≡ at
  unfolding declared labels_in
  behind-assert a = grown-none at

  pub behind-ghost : (a b : SpecPart) → behind l at (s.ghost p a b) ≡ at
  unfolding declared labels_in
  behind-ghost a b = grown-none at

  pub behind-note : (a : LabelledPart) → behind l at (s.note p a) ≡ labelled at (label_of a)
  unfolding declared labels_in with_all_declared
  behind-note a = refl

  pub behind-block : (ss : StmtTrees) → behind l at (s.block p ss) ≡ text_after at ss
  unfolding declared labels_in
  behind-block ss = refl

  pub behind-branch : (c : ExprTree) (a : StmtTree) (b : StmtTrees) → behind l at (s.branch p c a b) ≡ text_after (text_behind at a) b
  unfolding declared labels_in
  behind-branch c a b = sym (grown-twice at (declared a) (all_declared b) (labels_in a) (all_labels_in b))

  pub behind-loop : (is : List LabelledPart) (c : ExprTree) (a : StmtTree) → behind l at (s.loop p is c a) ≡ text_behind (in_loop at is) a
  unfolding declared labels_in with_all_declared
  behind-loop is c a = sym (grown-twice at [] (declared a) (flat_map label_of is) (labels_in a))

pub after-none : (at : Scope) → text_after at s.none ≡ at
unfolding declared labels_in
after-none at = grown-none at

pub after-one : (at : Scope) (a : StmtTree) → text_after at (s.more a s.none) ≡ text_behind at a
unfolding declared labels_in
after-one at a = λ i. grown at (append-none (declared a) i) (append-none (labels_in a) i)

-- what a name stood for stands again
again : (at : Scope) (d : Param) (e : LocalEntry) (x : List ℕ) (b : Bool) → same_text (text_of d.name) x ≡ b → (if b then at.local (text_of d.name) else (if b then Some e else at.local x)) ≡ at.local x
again at d e x true h = ap at.local ((bytes_decides (text_of d.name) x).0 h)
again at d e x false h = refl

module _ (l : Declared) where
  local-back : (at : Scope) (p : Place) (d : Param) (r : Option RhsTree) → undone (behind l at (s.local p d r)) (undos_in at (s.local p d r)) ≡ text_behind at (s.local p d r)
  unfolding undone declared labels_in with_all_declared
  local-back at p d r = λ i. record {
    class = at.class;
    fixed = at.fixed;
    local = λ x. again at d (local_of l false d) x (same_text (text_of d.name) x) refl i;
    earlier = with_declared at.earlier d;
    labels = λ x. sym (or-false (at.labels x)) i;
  }

  pub part-back : (at : Scope) (a : StmtTree) → undone (behind l at a) (undos_in at a) ≡ text_behind at a
  unfolding undone
  part-back at (s.local p d r) = local-back at p d r
  part-back at _ = refl

  undone-append : (t : Scope) (us vs : List Undo) → undone t (us ++ vs) ≡ undone (undone t vs) us
  unfolding undone
  undone-append t [] vs = refl
  undone-append t (u ∷ us) vs = ap (λ q. with_local q u.name u.before) (undone-append t us vs)

  local-rest : (at : Scope) (p : Place) (d : Param) (r : Option RhsTree) (ss : StmtTrees) → undone (text_after (behind l at (s.local p d r)) ss) (undos_in at (s.local p d r)) ≡ text_after at (s.more (s.local p d r) ss)
  unfolding undone declared labels_in with_all_declared
  local-rest at p d r ss = λ i. record {
    class = at.class;
    fixed = at.fixed;
    local = λ x. again at d (local_of l false d) x (same_text (text_of d.name) x) refl i;
    earlier = with_all_declared (with_declared at.earlier d) (all_declared ss);
    labels = with_labels at.labels (all_labels_in ss);
  }

  more-back : (at : Scope) (a : StmtTree) (ss : StmtTrees) → text_after (text_behind at a) ss ≡ text_after at (s.more a ss)
  unfolding declared labels_in
  more-back at a ss = grown-twice at (declared a) (all_declared ss) (labels_in a) (all_labels_in ss)

  rest-back : (at : Scope) (a : StmtTree) (ss : StmtTrees) → undone (text_after (behind l at a) ss) (undos_in at a) ≡ text_after at (s.more a ss)
  unfolding undone
  rest-back at (s.local p d r) ss = local-rest at p d r ss
  rest-back at (s.empty p) ss = more-back at (s.empty p) ss
  rest-back at (s.block p us) ss = more-back at (s.block p us) ss
  rest-back at (s.assign p a r) ss = more-back at (s.assign p a r) ss
  rest-back at (s.call p c) ss = more-back at (s.call p c) ss
  rest-back at (s.branch p c a b) ss = more-back at (s.branch p c a b) ss
  rest-back at (s.loop p is c a) ss = more-back at (s.loop p is c a) ss
  rest-back at (s.return p r) ss = more-back at (s.return p r) ss
  rest-back at (s.assert p a) ss = more-back at (s.assert p a) ss
  rest-back at (s.note p a) ss = more-back at (s.note p a) ss
  rest-back at (s.ghost p a b) ss = more-back at (s.ghost p a b) ss

  pub all-back : (at : Scope) (ss : StmtTrees) → undone (after_all l at ss) (undos_of l at ss) ≡ text_after at ss
  unfolding undone after_all undos_of
  all-back at s.none = sym (after-none at)
  all-back at (s.more a ss) =
      undone-append (after_all l (behind l at a) ss) (undos_in at a) (undos_of l (behind l at a) ss)
      ∙ ap (λ t. undone t (undos_in at a)) (all-back (behind l at a) ss) ∙ rest-back at a ss

labelled-twice : (at : Scope) (xs ys : List (List ℕ)) → labelled (labelled at xs) ys ≡ labelled at (xs ++ ys)
labelled-twice at xs ys = λ i. record {
  class = at.class;
  fixed = at.fixed;
  local = at.local;
  earlier = at.earlier;
  labels = λ x. grown-labels at.labels xs ys x i;
}

labelled-none : (at : Scope) → labelled at [] ≡ at
labelled-none at = λ i. record {
  class = at.class;
  fixed = at.fixed;
  local = at.local;
  earlier = at.earlier;
  labels = λ x. or-false (at.labels x) i;
}

abbrev all_labels : List Labelled → List (List ℕ)
all_labels is = flat_map label_of (map labelled_part is)

pub labels-next : (at new : Scope) (is : List Labelled) (i : ℕ) (x : Labelled) → i < length is → x ≡ get_or is i x → new ≡ labelled at (label_of (labelled_part x)) → labelled new (all_labels (drop (i + 1) is)) ≡ labelled at (all_labels (drop i is))
labels-next at new is i x lt e h =
    ap (λ t. labelled t (all_labels (drop (i + 1) is))) h ∙ labelled-twice at (label_of (labelled_part x)) (all_labels (drop (i + 1) is)) ∙ ap (λ ys. labelled at (all_labels ys)) (sym (drop-at is i x lt e))

pub labels-end : (at : Scope) (is : List Labelled) (i : ℕ) → length is ≤ i → labelled at (all_labels (drop i is)) ≡ at
labels-end at is i le = ap (λ ys. labelled at (all_labels ys)) (drop_all i is le) ∙ labelled-none at

drop-front : {A : Type 0} (xs ys : List A) → drop (length xs) (xs ++ ys) ≡ ys
drop-front [] ys = refl
drop-front (x ∷ xs) ys = drop-front xs ys

take-front : {A : Type 0} (xs ys : List A) → take (length xs) (xs ++ ys) ≡ xs
take-front [] ys = refl
take-front (x ∷ xs) ys = ap (λ zs. x ∷ zs) (take-front xs ys)

front-long : {A : Type 0} (xs ys : List A) → length xs ≤ length (xs ++ ys)
front-long [] ys = omega arith
front-long (x ∷ xs) ys =
    let h : length xs ≤ length (xs ++ ys) = front-long xs ys in
    omega arith

pub mark-inside : (mark : ℕ) (old us vs : List Undo) → mark ≡ length old → us ≡ old ++ vs → mark ≤ length us
mark-inside mark old us vs e h =
    let long : length old ≤ length (old ++ vs) = front-long old vs in
    let same : length us ≡ length (old ++ vs) = ap length h in
    omega arith

pub left-rest : (mark : ℕ) (old us vs : List Undo) → mark ≡ length old → us ≡ old ++ vs → drop mark us ≡ vs
left-rest mark old us vs e h = (λ i. drop (e i) (h i)) ∙ drop-front old vs

pub left-front : (mark : ℕ) (old us vs : List Undo) → mark ≡ length old → us ≡ old ++ vs → take mark us ≡ old
left-front mark old us vs e h = (λ i. take (e i) (h i)) ∙ take-front old vs

pub ruleset scope_steps = (behind-empty, behind-assign, behind-call, behind-return, behind-assert, behind-ghost, behind-note, behind-block, behind-branch, behind-loop, after-none, after-one)
