-- The value of each formula of a source, by its number, with all definitions opened.
use Rattle.std.specs.Prelude.{ℕ, zero, suc, ◌+◌, ◌==◌, ◌||◌, not, Bool, true, false, List, [], ◌∷◌, ◌++◌, map, length, Option, Some, None, codes, if◌then◌else◌}
use Rattle.std.specs.List.{flat_map, sum_by}
use Rattle.std.specs.Option.{option_map_or}
use Rattle.jh_name.specs.declared.place.Kind.{Kind}
use Rattle.jh_name.specs.declared.place.Kind.TheVariants as k
use Rattle.jh_boxed.specs.jh_form.Tree.{ValueTree, FormulaTree}
use Rattle.jh_boxed.specs.jh_form.Tree as t
use Rattle.jh_ast.specs.declared.word.Word.{Word}
use Rattle.jh_ast.specs.Forms.{FormTree, FormTrees, SpecPart, LabelledPart}
use Rattle.jh_ast.specs.Forms as f
use Rattle.jh_ast.specs.Stmts.{StmtTree}
use Rattle.jh_ast.specs.Stmts as s
use Rattle.jh_ast.specs.Programs.{ProgramTree, ClassPart, VarPart, DefPart, MethodPart}
use Rattle.jh_rules.specs.Words.{same_text, is_one_of, text_of}
use Rattle.jh_rules.specs.Names.{declared_in, def_of, kind_of_word}
use Rattle.jh_vars.specs.States.{State, class_text, state_spelled}
use Rattle.jh_rules.specs.Scopes.{Scope}
use Rattle.jh_rules.specs.declared.entries.StateEntry.{StateEntry}
use Rattle.jh_vars.specs.Statements.{InScope, entry_scope, method_statements}
use Rattle.jh_vars.specs.Resolved.{Spot, own, as_truth, resolved}

-- a formula outside methods, whose `this` is the variable of a binder round it or a free name
abbrev pub outside : ℕ → Bool → Spot
outside n this_bound = record { class = n; local = λ x. None; result = k.Obj; bound = []; this_bound = this_bound }

-- a formula of a method
abbrev pub inside : Kind → Scope → Spot
inside result at = record { class = at.class; local = at.local; result = result; bound = []; this_bound = false }

module _ (p : ProgramTree) where
  -- whether there is one variable of that name for each object of the class
  abbrev pub is_of_objects : ℕ → List ℕ → Bool
  is_of_objects c x = option_map_or (λ (s : StateEntry). not s.fixed) ((declared_in p).state_of c x) false

  -- What a defined variable stands for, where definitions are followed so many times; one of an object has
  -- its `this` as the one loose variable.
  unfoldable pub meant : ℕ → ℕ → List ℕ → ValueTree
  meant zero c x = t.of_object t.null
  meant (suc n) c x = option_map_or (λ (d : DefPart). resolved (declared_in p) (class_text p) (meant n) d.spec.form (outside c (is_of_objects c x))) (def_of p c x) (t.of_object t.null)

  -- as often as there are definitions is enough where no variable is cyclic
  abbrev pub all_definitions : ℕ
  all_definitions = sum_by (λ (c : ClassPart). length c.defs) p.classes

  abbrev pub value_at : Spot → FormTree → ValueTree
  value_at at a = resolved (declared_in p) (class_text p) (meant all_definitions) a at

  -- whether a formula outside methods uses `this`, spelled or not, as it is written
  abbrev pub is_of_object : Option State → Bool
  is_of_object x = option_map_or (λ (y : State). not y.entry.fixed) x false

  abbrev pub name_uses : ℕ → List (List ℕ) → Word → Bool
  name_uses n bound w = if is_one_of (text_of w) bound then false else if same_text (text_of w) (codes "this") then true else
      if is_one_of (text_of w) (codes "result" ∷ codes "alloc" ∷ codes "Object" ∷ codes "Object.alloc" ∷ []) then false else is_of_object (state_spelled (declared_in p) n (text_of w))

  unfoldable mutual
    pub uses_this : FormTree → ℕ → List (List ℕ) → Bool
    uses_this (f.name q w) n bound = name_uses n bound w
    uses_this (f.member q a w) n bound = uses_this a n bound
    uses_this (f.negation q a) n bound = uses_this a n bound
    uses_this (f.minus q a) n bound = uses_this a n bound
    uses_this (f.old q a) n bound = uses_this a n bound
    uses_this (f.card q a) n bound = uses_this a n bound
    uses_this (f.binary q o a b) n bound = uses_this a n bound || uses_this b n bound
    uses_this (f.dvd q z a) n bound = uses_this a n bound
    uses_this (f.all q ws a) n bound = uses_this a n (bound ++ map text_of ws)
    uses_this (f.ex q ws a) n bound = uses_this a n (bound ++ map text_of ws)
    uses_this (f.rtrancl q x y body a b) n bound = uses_this a n bound || uses_this b n bound
    uses_this (f.braces q fs) n bound = one_uses_this fs n bound
    uses_this (f.compr q w a) n bound = uses_this a n (bound ++ text_of w ∷ [])
    uses_this _ n bound = false

    pub one_uses_this : FormTrees → ℕ → List (List ℕ) → Bool
    one_uses_this f.none n bound = false
    one_uses_this (f.more a fs) n bound = uses_this a n bound || one_uses_this fs n bound

  -- an invariant that uses `this` speaks of every object of its class
  abbrev pub of_every_object : ClassPart → FormulaTree → ValueTree
  of_every_object c a = t.of_truth (t.all (t.implies (t.member (t.bound 0) (t.free_set (own (text_of c.name) 0))) a))

  abbrev pub invariant_value : ℕ → ClassPart → FormTree → ValueTree
  invariant_value n c a = if uses_this a n [] then of_every_object c (as_truth (value_at (outside n true) a)) else value_at (outside n false) a

  -- the values of formulas with their numbers
  abbrev pub valued : Spot → SpecPart → List (ℕ × ValueTree)
  valued at spec = (spec.number, value_at at spec.form) ∷ []

  abbrev pub valued_some : Spot → Option SpecPart → List (ℕ × ValueTree)
  valued_some at spec = option_map_or (valued at) spec []

  abbrev pub labelled_values : Spot → List LabelledPart → List (ℕ × ValueTree)
  labelled_values at ls = flat_map (λ (l : LabelledPart). valued at l.spec) ls

  abbrev pub ghost_values : Scope → SpecPart → SpecPart → List (ℕ × ValueTree)
  ghost_values at l r = valued (inside k.Obj at) l ++ valued (inside k.Obj at) r

  -- the values of the formulas of a statement itself
  abbrev pub stmt_values : Scope → StmtTree → List (ℕ × ValueTree)
  stmt_values at (s.loop q is c a) = labelled_values (inside k.Obj at) is
  stmt_values at (s.assert q l) = valued (inside k.Obj at) l.spec
  stmt_values at (s.note q l) = valued (inside k.Obj at) l.spec
  stmt_values at (s.ghost q l r) = ghost_values at l r
  stmt_values at _ = []

  abbrev pub values_of : InScope → List (ℕ × ValueTree)
  values_of x = stmt_values x.at x.stmt

  unfoldable pub in_method : ℕ → MethodPart → List (ℕ × ValueTree)
  in_method n m =
      valued_some (inside (kind_of_word m.result) (entry_scope p n m)) m.pre
      ++ valued_some (inside (kind_of_word m.result) (entry_scope p n m)) m.post
      ++ flat_map values_of (method_statements p n m)

  unfoldable pub in_class : ℕ → ClassPart → List (ℕ × ValueTree)
  in_class n c =
      flat_map (λ (v : VarPart). valued_some (outside n false) v.init) c.vars
      ++ flat_map (λ (d : DefPart). valued (outside n false) d.spec) c.defs
      ++ flat_map (λ (l : LabelledPart). (l.spec.number, invariant_value n c l.spec.form) ∷ []) c.invariants
      ++ flat_map (in_method n) c.methods

  unfoldable pub in_classes : ℕ → List ClassPart → List (ℕ × ValueTree)
  in_classes n [] = []
  in_classes n (c ∷ cs) = in_class n c ++ in_classes (n + 1) cs

  unfoldable pub found_in : ℕ → List (ℕ × ValueTree) → Option ValueTree
  found_in n [] = None
  found_in n (x ∷ xs) = if x.0 == n then Some x.1 else found_in n xs

  -- formula n as a value
  abbrev pub opened : ℕ → Option ValueTree
  opened n = found_in n (in_classes 0 p.classes)
