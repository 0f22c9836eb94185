-- The commands of statements. The turns from k on are free.
use Rattle.std.specs.Prelude.{ℕ, suc, List, [], ◌∷◌, ◌++◌, Option, codes}
use Rattle.std.specs.Option.{option_map_or}
use Rattle.jh_name.specs.declared.naming.Name.{Name}
use Rattle.jh_name.specs.declared.place.Place.{Place}
use Rattle.jh_form.specs.declared.mark.MarkKind.TheVariants as kind
use Rattle.jh_form.specs.Tree.{FormulaTree, TermTree, ValueTree}
use Rattle.jh_form.specs.Tree as t
use Rattle.jh_semantics.specs.jh_vars.Written.{Callee}
use Rattle.jh_wp.specs.Command.{CommandTree}
use Rattle.jh_wp.specs.Command as w
use Rattle.jh_semantics.specs.Code.{Text, ObjectCode, AnyCode, Local, Target, Claim, Stmt, Stmts}
use Rattle.jh_semantics.specs.Code as c
use Rattle.jh_semantics.specs.Program.{Program}
use Rattle.jh_semantics.specs.State.{named, alloc_name, result_name}
use Rattle.jh_semantics.specs.WellFormed.{well_formed}
use Rattle.jh_guard.specs.Terms.{is_not_null, truth_formula, truth_checks, value_term, value_checks}
use Rattle.jh_guard.specs.Writes.{Writes, scope_after}
use Rattle.jh_guard.specs.Steps.{fresh, sequence, mark_without_name, assert_checks, assert_claim, assume_named, claim_fact, after_changed, target_checks, put_field, put}
use Rattle.jh_guard.specs.Loops.{changed_by, loop_head, loop_turn}
use Rattle.jh_guard.specs.Calls.{turns_of, call_commands}

-- a new object: not null, and not there before; it joins `alloc` and its class
abbrev pub new_text : Text
new_text = codes "new"

abbrev pub is_new : TermTree → FormulaTree
is_new a = t.and (is_not_null a) (t.negation (t.member a (t.free_set alloc_name)))

abbrev pub joins : Name → TermTree → CommandTree
joins x a = w.assign x (t.of_set (t.union (t.free_set x) (t.single a)))

abbrev pub new_steps : Target → Text → Name → Name → List CommandTree
new_steps target class x y =
    w.havoc x y ∷ w.assume (is_new (t.free_object x)) ∷ joins alloc_name (t.free_object x) ∷ joins (named class) (t.free_object x) ∷ put target (t.of_object (t.free_object x))

-- over a program, what its methods write, and the class of `this`
module _ (p : Program) (ws : Writes) (this : Option ℕ) where
  -- with these locals in scope, parameters among them
  abbrev pub wf_at : List Local → FormulaTree
  wf_at scope = well_formed p scope this

  -- a call of a method that the program has
  abbrev pub call_of : List Local → Place → Target → Option ObjectCode → Place → Callee → List AnyCode → ℕ → List CommandTree
  call_of scope q target receiver r m args k =
      option_map_or (λ x. call_commands p ws (wf_at scope) q target receiver r m x args (turns_of p ws (wf_at scope) target receiver m x args k)) (p.method m) []

  abbrev pub next_after_call : Target → Option ObjectCode → Callee → List AnyCode → ℕ → ℕ
  next_after_call target receiver m args k = option_map_or (λ x. (turns_of p ws t.true_formula target receiver m x args k).next) (p.method m) k

  -- the first turn that a statement leaves free
  abbrev mutual
    pub next_turn : List Local → Stmt → ℕ → ℕ
    next_turn scope (c.block body) k = next_turns scope body k
    next_turn scope (c.new_object q target class) k = suc (suc k)
    next_turn scope (c.call q target receiver r m args) k = next_after_call target receiver m args k
    next_turn scope (c.branch q e a b) k = next_turns scope b (next_turn scope a k)
    next_turn scope (c.loop q invariants e body) k = next_turn scope body (after_changed (changed_by p ws scope body) k)
    next_turn scope _ k = k

    pub next_turns : List Local → Stmts → ℕ → ℕ
    next_turns scope c.none k = k
    next_turns scope (c.more s ss) k = next_turns (scope_after scope s) ss (next_turn scope s k)

  abbrev mutual
    pub stmt_commands : List Local → Stmt → ℕ → List CommandTree
    stmt_commands scope c.empty k = []
    stmt_commands scope (c.block body) k = stmts_commands scope body k
    stmt_commands scope (c.assign target e) k = assert_checks (target_checks target ++ value_checks e) ++ put target (value_term e)
    stmt_commands scope (c.new_object q target class) k = assert_checks (target_checks target) ++ new_steps target class (fresh new_text k) (fresh new_text (suc k))
    stmt_commands scope (c.call q target receiver r m args) k = call_of scope q target receiver r m args k
    stmt_commands scope (c.branch q e a b) k =
        assert_checks (truth_checks e)
        ++ w.choice
        (sequence (assume_named (codes "cond") q (truth_formula e) ∷ stmt_commands scope a k))
        (sequence (assume_named (codes "cond") q (t.negation (truth_formula e)) ∷ stmts_commands scope b (next_turn scope a k)))
        ∷ []
    stmt_commands scope (c.loop q invariants e body) k =
        loop_head p ws (wf_at scope) q scope invariants e body k
        ++ loop_turn q invariants e (stmt_commands scope body (after_changed (changed_by p ws scope body) k)) ∷ []
    stmt_commands scope c.return_nothing k = w.leave ∷ []
    stmt_commands scope (c.return_value e) k = assert_checks (value_checks e) ++ w.assign result_name (value_term e) ∷ w.leave ∷ []
    stmt_commands scope (c.assert claim) k = assert_claim kind.Assert claim ∷ []
    stmt_commands scope (c.note claim) k = assert_claim kind.Note claim ∷ w.assume (claim_fact claim) ∷ []
    stmt_commands scope (c.ghost x q v) k = w.assign (named x) v ∷ []
    stmt_commands scope (c.ghost_at q class f a r v) k =
        w.assert (t.mark (mark_without_name kind.Assert q) (t.member a (t.free_set (named class)))) ∷ put_field f a v ∷ []

    pub stmts_commands : List Local → Stmts → ℕ → List CommandTree
    stmts_commands scope c.none k = []
    stmts_commands scope (c.more s ss) k = stmt_commands scope s k ++ stmts_commands (scope_after scope s) ss (next_turn scope s k)
