-- The commands of typed methods assign values without loose bound variables.
use Rattle.std.proofs.Common.{◌≡◌, refl, sym, ℕ, suc, Bool, true, false, ◌&&◌, if◌then◌else◌, List, [], ◌∷◌, ◌++◌, map, Option, None, Some, codes}
use Rattle.std.specs.Option.{option_map_or}
use Rattle.std.proofs.lemmas.Bool.{true≢false}
use Rattle.jh_name.specs.declared.naming.Name.{Name}
use Rattle.jh_name.specs.declared.place.Place.{Place}
use Rattle.jh_name.specs.declared.place.Sort.{Sort}
use Rattle.jh_name.specs.declared.place.Sort.TheVariants as sort
use Rattle.jh_form.specs.declared.mark.MarkKind.{MarkKind}
use Rattle.jh_form.specs.declared.mark.MarkKind.TheVariants as kind
use Rattle.jh_form.specs.Tree.{FormulaTree, ValueTree, TermTree}
use Rattle.jh_form.specs.Tree as t
use Rattle.jh_form.specs.Closed.{is_closed_term, is_closed_int, is_closed_set, is_closed_field, is_closed_value, is_closed_formula}
use Rattle.jh_rules.specs.declared.types.Ty.{Ty}
use Rattle.jh_rules.specs.Kinds.{kind_of, is_void}
use Rattle.jh_vars.specs.state_names.States.{sort_of}
use Rattle.jh_vars.specs.Written.{Callee}
use Rattle.jh_wp.specs.Command.{CommandTree, CommandTrees, is_closed_command, are_closed_commands}
use Rattle.jh_wp.specs.Command as w
use Rattle.jh_semantics.specs.Code.{Text, ObjectCode, NumberCode, TruthCode, AnyCode, Local, Target, Claim, Stmt, Stmts}
use Rattle.jh_semantics.specs.Code as c
use Rattle.jh_semantics.specs.Program.{Program, Method}
use Rattle.jh_semantics.specs.State.{named, alloc_name, result_name}
use Rattle.jh_semantics.specs.Entry.{owed}
use Rattle.jh_semantics.specs.WellFormed.{well_formed, lies_in}
use Rattle.jh_semantics.specs.Typed.{Surroundings, ProgramFits, StmtFits, StmtsFit, scope_behind}
use Rattle.jh_guard.specs.Terms.{Check, object_term, number_term, truth_formula, value_term, receiver_checks, truth_checks, value_checks}
use Rattle.jh_guard.specs.Items.{Item, items, sorted_item, Sorted, free_of, item_text}
use Rattle.jh_guard.specs.Writes.{Writes, scope_after}
use Rattle.jh_guard.specs.Steps.{steps, sequence, fresh, assert_checks, assert_claims, assume_claims, assume_named, copies, after_copies, havocs, changed, after_changed, growth, target_checks, put_field, put}
use Rattle.jh_guard.specs.Frames.{frame_facts}
use Rattle.jh_guard.specs.Loops.{changed_by, written_by, loop_turn}
use Rattle.jh_guard.specs.Calls.{CallTurns, at_call, receiver_value_checks, called_checks, all_checks, keep_receiver, keep_args, keep_target, assert_requires, assume_ensures, result_text, target_text, result_value, kept_checks, put_result, old_alloc, written_items, written_sorted, turns_of, call_commands}
use Rattle.jh_guard.specs.Statements.{wf_at, is_new, new_steps, next_turn, stmt_commands, stmts_commands}
use Rattle.jh_guard.specs.Methods.{assume_requires, end_commands}
use Rattle.jh_logic.specs.logic.MethodContracts.{AreClosed}
use Rattle.jh_logic.proofs.logic.Entering.{entry_scope}

both-true : (a b : Bool) → a ≡ true → b ≡ true → (a && b) ≡ true
both-true true b e f = f
both-true false b e f = absurd (true≢false (sym e))

-- code has no bound variables
closed-object : (e : ObjectCode) → is_closed_term (object_term e) 0 ≡ true
unfolding is_closed_term is_closed_field
closed-object c.null = refl
closed-object c.this = refl
closed-object (c.object x) = refl
closed-object (c.read_object f r q) = closed-object r

closed-number : (e : NumberCode) → is_closed_int (number_term e) 0 ≡ true
unfolding is_closed_int is_closed_field
closed-number (c.const z) = refl
closed-number (c.number x) = refl
closed-number (c.read_number f r q) = closed-object r
closed-number (c.add q a b) = both-true (is_closed_int (number_term a) 0) (is_closed_int (number_term b) 0) (closed-number a) (closed-number b)
closed-number (c.sub q a b) = both-true (is_closed_int (number_term a) 0) (is_closed_int (number_term b) 0) (closed-number a) (closed-number b)
closed-number (c.minus q a) = closed-number a
closed-number (c.times q z a) = closed-number a

closed-truth : (e : TruthCode) → is_closed_formula (truth_formula e) 0 ≡ true
unfolding is_closed_formula is_closed_field
closed-truth (c.literal true) = refl
closed-truth (c.literal false) = refl
closed-truth (c.truth x) = refl
closed-truth (c.read_truth f r q) = closed-object r
closed-truth (c.negation a) = closed-truth a
closed-truth (c.both a b) = both-true (is_closed_formula (truth_formula a) 0) (is_closed_formula (truth_formula b) 0) (closed-truth a) (closed-truth b)
closed-truth (c.either a b) = both-true (is_closed_formula (truth_formula a) 0) (is_closed_formula (truth_formula b) 0) (closed-truth a) (closed-truth b)
closed-truth (c.same_object a b) = both-true (is_closed_term (object_term a) 0) (is_closed_term (object_term b) 0) (closed-object a) (closed-object b)
closed-truth (c.same_number a b) = both-true (is_closed_int (number_term a) 0) (is_closed_int (number_term b) 0) (closed-number a) (closed-number b)
closed-truth (c.same_truth a b) = both-true (is_closed_formula (truth_formula a) 0) (is_closed_formula (truth_formula b) 0) (closed-truth a) (closed-truth b)
closed-truth (c.less a b) = both-true (is_closed_int (number_term a) 0) (is_closed_int (number_term b) 0) (closed-number a) (closed-number b)
closed-truth (c.less_equal a b) = both-true (is_closed_int (number_term a) 0) (is_closed_int (number_term b) 0) (closed-number a) (closed-number b)
closed-truth (c.greater a b) = both-true (is_closed_int (number_term b) 0) (is_closed_int (number_term a) 0) (closed-number b) (closed-number a)
closed-truth (c.greater_equal a b) = both-true (is_closed_int (number_term b) 0) (is_closed_int (number_term a) 0) (closed-number b) (closed-number a)

closed-value : (e : AnyCode) → is_closed_value (value_term e) 0 ≡ true
unfolding is_closed_value
closed-value (c.an_object a) = closed-object a
closed-value (c.a_number a) = closed-number a
closed-value (c.a_truth a) = closed-truth a

closed-term : (a : TermTree) → is_closed_term a 0 ≡ true → is_closed_value (t.of_object a) 0 ≡ true
unfolding is_closed_value
closed-term a h = h

term-closed : (a : TermTree) → is_closed_value (t.of_object a) 0 ≡ true → is_closed_term a 0 ≡ true
unfolding is_closed_value
term-closed a h = h

closed-free : (a : Sort) (x : Name) → is_closed_value (free_of a x) 0 ≡ true
unfolding is_closed_value is_closed_term is_closed_int is_closed_formula is_closed_set is_closed_field
closed-free sort.Obj x = refl
closed-free sort.Int x = refl
closed-free sort.Bool x = refl
closed-free sort.Set x = refl
closed-free sort.Field x = refl

closed-name : (x : Name) → is_closed_term (t.free_object x) 0 ≡ true
unfolding is_closed_term
closed-name x = refl

closed-update : (f : Name) (a : TermTree) (v : ValueTree) → is_closed_term a 0 ≡ true → is_closed_value v 0 ≡ true → is_closed_value (t.of_field (t.update (t.free_field f) a v)) 0 ≡ true
unfolding is_closed_value is_closed_field
closed-update f a v h i = both-true (is_closed_term a 0) (is_closed_value v 0) h i

closed-joined : (x : Name) (a : TermTree) → is_closed_term a 0 ≡ true → is_closed_value (t.of_set (t.union (t.free_set x) (t.single a))) 0 ≡ true
unfolding is_closed_value is_closed_set
closed-joined x a h = h

-- lists of commands
abbrev AllClosed : List CommandTree → Type 0
AllClosed [] = Unit {0}
AllClosed (d ∷ ds) = (is_closed_command d ≡ true) × AllClosed ds

closed-append : (cs ds : List CommandTree) → AllClosed cs → AllClosed ds → AllClosed (cs ++ ds)
closed-append [] ds h i = i
closed-append (d ∷ cs) ds h i = (h.0, closed-append cs ds h.1 i)

closed-steps : (cs : List CommandTree) → AllClosed cs → are_closed_commands (steps cs) ≡ true
unfolding is_closed_command are_closed_commands
closed-steps [] h = refl
closed-steps (d ∷ cs) h = both-true (is_closed_command d) (are_closed_commands (steps cs)) h.0 (closed-steps cs h.1)

closed-sequence : (cs : List CommandTree) → AllClosed cs → is_closed_command (sequence cs) ≡ true
unfolding is_closed_command are_closed_commands
closed-sequence cs h = closed-steps cs h

closed-assume : (f : FormulaTree) → is_closed_command (w.assume f) ≡ true
unfolding is_closed_command are_closed_commands
closed-assume f = refl

closed-assert : (f : FormulaTree) → is_closed_command (w.assert f) ≡ true
unfolding is_closed_command are_closed_commands
closed-assert f = refl

closed-havoc : (x y : Name) → is_closed_command (w.havoc x y) ≡ true
unfolding is_closed_command are_closed_commands
closed-havoc x y = refl

closed-leave : is_closed_command w.leave ≡ true
unfolding is_closed_command are_closed_commands
closed-leave = refl

closed-stop : is_closed_command w.stop ≡ true
unfolding is_closed_command are_closed_commands
closed-stop = refl

closed-assign : (x : Name) (v : ValueTree) → is_closed_value v 0 ≡ true → is_closed_command (w.assign x v) ≡ true
unfolding is_closed_command are_closed_commands
closed-assign x v h = h

closed-choice : (a b : CommandTree) → is_closed_command a ≡ true → is_closed_command b ≡ true → is_closed_command (w.choice a b) ≡ true
unfolding is_closed_command are_closed_commands
closed-choice a b h i = both-true (is_closed_command a) (is_closed_command b) h i

closed-map : {X : Type 0} (f : X → CommandTree) (xs : List X) → ((x : X) → is_closed_command (f x) ≡ true) → AllClosed (map f xs)
closed-map f [] h = tt
closed-map f (x ∷ xs) h = (h x, closed-map f xs h)

closed-checks : (checks : List Check) → AllClosed (assert_checks checks)
closed-checks [] = tt
closed-checks (check ∷ more) = (closed-assert _, closed-checks more)

closed-claims : (kind : MarkKind) (claims : List Claim) → AllClosed (assert_claims kind claims)
closed-claims kind [] = tt
closed-claims kind (claim ∷ more) = (closed-assert _, closed-claims kind more)

closed-known : (claims : List Claim) → AllClosed (assume_claims claims)
closed-known [] = tt
closed-known (claim ∷ more) = (closed-assume _, closed-known more)

closed-facts : (fs : List FormulaTree) → AllClosed (map (λ f. w.assume f) fs)
closed-facts [] = tt
closed-facts (f ∷ fs) = (closed-assume f, closed-facts fs)

closed-copies : (xs : List Sorted) (k : ℕ) → AllClosed (copies xs k)
closed-copies [] k = tt
closed-copies (x ∷ xs) k = (closed-assign (fresh x.text k) (free_of x.sort (named x.text)) (closed-free x.sort (named x.text)), closed-copies xs k)

closed-havocs : (xs : List Sorted) (k : ℕ) → AllClosed (havocs xs k)
closed-havocs [] k = tt
closed-havocs (x ∷ xs) k = (closed-havoc (named x.text) (fresh x.text k), closed-havocs xs (suc k))

closed-changed : (xs : List Sorted) (k : ℕ) → AllClosed (changed xs k)
closed-changed xs k = closed-append (copies xs k) (havocs xs (after_copies xs k)) (closed-copies xs k) (closed-havocs xs (after_copies xs k))

closed-growth : (k : ℕ) (xs : List Item) → AllClosed (growth k xs)
closed-growth k xs = closed-map (λ (x : Item). w.assume (t.subset (t.free_set (fresh (item_text x) k)) (t.free_set (named (item_text x))))) _ (λ x. closed-assume _)

closed-put-field : (f : Text) (a : TermTree) (v : ValueTree) → is_closed_term a 0 ≡ true → is_closed_value v 0 ≡ true → is_closed_command (put_field f a v) ≡ true
closed-put-field f a v h i = closed-assign (named f) (t.of_field (t.update (t.free_field (named f)) a v)) (closed-update (named f) a v h i)

closed-put : (target : Target) (v : ValueTree) → is_closed_value v 0 ≡ true → AllClosed (put target v)
closed-put c.nowhere v h = tt
closed-put (c.to_new x) v h = (closed-assign (named x.text) v h, tt)
closed-put (c.to_name x) v h = (closed-assign (named x) v h, tt)
closed-put (c.to_field f r q) v h = closed-append (assert_checks (receiver_checks r q)) (put_field f (object_term r) v ∷ []) (closed-checks (receiver_checks r q)) (closed-put-field f (object_term r) v (closed-object r) h, tt)

-- calls
closed-receiver : (receiver : Option ObjectCode) (k : ℕ) → AllClosed (keep_receiver receiver k)
closed-receiver None k = tt
closed-receiver (Some r) k = (closed-assign _ (t.of_object (object_term r)) (closed-term (object_term r) (closed-object r)), tt)

closed-args : (xs : List Local) (es : List AnyCode) (k : ℕ) → AllClosed (keep_args xs es k)
closed-args [] es k = tt
closed-args (x ∷ xs) [] k = tt
closed-args (x ∷ xs) (e ∷ es) k = (closed-assign (fresh x.text k) (value_term e) (closed-value e), closed-args xs es (suc k))

closed-target : (target : Target) (k : ℕ) → AllClosed (keep_target target k)
closed-target c.nowhere k = tt
closed-target (c.to_new x) k = tt
closed-target (c.to_name x) k = tt
closed-target (c.to_field f r q) k = (closed-assign _ (t.of_object (object_term r)) (closed-term (object_term r) (closed-object r)), tt)

closed-requires : (f : Name → Name) (q : Place) (claim : Option Claim) → AllClosed (assert_requires f q claim)
closed-requires f q None = tt
closed-requires f q (Some claim) = (closed-assert _, tt)

closed-ensures : (f : Name → Name) (claim : Option Claim) → AllClosed (assume_ensures f claim)
closed-ensures f None = tt
closed-ensures f (Some claim) = (closed-assume _, tt)

closed-result : (target : Target) (k : ℕ) (v : ValueTree) → is_closed_value v 0 ≡ true → AllClosed (put_result target k v)
closed-result c.nowhere k v h = tt
closed-result (c.to_new x) k v h = (closed-assign (named x.text) v h, tt)
closed-result (c.to_name x) k v h = (closed-assign (named x) v h, tt)
closed-result (c.to_field f r q) k v h =
    closed-append (assert_checks (kept_checks r q k)) (put_field f (t.free_object (fresh target_text k)) v ∷ []) (closed-checks (kept_checks r q k))
    (closed-put-field f (t.free_object (fresh target_text k)) v (closed-name (fresh target_text k)) h, tt)

module _ (p : Program) (ws : Writes) (this : Option ℕ) where
  closed-call : (scope : List Local) (q : Place) (target : Target) (receiver : Option ObjectCode) (place : Place) (m : Callee) (x : Method) (args : List AnyCode) (turns : CallTurns) → AllClosed (call_commands p ws (wf_at p ws this scope) q target receiver place m x args turns)
  closed-call scope q target receiver place m x args turns =
      let reading : Name → Name = at_call turns x.params (ws.written m) in
      let c0 : List CommandTree = assert_checks (target_checks target ++ receiver_value_checks receiver ++ all_checks args ++ called_checks receiver place) in
      let c1 : List CommandTree = keep_receiver receiver turns.receiver in
      let c2 : List CommandTree = keep_args x.params args turns.args in
      let c3 : List CommandTree = keep_target target turns.target in
      let c4 : List CommandTree = assert_requires reading q x.requires in
      let c5 : List CommandTree = assert_claims kind.Inv (owed p x) in
      let d0 : List CommandTree = changed (written_sorted p ws t.true_formula m) turns.copies in
      let d1 : List CommandTree = assume_named (codes "wf") q (wf_at p ws this scope) ∷ growth turns.copies (written_items p ws t.true_formula m) in
      let d2 : List CommandTree = map (λ f. w.assume f) (frame_facts p ws m (old_alloc (ws.written m) turns.copies) turns.copies) in
      let d3 : List CommandTree = assume_ensures reading x.ensures in
      let d4 : List CommandTree = assume_claims (owed p x) in
      let d5 : List CommandTree = map (λ f. w.assume f) (lies_in p.classes x.result (t.free_object (fresh result_text turns.result))) in
      let d6 : List CommandTree = put_result target turns.target (result_value x.result turns.result) in
      closed-append (c0 ++ c1 ++ c2 ++ c3 ++ c4 ++ c5) (d0 ++ d1 ++ d2 ++ d3 ++ d4 ++ d5 ++ d6)
      (closed-append (c0 ++ c1 ++ c2 ++ c3 ++ c4) c5 (closed-append (c0 ++ c1 ++ c2 ++ c3) c4 (closed-append (c0 ++ c1 ++ c2) c3 (closed-append (c0 ++ c1) c2 (closed-append c0 c1
      (closed-checks (target_checks target ++ receiver_value_checks receiver ++ all_checks args ++ called_checks receiver place)) (closed-receiver receiver turns.receiver)) (closed-args x.params args turns.args)) (closed-target target turns.target))
      (closed-requires reading q x.requires)) (closed-claims kind.Inv (owed p x)))
      (closed-append (d0 ++ d1 ++ d2 ++ d3 ++ d4 ++ d5) d6 (closed-append (d0 ++ d1 ++ d2 ++ d3 ++ d4) d5 (closed-append (d0 ++ d1 ++ d2 ++ d3) d4 (closed-append (d0 ++ d1 ++ d2) d3 (closed-append (d0 ++ d1) d2 (closed-append d0 d1
      (closed-changed (written_sorted p ws t.true_formula m) turns.copies) (closed-assume _, closed-growth turns.copies (written_items p ws t.true_formula m))) (closed-facts (frame_facts p ws m (old_alloc (ws.written m) turns.copies) turns.copies)))
      (closed-ensures reading x.ensures)) (closed-known (owed p x))) (closed-facts (lies_in p.classes x.result (t.free_object (fresh result_text turns.result)))))
      (closed-result target turns.target (result_value x.result turns.result) (closed-free (sort_of (kind_of x.result)) (fresh result_text turns.result))))

  closed-new : (target : Target) (class : Text) (x y : Name) → AllClosed (new_steps target class x y)
  closed-new target class x y = (
    closed-havoc x y,
    (
      closed-assume (is_new (t.free_object x)),
      (
        closed-assign alloc_name _ (closed-joined alloc_name (t.free_object x) (closed-name x)),
        (
          closed-assign (named class) _ (closed-joined (named class) (t.free_object x) (closed-name x)),
          closed-put target (t.of_object (t.free_object x)) (closed-term (t.free_object x) (closed-name x)),
        ),
      ),
    ),
  )

  module _ (result : Ty) where
    mutual
      closed-stmt : (s : Stmt) (at : Surroundings) → StmtFits p result s at → (scope : List Local) (k : ℕ) → AllClosed (stmt_commands p ws this scope s k)
      closed-stmt c.empty at fit scope k = tt
      closed-stmt (c.block body) at fit scope k = closed-stmts body at fit scope k
      closed-stmt (c.assign target e) at fit scope k =
          closed-append (assert_checks (target_checks target ++ value_checks e)) (put target (value_term e)) (closed-checks (target_checks target ++ value_checks e)) (closed-put target (value_term e) (closed-value e))
      closed-stmt (c.new_object q target class) at fit scope k = closed-append (assert_checks (target_checks target)) (new_steps target class _ _) (closed-checks (target_checks target)) (closed-new target class _ _)
      closed-stmt (c.call q target receiver place m args) at fit scope k = from (p.method m)
        where
          from : (o : Option Method) → AllClosed (option_map_or (λ x. call_commands p ws (wf_at p ws this scope) q target receiver place m x args (turns_of p ws (wf_at p ws this scope) target receiver m x args k)) o [])
          from None = tt
          from (Some x) = closed-call scope q target receiver place m x args (turns_of p ws (wf_at p ws this scope) target receiver m x args k)
      closed-stmt (c.branch q e a b) at fit scope k =
          closed-append (assert_checks (truth_checks e)) _ (closed-checks (truth_checks e)) (
            closed-choice _ _ (closed-sequence (assume_named (codes "cond") q (truth_formula e) ∷ stmt_commands p ws this scope a k) (closed-assume _, closed-stmt a at fit.0 scope k))
                (closed-sequence (assume_named (codes "cond") q (t.negation (truth_formula e)) ∷ stmts_commands p ws this scope b (next_turn p ws this scope a k)) (closed-assume _, closed-stmts b at fit.1 scope (next_turn p ws this scope a k))),
            tt,
          )
      closed-stmt (c.loop q invariants e body) at fit scope k =
          let begin : ℕ = after_changed (changed_by p ws scope body) k in
          let inside : List CommandTree = stmt_commands p ws this scope body begin in
          let c0 : List CommandTree = assert_claims kind.LoopEntry invariants in
          let c1 : List CommandTree = changed (changed_by p ws scope body) k in
          let c2 : List CommandTree = assume_named (codes "wf") q (wf_at p ws this scope) ∷ growth k (written_by p ws body) in
          let c3 : List CommandTree = assume_claims invariants in
          let c4 : List CommandTree = assert_checks (truth_checks e) in
          let kept : List CommandTree = assert_claims kind.LoopKept invariants in
          let once : CommandTree = assume_named (codes "cond") q (truth_formula e) in
          closed-append (c0 ++ c1 ++ c2 ++ c3 ++ c4) (loop_turn q invariants e inside ∷ [])
          (closed-append (c0 ++ c1 ++ c2 ++ c3) c4 (closed-append (c0 ++ c1 ++ c2) c3 (closed-append (c0 ++ c1) c2 (closed-append c0 c1 (closed-claims kind.LoopEntry invariants) (closed-changed (changed_by p ws scope body) k))
          (closed-assume _, closed-growth k (written_by p ws body))) (closed-known invariants)) (closed-checks (truth_checks e))) (
            closed-choice _ _
                (closed-sequence (once ∷ inside ++ kept ++ (w.stop ∷ [])) (closed-assume _, closed-append (inside ++ kept) (w.stop ∷ []) (closed-append inside kept (closed-stmt body at fit.1 scope begin) (closed-claims kind.LoopKept invariants)) (closed-stop, tt)))
                (closed-assume _),
            tt,
          )
      closed-stmt c.return_nothing at fit scope k = (closed-leave, tt)
      closed-stmt (c.return_value e) at fit scope k =
          closed-append (assert_checks (value_checks e)) (w.assign result_name (value_term e) ∷ w.leave ∷ []) (closed-checks (value_checks e)) (closed-assign result_name (value_term e) (closed-value e), (closed-leave, tt))
      closed-stmt (c.assert claim) at fit scope k = (closed-assert _, tt)
      closed-stmt (c.note claim) at fit scope k = (closed-assert _, (closed-assume _, tt))
      closed-stmt (c.ghost x q v) at fit scope k = (closed-assign (named x) v ((fit.1).states).closed, tt)
      closed-stmt (c.ghost_at q class f a place v) at fit scope k = (closed-assert _, (closed-put-field f a v (term-closed a ((fit.1).receiver).closed) ((((fit.1).fits).states).closed), tt))

      closed-stmts : (ss : Stmts) (at : Surroundings) → StmtsFit p result ss at → (scope : List Local) (k : ℕ) → AllClosed (stmts_commands p ws this scope ss k)
      closed-stmts c.none at fit scope k = tt
      closed-stmts (c.more s ss) at fit scope k =
          closed-append (stmt_commands p ws this scope s k) (stmts_commands p ws this (scope_after scope s) ss (next_turn p ws this scope s k)) (closed-stmt s at fit.0 scope k)
          (closed-stmts ss (scope_behind p at s) fit.1 (scope_after scope s) (next_turn p ws this scope s k))

pub commands-closed : (p : Program) (ws : Writes) → ProgramFits p → AreClosed p ws
commands-closed p ws fitting m x is =
    let facts : List CommandTree = assume_named (codes "wf") x.place (well_formed p x.params x.this) ∷ assume_requires x.requires in
    let owes : List CommandTree = assume_claims (owed p x) in
    let copy : List CommandTree = copies (map sorted_item (items p)) 1 in
    let body : List CommandTree = stmts_commands p ws x.this x.params x.body 2 in
    let ends : List CommandTree = end_commands p ws m x in
    closed-sequence (facts ++ owes ++ copy ++ body ++ ends)
    (closed-append (facts ++ owes ++ copy ++ body) ends (closed-append (facts ++ owes ++ copy) body (closed-append (facts ++ owes) copy (closed-append facts owes (closed-assume _, known x.requires) (closed-known (owed p x)))
    (closed-copies (map sorted_item (items p)) 1)) (closed-stmts p ws x.this x.result x.body (entry_scope p fitting.names x.this x.params) (fitting.methods m x is).body x.params 2)) (end (is_void x.result)))
  where
    known : (r : Option Claim) → AllClosed (assume_requires r)
    known None = tt
    known (Some claim) = (closed-assume _, tt)

    end : (b : Bool) → AllClosed (if b then w.leave ∷ [] else [])
    end true = (closed-leave, tt)
    end false = tt
