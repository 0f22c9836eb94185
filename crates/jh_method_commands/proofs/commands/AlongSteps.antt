-- The commands of branches and loops, from those of their sides.
use Rattle.std.proofs.Common.{◌≡◌, sym, ap, ◌∙◌, subst, ℕ, List, [], ◌∷◌, ◌++◌, map, Some, slice_get, codes, Option}
use Rattle.jh_name.specs.declared.place.Place.{Place}
use Rattle.jh_form.specs.declared.mark.MarkKind.TheVariants as kind
use Rattle.jh_form.specs.Tree.{FormulaTree, of_truth}
use Rattle.jh_form.specs.Tree as tree
use Rattle.jh_arena.specs.table.Entries.{Listing}
use Rattle.jh_arena.specs.table.Growth.{Extends}
use Rattle.jh_arena.specs.table.Nodes.{nodes}
use Rattle.jh_arena.proofs.table.Listed.{extends-trans}
use Rattle.jh_wp.specs.Command.{CommandTree}
use Rattle.jh_wp.specs.Command as w
use Rattle.jh_call_commands.specs.jh_command_terms.declared.command.command.Command.{Command}
use Rattle.jh_semantics.specs.Code as run
use Rattle.jh_guard.specs.Terms.{truth_formula, truth_checks}
use Rattle.jh_guard.specs.Steps.{assert_checks, assert_claims, assume_named, sequence, after_changed}
use Rattle.jh_semantics.specs.declared.typed_code.stmts.Code.{Code}
use Rattle.jh_semantics.specs.declared.typed_code.stmts.Claim.{Claim}
use Rattle.jh_semantics.specs.typed_code.Statements.{claim_in, code_in, codes_in}
use Rattle.jh_state_facts.specs.declared.well_formedness.state.Known.{Known}
use Rattle.jh_state_facts.specs.changes.Added.{AddsCommands}
use Rattle.jh_state_facts.proofs.changes.AddedSteps.{adds-two}
use Rattle.jh_method_commands.specs.declared.environment.outline.Outline.{Outline}
use Rattle.jh_method_commands.specs.environment.Outlines.{source_of}
use Rattle.jh_method_commands.specs.commands.Made.{commands_of, all_commands, turn_behind, changed_in, head_commands}
use Rattle.jh_method_commands.specs.commands.Sides.{IsCommand}
use Rattle.jh_method_commands.proofs.commands.SideSteps.{is-grown}

-- the sides of a branch
abbrev first_side : Outline → Option ℕ → List Known → Place → FormulaTree → run.Stmt → ℕ → CommandTree
first_side o this scope q f a k = sequence (assume_named (codes "cond") q f ∷ commands_of o this scope a k)

abbrev second_side : Outline → Option ℕ → List Known → Place → FormulaTree → run.Stmts → ℕ → CommandTree
second_side o this scope q f b k = sequence (assume_named (codes "cond") q (tree.negation f) ∷ all_commands o this scope b k)

pub branch-along : (o : Outline) (this : Option ℕ) (scope behind : List Known) (q : Place) (e : run.TruthCode) (a a_lent : Code) (b b_lent : List Code) (k next test : ℕ) (t1 t2 t3 : Listing) (old mid new : List Command) (one two : Command) →
    a_lent ≡ a → b_lent ≡ b → behind ≡ scope → next ≡ turn_behind o this scope (code_in (source_of o) a_lent) k →
    slice_get (nodes t1) test ≡ Some (of_truth (truth_formula e)) → AddsCommands t1 old mid (assert_checks (truth_checks e)) → Extends t1 t2 → Extends t2 t3 →
    ((f : FormulaTree) → slice_get (nodes t1) test ≡ Some (of_truth f) → IsCommand t2 one (first_side o this scope q f (code_in (source_of o) a_lent) k)) →
    ((f : FormulaTree) → slice_get (nodes t2) test ≡ Some (of_truth f) → IsCommand t3 two (second_side o this behind q f (codes_in (source_of o) b_lent) next)) →
    ((x y : CommandTree) → IsCommand t3 one x → IsCommand t3 two y → AddsCommands t3 mid new (w.choice x y ∷ [])) →
    AddsCommands t3 old new (commands_of o this scope (run.branch q e (code_in (source_of o) a) (codes_in (source_of o) b)) k)
branch-along o this scope behind q e a a_lent b b_lent k next test t1 t2 t3 old mid new one two ae be se ne node checks g h first second both =
    let src = source_of o in
    let f = truth_formula e in
    let x = first_side o this scope q f (code_in src a) k in
    let y = second_side o this scope q f (codes_in src b) (turn_behind o this scope (code_in src a) k) in
    let is_x = is-grown t2 t3 one x (subst (λ (z : Code). IsCommand t2 one (first_side o this scope q f (code_in src z) k)) ae (first f node)) h in
    let turned : next ≡ turn_behind o this scope (code_in src a) k = ne ∙ ap (λ z. turn_behind o this scope (code_in src z) k) ae in
    let is_y0 = second f (g.nodes.keeps test (of_truth f) node) in
    let is_y1 = subst (λ (zs : List Known). IsCommand t3 two (second_side o this zs q f (codes_in src b_lent) next)) se is_y0 in
    let is_y2 = subst (λ (zs : List Code). IsCommand t3 two (second_side o this scope q f (codes_in src zs) next)) be is_y1 in
    let is_y = subst (λ (n : ℕ). IsCommand t3 two (second_side o this scope q f (codes_in src b) n)) turned is_y2 in
    adds-two t1 t3 old mid new (assert_checks (truth_checks e)) (w.choice x y ∷ []) checks (extends-trans t1 t2 t3 g h) (both x y is_x is_y)

-- a turn of a loop
abbrev turn_side : Outline → Option ℕ → List Known → Place → FormulaTree → List Claim → run.Stmt → ℕ → CommandTree
turn_side o this scope q f claims a k = sequence (assume_named (codes "cond") q f ∷ commands_of o this scope a k ++ assert_claims kind.LoopKept (map (claim_in (source_of o)) claims) ++ w.stop ∷ [])

pub loop-along : (o : Outline) (this : Option ℕ) (scope scope_lent : List Known) (q : Place) (e : run.TruthCode) (a a_lent a_again : Code) (claims claims_lent claims_again : List Claim) (k next test : ℕ) (t1 t2 t3 : Listing) (old mid new : List Command) (one : Command) →
    scope_lent ≡ scope → a_lent ≡ a → a_again ≡ a → claims_lent ≡ claims → claims_again ≡ claims → next ≡ after_changed (changed_in o scope_lent (code_in (source_of o) a_lent)) k →
    slice_get (nodes t1) test ≡ Some (of_truth (truth_formula e)) → AddsCommands t1 old mid (head_commands o this scope_lent q (map (claim_in (source_of o)) claims_lent) e (code_in (source_of o) a_lent) k) → Extends t1 t2 → Extends t2 t3 →
    ((f : FormulaTree) → slice_get (nodes t1) test ≡ Some (of_truth f) → IsCommand t2 one (turn_side o this scope q f claims_again (code_in (source_of o) a_again) next)) →
    ((f : FormulaTree) (x : CommandTree) → slice_get (nodes t2) test ≡ Some (of_truth f) → IsCommand t2 one x → AddsCommands t3 mid new (w.choice x (assume_named (codes "cond") q (tree.negation f)) ∷ [])) →
    AddsCommands t3 old new (commands_of o this scope (run.loop q (map (claim_in (source_of o)) claims) e (code_in (source_of o) a)) k)
loop-along o this scope scope_lent q e a a_lent a_again claims claims_lent claims_again k next test t1 t2 t3 old mid new one se ae aae ce cae ne node head g h turn both =
    let src = source_of o in
    let f = truth_formula e in
    let n = after_changed (changed_in o scope (code_in src a)) k in
    let x = turn_side o this scope q f claims (code_in src a) n in
    let head1 = subst (λ (zs : List Known). AddsCommands t1 old mid (head_commands o this zs q (map (claim_in src) claims_lent) e (code_in src a_lent) k)) se head in
    let head2 = subst (λ (zs : List Claim). AddsCommands t1 old mid (head_commands o this scope q (map (claim_in src) zs) e (code_in src a_lent) k)) ce head1 in
    let head3 = subst (λ (z : Code). AddsCommands t1 old mid (head_commands o this scope q (map (claim_in src) claims) e (code_in src z) k)) ae head2 in
    let turned : next ≡ n = ne ∙ (λ i. after_changed (changed_in o (se i) (code_in src (ae i))) k) in
    let is0 = turn f node in
    let is1 = subst (λ (zs : List Claim). IsCommand t2 one (turn_side o this scope q f zs (code_in src a_again) next)) cae is0 in
    let is2 = subst (λ (z : Code). IsCommand t2 one (turn_side o this scope q f claims (code_in src z) next)) aae is1 in
    let is = subst (λ (m : ℕ). IsCommand t2 one (turn_side o this scope q f claims (code_in src a) m)) turned is2 in
    adds-two t1 t3 old mid new (head_commands o this scope q (map (claim_in src) claims) e (code_in src a) k) (w.choice x (assume_named (codes "cond") q (tree.negation f)) ∷ []) head3 (extends-trans t1 t2 t3 g h)
    (both f x (g.nodes.keeps test (of_truth f) node) is)
