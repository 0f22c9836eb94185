-- The commands of statements, one after another.
use Rattle.std.proofs.Common.{◌≡◌, refl, sym, ap, ◌∙◌, subst, ℕ, ◌+◌, ◌<◌, ◌≤◌, List, [], ◌∷◌, ◌++◌, map, length, drop, get_or, append_assoc, Option, Some, None}
use Rattle.std.proofs.lemmas.List.{drop_more, drop_all, take_at}
use Rattle.std.specs.Prelude.{take}
use Rattle.jh_ast.specs.Programs.{ProgramTree}
use Rattle.jh_arena.specs.table.Entries.{Listing}
use Rattle.jh_arena.specs.table.Growth.{Extends}
use Rattle.jh_wp.specs.Command.{CommandTree}
use Rattle.jh_call_commands.specs.jh_command_terms.declared.command.command.Command.{Command}
use Rattle.jh_name.specs.declared.place.Place.{Place}
use Rattle.jh_form.specs.Tree.{ValueTree}
use Rattle.jh_semantics.specs.Code.{AnyCode, Local, Stmt, Stmts}
use Rattle.jh_semantics.specs.LoweredStmts.{GhostTarget, a_name, a_read, no_target, ghost_code}
use Rattle.jh_call_commands.specs.jh_command_statements.simple_statements.Returns.{return_commands}
use Rattle.jh_call_commands.specs.jh_command_statements.simple_statements.Ghosts.{ghost_commands}
use Rattle.jh_semantics.specs.typed_code.Statements.{return_in}
use Rattle.jh_semantics.specs.Program.{Program}
use Rattle.jh_guard.specs.Writes.{Writes, scope_after}
use Rattle.jh_guard.specs.Statements.{stmt_commands, stmts_commands, next_turn, next_turns}
use Rattle.jh_semantics.specs.declared.typed_code.stmts.Code.{Code}
use Rattle.jh_semantics.specs.typed_code.Statements.{code_in, codes_in}
use Rattle.jh_state_facts.specs.changes.Added.{AddsCommands}
use Rattle.jh_state_facts.proofs.changes.AddedSteps.{adds-two, adds-none}
use Rattle.jh_method_commands.specs.commands.Sides.{IsLonger}

-- what is left of a list from a place on
left-at : {X : Type 0} (xs : List X) (i : ℕ) (x : X) → i < length xs → x ≡ get_or xs i x → drop i xs ≡ x ∷ drop (i + 1) xs
left-at xs i x lt e = drop_more xs i x lt ∙ ap (λ y. y ∷ drop (i + 1) xs) (sym e)

module _ (p : Program) (ws : Writes) (this : Option ℕ) (source : ProgramTree) where
  -- one statement, before those that are left
  pub all-next : (t u : Listing) (old mid new : List Command) (scope behind : List Local) (ss : List Code) (i : ℕ) (a : Code) (k next : ℕ) → i < length ss → a ≡ get_or ss i a →
      behind ≡ scope_after scope (code_in source a) → next ≡ next_turn p ws this scope (code_in source a) k →
      AddsCommands t old mid (stmt_commands p ws this scope (code_in source a) k) → Extends t u →
      AddsCommands u mid new (stmts_commands p ws this behind (codes_in source (drop (i + 1) ss)) next) →
      AddsCommands u old new (stmts_commands p ws this scope (codes_in source (drop i ss)) k)
  all-next t u old mid new scope behind ss i a k next lt is scoped turned one g rest =
      let after = scope_after scope (code_in source a) in
      let turn = next_turn p ws this scope (code_in source a) k in
      let more = codes_in source (drop (i + 1) ss) in
      subst (λ ys. AddsCommands u old new (stmts_commands p ws this scope (codes_in source ys) k)) (sym (left-at ss i a lt is))
      (adds-two t u old mid new (stmt_commands p ws this scope (code_in source a) k) (stmts_commands p ws this after more turn) one g
      (subst (λ (n : ℕ). AddsCommands u mid new (stmts_commands p ws this after more n)) turned
      (subst (λ (ls : List Local). AddsCommands u mid new (stmts_commands p ws this ls more next)) scoped rest)))

  pub turns-next : (scope behind : List Local) (ss : List Code) (i : ℕ) (a : Code) (k next : ℕ) → i < length ss → a ≡ get_or ss i a →
      behind ≡ scope_after scope (code_in source a) → next ≡ next_turn p ws this scope (code_in source a) k →
      next_turns p ws this behind (codes_in source (drop (i + 1) ss)) next ≡ next_turns p ws this scope (codes_in source (drop i ss)) k
  turns-next scope behind ss i a k next lt is scoped turned =
      (λ j. next_turns p ws this (scoped j) (codes_in source (drop (i + 1) ss)) (turned j))
      ∙ ap (λ ys. next_turns p ws this scope (codes_in source ys) k) (sym (left-at ss i a lt is))

  pub all-end : (t : Listing) (cs : List Command) (scope : List Local) (ss : List Code) (i k : ℕ) → length ss ≤ i → AddsCommands t cs cs (stmts_commands p ws this scope (codes_in source (drop i ss)) k)
  all-end t cs scope ss i k le = subst (λ ys. AddsCommands t cs cs (stmts_commands p ws this scope (codes_in source ys) k)) (sym (drop_all i ss le)) (adds-none t cs)

  pub turns-end : (scope : List Local) (ss : List Code) (i k : ℕ) → length ss ≤ i → next_turns p ws this scope (codes_in source (drop i ss)) k ≡ k
  turns-end scope ss i k le = ap (λ ys. next_turns p ws this scope (codes_in source ys) k) (drop_all i ss le)

-- the locals before those that were added
pub cut-back : {X : Type 0} (old new : List X) → IsLonger old new → take (length old) new ≡ old
cut-back old new h = ap (take (length old)) h.1 ∙ take_at old h.0 (length old) refl

-- the commands of a statement that is another one, and the turn behind it
pub as-commands : (p : Program) (ws : Writes) (this : Option ℕ) (t : Listing) (old new : List Command) (scope : List Local) (k : ℕ) (a b : Stmt) → b ≡ a → AddsCommands t old new (stmt_commands p ws this scope a k) → AddsCommands t old new (stmt_commands p ws this scope b k)
as-commands p ws this t old new scope k a b e h = subst (λ (s : Stmt). AddsCommands t old new (stmt_commands p ws this scope s k)) (sym e) h

pub as-turn : (p : Program) (ws : Writes) (this : Option ℕ) (scope : List Local) (k n : ℕ) (a b : Stmt) → b ≡ a → n ≡ next_turn p ws this scope a k → n ≡ next_turn p ws this scope b k
as-turn p ws this scope k n a b e h = h ∙ ap (λ s. next_turn p ws this scope s k) (sym e)

-- a ghost assignment, and a return
pub ghost-made : (p : Program) (ws : Writes) (this : Option ℕ) (scope : List Local) (k : ℕ) (q r : Place) (x : GhostTarget) (v : ValueTree) → ghost_commands q x v ≡ stmt_commands p ws this scope (ghost_code q x r v) k
ghost-made p ws this scope k q r (a_name kind x) v = refl
ghost-made p ws this scope k q r (a_read kind x a) v = refl
ghost-made p ws this scope k q r no_target v = refl

pub ghost-turn : (p : Program) (ws : Writes) (this : Option ℕ) (scope : List Local) (k : ℕ) (q r : Place) (x : GhostTarget) (v : ValueTree) → k ≡ next_turn p ws this scope (ghost_code q x r v) k
ghost-turn p ws this scope k q r (a_name kind x) v = refl
ghost-turn p ws this scope k q r (a_read kind x a) v = refl
ghost-turn p ws this scope k q r no_target v = refl

pub return-made : (source : ProgramTree) (p : Program) (ws : Writes) (this : Option ℕ) (scope : List Local) (k : ℕ) (a : Option AnyCode) → return_commands a ≡ stmt_commands p ws this scope (return_in source a) k
return-made source p ws this scope k None = refl
return-made source p ws this scope k (Some e) = refl

pub return-turn : (source : ProgramTree) (p : Program) (ws : Writes) (this : Option ℕ) (scope : List Local) (k : ℕ) (a : Option AnyCode) → k ≡ next_turn p ws this scope (return_in source a) k
return-turn source p ws this scope k None = refl
return-turn source p ws this scope k (Some e) = refl

-- four lists of commands one after another, of which the second is two
pub head-along : (t1 t2 t3 t4 : Listing) (old m1 m2 m3 new : List Command) (fs bs cs ds es : List CommandTree) →
    AddsCommands t1 old m1 fs → Extends t1 t2 → AddsCommands t2 m1 m2 (bs ++ cs) → Extends t2 t3 → AddsCommands t3 m2 m3 ds → Extends t3 t4 → AddsCommands t4 m3 new es →
    AddsCommands t4 old new (fs ++ bs ++ cs ++ ds ++ es)
head-along t1 t2 t3 t4 old m1 m2 m3 new fs bs cs ds es h g k e l f m =
    let two = adds-two t1 t2 old m1 m2 fs (bs ++ cs) h g k in
    let three = adds-two t2 t3 old m2 m3 (fs ++ (bs ++ cs)) ds two e l in
    subst (λ gs. AddsCommands t4 old new gs) (ap (λ xs. (xs ++ ds) ++ es) (sym (append_assoc fs bs cs))) (adds-two t3 t4 old m3 new ((fs ++ (bs ++ cs)) ++ ds) es three f m)
