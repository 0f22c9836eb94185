-- What statements write and assign, by their code.
use Rattle.std.proofs.Common.{◌≡◌, refl, sym, ap, ◌∙◌, ℕ, ◌+◌, ◌<◌, ◌≤◌, Bool, false, List, length, drop, get_or, Option, Some, None}
use Rattle.std.proofs.lemmas.List.{drop_all}
use Rattle.jh_ast.specs.Programs.{ProgramTree}
use Rattle.jh_symbols.proofs.scopes.Lists.{drop-at}
use Rattle.jh_semantics.specs.Code.{Text, Stmt, AnyCode}
use Rattle.jh_semantics.specs.declared.typed_code.stmts.Code.{Code}
use Rattle.jh_semantics.specs.typed_code.Statements.{code_in, codes_in, return_in}
use Rattle.jh_guard.specs.Items.{Sorted}
use Rattle.jh_guard.specs.Writes.{Writes, stmt_writes, stmts_write}
use Rattle.jh_loop_targets.specs.declared.texts.Texts.{Texts}
use Rattle.jh_loop_targets.specs.Gathering.{stmt_adds, stmts_add}
use Rattle.jh_loop_targets.specs.Noted.{Notes}
use Rattle.jh_loop_targets.proofs.Notings.{notes-as, notes-none, notes-then}

module _ (p : ProgramTree) (code : Code) (s : Stmt) (is : code_in p code ≡ s) where
  -- what the statement that code is writes, the code writes
  pub written-as : (ws : Writes) (old new : Texts) (f : Text → Bool) → Notes old new f → ((x : Text) → stmt_writes ws s x ≡ f x) → Notes old new (stmt_writes ws (code_in p code))
  written-as ws old new f h e = notes-as old new f (stmt_writes ws (code_in p code)) h (λ x. ap (λ a. stmt_writes ws a x) is ∙ e x)

  pub written-none : (ws : Writes) (old : Texts) → ((x : Text) → stmt_writes ws s x ≡ false) → Notes old old (stmt_writes ws (code_in p code))
  written-none ws old e = notes-none old (stmt_writes ws (code_in p code)) (λ x. ap (λ a. stmt_writes ws a x) is ∙ e x)

  -- what it adds to the locals, the code adds
  pub added-as : (scope xs ys : List Sorted) → ys ≡ stmt_adds scope s xs → ys ≡ stmt_adds scope (code_in p code) xs
  added-as scope xs ys e = e ∙ ap (λ a. stmt_adds scope a xs) (sym is)

-- a return writes nothing and assigns no local
pub return-writes : (p : ProgramTree) (ws : Writes) (o : Option AnyCode) (x : Text) → stmt_writes ws (return_in p o) x ≡ false
return-writes p ws None x = refl
return-writes p ws (Some a) x = refl

pub return-adds : (p : ProgramTree) (scope xs : List Sorted) (o : Option AnyCode) → stmt_adds scope (return_in p o) xs ≡ xs
unfolding stmt_adds
return-adds p scope xs None = refl
return-adds p scope xs (Some a) = refl

-- one more statement, and none
module _ (p : ProgramTree) (codes : List Code) (i : ℕ) where
  pub written-next : (ws : Writes) (code : Code) (old mid new : Texts) → i < length codes → code ≡ get_or codes i code → Notes old mid (stmt_writes ws (code_in p code)) → Notes mid new (stmts_write ws (codes_in p (drop (i + 1) codes))) → Notes old new (stmts_write ws (codes_in p (drop i codes)))
  written-next ws code old mid new lt is h k =
      notes-then old mid new (stmt_writes ws (code_in p code)) (stmts_write ws (codes_in p (drop (i + 1) codes))) (stmts_write ws (codes_in p (drop i codes))) h k
      (λ x. ap (λ cs. stmts_write ws (codes_in p cs) x) (drop-at codes i code lt is))

  pub written-end : (ws : Writes) (old : Texts) → length codes ≤ i → Notes old old (stmts_write ws (codes_in p (drop i codes)))
  written-end ws old le = notes-none old (stmts_write ws (codes_in p (drop i codes))) (λ x. ap (λ cs. stmts_write ws (codes_in p cs) x) (drop_all i codes le))

  pub added-next : (scope xs ys : List Sorted) (code : Code) → i < length codes → code ≡ get_or codes i code → ys ≡ stmt_adds scope (code_in p code) xs → stmts_add scope (codes_in p (drop (i + 1) codes)) ys ≡ stmts_add scope (codes_in p (drop i codes)) xs
  unfolding stmts_add
  added-next scope xs ys code lt is e = ap (stmts_add scope (codes_in p (drop (i + 1) codes))) e ∙ sym (ap (λ cs. stmts_add scope (codes_in p cs) xs) (drop-at codes i code lt is))

  pub added-end : (scope xs : List Sorted) → length codes ≤ i → xs ≡ stmts_add scope (codes_in p (drop i codes)) xs
  unfolding stmts_add
  added-end scope xs le = sym (ap (λ cs. stmts_add scope (codes_in p cs) xs) (drop_all i codes le))
