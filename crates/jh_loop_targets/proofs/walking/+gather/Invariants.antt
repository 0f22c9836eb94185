use Rattle.std.proofs.Common.{◌≡◌, drop}
use Rattle.jh_ast.specs.Programs.{ProgramTree}
use Rattle.jh_semantics.specs.typed_code.Statements.{codes_in}
use Rattle.jh_guard.specs.Writes.{Writes, stmts_write}
use Rattle.jh_loop_targets.specs.declared.texts.Texts.{Texts}
use Rattle.jh_loop_targets.specs.Gathering.{stmts_add}
use Rattle.jh_loop_targets.specs.Noted.{names_in, Notes}
use Rattle.jh_loop_targets.specs.Telling.{Tells}
use Rattle.jh_loop_targets.proofs.walking.+gather.Given as goal

-- with what is left, all is noted and added
abbrev pub invariant-gather_all-loop-code : goal.invariant-gather_all-loop-code
invariant-gather_all-loop-code l = record {
  written : (p : ProgramTree) (ws : Writes) → Tells l.told l.table p ws → (new : Texts) → Notes l.written new (stmts_write ws (codes_in p (drop l.code-index l.codes))) → Notes l.initial.written new (stmts_write ws (codes_in p l.codes));
  locals : (p : ProgramTree) → stmts_add (names_in l.scope) (codes_in p (drop l.code-index l.codes)) (names_in l.locals) ≡ stmts_add (names_in l.scope) (codes_in p l.codes) (names_in l.initial.locals);
}
