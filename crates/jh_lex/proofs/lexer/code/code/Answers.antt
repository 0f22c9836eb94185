use Rattle.std.proofs.Common.{◌≡◌, length, Ok, Err, arith}
use Rattle.std.proofs.lemmas.Grind.{common_steps}
use Rattle.std.proofs.lemmas.Result.{err_from_is_err_and}
use Rattle.jh_lex.specs.lexer.Texts.{CodeStep}
use Rattle.jh_lex.proofs.lexer.Reading.{reads_more, reads_fault, reads_end}
use Rattle.jh_lex.proofs.lexer.code.code.Goals as goal

-- the fault of a step is that of the text
pub returns-in_err-n : goal.returns-in_err-n
returns-in_err-n c =
    let p = err_from_is_err_and c.from_residual.result c.from_residual.ensures.1 in
    let out = c.code_step.new.out.items in
    rw (p.1, p.2) (c.loop-at.invariant out (Err c.in_err-n.field-0.0) (reads_fault (Unit {0}) CodeStep c.loop-at.at.place c.loop-at.at.rest.now c.loop-at.out.items out out c.in_err-n.field-0.0 c.in_err-n.ensures.reads))

-- a step is read, and the rest is left
pub loop-at-preserved : goal.loop-at-preserved
loop-at-preserved c new r rest =
    c.loop-at.invariant new r
    (reads_more CodeStep c.loop-at.at.place c.skip-at.result.place c.loop-at.at.rest.now c.skip-at.result.rest.now c.in_ok-n.n c.loop-at.out.items c.code_step.new.out.items new r c.skip-at.ensures.place c.skip-at.ensures.rest c.in_ok-n.ensures.reads rest)

-- nothing is left
pub returns : goal.returns
returns c =
    let none : length c.loop-at.at.rest.now ≡ 0 = grind (arith, common_steps) in
    c.loop-at.invariant c.loop-at.out.items (Ok (tt {0})) (reads_end CodeStep c.loop-at.at.place c.loop-at.at.rest.now c.loop-at.out.items (tt {0}) none)
