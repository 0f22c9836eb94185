use Rattle.std.proofs.Common.{sym, refl, ◌∙◌, arith, get_or}
use Rattle.std.proofs.lemmas.Option.{slice_get-get_or}
use Rattle.jh_store.specs.memory.Held.{state_of, nothing}
use Rattle.jh_semantics.specs.State.{named}
use Rattle.jh_operands.specs.Exprs.{text_at}
use Rattle.jh_machine.proofs.locals.LocalSteps.{cleared, all_written, put_step, no_value_inside, no_value_saved}
use Rattle.jh_machine.proofs.locals.locals.clear.Goals as goal

pub loop-place-init : goal.loop-place-init
loop-place-init c = record { names = refl; last = refl; state = λ are. refl }

pub loop-place-preserved : goal.loop-place-preserved
loop-place-preserved c =
    let known = c.loop-place.invariant in
    let names = c.args.memory.now.names in
    let last = c.args.memory.now.last in
    let ks = c.args.locals.now in
    let i = c.loop-place.place in
    let at = slice_get-get_or ks i 0 c.loop-place-test.true in
    let k = get_or ks i 0 in
    record {
      names = c.put_saved.ensures.names ∙ known.names;
      last = c.put_saved.ensures.last ∙ known.last;
      state = λ are.
          put_step names ks i k at are (nothing last) last c.loop-place.memory c.put_saved.new.memory c.none.result known.names known.last
          (no_value_inside last c.none.result c.none.ensures)
          (no_value_saved last (named (text_at names k)) c.none.result c.none.ensures)
          (c.put_saved.ensures.state (nothing last))
          ∙ known.state are;
    }

pub returns-clause-names : goal.returns-clause-names
returns-clause-names c = c.loop-place.invariant.names

pub returns-clause-last : goal.returns-clause-last
returns-clause-last c = c.loop-place.invariant.last

pub returns-clause-state : goal.returns-clause-state
returns-clause-state c = λ are.
    let names = c.args.memory.now.names in
    let last = c.args.memory.now.last in
    let ks = c.args.locals.now in
    sym (all_written names ks c.loop-place.place (nothing last) (state_of c.loop-place.memory) (omega arith)) ∙ c.loop-place.invariant.state are
    ∙ cleared names ks are c.args.memory.now refl c.names-names.ensures.sized last
