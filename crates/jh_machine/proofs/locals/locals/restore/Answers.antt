use Rattle.std.proofs.Common.{sym, refl, ◌∙◌, arith, get_or}
use Rattle.std.proofs.lemmas.Option.{slice_get-get_or}
use Rattle.jh_store.specs.memory.Held.{state_of}
use Rattle.jh_machine.proofs.locals.LocalSteps.{restored, all_written, put_step, saved_at_place, inside_at_place}
use Rattle.jh_machine.proofs.locals.locals.restore.Goals as goal

pub loop-place-init : goal.loop-place-init
loop-place-init c = record { names = refl; last = refl; state = λ t are inside saved. refl }

pub loop-place-preserved : goal.loop-place-preserved
loop-place-preserved c =
    let known = c.loop-place.invariant in
    let names = c.args.memory.now.names in
    let last = c.args.memory.now.last in
    let ks = c.args.locals.now in
    let i = c.loop-place.place in
    let at = slice_get-get_or ks i 0 c.loop-place-test.true in
    let k = get_or ks i 0 in
    record {
      names = c.put_saved.ensures.names ∙ known.names;
      last = c.put_saved.ensures.last ∙ known.last;
      state = λ t are inside saved.
          put_step names ks i k at are t last c.loop-place.memory c.put_saved.new.memory c.item.result known.names known.last
          (inside_at_place last c.args.saved.now inside i c.item.result c.item.ensures)
          (saved_at_place names t ks c.args.saved.now saved i k at c.item.result c.item.ensures)
          (c.put_saved.ensures.state t)
          ∙ known.state t are inside saved;
    }

pub returns-clause-names : goal.returns-clause-names
returns-clause-names c = c.loop-place.invariant.names

pub returns-clause-last : goal.returns-clause-last
returns-clause-last c = c.loop-place.invariant.last

pub returns-clause-state : goal.returns-clause-state
returns-clause-state c = λ t are inside saved of.
    let names = c.args.memory.now.names in
    let ks = c.args.locals.now in
    sym (all_written names ks c.loop-place.place t (state_of c.loop-place.memory) (omega arith)) ∙ c.loop-place.invariant.state t are inside saved
    ∙ restored names ks are c.args.memory.now refl c.names-names.ensures.sized t of
