use Rattle.std.proofs.Common.{sym, subst, arith, [], ◌++◌, append-nil, get_or, List}
use Rattle.std.proofs.lemmas.Option.{slice_get-get_or}
use Rattle.jh_store.specs.memory.Held.{state_of}
use Rattle.jh_machine.specs.locals.Locals.{AreSaved, AreInside}
use Rattle.jh_machine.specs.declared.locals.locals.Saved.{Saved}
use Rattle.jh_machine.proofs.locals.LocalSteps.{save_step, save_end, inside_more}
use Rattle.jh_machine.proofs.locals.locals.save.Goals as goal

pub loop-place-init : goal.loop-place-init
unfolding AreInside
loop-place-init c = record {
  saved = λ are vs h.
      subst (λ (zs : List Saved). AreSaved c.args.memory.now.names (state_of c.args.memory.now) c.args.locals.now (zs ++ vs)) (sym c.new-made.ensures.items) h;
  inside = subst (λ (zs : List Saved). AreInside c.args.memory.now.last zs) (sym c.new-made.ensures.items) tt;
}

pub loop-place-preserved : goal.loop-place-preserved
loop-place-preserved c =
    let known = c.loop-place.invariant in
    let names = c.args.memory.now.names in
    let s = state_of c.args.memory.now in
    let ks = c.args.locals.now in
    let i = c.loop-place.place in
    let at = slice_get-get_or ks i 0 c.loop-place-test.true in
    let k = get_or ks i 0 in
    let made = c.loop-place.made.items in
    record {
      saved = λ are. save_step names s ks i k at c.saved_at.result (c.saved_at.ensures.saved (are.plain i k at)) made c.push.new.self.items c.in_ok-push.ensures.items (known.saved are);
      inside = subst (λ (vs : List Saved). AreInside c.args.memory.now.last vs) (sym c.in_ok-push.ensures.items) (inside_more c.args.memory.now.last made c.saved_at.result known.inside c.saved_at.ensures.inside);
    }

pub returns-clause-saved : goal.returns-clause-saved
returns-clause-saved c = λ are.
    let names = c.args.memory.now.names in
    let s = state_of c.args.memory.now in
    let ks = c.args.locals.now in
    subst (λ (vs : List Saved). AreSaved names s ks vs) (append-nil c.loop-place.made.items) (c.loop-place.invariant.saved are [] (save_end names s ks c.loop-place.place (omega arith)))
