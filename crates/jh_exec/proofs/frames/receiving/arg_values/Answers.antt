use Rattle.std.proofs.Common.{◌≡◌, sym, ap, subst, ◌∙◌, refl, arith, rules, List, [], ◌∷◌, ◌++◌, suc, add-one, map, drop}
use Rattle.jh_form.specs.Meaning.{Datum}
use Rattle.jh_semantics.specs.Execution.{with_values}
use Rattle.jh_store.specs.memory.Held.{state_of}
use Rattle.jh_operands.specs.declared.values.Scalar.{Scalar}
use Rattle.jh_operands.specs.Exprs.{any_in}
use Rattle.jh_operands.specs.Scalars.{datum_of}
use Rattle.jh_machine.specs.locals.Locals.{AllInside}
use Rattle.jh_machine.specs.declared.continuation.stop.Stop.TheVariants as stop
use Rattle.jh_machine.specs.continuation.Overflows.{AreValues, ArgsOverflow}
use Rattle.jh_machine.specs.continuation.Stops.{StopsAs, stop_of}
use Rattle.jh_machine.proofs.writes.TargetSteps.{stops_there, memory_stops}
use Rattle.jh_exec.proofs.frames.Arguments.{fits_here, value_more, next_more, over_more, fault_more, no_more, behind, all_of, inside_behind}
use Rattle.jh_exec.proofs.frames.receiving.arg_values.Goals as goal

pub loop-place-init : goal.loop-place-init
unfolding AllInside
loop-place-init c =
    let es = map (any_in c.args.memory.now.names) c.args.args.now in
    let s = state_of c.args.memory.now in
    let none = sym c.new-made.ensures.items in
    record {
      inside = subst (λ (vs : List Scalar). AllInside c.args.memory.now.last vs) none tt;
      values = λ t numbered keeps fit ds h. subst (λ (vs : List Scalar). AreValues es s (map datum_of vs ++ ds)) none h;
      next = λ t numbered keeps fit next. ap (λ (vs : List Scalar). with_values es s (λ ds. next (map datum_of vs ++ ds))) none;
      over = λ t numbered keeps fit q h. h;
    }

pub returns-in_err-value-clause-stop : goal.returns-in_err-value-clause-stop
returns-in_err-value-clause-stop c = λ t numbered keeps fit next.
    let names = c.args.memory.now.names in
    let s = state_of c.args.memory.now in
    let es = c.args.args.now in
    let i = c.loop-place.place in
    let e = c.index-args-place.result in
    let known = c.loop-place.invariant in
    let why = c.in_err-value.field-0.0 in
    let whole : StopsAs (with_values (map (any_in names) es) s next) (λ q. ArgsOverflow q (map (any_in names) es) s) (stop_of why) =
    stops_there (with_values (map (any_in names) (drop i es)) s (λ ds. next (map datum_of c.loop-place.made.items ++ ds))) (with_values (map (any_in names) es) s next)
    (λ q. ArgsOverflow q (map (any_in names) (drop i es)) s) (λ q. ArgsOverflow q (map (any_in names) es) s) (stop_of why) (known.next t numbered keeps fit next) (known.over t numbered keeps fit)
    (fault_more names es i e c.loop-place-test.true c.index-args-place.is s why (c.in_err-value.ensures.fault (fits_here names t numbered keeps es fit i e c.loop-place-test.true c.index-args-place.is)) (λ ds. next (map datum_of c.loop-place.made.items ++ ds))) in
    search rules

pub returns-in_err-push-clause-stop : goal.returns-in_err-push-clause-stop
returns-in_err-push-clause-stop c = λ t numbered keeps fit next.
    let es = map (any_in c.args.memory.now.names) c.args.args.now in
    let s = state_of c.args.memory.now in
    let whole : StopsAs (with_values es s next) (λ q. ArgsOverflow q es s) stop.Memory = memory_stops (with_values es s next) (λ q. ArgsOverflow q es s) stop.Memory refl in
    search rules

pub loop-place-preserved : goal.loop-place-preserved
loop-place-preserved c =
    let names = c.args.memory.now.names in
    let s = state_of c.args.memory.now in
    let es = c.args.args.now in
    let i = c.loop-place.place in
    let e = c.index-args-place.result in
    let lt = c.loop-place-test.true in
    let at = c.index-args-place.is in
    let known = c.loop-place.invariant in
    let v = c.in_ok-value.value in
    let made = c.loop-place.made.items in
    let new = c.push.new.self.items in
    let pushed : new ≡ made ++ v ∷ [] = c.in_ok-push.ensures.items in
    let joined : (ds : List Datum) → map datum_of new ++ ds ≡ map datum_of made ++ (datum_of v ∷ ds) = λ ds. ap (λ (vs : List Scalar). map datum_of vs ++ ds) pushed ∙ behind made v ds in
    rw (add-one i) (record {
      inside = subst (λ (vs : List Scalar). AllInside c.args.memory.now.last vs) (sym pushed) (inside_behind c.args.memory.now.last made v known.inside c.in_ok-value.ensures.inside);
      values = λ t numbered keeps fit ds h.
          subst (λ (xs : List Datum). AreValues (map (any_in names) es) s xs) (sym (joined ds))
          (known.values t numbered keeps fit (datum_of v ∷ ds) (value_more names es i e lt at s v (c.in_ok-value.ensures.value (fits_here names t numbered keeps es fit i e lt at)) ds h));
      next = λ t numbered keeps fit next.
          known.next t numbered keeps fit next ∙ next_more names es i e lt at s v (c.in_ok-value.ensures.value (fits_here names t numbered keeps es fit i e lt at)) (λ ds. next (map datum_of made ++ ds))
          ∙ (λ j. with_values (map (any_in names) (drop (suc i) es)) s (λ ds. next (sym (joined ds) j)));
      over = λ t numbered keeps fit q h. known.over t numbered keeps fit q (over_more names es i e lt at s v (c.in_ok-value.ensures.value (fits_here names t numbered keeps es fit i e lt at)) q h);
    })

pub returns-clause-values : goal.returns-clause-values
returns-clause-values c = λ t numbered keeps fit.
    let names = c.args.memory.now.names in
    let s = state_of c.args.memory.now in
    let es = c.args.args.now in
    subst (λ (ds : List Datum). AreValues (map (any_in names) es) s ds) (all_of (map datum_of c.loop-place.made.items)) (c.loop-place.invariant.values t numbered keeps fit [] (no_more names es c.loop-place.place (omega arith) s))
