use Rattle.std.proofs.Common.{◌≡◌, sym, refl, subst, ◌∙◌, arith, length, inl, inr, ◌-◌, drop, map, get_or}
use Rattle.std.proofs.lemmas.Bool.{cases_lt}
use Rattle.std.proofs.lemmas.Option.{slice_get-get_or}
use Rattle.jh_semantics.specs.Locals.{with_args}
use Rattle.jh_store.specs.memory.Held.{state_of}
use Rattle.jh_operands.specs.declared.values.Scalar.TheVariants as y
use Rattle.jh_operands.specs.Scalars.{datum_of}
use Rattle.jh_machine.proofs.locals.LocalSteps.{args_end, args_step}
use Rattle.jh_machine.proofs.locals.locals.put_args.Goals as goal

pub given-preserved : goal.given-preserved
given-preserved c =
    let known = c.given.invariant in
    let names = c.args.memory.now.names in
    let last = c.args.memory.now.last in
    let ks = c.args.params.now in
    let xs = c.args.args.now in
    let i = c.given.left - 1 in
    let k = get_or ks i 0 in
    let e = y.Object 0 in
    let x = get_or xs i e in
    record {
      names = c.put_name.ensures.names ∙ known.names;
      last = c.put_name.ensures.last ∙ known.last;
      params = omega (arith, known.params);
      args = omega (arith, known.args);
      state = λ ls are all.
          args_step names last ks ls are xs all c.given.left i k x (omega (arith, c.given-test.true)) (slice_get-get_or ks i 0 (omega (arith, known.params, c.given-test.true))) (slice_get-get_or xs i e (omega (arith, known.args, c.given-test.true)))
          (state_of c.args.memory.now) c.given.memory c.put_name.new.memory known.names known.last (known.state ls are all) c.put_name.ensures.state;
    }

pub returns-clause-state : goal.returns-clause-state
returns-clause-state c = λ ls are all.
    let none : c.given.left ≡ 0 = omega (arith, c.given-test.false) in
    subst (λ n. state_of c.given.memory ≡ with_args (drop n ls) (map datum_of (drop n c.args.args.now)) (state_of c.args.memory.now)) none (c.given.invariant.state ls are all)

pub returns-clause-names : goal.returns-clause-names
returns-clause-names c = c.given.invariant.names

pub returns-clause-last : goal.returns-clause-last
returns-clause-last c = c.given.invariant.last

pub given-init : goal.given-init
given-init c = record {
  names = refl;
  last = refl;
  params = omega arith;
  args = omega arith;
  state = λ ls are all. sym (args_end c.args.memory.now.names c.args.params.now ls are c.args.args.now c.min-left.result (state_of c.args.memory.now)
      (elim (cases_lt c.min-left.result (length c.args.params.now)) [
        | inl less ↦ inr (omega (arith, less, c.min-left.ensures))
        | inr more ↦ inl more
      ]));
}
