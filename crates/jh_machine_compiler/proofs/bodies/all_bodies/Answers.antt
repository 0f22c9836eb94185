use Rattle.std.proofs.Common.{rules, ◌≡◌, sym, ap, ◌∙◌, subst, ◌+◌, List, [], ◌∷◌, ◌++◌, map, take}
use Rattle.std.proofs.lemmas.List.{map_push, take_all}
use Rattle.jh_arena.proofs.table.Listed.{extends-refl, extends-trans}
use Rattle.jh_semantics.specs.Program.{Method}
use Rattle.jh_semantics.specs.typed_code.Statements.{method_in}
use Rattle.jh_command_statements.proofs.checks.ToldSteps.{formulas-grow}
use Rattle.jh_machine_code.specs.declared.code.body.Body.{Body}
use Rattle.jh_machine_code.proofs.numbering.Standing.{grows_same, grows_twice}
use Rattle.jh_machine_compiler.specs.Lasting.{MakesBodies}
use Rattle.jh_machine_compiler.specs.Sources.{numbered_in}
use Rattle.jh_machine_compiler.proofs.Growing.{take-next}
use Rattle.jh_machine_compiler.proofs.BodySteps.{bodies-none, bodies-more, bodies-still}
use Rattle.jh_machine_compiler.proofs.bodies.all_bodies.Goals as goal

pub loop-method-init : goal.loop-method-init
loop-method-init c =
    let n = numbered_in c.args.source.now in
    let empty : c.new-made.result.items ≡ [] = search rules in
    record {
      names = grows_same;
      table = extends-refl c.args.table.now;
      bodies = λ p h. subst (λ (xs : List Body). MakesBodies n c.args.names.now c.args.table.now [] xs) (sym empty) (bodies-none n c.args.names.now c.args.table.now);
    }

pub loop-method-preserved : goal.loop-method-preserved
loop-method-preserved c =
    let n = numbered_in c.args.source.now in
    let xs = c.args.source.now.methods.now in
    let i = c.loop-method.method-index in
    let a = c.method-item.result in
    let names = c.body_of.new.names in
    let t = c.body_of.new.table in
    let made = c.loop-method.made.items ++ c.in_ok-body.body ∷ [] in
    let pushed : c.push.new.self.items ≡ made = search rules in
    record {
      names = grows_twice c.loop-method.invariant.names c.body_of.ensures.names;
      table = extends-trans c.args.table.now c.loop-method.table t c.loop-method.invariant.table c.body_of.ensures.table;
      bodies = λ p h.
          let more : map (method_in p) (take (i + 1) xs) ≡ map (method_in p) (take i xs) ++ method_in p a ∷ [] = ap (map (method_in p)) (take-next xs i a c.loop-method-test.true c.method-item.is) ∙ map_push (method_in p) (take i xs) a in
          subst (λ (bs : List Body). MakesBodies n names t (map (method_in p) (take (i + 1) xs)) bs) (sym pushed)
          (subst (λ (ms : List Method). MakesBodies n names t ms made) (sym more)
          (bodies-more n names t (map (method_in p) (take i xs)) (method_in p a) c.loop-method.made.items c.in_ok-body.body
          (bodies-still n c.loop-method.names names c.loop-method.table t (map (method_in p) (take i xs)) c.loop-method.made.items c.body_of.ensures.names c.body_of.ensures.table (c.loop-method.invariant.bodies p h))
          (c.in_ok-body.ensures.is p (formulas-grow c.args.table.now c.loop-method.table c.loop-method.invariant.table p c.args.source.now.formulas.now h))));
    }

pub returns-clause-are : goal.returns-clause-are
returns-clause-are c = λ p h.
    let xs = c.args.source.now.methods.now in
    subst (λ ms. MakesBodies (numbered_in c.args.source.now) c.loop-method.names c.loop-method.table (map (method_in p) ms) c.loop-method.made.items) (take_all c.loop-method.method-index xs c.loop-method-test.false) (c.loop-method.invariant.bodies p h)
