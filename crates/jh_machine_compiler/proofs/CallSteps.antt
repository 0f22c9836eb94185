-- What calls cite.
use Rattle.std.proofs.Common.{◌≡◌, refl, sym, ap, subst, ◌∙◌, ℕ, Bool, List, [], ◌∷◌, ◌++◌, map, Option, Some, None, option_map}
use Rattle.jh_name.specs.declared.naming.Name.{Name}
use Rattle.jh_ast.specs.Programs.{ProgramTree}
use Rattle.jh_arena.specs.table.Entries.{Listing}
use Rattle.jh_arena.specs.table.Growth.{Grows}
use Rattle.jh_vars.specs.Written.{Callee}
use Rattle.jh_semantics.specs.Code as c
use Rattle.jh_semantics.specs.declared.typed_code.code.ObjectCode.{ObjectCode}
use Rattle.jh_semantics.specs.declared.typed_code.code.AnyCode.{AnyCode}
use Rattle.jh_semantics.specs.declared.typed_code.stmts.CallCode.{CallCode}
use Rattle.jh_semantics.specs.typed_code.Codes.{object_code, any_code}
use Rattle.jh_semantics.specs.typed_code.Statements.{target_in, call_in}
use Rattle.jh_operands.specs.declared.exprs.ObjectExpr.{ObjectExpr}
use Rattle.jh_operands.specs.declared.exprs.AnyExpr.{AnyExpr}
use Rattle.jh_operands.specs.Exprs.{any_in, AnyFits}
use Rattle.jh_machine_code.specs.declared.code.destination.Destination.{Destination}
use Rattle.jh_machine_code.specs.declared.code.step.Step.TheVariants as x
use Rattle.jh_machine_code.specs.code.Steps.{IsStep, ReceiverIs, AllFit}
use Rattle.jh_machine_code.specs.numbering.Numbered.{IsObject, IsAny}
use Rattle.jh_machine_code.proofs.numbering.Standing.{grows_twice, stands_still}
use Rattle.jh_machine_compiler.specs.Lasting.{IsDestination, IsReceiver, AreArguments, Makes}
use Rattle.jh_machine_compiler.proofs.Growing.{destination_still}

module _ (names : List Name) where
  nobody : IsReceiver names (option_map object_code None) None
  unfolding ReceiverIs
  nobody = record { is = λ later t numbered keeps more. refl }

  somebody : (code : ObjectCode) (e : ObjectExpr) → IsObject names code e → IsReceiver names (option_map object_code (Some code)) (Some e)
  unfolding ReceiverIs
  somebody code e object = record { is = λ later t numbered keeps more. (object.fits later more, ap Some (sym (object.same later more))) }

pub receiver_none : {names : List Name} {receiver : Option ObjectCode} → receiver ≡ None → IsReceiver names (option_map object_code receiver) None
receiver_none {names} is = subst (λ o. IsReceiver names (option_map object_code o) None) (sym is) (nobody names)

pub receiver_some : {names : List Name} {receiver : Option ObjectCode} {code : ObjectCode} {e : ObjectExpr} → receiver ≡ Some code → IsObject names code e → IsReceiver names (option_map object_code receiver) (Some e)
receiver_some {names} {receiver} {code} {e} is object = subst (λ o. IsReceiver names (option_map object_code o) (Some e)) (sym is) (somebody names code e object)

pub receiver_still : {old new : List Name} {code : Option c.ObjectCode} {made : Option ObjectExpr} → Grows old new → IsReceiver old code made → IsReceiver new code made
receiver_still grows on = record { is = λ later t numbered keeps more. on.is later t numbered keeps (grows_twice grows more) }

pub ruleset receiver_steps = (grows_twice, receiver_none, receiver_some)

-- arguments, one after another
all-fit : (names : List Name) (t : Listing) (numbered : Callee → Option ℕ) (keeps : Bool) (es : List AnyExpr) (e : AnyExpr) → AllFit names t numbered keeps es → AnyFits names e → AllFit names t numbered keeps (es ++ e ∷ [])
unfolding AllFit
all-fit names t numbered keeps [] e fit last = (last, tt)
all-fit names t numbered keeps (d ∷ es) e fit last = (fit.0, all-fit names t numbered keeps es e fit.1 last)

all-same : (f : AnyExpr → c.AnyCode) (es : List AnyExpr) (e : AnyExpr) (xs : List c.AnyCode) (x : c.AnyCode) → map f es ≡ xs → f e ≡ x → map f (es ++ e ∷ []) ≡ xs ++ x ∷ []
all-same f es e xs x same last = by es ∙ (λ i. same i ++ last i ∷ [])
  where
    by : (ds : List AnyExpr) → map f (ds ++ e ∷ []) ≡ map f ds ++ f e ∷ []
    by [] = refl
    by (d ∷ ds) = ap (λ r. f d ∷ r) (by ds)

pub arguments_none : {names : List Name} → AreArguments names [] []
unfolding AllFit
arguments_none = record { same = λ later more. refl; fit = λ later t numbered keeps more. tt }

pub arguments_more : {old new : List Name} {codes : List c.AnyCode} {es : List AnyExpr} {e : AnyExpr} → (code : AnyCode) → AreArguments old codes es → Grows old new → IsAny new code e → AreArguments new (codes ++ any_code code ∷ []) (es ++ e ∷ [])
arguments_more {codes = codes} {es = es} {e = e} code before grows last = record {
  same = λ later more. all-same (any_in later) es e codes (any_code code) (before.same later (grows_twice grows more)) (last.same later more);
  fit = λ later t numbered keeps more. all-fit later t numbered keeps es e (before.fit later t numbered keeps (grows_twice grows more)) (last.fits later more);
}

pub ruleset argument_steps = (grows_twice, arguments_none, arguments_more)

pub call_made : {numbered : Callee → Option ℕ} {keeps : Bool} {names : List Name} {t : Listing} {d : Destination} {r : Option ObjectExpr} {m : Option ℕ} {es : List AnyExpr} → (p : ProgramTree) (call : CallCode) →
    IsDestination names call.target d → IsReceiver names (option_map object_code call.receiver) r → AreArguments names (map any_code call.args) es → m ≡ numbered (record { class = call.class; name = call.method }) →
    Makes numbered keeps names t (call_in p call) (x.Call (record { destination = d; receiver = r; receiver_place = call.receiver_place; method = m; args = es }))
unfolding IsStep
call_made {numbered} {keeps} {names} {t} {d} {r} {m} {es} p call goes on args number = record {
  is = λ later u more much. record {
    place = call.place;
    target = target_in call.target;
    receiver = option_map object_code call.receiver;
    method = record { class = call.class; name = call.method };
    goes = goes.is later more;
    on = on.is later u numbered keeps more;
    number = sym number;
    fit = args.fit later u numbered keeps more;
    is = ap (c.call call.place (target_in call.target) (option_map object_code call.receiver) call.receiver_place (record { class = call.class; name = call.method })) (sym (args.same later more));
  };
}

pub ruleset call_steps = (grows_twice, destination_still, receiver_still, call_made)
