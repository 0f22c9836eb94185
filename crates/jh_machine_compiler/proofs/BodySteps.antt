-- What methods and lists of them cite.
use Rattle.std.proofs.Common.{◌≡◌, refl, sym, ap, subst, ℕ, zero, suc, ◌<◌, nat_lt, Bool, true, false, if◌then◌else◌, List, [], ◌∷◌, ◌++◌, map, length, Option, Some, None, slice_get, option_map, arith}
use Rattle.std.proofs.lemmas.Bool.{ltb-true, ltb-false}
use Rattle.std.proofs.lemmas.List.{map_push}
use Rattle.std.proofs.lemmas.Option.{slice_get_past}
use Rattle.jh_name.specs.declared.naming.Name.{Name}
use Rattle.jh_ast.specs.Programs.{ProgramTree}
use Rattle.jh_rules.specs.Names.{◌then◌}
use Rattle.jh_arena.specs.table.Entries.{Listing}
use Rattle.jh_arena.specs.table.Growth.{Grows, Extends}
use Rattle.jh_arena.proofs.table.Listed.{extends-refl, extends-trans}
use Rattle.jh_symbols.specs.member_numbers.Numbering.{number_in}
use Rattle.jh_vars.specs.Written.{Callee}
use Rattle.jh_semantics.specs.Code as c
use Rattle.jh_semantics.specs.Program.{Program, Method}
use Rattle.jh_semantics.specs.declared.typed_code.stmts.Local.{Local}
use Rattle.jh_semantics.specs.declared.typed_code.stmts.MethodCode.{MethodCode}
use Rattle.jh_semantics.specs.typed_code.Statements.{local_in, method_in, codes_in}
use Rattle.jh_operands.specs.Exprs.{IsPlain, text_at}
use Rattle.jh_machine_code.specs.declared.code.body.Body.{Body}
use Rattle.jh_machine_code.specs.declared.code.step.Step.{Step}
use Rattle.jh_machine_code.specs.code.Steps.{AreSteps, AreParams, MethodIs, AreBodies}
use Rattle.jh_machine_code.specs.numbering.Numbered.{IsText}
use Rattle.jh_machine_code.proofs.numbering.Standing.{grows_same, grows_twice}
use Rattle.jh_machine_code.specs.entry_state.Now.{steps_now, NothingRecalled}
use Rattle.jh_machine_compiler.specs.declared.source.Source.{Source}
use Rattle.jh_machine_compiler.specs.Sources.{numbered_in, HasMethods}
use Rattle.jh_machine_compiler.specs.Lasting.{HasParams, MakesAll, MakesBody, MakesBodies}

-- parameters, one after another
param-more : (names : List Name) (ks : List ℕ) (ls : List c.Local) (k : ℕ) (l : c.Local) → AreParams names ks ls → l.text ≡ text_at names k → IsPlain names k → AreParams names (ks ++ k ∷ []) (ls ++ l ∷ [])
unfolding AreParams
param-more names [] ls k l are text plain = (l, [], text, plain, refl, ap (λ xs. xs ++ l ∷ []) are)
param-more names (j ∷ ks) ls k l (m, rest, same, named, are, whole) text plain = (m, rest ++ l ∷ [], same, named, param-more names ks rest k l are text plain, ap (λ xs. xs ++ l ∷ []) whole)

pub params_none : {names : List Name} → HasParams names [] []
unfolding AreParams
params_none = record { are = λ later more. refl }

pub params_more : {old new : List Name} {locals : List Local} {ks : List ℕ} {k : ℕ} → (l : Local) → HasParams old locals ks → Grows old new → IsText new l.name.text k → HasParams new (locals ++ l ∷ []) (ks ++ k ∷ [])
params_more {locals = locals} {ks = ks} {k = k} l params grows number = record {
  are = λ later more. subst (λ ls. AreParams later (ks ++ k ∷ []) ls) (sym (map_push local_in locals l)) (param-more later ks (map local_in locals) k (local_in l) (params.are later (grows_twice grows more)) (sym (number.same later more)) (number.fits later more));
}

pub params_still : {old new : List Name} {locals : List Local} {ks : List ℕ} → Grows old new → HasParams old locals ks → HasParams new locals ks
params_still grows params = record { are = λ later more. params.are later (grows_twice grows more) }

-- Steps that are made where the state at entry is kept are made where it is kept as far as they recall it.
all-kept : (numbered : Callee → Option ℕ) (keeps : Bool) (names : List Name) (t : Listing) (ss : c.Stmts) (xs : List Step) → NothingRecalled → MakesAll numbered true names t ss xs → (keeps ≡ false → steps_now t xs ≡ true) →
    (later : List Name) (u : Listing) → Grows names later → Extends t u → AreSteps later u numbered keeps xs ss
all-kept numbered true names t ss xs law all now later u more much = all.are later u more much
all-kept numbered false names t ss xs law all now later u more much = law later t u numbered xs ss much (now refl) (all.are later u more much)

pub body_made : {numbered : Callee → Option ℕ} {names : List Name} {t : Listing} {ks : List ℕ} {xs : List Step} → (p : ProgramTree) (m : MethodCode) (keeps : Bool) → NothingRecalled → HasParams names m.params ks → MakesAll numbered true names t (codes_in p m.body) xs → (keeps ≡ false → steps_now t xs ≡ true) → MakesBody numbered names t (method_in p m) (record { params = ks; steps = xs; keeps_entry = keeps })
body_made {numbered} {names} {t} {ks} {xs} p m keeps law params steps now = record { is = λ later u more much. record { params = params.are later more; steps = all-kept numbered keeps names t (codes_in p m.body) xs law steps now later u more much } }

pub bodies-still : (numbered : Callee → Option ℕ) (old new : List Name) (t u : Listing) (ms : List Method) (xs : List Body) → Grows old new → Extends t u → MakesBodies numbered old t ms xs → MakesBodies numbered new u ms xs
unfolding MakesBodies
bodies-still numbered old new t u [] xs grows extends made = made
bodies-still numbered old new t u (m ∷ ms) [] grows extends made = made
bodies-still numbered old new t u (m ∷ ms) (x ∷ xs) grows extends (first, others) = (record { is = λ later v more much. first.is later v (grows_twice grows more) (extends-trans t u v extends much) }, bodies-still numbered old new t u ms xs grows extends others)

pub bodies-none : (numbered : Callee → Option ℕ) (names : List Name) (t : Listing) → MakesBodies numbered names t [] []
unfolding MakesBodies
bodies-none numbered names t = refl

pub bodies-more : (numbered : Callee → Option ℕ) (names : List Name) (t : Listing) (ms : List Method) (m : Method) (xs : List Body) (x : Body) → MakesBodies numbered names t ms xs → MakesBody numbered names t m x → MakesBodies numbered names t (ms ++ m ∷ []) (xs ++ x ∷ [])
unfolding MakesBodies
bodies-more numbered names t [] m xs x made last = subst (λ ys. MakesBodies numbered names t (m ∷ []) (ys ++ x ∷ [])) (sym made) (last, refl)
bodies-more numbered names t (n ∷ ms) m [] x made last = absurd made
bodies-more numbered names t (n ∷ ms) m (y ∷ xs) x (first, others) last = (first, bodies-more numbered names t ms m xs x others last)

-- the body at the number of a method
body-at : (p : ProgramTree) (numbered : Callee → Option ℕ) (names : List Name) (t : Listing) (ms : List MethodCode) (xs : List Body) (k : ℕ) → MakesBodies numbered names t (map (method_in p) ms) xs → k < length ms →
    (m : MethodCode) × (slice_get ms k ≡ Some m) × (x : Body) × (slice_get xs k ≡ Some x) × MakesBody numbered names t (method_in p m) x
unfolding MakesBodies
body-at p numbered names t [] xs k made lt = absurd (omega arith)
body-at p numbered names t (m ∷ ms) [] k made lt = absurd made
body-at p numbered names t (m ∷ ms) (x ∷ xs) zero (first, others) lt = (m, refl, x, refl, first)
body-at p numbered names t (m ∷ ms) (x ∷ xs) (suc k) (first, others) lt = body-at p numbered names t ms xs k others (omega arith)

nothing-at : {X : Type 0} (xs : List X) (k : ℕ) → nat_lt k (length xs) ≡ false → slice_get xs k ≡ None
nothing-at xs k no-more = slice_get_past xs k (ltb-false k (length xs) no-more)

module _ (p : ProgramTree) (names : List Name) (t : Listing) (numbered : Callee → Option ℕ) (methods : List MethodCode) (xs : List Body) (made : MakesBodies numbered names t (map (method_in p) methods) xs) (later : List Name) (u : Listing) (grows : Grows names later) (extends : Extends t u) where
  known : (k : ℕ) (below : Bool) → nat_lt k (length methods) ≡ below → MethodIs later u numbered xs (option_map (method_in p) (slice_get methods k)) (if below then Some k else None)
  unfolding MethodIs
  known k true e =
      let at = body-at p numbered names t methods xs k made (ltb-true k (length methods) e) in
      subst (λ o. MethodIs later u numbered xs (option_map (method_in p) o) (Some k)) (sym at.1) (k, at.2, refl, at.3, at.4.is later u grows extends)
  known k false e = subst (λ o. MethodIs later u numbered xs (option_map (method_in p) o) None) (sym (nothing-at methods k e)) refl

  named : (o : Option ℕ) → MethodIs later u numbered xs (option_map (method_in p) (o then λ k. slice_get methods k)) (o then λ k. (if nat_lt k (length methods) then Some k else None))
  unfolding MethodIs
  named None = refl
  named (Some k) = known k (nat_lt k (length methods)) refl

pub bodies-are : (p : ProgramTree) (s : Source) (q : Program) (names later : List Name) (t u : Listing) (xs : List Body) → HasMethods p s q → MakesBodies (numbered_in s) names t (map (method_in p) s.methods.now) xs → Grows names later → Extends t u → AreBodies later u (numbered_in s) xs q
unfolding numbered_in
bodies-are p s q names later t u xs has made grows extends m = subst (λ o. MethodIs later u (numbered_in s) xs o (numbered_in s m)) (sym (has m)) (named p names t (numbered_in s) s.methods.now xs made later u grows extends (number_in s.numbers.now m.class m.name))

pub ruleset body_steps = (grows_twice, extends-refl, extends-trans, params_none, params_more, params_still, body_made)
