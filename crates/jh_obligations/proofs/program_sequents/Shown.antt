-- What the methods of a program owe, as a loop over them goes on.
use Rattle.std.proofs.Common.{◌≡◌, refl, sym, ap, subst, ◌∙◌, ℕ, zero, suc, ◌+◌, ◌≤◌, List, [], ◌∷◌, ◌++◌, map, drop, length, Some, None, slice_get, option_map, add-one}
use Rattle.std.proofs.lemmas.List.{append_assoc, append-nil, drop_all}
use Rattle.jh_name.specs.declared.place.MethodId.{MethodId}
use Rattle.jh_arena.specs.table.Entries.{Listing}
use Rattle.jh_arena.specs.table.Growth.{Extends}
use Rattle.jh_vars.specs.Written.{Callee}
use Rattle.jh_semantics.specs.Code.{Text}
use Rattle.jh_semantics.specs.Program.{Program, Method}
use Rattle.jh_semantics.specs.typed_code.Statements.{method_in}
use Rattle.jh_outline.specs.jh_guard.Writes.{Writes}
use Rattle.jh_seq.specs.splitting.Split.{split_of}
use Rattle.jh_obligations.specs.command_sequents.Owed.{IsFault}
use Rattle.jh_obligations.specs.declared.command_sequents.fault.GoalsFault.{GoalsFault}
use Rattle.jh_obligations.specs.declared.command_sequents.fault.GoalsFault.TheVariants as goals
use Rattle.jh_splitting.specs.Numbering.{IsFirst}
use Rattle.jh_splitting.specs.Standing.{AreSequents}
use Rattle.jh_splitting.specs.declared.splitting.Sequents.{Sequents}
use Rattle.jh_splitting.proofs.Grown.{sequents-stay}
use Rattle.jh_outline.proofs.of_jh_effects.written_state.Gathering.{some-is}
use Rattle.jh_outline.specs.jh_method_commands.declared.environment.outline.Callable.{Callable}
use Rattle.jh_outline.specs.jh_method_commands.declared.environment.outline.Outline.{Outline}
use Rattle.jh_outline.specs.jh_method_commands.environment.Outlines.{method_of, IsCallable, callee_of, program_in, source_of, writes_in}
use Rattle.jh_outline.proofs.of_jh_method_commands.environment.OutlineSteps.{program-method}
use Rattle.jh_obligations.specs.declared.program_sequents.fault.LogicError.{LogicError}
use Rattle.jh_obligations.specs.declared.program_sequents.fault.LogicError.TheVariants as fault
use Rattle.jh_obligations.specs.declared.program_sequents.owners.Owner.{Owner}
use Rattle.jh_obligations.specs.program_sequents.Faults.{fault_of}
use Rattle.jh_obligations.specs.program_sequents.Owed.{formula_of, Debt, AllStand, Stand, IsOwed, AreOwed, FirstMany, here, later, IsOwnWhy, IsWhy}
use Rattle.jh_obligations.specs.program_sequents.Owing.{Owing, owing, owing_in}

-- a method of an outline, by its number and its name
module _ (o : Outline) (x : Callable) (id : MethodId) (name : Text) (callee : callee_of x ≡ record { class = id.class; name = name }) (is : IsCallable o x) where
  abbrev code : Method
  code = method_in (source_of o) x.code.now

  abbrev w : Owing
  w = owing id.class id.method name

  code-is : (m : Callee) → callee_of x ≡ m → (program_in o).method m ≡ Some code
  code-is m e = ap (program_in o).method (sym e) ∙ program-method o (callee_of x) ∙ ap (option_map (method_in (source_of o))) is.code

  pub owes : (t : Listing) (made : Sequents) (k : ℕ) → IsFirst (formula_of (program_in o) (writes_in o) (callee_of x) code) k → AreSequents t made.hyps made.method made.sequents.items (split_of id (formula_of (program_in o) (writes_in o) (callee_of x) code) k) →
      ((j : ℕ) → length (split_of id (formula_of (program_in o) (writes_in o) (callee_of x) code) j) ≤ 2000) → made.method ≡ id → (d : Debt) × IsOwed (program_in o) (writes_in o) w d × Stand t made d
  owes t made k first are few of_method = (
    record { id = id; sequents = split_of id (formula_of (program_in o) (writes_in o) (callee_of x) code) k },
    record {
      id = refl;
      few = record {
        code = code;
        is = code-is w.callee callee;
        few = subst (λ (m : Callee). (j : ℕ) → length (split_of id (formula_of (program_in o) (writes_in o) m code) j) ≤ 2000) callee few;
      };
      sequents = record {
        first = k;
        is_first = subst (λ (m : Callee). IsFirst (formula_of (program_in o) (writes_in o) m code) k) callee first;
        are = ap (λ (m : Callee). split_of id (formula_of (program_in o) (writes_in o) m code) k) callee;
      };
    },
    (of_method, are),
  )

  pub owes-many : (f : GoalsFault) → IsFault (formula_of (program_in o) (writes_in o) (callee_of x) code) f → IsOwnWhy (program_in o) (writes_in o) w (fault_of id f)
  owes-many (goals.TooMany n) h =
      let k = subst (λ (m : Callee). IsFault (formula_of (program_in o) (writes_in o) m code) (goals.TooMany n)) callee h in
      (refl, record { code = code; is = code-is w.callee callee; many = k.0; exact = λ j. k.1 id j })
  owes-many goals.Memory h = tt

-- what is not in an outline is not in its program
pub none-there : (o : Outline) (m : Callee) → method_of o m ≡ None → (program_in o).method m ≡ None
none-there o m e = program-method o m ∙ ap (option_map (method_in (source_of o))) e

-- the first of the items that are left
drop-at : {X : Type 0} (xs : List X) (n : ℕ) (x : X) → slice_get xs n ≡ Some x → drop n xs ≡ x ∷ drop (suc n) xs
drop-at [] zero x e = cc
drop-at [] (suc n) x e = cc
drop-at (y ∷ xs) zero x e = ap (λ z. z ∷ xs) (some-is y x e)
drop-at (y ∷ xs) (suc n) x e = drop-at xs n x e

-- the sequents of one more method, in a table that has grown
stand-all : (t u : Listing) → Extends t u → (xs : List Sequents) (ds : List Debt) → AllStand t xs ds → AllStand u xs ds
stand-all t u g [] [] h = tt
stand-all t u g [] (d ∷ ds) h = absurd h
stand-all t u g (x ∷ xs) [] h = absurd h
stand-all t u g (x ∷ xs) (d ∷ ds) h = ((h.0.0, sequents-stay t u g x.hyps x.method x.sequents.items d.sequents h.0.1), stand-all t u g xs ds h.1)

stand-push : (u : Listing) (xs : List Sequents) (ds : List Debt) (x : Sequents) (d : Debt) → AllStand u xs ds → Stand u x d → AllStand u (xs ++ x ∷ []) (ds ++ d ∷ [])
stand-push u [] [] x d h k = (k, tt)
stand-push u [] (e ∷ ds) x d h k = absurd h
stand-push u (y ∷ xs) [] x d h k = absurd h
stand-push u (y ∷ xs) (e ∷ ds) x d h k = (h.0, stand-push u xs ds x d h.1 k)

pub stand-next : (t u : Listing) → Extends t u → (xs : List Sequents) (ds : List Debt) (x : Sequents) (d : Debt) → AllStand t xs ds → Stand u x d → AllStand u (xs ++ x ∷ []) (ds ++ d ∷ [])
stand-next t u g xs ds x d h k = stand-push u xs ds x d (stand-all t u g xs ds h) k

module _ (q : Program) (ws : Writes) (owners : List Owner) where
  abbrev left : ℕ → List Owing
  left n = map owing_in (drop n owners)

  abbrev all : List Owing
  all = map owing_in owners

  pub owed-next : (n : ℕ) (o : Owner) → slice_get owners n ≡ Some o → (ds : List Debt) (d : Debt) → IsOwed q ws (owing_in o) d →
      ((more : List Debt) → AreOwed q ws (left n) more → AreOwed q ws all (ds ++ more)) →
      (more : List Debt) → AreOwed q ws (left (n + 1)) more → AreOwed q ws all ((ds ++ d ∷ []) ++ more)
  owed-next n o at ds d h rest more k =
      subst (λ (us : List Debt). AreOwed q ws all us) (sym (append_assoc ds (d ∷ []) more))
      (rest (d ∷ more)
      (subst (λ (os : List Owner). AreOwed q ws (map owing_in os) (d ∷ more)) (sym (drop-at owners n o at))
      (h, subst (λ (j : ℕ). AreOwed q ws (left j) more) (add-one n) k)))

  pub owed-end : (n : ℕ) (ds : List Debt) → length owners ≤ n → ((more : List Debt) → AreOwed q ws (left n) more → AreOwed q ws all (ds ++ more)) → AreOwed q ws all ds
  owed-end n ds le rest =
      subst (λ (us : List Debt). AreOwed q ws all us) (append-nil ds)
      (rest [] (subst (λ (os : List Owner). AreOwed q ws (map owing_in os) []) (sym (drop_all n owners le)) tt))

  pub many-next : (n : ℕ) (o : Owner) → slice_get owners n ≡ Some o → (d : Debt) → IsOwed q ws (owing_in o) d →
      ((id : MethodId) (m : ℕ) → FirstMany q ws (left n) id m → FirstMany q ws all id m) →
      (id : MethodId) (m : ℕ) → FirstMany q ws (left (n + 1)) id m → FirstMany q ws all id m
  many-next n o at d h rest id m k =
      rest id m
      (subst (λ (os : List Owner). FirstMany q ws (map owing_in os) id m) (sym (drop-at owners n o at))
      (later (owing_in o) (left (suc n)) id m h.few (subst (λ (j : ℕ). FirstMany q ws (left j) id m) (add-one n) k)))

  pub many-here : (n : ℕ) (o : Owner) → slice_get owners n ≡ Some o → ((id : MethodId) (m : ℕ) → FirstMany q ws (left n) id m → FirstMany q ws all id m) → (e : LogicError) → IsOwnWhy q ws (owing_in o) e → IsWhy q ws all e
  many-here n o at rest e h = by e h
    where
      by : (e : LogicError) → IsOwnWhy q ws (owing_in o) e → IsWhy q ws all e
      by (fault.TooManySequents id m) h =
          rest id m
          (subst (λ (os : List Owner). FirstMany q ws (map owing_in os) id m) (sym (drop-at owners n o at))
          (subst (λ (i : MethodId). FirstMany q ws (owing_in o ∷ left (suc n)) i m) (sym h.0) (here (owing_in o) (left (suc n)) m h.1)))
      by fault.Memory h = tt
