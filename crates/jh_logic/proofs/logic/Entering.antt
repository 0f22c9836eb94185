-- Where the body of a method begins, the state is well formed and the parameters lie in their types. (A copy of what jh_semantics shows for
-- itself.)
use Rattle.std.proofs.Common.{◌≡◌, refl, sym, ap, subst, ℕ, ◌⊎◌, inl, inr, true, if◌then◌else◌, List, [], ◌∷◌, ◌++◌, Option, Some, codes, arith}
use Rattle.std.specs.List.{Contains}
use Rattle.std.proofs.lemmas.List.Elements.{Contains-append_left, Contains-append_right, Contains-append_cases}
use Rattle.jh_form.specs.Passing.{name_equal}
use Rattle.jh_form.specs.Meaning.{Datum, an_object}
use Rattle.jh_form.proofs.Names.{name_equal-same}
use Rattle.jh_rules.specs.declared.types.Ty.TheVariants as ty
use Rattle.jh_semantics.specs.Code.{Local}
use Rattle.jh_semantics.specs.Program.{Program, Method, class_at}
use Rattle.jh_semantics.specs.State.{State, named, this_name, stored}
use Rattle.jh_semantics.specs.Locals.{has_dot, without_locals, with_args, entered}
use Rattle.jh_semantics.specs.Typed.{Surroundings, IsType, NamesFit, MayDeclare, ParamsFit, MethodFits}
use Rattle.jh_semantics.specs.Laws.{Grew}
use Rattle.jh_semantics.proofs.Growth.{args-sets}
use Rattle.jh_semantics.proofs.Formed.{ObjectLies, Formed, names-formed}
use Rattle.jh_semantics.proofs.Typing.{ScopeLies, DatumLies}
use Rattle.jh_semantics.proofs.Storing.{split-off, stored-formed, stored-scope, dot-or-none}
use Rattle.jh_semantics.proofs.TypedCalls.{ThisLies, ArgsLie, plain-args, datum-grow, dotted}

none-in : {X : Type 0} (y : X) → Contains [] y → ⊥
none-in y i = omega (i.1, arith)

module _ (p : Program) (names : NamesFit p) where
  -- the parameters of a method, as its body begins
  abbrev pub entry_scope : Option ℕ → List Local → Surroundings
  entry_scope this params = record { this = this; params = params; locals = [] }

  -- each parameter was declared where some of those before it were
  pub params-fact : (this : Option ℕ) (before xs : List Local) → ParamsFit p this before xs → (y : Local) → Contains xs y →
      (b : List Local) × MayDeclare p (entry_scope this b) y × ((z : Local) → Contains before z → Contains b z)
  params-fact this before [] h y i = absurd (none-in y i)
  params-fact this before (x ∷ xs) h y i = here (split-off p names [] x xs y i) (λ j. params-fact this (before ++ (x ∷ [])) xs h.1 y j)
    where
      here : (y ≡ x) ⊎ Contains xs y → (Contains xs y → (b : List Local) × MayDeclare p (entry_scope this b) y × ((z : Local) → Contains (before ++ (x ∷ [])) z → Contains b z)) →
          (b : List Local) × MayDeclare p (entry_scope this b) y × ((z : Local) → Contains before z → Contains b z)
      here (inl e) f = (before, subst (λ (z : Local). MayDeclare p (entry_scope this before) z) (sym e) h.0, λ z j. j)
      here (inr j) f = ((f j).0, (f j).1, λ z k. (f j).2 z (Contains-append_left before (x ∷ []) z k))

  -- no two parameters have one text
  params-apart : (this : Option ℕ) (before : List Local) (x : Local) (xs : List Local) → ParamsFit p this before (x ∷ xs) → (y : Local) → Contains xs y → x.text ≡ y.text → ⊥
  params-apart this before x xs h y i e = apart (params-fact this (before ++ (x ∷ [])) xs h.1 y i)
    where
      apart : (b : List Local) × MayDeclare p (entry_scope this b) y × ((z : Local) → Contains (before ++ (x ∷ [])) z → Contains b z) → ⊥
      apart f = (f.1).is_new x (Contains-append_left f.0 [] x (f.2 x (Contains-append_right before (x ∷ []) x (0, omega arith, refl)))) e

  in-params : (xs : List Local) (y : Local) → Contains (xs ++ []) y → Contains xs y
  in-params xs y h = cases (Contains-append_cases xs [] y h)
    where
      cases : Contains xs y ⊎ Contains [] y → Contains xs y
      cases (inl i) = i
      cases (inr i) = absurd (none-in y i)

  module _ (n : ℕ) where
    -- the state in which the body of a method begins
    args-grow : (xs : List Local) (s u : State) (ds : List Datum) → ((y : Local) → Contains xs y → IsType p y.type) → Grew s u → ArgsLie p names n xs s ds → ArgsLie p names n xs u ds
    args-grow [] s u [] types g h = tt
    args-grow (x ∷ xs) s u (d ∷ ds) types g h = (datum-grow p names n x.type s u d (types x (0, omega arith, refl)) g h.0, args-grow xs s u ds (λ y i. types y (Contains-append_right (x ∷ []) xs y i)) g h.1)
    args-grow [] s u (d ∷ ds) types g h = absurd h
    args-grow (x ∷ xs) s u [] types g h = absurd h

    args-good : (this : Option ℕ) (before xs : List Local) (ds : List Datum) (s : State) → ParamsFit p this before xs → ArgsLie p names n xs s ds → Formed p s →
        ((k : ℕ) → this ≡ Some k → s.set (named (class_at p.classes k)) (s.object this_name) ≡ true) → Formed p (with_args xs ds s) × ScopeLies p names (entry_scope this xs) (with_args xs ds s)
    args-good this before [] [] s h l f g = (f, record { locals = λ y i. absurd (none-in y (in-params [] y i)); this = g })
    args-good this before [] (d ∷ ds) s h l f g = absurd l
    args-good this before (x ∷ xs) [] s h l f g = absurd l
    args-good this before (x ∷ xs) (d ∷ ds) s h l f g = one-more (args-good this (before ++ (x ∷ [])) xs ds s h.1 l.1 f g)
      where
        one-more : Formed p (with_args xs ds s) × ScopeLies p names (entry_scope this xs) (with_args xs ds s) → Formed p (with_args (x ∷ xs) (d ∷ ds) s) × ScopeLies p names (entry_scope this (x ∷ xs)) (with_args (x ∷ xs) (d ∷ ds) s)
        one-more ih =
            let w : State = with_args xs ds s in
            let may : MayDeclare p (entry_scope this before) x = h.0 in
            let fits : DatumLies p names x.type w d = datum-grow p names n x.type s w d may.type_fits (args-sets xs ds s (plain-args p names n xs s ds l.1)) l.0 in (
              stored-formed p names w x.text d x.type fits ih.0 (λ y t i m e q. dot-or-none p names y.text x.text (names.dots y i) may.no_state q),
              stored-scope p names (entry_scope this (x ∷ xs)) w x.text d x.type fits
                  (λ y i. type-of y (split-off p names [] x (xs ++ []) y i)) (λ y i q. old y q (split-off p names [] x (xs ++ []) y i)) (λ k e. (ih.1).this k e) (λ q. may.not_this (sym q)) (λ y i q. same y q (split-off p names [] x (xs ++ []) y i)),
            )
          where
            type-of : (y : Local) → (y ≡ x) ⊎ Contains (xs ++ []) y → IsType p y.type
            type-of y (inl e) = subst (λ (z : Local). IsType p z.type) (sym e) (h.0).type_fits
            type-of y (inr i) = (params-fact this (before ++ (x ∷ [])) xs h.1 y (in-params xs y i)).1.type_fits

            old : (y : Local) → (y.text ≡ x.text → ⊥) → (y ≡ x) ⊎ Contains (xs ++ []) y → ObjectLies p y.type (with_args xs ds s) ((with_args xs ds s).object (named y.text))
            old y q (inl e) = absurd (q (ap (λ (z : Local). z.text) e))
            old y q (inr i) = (ih.1).locals y i

            same : (y : Local) → y.text ≡ x.text → (y ≡ x) ⊎ Contains (xs ++ []) y → y.type ≡ x.type
            same y q (inl e) = ap (λ (z : Local). z.type) e
            same y q (inr i) = absurd (params-apart this before x xs h y (in-params xs y i) (sym q))

    pub entry-good : (m : Method) → MethodFits p m → (this : ℕ) (args : List Datum) (s : State) → Formed p s → ThisLies p names n m.this s this → ArgsLie p names n m.params s args →
        Formed p (entered m this args s) × ScopeLies p names (entry_scope m.this m.params) (entered m this args s)
    entry-good m fit this args s f h l =
        let bare : State = without_locals s in
        let begun : State = stored bare (codes "this") (an_object this) in
        let bare-formed : Formed p bare = names-formed p names s (λ x. if has_dot x.text then s.object x else 0) bare.number bare.truth f (λ x t i g e.
        subst (λ (v : ℕ). ObjectLies p t s v) (sym (dotted p names n (has_dot x.text) (s.object (named x.text)) 0 (names.dots x i))) (f.statics x t i g e)) in
        let begun-formed : Formed p begun = stored-formed p names bare (codes "this") (an_object this) ty.Int tt bare-formed (λ y t i g e q. dot-or-none p names y.text (codes "this") (names.dots y i) refl q) in
        args-good m.this [] m.params args begun fit.params
        (args-grow m.params s begun args (λ y i. (params-fact m.this [] m.params fit.params y i).1.type_fits) (λ z k b g. g) l) begun-formed
        (λ k e. subst (λ (v : ℕ). s.set (named (class_at p.classes k)) v ≡ true) (sym (dotted p names n (name_equal this_name this_name) this (bare.object this_name) (name_equal-same this_name this_name refl)))
        (subst (λ (o : Option ℕ). ThisLies p names n o s this) e h))
