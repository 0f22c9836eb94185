-- Where each definition reads only those before it, what it means no longer changes once definitions are followed
-- often enough.
use Rattle.std.proofs.Common.{◌≡◌, refl, sym, ap, subst, ◌∙◌, ℕ, zero, suc, ◌<◌, List, [], ◌∷◌, slice_get, Some, arith}
use Rattle.std.specs.Option.{option_map_or}
use Rattle.jh_boxed.specs.jh_form.Tree.{ValueTree, of_object, null}
use Rattle.jh_ast.specs.Programs.{ProgramTree, DefPart}
use Rattle.jh_rules.specs.Names.{declared_in, def_of}
use Rattle.jh_vars.specs.States.{State, Variable, variable_of, class_text}
use Rattle.jh_vars.specs.Resolved.{Spot, resolved}
use Rattle.jh_vars.specs.Opened.{outside, is_of_objects, meant}
use Rattle.jh_vars.specs.Reading.{reads}
use Rattle.jh_vars.specs.Following.{AreBefore, Follows}
use Rattle.jh_vars.proofs.Agreeing.{Agree, agrees}

module _ (p : ProgramTree) where
  -- the place of what defines a variable: its `this` is loose where there is one for each object
  abbrev pub spot_for : Variable → Spot
  spot_for x = outside x.class (is_of_objects p x.class x.name)

  value-of-def : (k : ℕ → List ℕ → ValueTree) (x : Variable) (d : DefPart) → def_of p x.class x.name ≡ Some d →
      option_map_or (λ (e : DefPart). resolved (declared_in p) (class_text p) k e.spec.form (spot_for x)) (def_of p x.class x.name) (of_object null) ≡ resolved (declared_in p) (class_text p) k d.spec.form (spot_for x)
  value-of-def k x d e = ap (λ o. option_map_or (λ (e : DefPart). resolved (declared_in p) (class_text p) k e.spec.form (spot_for x)) o (of_object null)) e

  module _ (order : List Variable) (follows : Follows p order) where
    abbrev Same : (ℕ → List ℕ → ValueTree) → (ℕ → List ℕ → ValueTree) → ℕ → Type 0
    Same m n k = (j : ℕ) (y : Variable) → j < k → slice_get order j ≡ Some y → m y.class y.name ≡ n y.class y.name

    -- meanings that agree on the variables before a place agree on what is read there
    pub agree-before : (m n : ℕ → List ℕ → ValueTree) (k : ℕ) (ys : List State) → Same m n k → AreBefore p order k ys → Agree p (class_text p) m n ys
    agree-before m n k [] s b = tt
    agree-before m n k (y ∷ ys) s b = (λ h. let q = b.0 h in s q.0 (variable_of y) q.1 q.2, agree-before m n k ys s b.1)

    steady-below : (top k : ℕ) → k < top → (a b : ℕ) (x : Variable) → k < a → k < b → slice_get order k ≡ Some x → meant p a x.class x.name ≡ meant p b x.class x.name
    unfolding meant
    steady-below zero k lt a b x p q e = absurd (omega arith)
    steady-below (suc top) k lt zero b x p q e = absurd (omega arith)
    steady-below (suc top) k lt (suc a) zero x p q e = absurd (omega arith)
    steady-below (suc top) k lt (suc a) (suc b) x g h e =
        let w = follows k x e in
        let d = w.0 in
        let same : Same (meant p a) (meant p b) k = λ j y l f. steady-below top j (omega arith) a b y (omega arith) (omega arith) f in
        value-of-def (meant p a) x d w.1
        ∙ agrees p (class_text p) (meant p a) (meant p b) d.spec.form (spot_for x) (λ z. refl) (agree-before (meant p a) (meant p b) k (reads (declared_in p) d.spec.form x.class []) same w.2)
        ∙ sym (value-of-def (meant p b) x d w.1)

    -- a variable at a place means one thing, wherever definitions are followed more often than there are places before it
    pub steady : (k a b : ℕ) (x : Variable) → k < a → k < b → slice_get order k ≡ Some x → meant p a x.class x.name ≡ meant p b x.class x.name
    steady k a b x g h e = steady-below (suc k) k (omega arith) a b x g h e

    -- what a definition resolves to under meanings that are right for those before it
    pub opened-next : (m : ℕ → List ℕ → ValueTree) (k top : ℕ) (x : Variable) (d : DefPart) → k < top → slice_get order k ≡ Some x → def_of p x.class x.name ≡ Some d → Same m (meant p top) k →
        resolved (declared_in p) (class_text p) m d.spec.form (spot_for x) ≡ meant p top x.class x.name
    unfolding meant
    opened-next m k zero x d lt e f s = absurd (omega arith)
    opened-next m k (suc top) x d lt e f s =
        let w = follows k x e in
        let same : d ≡ w.0 = some-is d w.0 (sym f ∙ w.1) in
        let here : Same m (meant p top) k = λ j y l g. s j y l g ∙ steady j (suc top) top y (omega arith) (omega arith) g in
        agrees p (class_text p) m (meant p top) d.spec.form (spot_for x) (λ z. refl) (agree-before m (meant p top) k (reads (declared_in p) d.spec.form x.class []) here (subst (λ (c : DefPart). AreBefore p order k (reads (declared_in p) c.spec.form x.class [])) (sym same) w.2))
        ∙ sym (value-of-def (meant p top) x d f)
      where
        some-is : (c d : DefPart) → Some c ≡ Some d → c ≡ d
        some-is c d e = cc
