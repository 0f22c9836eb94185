-- How what is closed goes back along the path.
use Rattle.std.proofs.Common.{◌≡◌, refl, sym, ◌∙◌, subst, ℕ, Bool, true, false, not, List, [], ◌∷◌, length, ◌⊎◌, inl, inr}
use Rattle.std.proofs.lemmas.Bool.{true≢false}
use Rattle.jh_form.specs.Tree.{FormulaTree}
use Rattle.jh_closure.specs.structures.Literals.{LiteralTree, IsListed}
use Rattle.jh_models.specs.ground_models.Atoms.{literal, opposite}
use Rattle.jh_models.specs.ground_models.GroundModel.{IsGroundModel, IsDecided}
use Rattle.jh_models.specs.ground_models.Branches.{ClosedTree, Each, Goes, IsNeeded}
use Rattle.jh_models.specs.ground_models.Budget.{IsSpent}
use Rattle.jh_models.specs.backjumping.Paths.{Turn, decisions, NoModel, NeededIn, Parts, BeginsWith, IsSearch, IsClosing, AreJoined, second_side}
use Rattle.jh_models.proofs.backjumping.Lists.{each-map, all-listed, listed-all, listed-each, twice}
use Rattle.jh_models.proofs.backjumping.Paths.{begins-goes, begins-before, goes-begins, needed-listed}

module _ (is : List FormulaTree) (bs : List ClosedTree) (t : Turn) (before : List Turn) (needs : List LiteralTree) (h : IsClosing is bs (t ∷ before) needs) where
  -- a branch that goes one way or the other at the last decision begins with those before it
  part-before : (b : ClosedTree) → Parts (t ∷ before) b ⊎ BeginsWith (t ∷ before) b → Parts before b ⊎ BeginsWith before b
  part-before b (inl (inl g)) = inr (goes-begins before b (opposite t.literal) g.1)
  part-before b (inl (inr g)) = inl g
  part-before b (inr g) = inr (begins-before t before b g)

  parts-before : Each (λ (b : ClosedTree). Parts before b ⊎ BeginsWith before b) bs
  parts-before = each-map (λ (b : ClosedTree). Parts (t ∷ before) b ⊎ BeginsWith (t ∷ before) b) (λ (b : ClosedTree). Parts before b ⊎ BeginsWith before b) part-before bs h.parts

  -- what is needed and isn't the last decision is needed before it
  place-before : (l : LiteralTree) → IsListed needs l → (t.literal ≡ l → ⊥) → NeededIn bs before l
  place-before l g other = chosen (h.places l g)
    where
      chosen : ((t.literal ≡ l) × IsNeeded bs (decisions before) l) ⊎ NeededIn bs before l → NeededIn bs before l
      chosen (inl f) = absurd (other f.0)
      chosen (inr f) = f

  pub dropped : (IsListed needs t.literal → ⊥) → IsClosing is bs before needs
  dropped never = record {
    closed = h.closed;
    path_so_far = h.path_so_far.1;
    parts = parts-before;
    refuted = h.refuted;
    places = λ l g. place-before l g (λ e. never (subst (IsListed needs) (sym e) g));
  }

  -- A model decides the atom of the decision: either side has none.
  either-side : (m : List LiteralTree) (l : LiteralTree) (p : Bool) → l.holds ≡ p → IsDecided m l.atom → IsListed m l ⊎ IsListed m (opposite l)
  either-side m l true e (inl g) = inl (subst (λ q. IsListed m (literal l.atom q)) (sym e) g)
  either-side m l true e (inr g) = inr (subst (λ q. IsListed m (literal l.atom (not q))) (sym e) g)
  either-side m l false e (inl g) = inr (subst (λ q. IsListed m (literal l.atom (not q))) (sym e) g)
  either-side m l false e (inr g) = inl (subst (λ q. IsListed m (literal l.atom q)) (sym e) g)

  pub joined : (all : List LiteralTree) → t.is_second ≡ true → AreJoined needs t.literal t.needs all → IsClosing is bs before all
  joined all second are = record {
    closed = h.closed;
    path_so_far = h.path_so_far.1;
    parts = parts-before;
    refuted = none;
    places = λ l g. chosen l (are.only l g);
  }
    where
      chosen : (l : LiteralTree) → (IsListed needs l × (t.literal ≡ l → ⊥)) ⊎ IsListed t.needs l → NeededIn bs before l
      chosen l (inl g) = place-before l g.0 g.1
      chosen l (inr g) = h.path_so_far.0.places second l g

      none : NoModel is all
      none m model held = sides (either-side m t.literal t.literal.holds refl (model.decides t.literal.atom h.path_so_far.0.on_atom))
        where
          first : IsListed m t.literal → (k : LiteralTree) → IsListed needs k → IsListed m k
          first g k f = one (are.first k f)
            where
              one : (t.literal ≡ k) ⊎ IsListed all k → IsListed m k
              one (inl e) = subst (IsListed m) e g
              one (inr e) = listed-all m all held k e

          sides : IsListed m t.literal ⊎ IsListed m (opposite t.literal) → ⊥
          sides (inl g) = h.refuted m model (all-listed m needs (first g))
          sides (inr g) = h.path_so_far.0.refuted second m model (g, all-listed m t.needs (λ k f. listed-all m all held k (are.second k f)))

  -- a first side that is needed is needed after the decisions before it
  needed-here : IsListed needs t.literal → IsNeeded bs (decisions before) t.literal
  needed-here g = chosen (h.places t.literal g)
    where
      chosen : ((t.literal ≡ t.literal) × IsNeeded bs (decisions before) t.literal) ⊎ NeededIn bs before t.literal → IsNeeded bs (decisions before) t.literal
      chosen (inl f) = f.1
      chosen (inr f) = absurd (listed-each (λ (k : LiteralTree). k.atom ≡ t.literal.atom → ⊥) (decisions before) h.path_so_far.0.once t.literal (needed-listed bs before t.literal f) refl)

  module _ (here : IsListed needs t.literal) (first : t.is_second ≡ false) where
    module _ (rest : List LiteralTree) (are : AreJoined needs t.literal [] rest) where
      abbrev turn : Turn
      turn = second_side (opposite t.literal) rest

      left : (l : LiteralTree) → IsListed rest l → IsListed needs l × (t.literal ≡ l → ⊥)
      left l g = chosen (are.only l g)
        where
          chosen : (IsListed needs l × (t.literal ≡ l → ⊥)) ⊎ IsListed [] l → IsListed needs l × (t.literal ≡ l → ⊥)
          chosen (inl f) = f
          chosen (inr f) = absurd f

      refuted-here : NoModel is (opposite (opposite t.literal) ∷ rest)
      refuted-here m model held = h.refuted m model (all-listed m needs needed)
        where
          needed : (k : LiteralTree) → IsListed needs k → IsListed m k
          needed k f = one (are.first k f)
            where
              one : (t.literal ≡ k) ⊎ IsListed rest k → IsListed m k
              one (inl e) = subst (IsListed m) (twice t.literal ∙ e) held.0
              one (inr e) = listed-all m rest held.1 k e

      part-turned : (b : ClosedTree) → Parts (t ∷ before) b ⊎ BeginsWith (t ∷ before) b → Parts (turn ∷ before) b
      part-turned b (inl (inl g)) = absurd (true≢false (sym g.0 ∙ first))
      part-turned b (inl (inr g)) = inr g
      part-turned b (inr g) = inl (refl, subst (Goes b (decisions before)) (sym (twice t.literal)) (begins-goes t before b g))

      pub turned : IsSearch is bs (turn ∷ before)
      turned = record {
        closed = h.closed;
        path_so_far = (
          record {
            on_atom = h.path_so_far.0.on_atom;
            once = h.path_so_far.0.once;
            open_before = h.path_so_far.0.open_before;
            undecided = h.path_so_far.0.undecided;
            first = λ e. absurd (true≢false e);
            needed = λ e. subst (IsNeeded bs (decisions before)) (sym (twice t.literal)) (needed-here here);
            refuted = λ e. refuted-here;
            places = λ e l g. let f = left l g in place-before l f.0 f.1;
          },
          h.path_so_far.1,
        );
        parts = each-map (λ (b : ClosedTree). Parts (t ∷ before) b ⊎ BeginsWith (t ∷ before) b) (Parts (turn ∷ before)) part-turned bs h.parts;
      }

    pub spent : (leaves : ℕ) → length bs ≡ leaves → IsSpent is leaves bs
    spent leaves many = record {
      many = many;
      explained = h.closed.explained;
      leaves_of_one = record {
        on_atoms = h.closed.on_atoms;
        once = h.closed.once;
        part = h.closed.part;
        open_before = h.closed.open_before;
        undecided = h.closed.undecided;
        needed = h.closed.needed;
        unfinished = (decisions before, t.literal, needed-here here, h.path_so_far.0.first first);
      };
    }

pub none-left : (is : List FormulaTree) (bs : List ClosedTree) (needs : List LiteralTree) → IsClosing is bs [] needs → (m : List LiteralTree) → IsGroundModel is m → ⊥
none-left is bs needs h m model = h.refuted m model (all-listed m needs (λ k g. absurd (h.places k g)))
