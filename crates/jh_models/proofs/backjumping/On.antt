-- How a search goes on.
use Rattle.std.proofs.Common.{◌≡◌, refl, sym, ap, ◌∙◌, subst, Bool, true, false, List, [], ◌∷◌, ◌++◌, append-nil, ◌⊎◌, inl, inr}
use Rattle.std.proofs.lemmas.Bool.{true≢false}
use Rattle.jh_form.specs.Tree.{FormulaTree}
use Rattle.jh_closure.specs.structures.Literals.{LiteralTree, IsListed}
use Rattle.jh_models.specs.ground_models.Atoms.{literal, opposite, IsGroundAtom}
use Rattle.jh_models.specs.ground_models.Clashes.{Clash, DecidesAtom, given, IsOpen}
use Rattle.jh_models.specs.ground_models.Explanations.{GoesOn, IsExplanation}
use Rattle.jh_models.specs.ground_models.Branches.{ClosedTree, Each, AtLeastOne, EachTwo, Goes, Part, IsNeeded}
use Rattle.jh_models.specs.ground_models.Laws.{ExplainedIsClosed}
use Rattle.jh_models.specs.backjumping.Paths.{Turn, decisions, NoModel, NeededIn, IsTurn, IsPath, Parts, BeginsWith, AreClosed, IsSearch, IsClosing, first_side, closed_by, AreNeeds}
use Rattle.jh_models.proofs.backjumping.Lists.{each-map, each-end, each-two, two-end, one-end, each-listed, listed-end, own-opposite, twice}
use Rattle.jh_models.proofs.backjumping.Paths.{Found, Everywhere, found, begins-goes, begins-before, goes-begins, goes-one, parts-apart, parts-at, needed-more, needed-in-more}

module _ (is : List FormulaTree) where
  -- at the beginning
  pub begun : IsSearch is [] []
  begun = record {
    closed = record { explained = tt; on_atoms = tt; once = tt; part = tt; open_before = tt; undecided = tt; needed = tt };
    path_so_far = tt;
    parts = tt;
  }

  -- what is decided is so after propagation
  decided-by : (ds : List LiteralTree) (k : LiteralTree) (p : Bool) → k.holds ≡ p → IsListed ds k → DecidesAtom is ds k.atom
  decided-by ds k true e h = inl (given (literal k.atom true) (subst (λ q. IsListed ds (literal k.atom q)) e h))
  decided-by ds k false e h = inr (given (literal k.atom false) (subst (λ q. IsListed ds (literal k.atom q)) e h))

  module _ (bs : List ClosedTree) (path : List Turn) (l : LiteralTree) (h : IsSearch is bs path) (at : IsGroundAtom is l.atom) (undecided : DecidesAtom is (decisions path) l.atom → ⊥) where
    new-atom : (k : LiteralTree) → IsListed (decisions path) k → k.atom ≡ l.atom → ⊥
    new-atom k g e = undecided (subst (DecidesAtom is (decisions path)) e (decided-by (decisions path) k k.holds refl g))

    pub decided : IsOpen is (decisions path) → IsSearch is bs (first_side l ∷ path)
    decided opened = record {
      closed = h.closed;
      path_so_far = (
        record {
          on_atom = at;
          once = each-listed (λ k. k.atom ≡ l.atom → ⊥) (decisions path) new-atom;
          open_before = opened;
          undecided = undecided;
          first = λ e. each-map (Parts path) (λ b. Goes b (decisions path) (opposite l) → ⊥) (λ b g f. parts-apart path b g (goes-begins path b (opposite l) f)) bs h.parts;
          needed = λ e. absurd (true≢false (sym e));
          refuted = λ e. absurd (true≢false (sym e));
          places = λ e. absurd (true≢false (sym e));
        },
        h.path_so_far,
      );
      parts = each-map (Parts path) (Parts (first_side l ∷ path)) (λ b g. inr g) bs h.parts;
    }

  -- what an explanation closes has no model
  module _ (ds needs : List LiteralTree) where
    explained-by : (had ls : List LiteralTree) → ((l : LiteralTree) → IsListed ls l → IsListed ds l → IsListed needs l) → GoesOn is ds had ls → GoesOn is needs had ls
    explained-by had [] f h = h
    explained-by had (l ∷ ls) f h = (h.0, reason h.1, explained-by (had ++ (l ∷ [])) ls (λ k g. f k (inr g)) h.2)
      where
        reason : IsListed ds l ⊎ Clash is (opposite l ∷ had) → IsListed needs l ⊎ Clash is (opposite l ∷ had)
        reason (inl g) = inl (f l (inl refl) g)
        reason (inr g) = inr g

  -- a path is known at each of its decisions
  everywhere : (bs : List ClosedTree) (path : List Turn) → IsPath is bs path → Everywhere (IsTurn is bs) path
  everywhere bs [] h = tt
  everywhere bs (t ∷ before) h = (h.0, everywhere bs before h.1)

  module _ (bs : List ClosedTree) (path : List Turn) (known : IsPath is bs path) where
    at-atoms : (path : List Turn) → IsPath is bs path → Each (λ l. IsGroundAtom is l.atom) (decisions path)
    at-atoms [] h = tt
    at-atoms (t ∷ before) h = each-end (λ l. IsGroundAtom is l.atom) (decisions before) t.literal (at-atoms before h.1) h.0.on_atom

    at-once : (path : List Turn) → IsPath is bs path → EachTwo (λ k l. k.atom ≡ l.atom → ⊥) (decisions path)
    at-once [] h = tt
    at-once (t ∷ before) h = two-end (λ k l. k.atom ≡ l.atom → ⊥) (decisions before) t.literal (at-once before h.1) h.0.once

    at-open : (ds : List LiteralTree) (l : LiteralTree) (rest : List LiteralTree) → decisions path ≡ ds ++ (l ∷ rest) → IsOpen is ds
    at-open ds l rest e = let there = found (IsTurn is bs) path (everywhere bs path known) ds rest l e in subst (IsOpen is) there.decided there.known.open_before

    at-undecided : (ds : List LiteralTree) (l : LiteralTree) (rest : List LiteralTree) → decisions path ≡ ds ++ (l ∷ rest) → DecidesAtom is ds l.atom → ⊥
    at-undecided ds l rest e =
        let there = found (IsTurn is bs) path (everywhere bs path known) ds rest l e in
        subst (λ z. DecidesAtom is z l.atom → ⊥) there.decided (subst (λ (z : LiteralTree). DecidesAtom is (decisions there.before) z.atom → ⊥) there.literal there.known.undecided)

    -- where a branch went the other way, that was needed
    at-needed : (b : ClosedTree) → AtLeastOne (λ c. c ≡ b) bs → (ds : List LiteralTree) (l : LiteralTree) (rest : List LiteralTree) → Goes b ds l → decisions path ≡ ds ++ (opposite l ∷ rest) → IsNeeded bs ds l
    at-needed b among ds l rest g e =
        let there = found (IsTurn is bs) path (everywhere bs path known) ds rest (opposite l) e in
        sided there there.turn.is_second refl
      where
        turned : (there : Found (IsTurn is bs) ds (opposite l)) → opposite there.turn.literal ≡ l
        turned there = ap opposite there.literal ∙ twice l

        sided : (there : Found (IsTurn is bs) ds (opposite l)) (p : Bool) → there.turn.is_second ≡ p → IsNeeded bs ds l
        sided there true e = subst (λ z. IsNeeded bs z l) there.decided (subst (IsNeeded bs (decisions there.before)) (turned there) (there.known.needed e))
        sided there false e = absurd (never bs among (there.known.first e))
          where
            never : (cs : List ClosedTree) → AtLeastOne (λ c. c ≡ b) cs → Each (λ c. Goes c (decisions there.before) (opposite there.turn.literal) → ⊥) cs → ⊥
            never [] h k = absurd h
            never (c ∷ cs) (inl f) k = k.0 (subst (λ (z : ClosedTree). Goes z (decisions there.before) (opposite there.turn.literal)) (sym f) (subst (λ z. Goes b z (opposite there.turn.literal)) (sym there.decided) (subst (Goes b ds) (sym (turned there)) g)))
            never (c ∷ cs) (inr h) k = never cs h k.1

-- what is so of each that stands in a list
each-of : {X : Type 0} (P : X → Type 0) (xs : List X) → ((x : X) → AtLeastOne (λ y. y ≡ x) xs → P x) → Each P xs
each-of P [] f = tt
each-of P (x ∷ xs) f = (f x (inl refl), each-of P xs (λ y h. f y (inr h)))

-- A path that is explained is one more closed branch.
module _ (is : List FormulaTree) (law : ExplainedIsClosed) (bs : List ClosedTree) (path : List Turn) (explanation needs : List LiteralTree) (h : IsSearch is bs path) (explained : IsExplanation is (decisions path) explanation) (are : AreNeeds path explanation needs) where
  abbrev c : ClosedTree
  c = closed_by path explanation

  abbrev more : List ClosedTree
  more = bs ++ (c ∷ [])

  begins-whole : BeginsWith path c
  begins-whole = ([], sym (append-nil (decisions path)))

  part-with : (b : ClosedTree) → Parts path b → Part b c
  part-with b g =
      let at = parts-at path b g in
      (decisions at.before, opposite at.turn.literal, at.goes, (at.rest, at.stands ∙ ap (λ (z : LiteralTree). decisions at.before ++ (z ∷ at.rest)) (sym (twice at.turn.literal))))

  abbrev Turned : List ClosedTree → ClosedTree → ClosedTree → Type 0
  Turned cs b d = (before : List LiteralTree) (l : LiteralTree) → Goes b before l → Goes d before (opposite l) → IsNeeded cs before l

  turned-more : (b d : ClosedTree) → Turned bs b d → Turned more b d
  turned-more b d f before l g e = needed-more bs c before l (f before l g e)

  turned-last : (b : ClosedTree) → AtLeastOne (λ (d : ClosedTree). d ≡ b) bs → Turned more b c
  turned-last b among before l g e = needed-more bs c before l (at-needed is bs path h.path_so_far b among before l e.0 g e.1)

  closed-more : AreClosed is more
  closed-more = record {
    explained = each-end (λ (b : ClosedTree). IsExplanation is b.decisions b.explanation) bs c h.closed.explained explained;
    on_atoms = each-end (λ (b : ClosedTree). Each (λ (l : LiteralTree). IsGroundAtom is l.atom) b.decisions) bs c h.closed.on_atoms (at-atoms is bs path h.path_so_far path h.path_so_far);
    once = each-end (λ (b : ClosedTree). EachTwo (λ (k l : LiteralTree). k.atom ≡ l.atom → ⊥) b.decisions) bs c h.closed.once (at-once is bs path h.path_so_far path h.path_so_far);
    part = two-end Part bs c h.closed.part (each-map (Parts path) (λ (b : ClosedTree). Part b c) part-with bs h.parts);
    open_before = each-end (λ (b : ClosedTree). (before : List LiteralTree) (l : LiteralTree) → b.decisions ≡ before ++ (l ∷ []) → IsOpen is before) bs c h.closed.open_before (λ before l e. at-open is bs path h.path_so_far before l [] e);
    undecided = each-end (λ (b : ClosedTree). (before : List LiteralTree) (l : LiteralTree) → Goes b before l → DecidesAtom is before l.atom → ⊥) bs c h.closed.undecided (λ before l g. at-undecided is bs path h.path_so_far before l g.0 g.1);
    needed = two-end (Turned more) bs c (each-two (Turned bs) (Turned more) turned-more bs h.closed.needed) (each-of (λ (b : ClosedTree). Turned more b c) bs turned-last);
  }

  path-more : (p : List Turn) → IsPath is bs p → BeginsWith p c → IsPath is more p
  path-more [] k g = tt
  path-more (t ∷ before) k g = (
    record {
      on_atom = k.0.on_atom;
      once = k.0.once;
      open_before = k.0.open_before;
      undecided = k.0.undecided;
      first = λ e. each-end (λ (b : ClosedTree). Goes b (decisions before) (opposite t.literal) → ⊥) bs c (k.0.first e) (λ f. own-opposite t.literal (goes-one c (decisions before) t.literal (opposite t.literal) (begins-goes t before c g) f));
      needed = λ e. needed-more bs c (decisions before) (opposite t.literal) (k.0.needed e);
      refuted = k.0.refuted;
      places = λ e l f. needed-in-more bs c before l (k.0.places e l f);
    },
    path-more before k.1 (begins-before t before c g),
  )

  place-of : (l : LiteralTree) → IsListed explanation l → (p : List Turn) → BeginsWith p c → IsListed (decisions p) l → NeededIn more p l
  place-of l there [] g k = absurd k
  place-of l there (t ∷ before) g k = chosen (λ f. place-of l there before (begins-before t before c g) f) (listed-end (decisions before) t.literal l k)
    where
      chosen : (IsListed (decisions before) l → NeededIn more before l) → IsListed (decisions before) l ⊎ (t.literal ≡ l) → NeededIn more (t ∷ before) l
      chosen earlier (inl f) = inr (earlier f)
      chosen earlier (inr e) = inl (e, one-end (λ (b : ClosedTree). Goes b (decisions before) l × IsListed b.explanation l) bs c (subst (Goes c (decisions before)) e (begins-goes t before c g), there))

  no-model : NoModel is needs
  no-model m model held = law is needs explanation (explained-by is (decisions path) needs [] explanation are.all explained.closes) m model held

  pub closed : IsClosing is more path needs
  closed = record {
    closed = closed-more;
    path_so_far = path-more path h.path_so_far begins-whole;
    parts = each-end (λ (b : ClosedTree). Parts path b ⊎ BeginsWith path b) bs c (each-map (Parts path) (λ (b : ClosedTree). Parts path b ⊎ BeginsWith path b) (λ b g. inl g) bs h.parts) (inr begins-whole);
    refuted = no-model;
    places = λ l g. let f = are.only l g in place-of l f.0 path begins-whole f.1;
  }
