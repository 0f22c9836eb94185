-- What is known of a path at each of its decisions, and of branches that begin with it or part from it.
use Rattle.std.proofs.Common.{◌≡◌, refl, sym, ap, ◌∙◌, List, [], ◌∷◌, ◌++◌, append_assoc, ◌⊎◌, inl, inr}
use Rattle.jh_closure.specs.structures.Literals.{LiteralTree, IsListed}
use Rattle.jh_models.specs.ground_models.Atoms.{opposite}
use Rattle.jh_models.specs.ground_models.Branches.{ClosedTree, Goes, IsNeeded}
use Rattle.jh_models.specs.backjumping.Paths.{Turn, decisions, NeededIn, Parts, BeginsWith}
use Rattle.jh_models.proofs.backjumping.Lists.{never-nothing, same-next, at-end, one-more, end-listed, listed-before, own-opposite}

-- the decision of a path that stands behind some of them, and what is known of it there
pub record Found (P : Turn → List Turn → Type 0) (ds : List LiteralTree) (l : LiteralTree) : Type 0 where
  pub turn : Turn
  pub before : List Turn
  pub decided : decisions before ≡ ds
  pub literal : turn.literal ≡ l
  pub known : P turn before

-- what is so at each decision of a path
abbrev pub Everywhere : (Turn → List Turn → Type 0) → List Turn → Type 0
Everywhere P [] = Unit {0}
Everywhere P (t ∷ before) = P t before × Everywhere P before

pub found : (P : Turn → List Turn → Type 0) (path : List Turn) → Everywhere P path → (ds rest : List LiteralTree) (l : LiteralTree) → decisions path ≡ ds ++ (l ∷ rest) → Found P ds l
found P [] h ds rest l e = absurd (never-nothing ds rest l e)
found P (t ∷ before) h ds rest l e = chosen (λ earlier f. found P before h.1 ds earlier l f) (at-end (decisions before) ds rest t.literal l e)
  where
    chosen : ((earlier : List LiteralTree) → decisions before ≡ ds ++ (l ∷ earlier) → Found P ds l) → ((decisions before ≡ ds) × (t.literal ≡ l)) ⊎ ((earlier : List LiteralTree) × (decisions before ≡ ds ++ (l ∷ earlier))) → Found P ds l
    chosen later (inl g) = record { turn = t; before = before; decided = g.0; literal = g.1; known = h.0 }
    chosen later (inr g) = later g.0 g.1

-- Branches that begin with a path
pub begins-goes : (t : Turn) (before : List Turn) (b : ClosedTree) → BeginsWith (t ∷ before) b → Goes b (decisions before) t.literal
begins-goes t before b h = (h.0, h.1 ∙ append_assoc (decisions before) (t.literal ∷ []) h.0)

pub goes-begins : (path : List Turn) (b : ClosedTree) (l : LiteralTree) → Goes b (decisions path) l → BeginsWith path b
goes-begins path b l h = (l ∷ h.0, h.1)

pub begins-before : (t : Turn) (before : List Turn) (b : ClosedTree) → BeginsWith (t ∷ before) b → BeginsWith before b
begins-before t before b h = goes-begins before b t.literal (begins-goes t before b h)

pub goes-one : (b : ClosedTree) (ds : List LiteralTree) (k l : LiteralTree) → Goes b ds k → Goes b ds l → k ≡ l
goes-one b ds k l h g = same-next ds h.0 g.0 k l (sym h.1 ∙ g.1)

-- what parts from a path doesn't begin with it
pub parts-apart : (path : List Turn) (b : ClosedTree) → Parts path b → BeginsWith path b → ⊥
parts-apart [] b h g = absurd h
parts-apart (t ∷ before) b (inl h) g = own-opposite t.literal (sym (goes-one b (decisions before) (opposite t.literal) t.literal h.1 (begins-goes t before b g)))
parts-apart (t ∷ before) b (inr h) g = parts-apart before b h (begins-before t before b g)

-- A branch that parts from a path went the other way at one of its decisions.
pub record PartsAt (path : List Turn) (b : ClosedTree) : Type 0 where
  pub turn : Turn
  pub before : List Turn
  pub rest : List LiteralTree
  pub stands : decisions path ≡ decisions before ++ (turn.literal ∷ rest)
  pub goes : Goes b (decisions before) (opposite turn.literal)

pub parts-at : (path : List Turn) (b : ClosedTree) → Parts path b → PartsAt path b
parts-at [] b h = absurd h
parts-at (t ∷ before) b (inl h) = record { turn = t; before = before; rest = []; stands = refl; goes = h.1 }
parts-at (t ∷ before) b (inr h) = longer (parts-at before b h)
  where
    longer : PartsAt before b → PartsAt (t ∷ before) b
    longer g = record {
      turn = g.turn;
      before = g.before;
      rest = g.rest ++ (t.literal ∷ []);
      stands = ap (λ (z : List LiteralTree). z ++ (t.literal ∷ [])) g.stands ∙ append_assoc (decisions g.before) (g.turn.literal ∷ g.rest) (t.literal ∷ []);
      goes = g.goes;
    }

-- what is needed stays needed, and so is a path's
pub needed-more : (bs : List ClosedTree) (c : ClosedTree) (ds : List LiteralTree) (l : LiteralTree) → IsNeeded bs ds l → IsNeeded (bs ++ (c ∷ [])) ds l
needed-more bs c ds l h = one-more (λ b. Goes b ds l × IsListed b.explanation l) bs c h

pub needed-in-more : (bs : List ClosedTree) (c : ClosedTree) (path : List Turn) (l : LiteralTree) → NeededIn bs path l → NeededIn (bs ++ (c ∷ [])) path l
needed-in-more bs c [] l h = h
needed-in-more bs c (t ∷ before) l (inl h) = inl (h.0, needed-more bs c (decisions before) l h.1)
needed-in-more bs c (t ∷ before) l (inr h) = inr (needed-in-more bs c before l h)

-- what is needed in a path is a decision of it
pub needed-listed : (bs : List ClosedTree) (path : List Turn) (l : LiteralTree) → NeededIn bs path l → IsListed (decisions path) l
needed-listed bs [] l h = absurd h
needed-listed bs (t ∷ before) l (inl h) = end-listed (decisions before) t.literal l h.0
needed-listed bs (t ∷ before) l (inr h) = listed-before (decisions before) t.literal l (needed-listed bs before l h)
