-- How a branch is closed over nodes.
use Rattle.std.proofs.Common.{◌≡◌, refl, sym, ap, ◌∙◌, subst, suc, arith, true, List, [], ◌∷◌, ◌++◌, append_assoc, append-nil, length, inl, inr}
use Rattle.std.proofs.lemmas.List.{map-append}
use Rattle.jh_form.specs.Tree.{FormulaTree, ValueTree}
use Rattle.jh_arena.specs.table.Nodes.{nodes}
use Rattle.jh_arena.specs.table.Growth.{AreDifferent}
use Rattle.jh_closure.specs.structures.Literals.{LiteralTree, IsListed}
use Rattle.jh_closure.specs.congruence_closure.Nodes.{Has}
use Rattle.jh_models.specs.ground_models.Clashes.{Clash, none}
use Rattle.jh_models.specs.ground_models.Explanations.{ClosesBranch, IsExplanation}
use Rattle.jh_models.specs.ground_models.Branches.{ClosedTree}
use Rattle.jh_models.specs.backjumping.Paths as paths
use Rattle.jh_models.specs.backjumping.Laws.{SearchGoesOn}
use Rattle.jh_propagation.specs.declared.trail.decided.Decided.{Decided}
use Rattle.jh_propagation.specs.trail.Saying.{literal_tree_at, literals_at}
use Rattle.jh_propagation.specs.declared.propagation.problem.Problem.{Problem}
use Rattle.jh_propagation.specs.declared.propagation.branch.Cause.{Cause}
use Rattle.jh_propagation.specs.propagation.Problems.{instances_in}
use Rattle.jh_explanations.specs.declared.step.Step.{Step}
use Rattle.jh_explanations.specs.Steps.{literals_of, trees_of}
use Rattle.jh_search.specs.declared.turn.Turn.{Turn}
use Rattle.jh_search.specs.declared.turn.ClosedBranch.{ClosedBranch}
use Rattle.jh_search.specs.declared.turn.Searching.{Searching}
use Rattle.jh_search.specs.Paths.{turn_at, path_onto, path_at, decisions_of, closed_at, all_closed}
use Rattle.jh_search.specs.Searches.{IsAtLeaf, IsGoingBack}
use Rattle.jh_search.specs.Explained.{IsExplainedBy}
use Rattle.jh_search.proofs.Lists.{has-listed, listed-has, one-literal}

-- the decisions of a path over formulas
decisions-onto : (ts : List ValueTree) (xs : List Turn) (before : List paths.Turn) → paths.decisions (path_onto ts xs before) ≡ paths.decisions before ++ literals_at ts (decisions_of xs)
decisions-onto ts [] before = sym (append-nil (paths.decisions before))
decisions-onto ts (x ∷ xs) before = decisions-onto ts xs (turn_at ts x ∷ before) ∙ append_assoc (paths.decisions before) (literal_tree_at ts x.literal ∷ []) (literals_at ts (decisions_of xs))

pub path-decisions : (ts : List ValueTree) (xs : List Turn) → paths.decisions (path_at ts xs) ≡ literals_at ts (decisions_of xs)
path-decisions ts xs = decisions-onto ts xs []

-- nothing clashes by itself where something was decided
open-quiet : (is : List FormulaTree) (bs : List ClosedTree) (path : List paths.Turn) → paths.IsPath is bs path → (paths.decisions path ≡ [] → ⊥) → Clash is [] → ⊥
open-quiet is bs [] h some c = some refl
open-quiet is bs (t ∷ before) h some (inl unmet) = h.0.open_before.met (λ s m. unmet s tt)
open-quiet is bs (t ∷ before) h some (inr f) = h.0.open_before.none_false [] none f

nonempty : (ts : List ValueTree) (d : Decided) (ds : List Decided) → literals_at ts (d ∷ ds) ≡ [] → ⊥
nonempty ts d ds e = let n : suc (length (literals_at ts ds)) ≡ 0 = ap length e in omega (arith, n)

pub leaf-quiet : (p : Problem) (s : Searching) (c : Cause) → IsAtLeaf p s c → (s.branch.decisions.items ≡ [] → ⊥) → Clash (instances_in (nodes p.table) p) [] → ⊥
leaf-quiet p s c h some = open-quiet (instances_in ts p) (all_closed ts s.closed.items) (path_at ts s.path.items) h.search.path_so_far (λ e. never s.branch.decisions.items refl (ap (literals_at ts) h.path ∙ (sym (path-decisions ts s.path.items) ∙ e)))
  where
    ts : List ValueTree
    ts = nodes p.table

    never : (ds : List Decided) → s.branch.decisions.items ≡ ds → literals_at ts s.branch.decisions.items ≡ [] → ⊥
    never [] e f = some e
    never (d ∷ ds) e f = nonempty ts d ds (sym (ap (literals_at ts) e) ∙ f)

-- an explanation of a branch without decisions
pub explained-bare : (is : List FormulaTree) (ls : List LiteralTree) → ClosesBranch is [] ls → IsExplanation is [] ls
explained-bare is ls h = record { closes = h; needs = λ l g. absurd g }

-- What a closed branch needs goes back.
module _ (law : SearchGoesOn) (p : Problem) (s : Searching) (c : Cause) (h : IsAtLeaf p s c) (steps : List Step) (e : IsExplainedBy p s steps) (different : AreDifferent (nodes p.table)) where
  abbrev ts : List ValueTree
  ts = nodes p.table

  abbrev decided : List Decided
  decided = s.branch.decisions.items

  same-decisions : paths.decisions (path_at ts s.path.items) ≡ literals_at ts decided
  same-decisions = path-decisions ts s.path.items ∙ ap (literals_at ts) (sym h.path)

  module _ (needs : List Decided) (only : (d : Decided) → Has needs d → (x : Step) × (Has steps x × ((x.literal ≡ d) × (x.is_decision ≡ true)))) (all : (x : Step) → Has steps x → x.is_decision ≡ true → Has needs x.literal) where
    literal-has : (x : Step) (xs : List Step) → Has xs x → Has (literals_of xs) x.literal
    literal-has x [] g = absurd g
    literal-has x (y ∷ xs) (inl f) = inl (ap (λ (z : Step). z.literal) f)
    literal-has x (y ∷ xs) (inr g) = inr (literal-has x xs g)

    has-literal : (d : Decided) (xs : List Step) → Has (literals_of xs) d → (x : Step) × (Has xs x × (x.literal ≡ d))
    has-literal d [] g = absurd g
    has-literal d (y ∷ xs) (inl f) = (y, (inl refl, f))
    has-literal d (y ∷ xs) (inr g) = let r = has-literal d xs g in (r.0, (inr r.1.0, r.1.1))

    need-over : (d : Decided) → Has needs d → Has p.ground.atoms d.atom
    need-over d g = let r = only d g in e.right.over.over_atoms d (subst (Has (literals_of steps)) r.1.1.0 (literal-has r.0 steps r.1.0))

    are-needs : paths.AreNeeds (path_at ts s.path.items) (trees_of ts steps) (literals_at ts needs)
    are-needs = record { only = λ l g. only-one l (listed-has ts needs l g); all = λ l g k. all-one l (listed-has ts (literals_of steps) l g) (listed-has ts decided l (subst (λ (xs : List LiteralTree). IsListed xs l) same-decisions k)) }
      where
        only-one : (l : LiteralTree) → (d : Decided) × (Has needs d × (literal_tree_at ts d ≡ l)) → IsListed (trees_of ts steps) l × IsListed (paths.decisions (path_at ts s.path.items)) l
        only-one l r =
            let x = only r.0 r.1.0 in
            let here : Has (literals_of steps) r.0 = subst (Has (literals_of steps)) x.1.1.0 (literal-has x.0 steps x.1.0) in
            let decided-so : Has decided r.0 = subst (Has decided) x.1.1.0 ((e.right.marked x.0 x.1.0).0 x.1.1.1) in
            (subst (IsListed (trees_of ts steps)) r.1.1 (has-listed ts (literals_of steps) r.0 here), subst (λ (xs : List LiteralTree). IsListed xs l) (sym same-decisions) (subst (IsListed (literals_at ts decided)) r.1.1 (has-listed ts decided r.0 decided-so)))

        all-one : (l : LiteralTree) → (d : Decided) × (Has (literals_of steps) d × (literal_tree_at ts d ≡ l)) → (d : Decided) × (Has decided d × (literal_tree_at ts d ≡ l)) → IsListed (literals_at ts needs) l
        all-one l r q =
            let x = has-literal r.0 steps r.1.0 in
            let one : r.0 ≡ q.0 = one-literal ts different r.0 q.0 (h.branch.problem.posed.occurrences.truths r.0.atom (e.right.over.over_atoms r.0 r.1.0)) (h.branch.problem.posed.occurrences.truths q.0.atom (e.right.decided_over q.0 q.1.0)) (r.1.1 ∙ sym q.1.1) in
            let marked : x.0.is_decision ≡ true = (e.right.marked x.0 x.1.0).1 (subst (Has decided) (sym (x.1.1 ∙ one)) q.1.0) in
            subst (IsListed (literals_at ts needs)) (ap (literal_tree_at ts) x.1.1 ∙ r.1.1) (has-listed ts needs x.0.literal (all x.0 x.1.0 marked))

    pub goes-back : (more : ClosedBranch) → more.decisions.items ≡ decided → more.explanation.items ≡ literals_of steps → IsGoingBack ts p s.path.items (s.closed.items ++ more ∷ []) needs
    goes-back more ds es = record {
      posed = h.branch.problem.posed;
      different = different;
      decisions = h.decisions;
      needs_over = need-over;
      closing = subst (λ (bs : List ClosedTree). paths.IsClosing (instances_in ts p) bs (path_at ts s.path.items) (literals_at ts needs)) (sym branches)
          (law.closes (instances_in ts p) (all_closed ts s.closed.items) (path_at ts s.path.items) (trees_of ts steps) (literals_at ts needs) h.search (subst (λ (xs : List LiteralTree). IsExplanation (instances_in ts p) xs (trees_of ts steps)) (sym same-decisions) e.explains) are-needs);
    }
      where
        one : closed_at ts more ≡ paths.closed_by (path_at ts s.path.items) (trees_of ts steps)
        one = λ i. record { decisions = (ap (literals_at ts) ds ∙ sym same-decisions) i; explanation = literals_at ts (es i) }

        branches : all_closed ts (s.closed.items ++ more ∷ []) ≡ all_closed ts s.closed.items ++ paths.closed_by (path_at ts s.path.items) (trees_of ts steps) ∷ []
        branches = map-append (closed_at ts) s.closed.items (more ∷ []) ∙ ap (λ (z : ClosedTree). all_closed ts s.closed.items ++ z ∷ []) one
