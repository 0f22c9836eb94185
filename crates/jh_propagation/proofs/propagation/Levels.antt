-- Levels to which a branch can be taken back.
use Rattle.std.proofs.Common.{◌≡◌, refl, sym, ◌∙◌, subst, ℕ, ◌≤◌, arith, List, [], ◌∷◌, length, take, take_all, drop, Option, Some, None, slice_get, ◌⊎◌, inl, inr}
use Rattle.jh_arena.specs.table.Nodes.{nodes}
use Rattle.jh_form.specs.Tree.{ValueTree}
use Rattle.jh_closure.specs.structures.Literals.{Meets}
use Rattle.jh_closure.specs.congruence_closure.Cores.{Begins}
use Rattle.jh_closure.specs.congruence_closure.Nodes.{Has}
use Rattle.jh_closure.proofs.congruence_closure.Growing.{begins-take, begins-length}
use Rattle.jh_closure.proofs.congruence_closure.Having.{has-at}
use Rattle.jh_cong.specs.classes.Saying.{Asserted, IsUnmet}
use Rattle.jh_cong.specs.classes.Saying as cong
use Rattle.jh_cong.specs.declared.classes.literal.Said.{Said}
use Rattle.jh_cong.specs.flattening.TreeValues.{NumberStructure}
use Rattle.jh_models.specs.ground_models.GroundModel.{IsMet}
use Rattle.jh_closure.proofs.structures.Listed.{meets-listed}
use Rattle.jh_propagation.specs.declared.trail.decided.Decided.{Decided}
use Rattle.jh_propagation.specs.trail.Listing.{picked, one_more}
use Rattle.jh_propagation.specs.trail.Saying.{truth_at, literal_tree_at, literals_at}
use Rattle.jh_propagation.specs.declared.propagation.problem.Problem.{Problem}
use Rattle.jh_propagation.specs.propagation.Branches.{IsQuiet, Parts, AreParts}
use Rattle.jh_propagation.specs.propagation.Levels.{IsLevel}
use Rattle.jh_propagation.specs.propagation.Speaking.{AreSpoken}
use Rattle.jh_propagation.proofs.propagation.Lists.{has-listed}
use Rattle.jh_propagation.proofs.propagation.Saids.{spoken-long, spoken-picked, meets-told}

-- A branch in which no instance waits can be taken back to what it is.
module _ (p : Problem) (b : Parts) (h : AreParts p [] b) (over : drop b.head b.waiting ≡ []) where
  quiet-now : (j n : ℕ) → ⊥ ⊎ (Has (drop b.head b.waiting) j ⊎ IsQuiet (nodes p.table) b.trail (truth_at (nodes p.table) n)) → ⊥ ⊎ (⊥ ⊎ IsQuiet (nodes p.table) b.trail (truth_at (nodes p.table) n))
  quiet-now j n (inl g) = absurd g
  quiet-now j n (inr (inl g)) = absurd (subst (λ (xs : List ℕ). Has xs j) over g)
  quiet-now j n (inr (inr g)) = inr (inr g)

  parts-now : (said : List Said) → AreSpoken (nodes b.classes.table) (nodes p.table) b.trail said → AreParts p [] (record { decisions = b.decisions; classes = record { table = b.classes.table; said = said }; trail = b.trail; reasons = b.reasons; waiting = []; head = 0 })
  parts-now said spoken =
      let long : length said ≡ length b.trail = spoken-long (nodes b.classes.table) (nodes p.table) b.trail said spoken in
      record {
        problem = h.problem;
        over_atoms = h.over_atoms;
        decided = h.decided;
        reasoned = h.reasoned;
        justified = h.justified;
        counts = λ n count f. let small : count ≤ length b.classes.said = h.counts n count f in let told = h.told in omega (arith, small, told, long);
        rising = h.rising;
        told = omega (arith, long);
        spoken = subst (λ (xs : List Decided). AreSpoken (nodes b.classes.table) (nodes p.table) xs said) (sym (take_all (length said) b.trail (omega (arith, long)))) spoken;
        begun = omega arith;
        waits = λ j g. absurd g;
        quiet = λ j n e. quiet-now j n (h.quiet j n e);
      }

  whole-decisions : take (length b.decisions) b.decisions ≡ b.decisions
  whole-decisions = take_all (length b.decisions) b.decisions (omega arith)

  whole-trail : take (length b.trail) b.trail ≡ b.trail
  whole-trail = take_all (length b.trail) b.trail (omega arith)

  whole-reasons : take (length b.trail) b.reasons ≡ b.reasons
  whole-reasons = take_all (length b.trail) b.reasons (let same = h.reasoned in omega (arith, same))

  pub level-here : IsMet (literals_at (nodes p.table) b.trail) → IsLevel p b (length b.decisions) (length b.trail)
  level-here met = record {
    counted = omega arith;
    inside = omega arith;
    reasoned = let same = h.reasoned in omega (arith, same);
    over_atoms = λ d g. h.over_atoms d (subst (λ (xs : List Decided). Has xs d) whole-trail g);
    met = subst (λ (xs : List Decided). IsMet (literals_at (nodes p.table) xs)) (sym whole-trail) met;
    stands = λ classes e spoken.
        subst (AreParts p []) (λ i. record { decisions = sym whole-decisions i; classes = record { table = sym e i; said = classes.said }; trail = sym whole-trail i; reasons = sym whole-reasons i; waiting = []; head = 0 })
        (parts-now classes.said (subst (λ (xs : List Decided). AreSpoken (nodes b.classes.table) (nodes p.table) xs classes.said) whole-trail spoken));
  }

-- What a branch can be taken back to another one can that begins alike.
pub level-alike : (p : Problem) (a b : Parts) (count at : ℕ) → b.classes.table ≡ a.classes.table → take count b.decisions ≡ take count a.decisions → take at b.trail ≡ take at a.trail → take at b.reasons ≡ take at a.reasons →
    count ≤ length b.decisions → at ≤ length b.trail → at ≤ length b.reasons → IsLevel p a count at → IsLevel p b count at
level-alike p a b count at table ds ts rs counted inside reasoned h = record {
  counted = counted;
  inside = inside;
  reasoned = reasoned;
  over_atoms = λ d g. h.over_atoms d (subst (λ (xs : List Decided). Has xs d) ts g);
  met = subst (λ (xs : List Decided). IsMet (literals_at (nodes p.table) xs)) (sym ts) h.met;
  stands = λ classes e spoken.
      subst (AreParts p []) (λ i. record { decisions = sym ds i; classes = classes; trail = sym ts i; reasons = sym rs i; waiting = []; head = 0 })
      (h.stands classes (e ∙ table) (subst (λ (xs : List Decided). AreSpoken (nodes a.classes.table) (nodes p.table) xs classes.said) ts (subst (λ t. AreSpoken (nodes t) (nodes p.table) (take at b.trail) classes.said) table spoken)));
}

-- one that goes on
pub level-longer : (p : Problem) (a b : Parts) (count at : ℕ) → b.classes.table ≡ a.classes.table → Begins a.decisions b.decisions → Begins a.trail b.trail → Begins a.reasons b.reasons → IsLevel p a count at → IsLevel p b count at
level-longer p a b count at table ds ts rs h =
    level-alike p a b count at table
    (begins-take a.decisions b.decisions count ds h.counted)
    (begins-take a.trail b.trail at ts h.inside)
    (begins-take a.reasons b.reasons at rs h.reasoned)
    (let one = h.counted in let more = begins-length a.decisions b.decisions ds in omega (arith, one, more))
    (let one = h.inside in let more = begins-length a.trail b.trail ts in omega (arith, one, more))
    (let one = h.reasoned in let more = begins-length a.reasons b.reasons rs in omega (arith, one, more))
    h

-- What is left of a branch that was taken back is a branch.
pub level-parts : (p : Problem) (b new : Parts) (count at : ℕ) → IsLevel p b count at → new.decisions ≡ take count b.decisions → new.classes.table ≡ b.classes.table → AreSpoken (nodes b.classes.table) (nodes p.table) (take at b.trail) new.classes.said →
    new.trail ≡ take at b.trail → new.reasons ≡ take at b.reasons → new.waiting ≡ [] → new.head ≡ 0 → AreParts p [] new
level-parts p b new count at h ds table spoken ts rs ws hs =
    subst (AreParts p []) (λ i. record { decisions = sym ds i; classes = new.classes; trail = sym ts i; reasons = sym rs i; waiting = sym ws i; head = sym hs i })
    (h.stands new.classes table spoken)

-- what meets literals meets those that are picked
one-met : (m : NumberStructure) (ts : List ValueTree) (trail : List Decided) → Meets m (literals_at ts trail) → (rest : List Decided) → Meets m (literals_at ts rest) → (n : ℕ) (o : Option Decided) → slice_get trail n ≡ o → Meets m (literals_at ts (one_more o rest))
one-met m ts trail met rest more n None e = more
one-met m ts trail met rest more n (Some d) e = (meets-listed m (literals_at ts trail) (literal_tree_at ts d) (has-listed ts trail d (has-at trail n d e)) met, more)

picked-met : (m : NumberStructure) (ts : List ValueTree) (trail : List Decided) → Meets m (literals_at ts trail) → (ns : List ℕ) → Meets m (literals_at ts (picked trail ns))
picked-met m ts trail met [] = tt
picked-met m ts trail met (n ∷ ns) = one-met m ts trail met (picked trail ns) (picked-met m ts trail met ns) n (slice_get trail n) refl

-- Where some structure meets the trail, there is no conflict in what is said of it.
pub never-unmet : (us ts : List ValueTree) (trail : List Decided) (said : List Said) (ns : List ℕ) → AreSpoken us ts trail said → IsMet (literals_at ts trail) → IsUnmet us (cong.picked said ns) → ⊥
never-unmet us ts trail said ns spoken met unmet = met (λ m h. unmet m (meets-told m us ts (picked trail ns) (cong.picked said ns) (spoken-picked us ts trail said spoken ns) (picked-met m ts trail h ns)))
