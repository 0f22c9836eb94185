-- A branch whose classes were told more.
use Rattle.std.proofs.Common.{◌≡◌, sym, ap, ◌∙◌, subst, ℕ, ◌+◌, ◌<◌, ◌≤◌, arith, List, [], ◌∷◌, ◌++◌, length, length-append, take, drop, take-append-drop, take_all, Some, slice_get}
use Rattle.std.proofs.lemmas.List.{length-take-le}
use Rattle.jh_form.specs.Tree.{ValueTree}
use Rattle.jh_arena.specs.table.Nodes.{nodes}
use Rattle.jh_closure.specs.congruence_closure.Nodes.{Has}
use Rattle.jh_cong.specs.classes.Saying.{Asserted, IsUnmet}
use Rattle.jh_cong.specs.classes.Saying as cong
use Rattle.jh_cong.specs.declared.classes.literal.Said.{Said}
use Rattle.jh_cong.proofs.classes.Looking.{take-next}
use Rattle.jh_propagation.specs.declared.trail.decided.Decided.{Decided}
use Rattle.jh_propagation.specs.trail.Listing.{picked}
use Rattle.jh_propagation.specs.declared.propagation.problem.Problem.{Problem}
use Rattle.jh_propagation.specs.propagation.Branches.{Parts, AreParts}
use Rattle.jh_propagation.specs.propagation.Closings.{AreUnmet}
use Rattle.jh_propagation.specs.propagation.Speaking.{AreSpoken, Speaks}
use Rattle.jh_propagation.proofs.propagation.Lists.{drop-more}
use Rattle.jh_propagation.proofs.propagation.Saids.{spoken-more, spoken-both, spoken-long, spoken-picked, meets-told}

-- what the classes don't know yet, and one more of it
pub drop-taken : {X : Type 0} (xs : List X) (c n : ℕ) (x : X) → c ≤ n → n < length xs → slice_get xs n ≡ Some x → drop c (take (n + 1) xs) ≡ drop c (take n xs) ++ x ∷ []
drop-taken xs c n x le lt e =
    let long : length (take n xs) ≡ n = length-take-le n xs (omega (arith, lt)) in
    ap (drop c) (take-next xs n x e) ∙ drop-more c (take n xs) (x ∷ []) (omega (arith, le, long))

pub spoken-next : (us ts : List ValueTree) (trail : List Decided) (c n : ℕ) (d : Decided) (es : List Said) (e : Said) → c ≤ n → n < length trail → slice_get trail n ≡ Some d → AreSpoken us ts (drop c (take n trail)) es → Speaks us ts e d → AreSpoken us ts (drop c (take (n + 1) trail)) (es ++ e ∷ [])
spoken-next us ts trail c n d es e le lt here h k = subst (λ xs. AreSpoken us ts xs (es ++ e ∷ [])) (sym (drop-taken trail c n d le lt here)) (spoken-more us ts (drop c (take n trail)) es d e h k)

module _ (p : Problem) (b : Parts) (h : AreParts p [] b) (batch : List Said) (all : AreSpoken (nodes b.classes.table) (nodes p.table) (drop (length b.classes.said) b.trail) batch) where
  -- with these the classes know the trail
  pub whole-spoken : AreSpoken (nodes b.classes.table) (nodes p.table) b.trail (b.classes.said ++ batch)
  whole-spoken = subst (λ xs. AreSpoken (nodes b.classes.table) (nodes p.table) xs (b.classes.said ++ batch)) (take-append-drop (length b.classes.said) b.trail) (spoken-both (nodes b.classes.table) (nodes p.table) (take (length b.classes.said) b.trail) (drop (length b.classes.said) b.trail) b.classes.said batch h.spoken all)

  pub whole-long : length (b.classes.said ++ batch) ≡ length b.trail
  whole-long = spoken-long (nodes b.classes.table) (nodes p.table) b.trail (b.classes.said ++ batch) whole-spoken

  abbrev told : Asserted
  told = record { table = b.classes.table; said = b.classes.said ++ batch }

  more-told : length b.classes.said ≤ length (b.classes.said ++ batch)
  more-told = let long : length (b.classes.said ++ batch) ≡ length b.classes.said + length batch = length-append b.classes.said batch in omega (arith, long)

  pub all-told : (classes : Asserted) → classes ≡ told → AreParts p [] (record { decisions = b.decisions; classes = classes; trail = b.trail; reasons = b.reasons; waiting = b.waiting; head = b.head })
  all-told classes e = subst (λ (c : Asserted). AreParts p [] (record { decisions = b.decisions; classes = c; trail = b.trail; reasons = b.reasons; waiting = b.waiting; head = b.head })) (sym e) (record {
    problem = h.problem;
    over_atoms = h.over_atoms;
    decided = h.decided;
    reasoned = h.reasoned;
    justified = h.justified;
    counts = λ n count f. let small : count ≤ length b.classes.said = h.counts n count f in let more = more-told in omega (arith, small, more);
    rising = h.rising;
    told = let long = whole-long in omega (arith, long);
    spoken = subst (λ xs. AreSpoken (nodes b.classes.table) (nodes p.table) xs (b.classes.said ++ batch)) (sym (take_all (length (b.classes.said ++ batch)) b.trail (let long = whole-long in omega (arith, long)))) whole-spoken;
    begun = h.begun;
    waits = h.waits;
    quiet = h.quiet;
  })

  -- literals that no structure meets
  pub unmet-places : (ns : List ℕ) → ((n : ℕ) → Has ns n → n < length (b.classes.said ++ batch)) → IsUnmet (nodes b.classes.table) (cong.picked (b.classes.said ++ batch) ns) → AreUnmet (nodes p.table) b.trail ns
  unmet-places ns inside unmet = record {
    inside = λ n g. let lt : n < length (b.classes.said ++ batch) = inside n g in let long = whole-long in omega (arith, lt, long);
    unmet = λ m met. unmet m (meets-told m (nodes b.classes.table) (nodes p.table) (picked b.trail ns) (cong.picked (b.classes.said ++ batch) ns) (spoken-picked (nodes b.classes.table) (nodes p.table) b.trail (b.classes.said ++ batch) whole-spoken ns) met);
  }
