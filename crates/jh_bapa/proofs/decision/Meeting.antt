-- The sizes that a solution says meet all atoms.
use Rattle.std.proofs.Common.{◌≡◌, ◌≢◌, refl, ℕ, zero, suc, ◌+◌, ◌*◌, ◌^◌, ◌<◌, ◌==◌, nat_lt, Bool, true, false, not, ◌&&◌, ◌||◌, if◌then◌else◌, List, [], ◌∷◌, length, get_or, Option, Some, None, ◌+ℤ◌, subst, ap, sym, ◌∙◌, arith, ◌⊎◌, inl, inr}
use Rattle.std.specs.Prelude.{slice_index}
use Rattle.std.specs.List.{list_all, list_any}
use Rattle.std.proofs.lemmas.Bool.{eq-eqb, ltb-true, or_left, or_right, true≢false}
use Rattle.jh_digits.specs.solver.Solution as digits
use Rattle.jh_form.specs.Meaning.{agree, any_below}
use Rattle.jh_query.specs.declared.queries.sizes.Spot.{Spot}
use Rattle.jh_query.specs.queries.Bare.{cond_tree}
use Rattle.jh_query.specs.queries.Tree.{CondTree, QueryTree, SetExprTree}
use Rattle.jh_query.specs.queries.Tree as t
use Rattle.jh_query.specs.queries.Sizing.{Sizing}
use Rattle.jh_query.specs.queries.Named.{cond_named, is_divisor, num_named, room_of}
use Rattle.jh_query.specs.queries.Truth.{compares, holds, implied, number_value, rest_of, spot_of}
use Rattle.jh_query.specs.declared.partial_truth.casing.Atom.{Atom}
use Rattle.jh_query.specs.declared.partial_truth.casing.Case.{Case}
use Rattle.jh_query.specs.declared.partial_truth.casing.Case.TheVariants.{Open, True, False, Greater, Remainder}
use Rattle.jh_query.specs.partial_truth.Judged.{Agrees, case_truth}
use Rattle.jh_bapa.specs.decision.Cases.{LineMet, LineTree, Met, classes_differ, conds_of, flag_chosen, is_against, is_case_of, is_chosen_flag, is_hopeless, is_loose, line_of, rest_differs}
use Rattle.jh_bapa.specs.decision.Systems.{Frame, emptied, empties, frame_of, is_empty, need_of, said, slack_count, wants}
use Rattle.jh_bapa.specs.decision.Searching.{AllMet}
use Rattle.jh_bapa.proofs.decision.Belows.{class_fails, first, none_one, none_two, not-false, not-true, picks-at, rest_fails, second, set-class-false, set-rest-false, set-true, sure}
use Rattle.jh_bapa.proofs.decision.Dots.{dot-same, length-listed}
use Rattle.jh_bapa.proofs.decision.Truths.{divides-truth, equal-truth, less-truth, some-is}
use Rattle.jh_bapa.proofs.decision.Said.{Says, slacks_at}
use Rattle.jh_bapa.proofs.decision.Equations.{AllLines}
use Rattle.jh_bapa.proofs.decision.Solutions.{NeedsMet, at-listed, emptied-is, said-says}

module _ (q : QueryTree) (atoms : List Atom) (spots : List Spot) (v : ℕ → ℕ) where
  abbrev sizes : Sizing
  sizes = said q atoms spots v

  says : Says (frame_of q atoms spots) sizes v
  says = said-says q atoms spots v

  -- a set atom that is true
  true_set : (c : CondTree) (test : Bool → Bool → Bool) (a b : SetExprTree) → any_below (length spots) (class_fails sizes test a b) ≡ false → ((r : ℕ) → rest_fails sizes test a b r ≡ true → is_empty atoms r ≡ true) → compares sizes test a b ≡ true
  true_set c test a b e h = set-true sizes test a b e (λ r k f.
      let inside : r < 2 ^ q.sets = omega (arith, says.rests, k) in
      says.none r inside (emptied-is q.sets atoms r inside ∙ h r f))

  -- a set atom that is false: a class makes it so, or one of the regions that it needs has a rest
  false_set : (test : Bool → Bool → Bool) (a b : SetExprTree) (c : CondTree) → ((r : ℕ) → rest_differs r c ≡ rest_fails sizes test a b r) → (any_below (length spots) (class_fails sizes test a b) ≡ false → digits.IsMet (need_of (2 ^ q.sets) (emptied q.sets atoms) c) v) → compares sizes test a b ≡ false
  false_set test a b c same h =
      elim (sure (any_below (length spots) (class_fails sizes test a b))) [
        | inl e ↦ set-class-false sizes test a b e
        | inr e ↦
            let met : digits.IsMet (need_of (2 ^ q.sets) (emptied q.sets atoms) c) v = h e in
            let at = picks-at (2 ^ q.sets) (λ r. not (emptied q.sets atoms r) && rest_differs r c) met.place met.within in
            let r : ℕ = slice_index (need_of (2 ^ q.sets) (emptied q.sets atoms) c) met.place in
            let inside : r < length sizes.rest = omega (arith, says.rests, at.0) in
            let full : emptied q.sets atoms r ≡ false = not-true (emptied q.sets atoms r) (first _ _ at.1) in
            let some : rest_of sizes r ≡ v r = says.some r at.0 full in
            set-rest-false sizes test a b r inside (sym (same r) ∙ second _ _ at.1) (λ g. met.nonzero (sym some ∙ g))
      ]

  -- what is known of an atom of the list
  record Known (c : CondTree) (k : Case) (o : ℕ) : Type 0 where
    named : cond_named (room_of q) c ≡ true
    loose : is_loose c ≡ true
    suits : is_case_of c k ≡ true
    for : is_against atoms spots c k ≡ false
    flags : (f : ℕ) → is_chosen_flag f c k ≡ true → flag_chosen atoms f ≡ true
    empties : (r : ℕ) → empties r c k ≡ true → is_empty atoms r ≡ true
    needs : wants spots c k ≡ true → digits.IsMet (need_of (2 ^ q.sets) (emptied q.sets atoms) c) v
    line : LineMet sizes (line_of c k) v o

  flag_is : (f : ℕ) → f < q.flags → holds sizes (t.flag f) ≡ flag_chosen atoms f
  flag_is f h = at-listed q.flags (flag_chosen atoms) f false h

  truth_of : (c : CondTree) (k : Case) (o : ℕ) (x : Bool) → Known c k o → case_truth k ≡ Some x → holds sizes c ≡ x
  truth_of c Open o x h e = cc
  truth_of (t.flag f) True o x h e = flag_is f (ltb-true f q.flags h.named) ∙ h.flags f (eq-eqb f f refl) ∙ some-is true x e
  truth_of (t.flag f) False o x h e = flag_is f (ltb-true f q.flags h.named) ∙ h.for ∙ some-is false x e
  truth_of (t.flag f) Greater o x h e = absurd (true≢false (sym h.suits))
  truth_of (t.flag f) (Remainder j) o x h e = absurd (true≢false (sym h.suits))
  truth_of (t.equal_set a b) True o x h e = true_set (t.equal_set a b) agree a b h.for h.empties ∙ some-is true x e
  truth_of (t.equal_set a b) False o x h e = false_set agree a b (t.equal_set a b) (λ r. refl) (λ f. h.needs (ap not f)) ∙ some-is false x e
  truth_of (t.equal_set a b) Greater o x h e = absurd (true≢false (sym h.suits))
  truth_of (t.equal_set a b) (Remainder j) o x h e = absurd (true≢false (sym h.suits))
  truth_of (t.within a b) True o x h e = true_set (t.within a b) implied a b h.for h.empties ∙ some-is true x e
  truth_of (t.within a b) False o x h e = false_set implied a b (t.within a b) (λ r. refl) (λ f. h.needs (ap not f)) ∙ some-is false x e
  truth_of (t.within a b) Greater o x h e = absurd (true≢false (sym h.suits))
  truth_of (t.within a b) (Remainder j) o x h e = absurd (true≢false (sym h.suits))
  truth_of (t.equal_num a b) k o x h e = equal-truth sizes a b v o k x h.suits h.line e
  truth_of (t.less_num a b) k o x h e = less-truth sizes a b v o k x h.suits h.line e
  truth_of (t.divides d a) k o x h e = divides-truth sizes d a v o k x (first (is_divisor d) (num_named (room_of q) a) h.named) h.suits h.line e
  truth_of t.yes k o x h e = absurd (true≢false (sym h.loose))
  truth_of t.no k o x h e = absurd (true≢false (sym h.loose))
  truth_of (t.same_element i j) k o x h e = absurd (true≢false (sym h.loose))
  truth_of (t.member i s) k o x h e = absurd (true≢false (sym h.loose))
  truth_of (t.negation a) k o x h e = absurd (true≢false (sym h.loose))
  truth_of (t.and a b) k o x h e = absurd (true≢false (sym h.loose))
  truth_of (t.or a b) k o x h e = absurd (true≢false (sym h.loose))
  truth_of (t.implies a b) k o x h e = absurd (true≢false (sym h.loose))
  truth_of (t.iff a b) k o x h e = absurd (true≢false (sym h.loose))

  met_of : (c : CondTree) (k : Case) (o : ℕ) → Known c k o → Met sizes c k
  met_of c k o h = record { suits = h.suits; truth = λ x. truth_of c k o x h; line = (λ j. v (o + j), moved (line_of c k) h.line) }
    where
      moved : (l : Option LineTree) → LineMet sizes l v o → LineMet sizes l (λ j. v (o + j)) 0
      moved None e = tt
      moved (Some l) e = ap (λ y. number_value sizes l.side +ℤ y) (sym (dot-same l.slacks v (λ j. v (o + j)) o 0 (λ i k. ap (λ n. v (o + n)) (from_zero i)))) ∙ e
        where
          from_zero : (i : ℕ) → i ≡ 0 + i
          from_zero i = omega arith

  pub all-met : (rest : List Atom) (place : ℕ) → ((p : Atom → Bool) → list_any p rest ≡ true → list_any p atoms ≡ true)
      → list_all (cond_named (room_of q)) (conds_of rest) ≡ true → list_all is_loose (conds_of rest) ≡ true
      → list_any (λ a. is_hopeless atoms spots (cond_tree a.cond.now) a.case) rest ≡ false
      → NeedsMet (2 ^ q.sets) (emptied q.sets atoms) spots v rest → AllLines (frame_of q atoms spots) sizes v place rest → AllMet sizes rest
  all-met [] place inside named loose hope needs lines = tt
  all-met (a ∷ rest) place inside named loose hope needs lines =
      let c : CondTree = cond_tree a.cond.now in
      let here : is_hopeless atoms spots c a.case ≡ false = none_one _ _ hope in (
        met_of c a.case (slacks_at (frame_of q atoms spots) place) (record {
          named = first _ _ named;
          loose = first _ _ loose;
          suits = not-false (is_case_of c a.case) (none_one _ _ here);
          for = none_two (not (is_case_of c a.case)) _ here;
          flags = λ f e. inside (λ a. is_chosen_flag f (cond_tree a.cond.now) a.case) (or_left _ _ e);
          empties = λ r e. inside (λ a. empties r (cond_tree a.cond.now) a.case) (or_left _ _ e);
          needs = needs.0;
          line = lines.0;
        }),
        all-met rest (place + slack_count c a.case) (λ p e. inside p (or_right _ _ e)) (second _ _ named) (second _ _ loose) (none_two (is_hopeless atoms spots c a.case) _ hope) needs.1 lines.1,
      )

met_at : (z : Sizing) (atoms : List Atom) (i : ℕ) (d : Atom) → i < length atoms → AllMet z atoms → Met z (cond_tree (get_or atoms i d).cond.now) (get_or atoms i d).case
met_at z [] i d h m = absurd (omega arith)
met_at z (a ∷ rest) zero d h m = m.0
met_at z (a ∷ rest) (suc i) d h m = met_at z rest i d (omega arith) m.1

-- sizes that meet the atoms agree with their cases
pub agrees : (z : Sizing) (spots : List Spot) (atoms : List Atom) → ((i : ℕ) → i < length spots → spot_of z.spots i ≡ spot_of spots i) → AllMet z atoms → Agrees z spots atoms
agrees z spots atoms placed m = record {
  placed = placed;
  chosen = λ i a x h e f.
      let met : Met z (cond_tree (get_or atoms i a).cond.now) (get_or atoms i a).case = met_at z atoms i a h m in
      let same : Met z (cond_tree a.cond.now) a.case = subst (λ (b : Atom). Met z (cond_tree b.cond.now) b.case) (sym e) met in
      same.truth x f;
}
