-- The system of a query within the limits is well formed; a solution of it refutes the query, and where it has none no sizes are left.
use Rattle.std.proofs.Common.{◌≡◌, refl, ℕ, zero, suc, ◌+◌, ◌*◌, ◌^◌, ◌<◌, ◌≤◌, Bool, true, false, if◌then◌else◌, not, ◌&&◌, List, [], ◌∷◌, ◌++◌, length, get_or, map, ℤ, pos, ◌-ℤ◌, ap, sym, ◌∙◌, arith, subst, ◌⊎◌, inl, inr, Some}
use Rattle.std.specs.Prelude.{slice_index}
use Rattle.std.specs.List.{All, flat_map, list_all, list_any}
use Rattle.std.proofs.lemmas.Bool.{or_cases, true≢false}
use Rattle.std.proofs.lemmas.List.Folds.{list_any-append}
use Rattle.jh_digits.specs.declared.systems.system.System.{System}
use Rattle.jh_digits.specs.solver.Solution as system
use Rattle.jh_query.specs.declared.queries.sizes.Spot.{Spot}
use Rattle.jh_query.specs.queries.Bare.{cond_tree}
use Rattle.jh_query.specs.queries.Tree.{CondTree, QueryTree}
use Rattle.jh_query.specs.queries.Tree as t
use Rattle.jh_query.specs.queries.Named.{IsWellFormed, Room, cond_named, is_divisor, num_named, room_of, set_named}
use Rattle.jh_query.specs.queries.Same.{same_atom}
use Rattle.jh_query.specs.queries.Size.{atoms, atoms_of, query_size}
use Rattle.jh_query.specs.queries.Sizing.{Sizing}
use Rattle.jh_query.specs.queries.Truth.{Fits, query_true, spot_of}
use Rattle.jh_query.specs.declared.partial_truth.casing.Atom.{Atom}
use Rattle.jh_query.specs.partial_truth.Judged.{Agrees, TellsQuery}
use Rattle.jh_bapa.specs.decision.Lists.{listed, picks}
use Rattle.jh_bapa.specs.decision.Cases.{conds_of, flag_chosen, is_hopeless, is_loose, rest_differs}
use Rattle.jh_bapa.specs.decision.Counted.{IsFit}
use Rattle.jh_bapa.specs.decision.Made.{IsSystemOf}
use Rattle.jh_bapa.specs.decision.Systems.{Frame, emptied, entries_of, frame_of, is_empty, needs_of, need_of, rights_of, said, slack_total, wants, width_of}
use Rattle.jh_bapa.specs.decision.Searching.{AllMet, IsCasing, IsLeft, IsPlacement, NoneLeft, Refutes}
use Rattle.jh_bapa.specs.decision.Within.{IsWithin}
use Rattle.jh_bapa.proofs.decision.Belows.{both, first, picks-at, second, sure}
use Rattle.jh_bapa.proofs.decision.Dots.{length-listed}
use Rattle.jh_bapa.proofs.decision.Said.{Says}
use Rattle.jh_bapa.proofs.decision.Equations.{AllLines, RowsEqual, length-entries, lines-of-rows, rows-of-lines}
use Rattle.jh_bapa.proofs.decision.Solutions.{EachMet, NeedsMet, each-of-needs, needs-of-each, said-fits, said-says}
use Rattle.jh_bapa.proofs.decision.Meeting.{agrees, all-met}
use Rattle.jh_bapa.proofs.decision.Completing.{all-hopeful, column_slack, columns_of, lines-same, needs-met, says-of, slacks-of}
use Rattle.jh_bapa.proofs.decision.Fitness.{Limits, all-fit, few-columns, limits-of, one_passes}

-- the atoms of a query name its own sets, elements, numbers and flags
both_named : (p : CondTree → Bool) (xs ys : List CondTree) → list_all p xs ≡ true → list_all p ys ≡ true → list_all p (xs ++ ys) ≡ true
both_named p [] ys h k = k
both_named p (x ∷ xs) ys h k = both _ _ (first _ _ h) (both_named p xs ys (second _ _ h) k)

atoms_named : (m : Room) (c : CondTree) → cond_named m c ≡ true → list_all (cond_named m) (atoms c) ≡ true
atoms_named m t.yes h = refl
atoms_named m t.no h = refl
atoms_named m (t.flag f) h = both _ _ h refl
atoms_named m (t.same_element i j) h = both _ _ h refl
atoms_named m (t.member i s) h = both _ _ h refl
atoms_named m (t.equal_set a b) h = both _ _ h refl
atoms_named m (t.within a b) h = both _ _ h refl
atoms_named m (t.equal_num a b) h = both _ _ h refl
atoms_named m (t.less_num a b) h = both _ _ h refl
atoms_named m (t.divides k a) h = both _ _ h refl
atoms_named m (t.negation a) h = atoms_named m a h
atoms_named m (t.and a b) h = both_named (cond_named m) (atoms a) (atoms b) (atoms_named m a (first _ _ h)) (atoms_named m b (second _ _ h))
atoms_named m (t.or a b) h = both_named (cond_named m) (atoms a) (atoms b) (atoms_named m a (first _ _ h)) (atoms_named m b (second _ _ h))
atoms_named m (t.implies a b) h = both_named (cond_named m) (atoms a) (atoms b) (atoms_named m a (first _ _ h)) (atoms_named m b (second _ _ h))
atoms_named m (t.iff a b) h = both_named (cond_named m) (atoms a) (atoms b) (atoms_named m a (first _ _ h)) (atoms_named m b (second _ _ h))

several_named : (m : Room) (cs : List CondTree) → list_all (cond_named m) cs ≡ true → list_all (cond_named m) (flat_map atoms cs) ≡ true
several_named m [] h = refl
several_named m (c ∷ cs) h = both_named (cond_named m) (atoms c) (flat_map atoms cs) (atoms_named m c (first _ _ h)) (several_named m cs (second _ _ h))

query_named : (q : QueryTree) → IsWellFormed q → list_all (cond_named (room_of q)) (atoms_of q) ≡ true
query_named q formed = both_named (cond_named (room_of q)) (flat_map atoms q.hyps) (atoms q.goal) (several_named (room_of q) q.hyps formed.hyps) (atoms_named (room_of q) q.goal formed.goal)

known_named : (q : QueryTree) (cs : List CondTree) → IsWellFormed q → list_all (λ c. list_any (same_atom c) (atoms_of q)) cs ≡ true → list_all (cond_named (room_of q)) cs ≡ true
known_named q [] formed h = refl
known_named q (c ∷ cs) formed h = both _ _ (one_passes (cond_named (room_of q)) c (atoms_of q) (query_named q formed) (first _ _ h)) (known_named q cs formed (second _ _ h))

pub casing-named : (q : QueryTree) (cs : List CondTree) → IsWellFormed q → IsCasing q cs → list_all (cond_named (room_of q)) cs ≡ true
casing-named q cs formed casing = known_named q cs formed casing.known

pub frame-fit : (q : QueryTree) (atoms : List Atom) (spots : List Spot) → IsWellFormed q → IsWithin q → IsCasing q (conds_of atoms) → length spots ≡ q.elements → list_any (λ a. is_hopeless atoms spots (cond_tree a.cond.now) a.case) atoms ≡ false → All (IsFit (frame_of q atoms spots)) atoms
frame-fit q atoms spots formed within casing full hope = all-fit q (frame_of q atoms spots) refl refl full atoms spots atoms (limits-of q within.size) (casing-named q (conds_of atoms) formed casing) casing.known hope

pub frame-few : (q : QueryTree) (atoms : List Atom) → IsWithin q → IsCasing q (conds_of atoms) → 2 ^ q.sets + (2 * q.numbers + slack_total atoms) ≤ 67108863
frame-few q atoms within casing = few-columns q atoms casing (limits-of q within.size)

-- each need names regions
each_below : (regions width : ℕ) (empty : ℕ → Bool) (spots : List Spot) (atoms : List Atom) → regions ≤ width → (k : ℕ) → k < length (needs_of regions empty spots atoms) → (i : ℕ) → i < length (get_or (needs_of regions empty spots atoms) k []) → slice_index (get_or (needs_of regions empty spots atoms) k []) i < width
each_below regions width empty spots [] h = λ k l i e. absurd (nothing k l)
  where
    nothing : (k : ℕ) → k < 0 → ⊥
    nothing k l = omega arith
each_below regions width empty spots (a ∷ rest) h = by_wants (wants spots (cond_tree a.cond.now) a.case) (needs_of regions empty spots rest) (each_below regions width empty spots rest h)
  where
    one : (i : ℕ) → i < length (need_of regions empty (cond_tree a.cond.now)) → slice_index (need_of regions empty (cond_tree a.cond.now)) i < width
    one i e = let at = picks-at regions (λ r. not (empty r) && rest_differs r (cond_tree a.cond.now)) i e in omega (arith, h, at.0)

    by_wants : (b : Bool) (needs : List (List ℕ)) → ((k : ℕ) → k < length needs → (i : ℕ) → i < length (get_or needs k []) → slice_index (get_or needs k []) i < width)
        → (k : ℕ) → k < length (if b then need_of regions empty (cond_tree a.cond.now) ∷ needs else needs) → (i : ℕ) → i < length (get_or (if b then need_of regions empty (cond_tree a.cond.now) ∷ needs else needs) k []) → slice_index (get_or (if b then need_of regions empty (cond_tree a.cond.now) ∷ needs else needs) k []) i < width
    by_wants false needs below k l i e = below k l i e
    by_wants true needs below zero l i e = one i e
    by_wants true needs below (suc k) l i e = below k (omega arith) i e

pub system-formed : (q : QueryTree) (atoms : List Atom) (spots : List Spot) (s : System) → IsSystemOf q atoms spots s → system.IsWellFormed s
system-formed q atoms spots s made =
    let m : Frame = frame_of q atoms spots in
    record {
      entries = ap length made.entries ∙ length-entries m 0 atoms (omega arith) ∙ λ i. (sym made.rows i) * (sym made.columns i);
      right = ap length made.right ∙ sym made.rows;
      needs = λ k l i e.
          let wide : s.columns ≡ width_of m = made.columns in
          let below : (k : ℕ) → k < length s.needs → (i : ℕ) → i < length (get_or s.needs k []) → slice_index (get_or s.needs k []) i < s.columns =
          subst (λ (needs : List (List ℕ)). (k : ℕ) → k < length needs → (i : ℕ) → i < length (get_or needs k []) → slice_index (get_or needs k []) i < s.columns) (sym made.needs)
          (each_below (2 ^ q.sets) s.columns (emptied q.sets atoms) spots atoms (omega (arith, wide))) in
          below k l i e;
    }

-- the rows of the system, as lists
rows_equal : (q : QueryTree) (atoms : List Atom) (spots : List Spot) (s : System) (v : ℕ → ℕ) → IsSystemOf q atoms spots s → system.IsSolution s v → RowsEqual (width_of (frame_of q atoms spots)) v (entries_of (frame_of q atoms spots) 0 atoms) (rights_of (frame_of q atoms spots) atoms)
rows_equal q atoms spots s v made solved i h =
    (λ j. system.weighted (λ n. get_or (sym made.entries j) (i * (sym made.columns j) + n) (pos 0)) v (sym made.columns j)) ∙ solved.equal i (omega (arith, made.rows, h)) ∙ ap (λ xs. get_or xs i (pos 0)) made.right

equal_rows : (q : QueryTree) (atoms : List Atom) (spots : List Spot) (s : System) (v : ℕ → ℕ) → IsSystemOf q atoms spots s → RowsEqual (width_of (frame_of q atoms spots)) v (entries_of (frame_of q atoms spots) 0 atoms) (rights_of (frame_of q atoms spots) atoms) → EachMet (needs_of (2 ^ q.sets) (emptied q.sets atoms) spots atoms) v → system.IsSolution s v
equal_rows q atoms spots s v made equal met = record {
  equal = λ i h. (λ j. system.weighted (λ n. get_or (made.entries j) (i * (made.columns j) + n) (pos 0)) v (made.columns j)) ∙ equal i (omega (arith, made.rows, h)) ∙ ap (λ xs. get_or xs i (pos 0)) (sym made.right);
  met = subst (λ (needs : List (List ℕ)). EachMet needs v) (sym made.needs) met;
}

-- the sizes that a solution says refute the query
pub solution-refutes : (q : QueryTree) (atoms : List Atom) (spots : List Spot) (s : System) (v : ℕ → ℕ) (z : Sizing) → IsWellFormed q → IsCasing q (conds_of atoms) → IsPlacement q.sets spots → length spots ≡ q.elements
    → TellsQuery (Some false) spots atoms q → list_any (λ a. is_hopeless atoms spots (cond_tree a.cond.now) a.case) atoms ≡ false → IsSystemOf q atoms spots s → system.IsSolution s v → z ≡ said q atoms spots v → Refutes q z
solution-refutes q atoms spots s v z formed casing placement full untrue hope made solved e =
    let m : Frame = frame_of q atoms spots in
    let lines : AllLines m (said q atoms spots v) v 0 atoms = lines-of-rows m (said q atoms spots v) v (said-says q atoms spots v) 0 atoms (omega arith) (rows_equal q atoms spots s v made solved) in
    let each : EachMet (needs_of (2 ^ q.sets) (emptied q.sets atoms) spots atoms) v = subst (λ (needs : List (List ℕ)). EachMet needs v) made.needs solved.met in
    let met : AllMet (said q atoms spots v) atoms = all-met q atoms spots v atoms 0 (λ p h. h) (casing-named q (conds_of atoms) formed casing) casing.loose hope (needs-of-each (2 ^ q.sets) (emptied q.sets atoms) spots v atoms each) lines in
    let agree : Agrees (said q atoms spots v) spots atoms = agrees (said q atoms spots v) spots atoms (λ i h. refl) met in
    rw e (record { fits = said-fits q atoms spots v placement full; untrue = untrue (said q atoms spots v) agree })

-- two lists of places that are the same at each element
spots_same : (s u : List Spot) → length s ≡ length u → ((i : ℕ) → i < length s → spot_of s i ≡ spot_of u i) → s ≡ u
spots_same [] [] e h = refl
spots_same [] (x ∷ u) e h = absurd (omega (arith, e))
spots_same (x ∷ s) [] e h = absurd (omega (arith, e))
spots_same (x ∷ s) (y ∷ u) e h = λ i. (h 0 (omega arith) i) ∷ (spots_same s u (omega (arith, e)) (λ j k. h (suc j) (omega arith)) i)

pub left-spots : (q : QueryTree) (spots : List Spot) (atoms : List Atom) (z : Sizing) → length spots ≡ q.elements → IsLeft q spots atoms z → z.spots ≡ spots
left-spots q spots atoms z full left = spots_same z.spots spots (left.fits.spots ∙ sym full) (λ i h. left.placed i (omega (arith, full, left.fits.spots, h)))

-- sizes that are left are a solution
pub left-solves : (q : QueryTree) (atoms : List Atom) (spots : List Spot) (s : System) (z : Sizing) → length spots ≡ q.elements → IsSystemOf q atoms spots s → IsLeft q spots atoms z → (v : ℕ → ℕ) × system.IsSolution s v
left-solves q atoms spots s z full made left =
    let m : Frame = frame_of q atoms spots in
    let at : z.spots ≡ spots = left-spots q spots atoms z full left in
    let slacks = slacks-of m z 0 atoms left.met in
    let v : ℕ → ℕ = columns_of m z slacks.0 in
    let lines : AllLines m z v 0 atoms = lines-same m z v slacks.0 0 atoms (column_slack m z slacks.0) slacks.1 in
    let says : Says m z v = says-of q atoms spots z slacks.0 left.fits at left.met in
    (v, equal_rows q atoms spots s v made (rows-of-lines m z v says 0 atoms (omega arith) lines) (each-of-needs (2 ^ q.sets) (emptied q.sets atoms) spots v atoms (needs-met q atoms spots z slacks.0 left.fits at left.met atoms left.met)))

pub none-left : (q : QueryTree) (atoms : List Atom) (spots : List Spot) (s : System) → length spots ≡ q.elements → IsSystemOf q atoms spots s → ((v : ℕ → ℕ) → ¬ system.IsSolution s v) → NoneLeft q spots atoms
none-left q atoms spots s full made none z left = let found = left-solves q atoms spots s z full made left in absurd (none found.0 found.1)

pub hopeless-none : (q : QueryTree) (atoms : List Atom) (spots : List Spot) → length spots ≡ q.elements → list_any (λ a. is_hopeless atoms spots (cond_tree a.cond.now) a.case) atoms ≡ true → NoneLeft q spots atoms
hopeless-none q atoms spots full hope z left =
    let none : list_any (λ a. is_hopeless atoms spots (cond_tree a.cond.now) a.case) atoms ≡ false = all-hopeful z atoms spots atoms (left-spots q spots atoms z full left) left.met left.met in
    absurd (true≢false (sym hope ∙ none))

-- the frame as the code has it is that of the query
pub frame-is : (q : QueryTree) (atoms : List Atom) (spots : List Spot) (empty : List Bool) (total : ℕ) → empty ≡ listed (2 ^ q.sets) (is_empty atoms) → total ≡ slack_total atoms
    → record { regions = length empty; numbers = q.numbers; empty = λ r. get_or empty r false; spots = spots; total = total } ≡ frame_of q atoms spots
frame-is q atoms spots empty total e f =
    let size : length empty ≡ 2 ^ q.sets = ap length e ∙ length-listed (2 ^ q.sets) (is_empty atoms) in
    λ i. record { regions = size i; numbers = q.numbers; empty = λ r. get_or (e i) r false; spots = spots; total = f i }

pub few-regions : (s : ℕ) → s ≤ 6 → 2 ^ s ≤ 64
few-regions zero h = omega arith
few-regions (suc zero) h = omega arith
few-regions (suc (suc zero)) h = omega arith
few-regions (suc (suc (suc zero))) h = omega arith
few-regions (suc (suc (suc (suc zero)))) h = omega arith
few-regions (suc (suc (suc (suc (suc zero))))) h = omega arith
few-regions (suc (suc (suc (suc (suc (suc zero)))))) h = omega arith
few-regions (suc (suc (suc (suc (suc (suc (suc s))))))) h = absurd (omega arith)

pub few-empty : (s : ℕ) (atoms : List Atom) (empty : List Bool) → empty ≡ listed (2 ^ s) (is_empty atoms) → s ≤ 6 → length empty ≤ 64
few-empty s atoms empty e h = let size : length empty ≡ 2 ^ s = ap length e ∙ length-listed (2 ^ s) (is_empty atoms) in omega (arith, size, few-regions s h)

pub length-empty : (s : ℕ) (atoms : List Atom) (empty : List Bool) → empty ≡ listed (2 ^ s) (is_empty atoms) → length empty ≡ 2 ^ s
length-empty s atoms empty e = ap length e ∙ length-listed (2 ^ s) (is_empty atoms)

pub system-made : (q : QueryTree) (atoms : List Atom) (spots : List Spot) (empty : List Bool) (total : ℕ) (s : System) → empty ≡ listed (2 ^ q.sets) (is_empty atoms) → total ≡ slack_total atoms
    → (m : Frame) → m ≡ record { regions = length empty; numbers = q.numbers; empty = λ r. get_or empty r false; spots = spots; total = total }
    → s.rows ≡ length (rights_of m atoms) → s.columns ≡ length empty + (2 * q.numbers + total) → s.entries ≡ entries_of m 0 atoms → s.right ≡ rights_of m atoms → s.needs ≡ needs_of (length empty) (λ r. get_or empty r false) spots atoms
    → IsSystemOf q atoms spots s
system-made q atoms spots empty total s e f m same rows columns entries right needs =
    let frame : m ≡ frame_of q atoms spots = same ∙ frame-is q atoms spots empty total e f in
    let size : length empty ≡ 2 ^ q.sets = length-empty q.sets atoms empty e in
    record {
      rows = rows ∙ ap (λ n. length (rights_of n atoms)) frame;
      columns = columns ∙ (λ i. size i + (2 * q.numbers + f i));
      entries = entries ∙ ap (λ n. entries_of n 0 atoms) frame;
      right = right ∙ ap (λ n. rights_of n atoms) frame;
      needs = needs ∙ (λ i. needs_of (size i) (λ r. get_or (e i) r false) spots atoms);
    }

pub said-is : (q : QueryTree) (atoms : List Atom) (spots u : List Spot) (empty : List Bool) (v : ℕ → ℕ) (rest : List ℕ) (numbers : List ℤ) (flags : List Bool) → empty ≡ listed (2 ^ q.sets) (is_empty atoms)
    → rest ≡ listed (length empty) (λ r. if get_or empty r false then 0 else v r) → u ≡ spots
    → numbers ≡ listed q.numbers (λ l. pos (v (length empty + 2 * l)) -ℤ pos (v (length empty + (2 * l + 1)))) → flags ≡ listed q.flags (flag_chosen atoms)
    → record { rest = rest; spots = u; numbers = numbers; flags = flags } ≡ said q atoms spots v
said-is q atoms spots u empty v rest numbers flags e r s n f =
    let size : length empty ≡ 2 ^ q.sets = length-empty q.sets atoms empty e in
    let rests : rest ≡ listed (2 ^ q.sets) (λ r. if emptied q.sets atoms r then 0 else v r) = r ∙ (λ i. listed (size i) (λ r. if get_or (e i) r false then 0 else v r)) in
    let all : numbers ≡ listed q.numbers (λ l. pos (v (2 ^ q.sets + 2 * l)) -ℤ pos (v (2 ^ q.sets + (2 * l + 1)))) = n ∙ (λ i. listed q.numbers (λ l. pos (v (size i + 2 * l)) -ℤ pos (v (size i + (2 * l + 1))))) in
    λ i. record { rest = rests i; spots = s i; numbers = all i; flags = f i }
