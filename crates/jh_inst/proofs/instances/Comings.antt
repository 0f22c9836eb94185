-- The closed terms of what is put are terms that were there, or come of variables: no more than the universals weigh.
use Rattle.std.proofs.Common.{◌≡◌, refl, sym, ap, subst, ℕ, zero, suc, ◌+◌, ◌^◌, ◌≤◌, arith, length, Bool, true, false, not, if◌then◌else◌, List, [], ◌∷◌, ◌++◌, ◌⊎◌, inl, inr, map, filter}
use Rattle.std.specs.List.{flat_map}
use Rattle.jh_form.specs.Tree.{TermTree, FormulaTree}
use Rattle.jh_form.specs.Tree as t
use Rattle.jh_form.specs.Closed.{is_closed_term}
use Rattle.jh_seq.specs.splitting.Local.{has_local_shape}
use Rattle.jh_seq.specs.splitting.Split.{constant}
use Rattle.jh_inst.specs.instances.Witnesses.{witnesses, witnessed}
use Rattle.jh_inst.specs.instances.Prenex.{prenex, in_front}
use Rattle.jh_inst.specs.instances.Terms.{object_terms, closed_terms}
use Rattle.jh_inst.specs.instances.Choices.{choices, is_old, new_choices}
use Rattle.jh_inst.specs.instances.Entries.{Entry, formulas}
use Rattle.jh_inst.specs.instances.Rounds.{AtHand, put_at, made_constants, puts, all_puts}
use Rattle.jh_inst.specs.instances.Count.{total, weight}
use Rattle.jh_inst.proofs.instances.Fronting.{prenex-comes, under-has, filter-in, in-filter}
use Rattle.jh_inst.proofs.instances.Gathering.{all_of, all_filled, gather_under, gather_top, gather_front, front-length, front-parted}
use Rattle.jh_inst.proofs.instances.Growth.{Within, Has, Whole, AllLocal}
use Rattle.jh_inst.proofs.instances.Lengths.{length-both, In, in-left, in-right, new-choices-fewer, power-le}
use Rattle.jh_inst.proofs.instances.Putting.{hand, formulas-both}
use Rattle.jh_inst.proofs.instances.Shaped.{witnessed-shaped, prenex-shaped}
use Rattle.jh_inst.proofs.instances.Stages.{IsThere, AllThere, put-comes, put-shaped, put-front, front-none, witnessed-comes, moved}

-- choices of terms that are there, one for each of so many variables
abbrev pub EachGood : List TermTree → ℕ → List (List TermTree) → Type 0
EachGood ts v [] = Unit {0}
EachGood ts v (c ∷ cs) = AllThere ts c × (length c ≡ v) × EachGood ts v cs

module _ (ts : List TermTree) where
  good-both : (v : ℕ) (cs ds : List (List TermTree)) → EachGood ts v cs → EachGood ts v ds → EachGood ts v (cs ++ ds)
  good-both v [] ds g h = h
  good-both v (c ∷ cs) ds g h = (g.0, g.1, good-both v cs ds g.2 h)

  good-behind : (v : ℕ) (a : TermTree) (cs : List (List TermTree)) → IsThere ts a → EachGood ts v cs → EachGood ts (suc v) (map (λ c. a ∷ c) cs)
  good-behind v a [] h g = tt
  good-behind v a (c ∷ cs) h g = ((h, g.0), ap suc g.1, good-behind v a cs h g.2)

  good-more : (v : ℕ) (us : List TermTree) (cs : List (List TermTree)) → ((w : TermTree) → In w us → IsThere ts w) → EachGood ts v cs → EachGood ts (suc v) (flat_map (λ a. map (λ c. a ∷ c) cs) us)
  good-more v [] cs h g = tt
  good-more v (a ∷ us) cs h g = good-both (suc v) (map (λ c. a ∷ c) cs) (flat_map (λ b. map (λ c. b ∷ c) cs) us) (good-behind v a cs (h a (inl refl)) g) (good-more v us cs (λ w i. h w (inr i)) g)

  good-choices : (v : ℕ) → Whole ts → EachGood ts v (choices v ts)
  good-choices zero h = (tt, refl, tt)
  good-choices (suc v) h = good-more v ts (choices v ts) h (good-choices v h)

  good-kept : (v : ℕ) (b : Bool) (c : List TermTree) (cs : List (List TermTree)) → AllThere ts c → length c ≡ v → EachGood ts v cs → EachGood ts v (if b then c ∷ cs else cs)
  good-kept v true c cs h e g = (h, e, g)
  good-kept v false c cs h e g = g

  good-filter : (v : ℕ) (test : List TermTree → Bool) (cs : List (List TermTree)) → EachGood ts v cs → EachGood ts v (filter test cs)
  good-filter v test [] g = tt
  good-filter v test (c ∷ cs) g = good-kept v (test c) c (filter test cs) g.0 g.1 (good-filter v test cs g.2)

  pub good-new : (v : ℕ) (old : List TermTree) → Whole ts → EachGood ts v (new_choices v ts old)
  good-new v old h = good-filter v (λ c. not (is_old old c)) (choices v ts) (good-choices v h)

-- the numbers of the first constants of puts, and the constants of the `ex` number j
abbrev starts : AtHand → List (List TermTree) → ℕ → List ℕ
starts h [] k = []
starts h (c ∷ cs) k = k ∷ starts h cs (k + witnesses (put_at h.formula c))

starts-many : (h : AtHand) (cs : List (List TermTree)) (k : ℕ) → length (starts h cs k) ≡ length cs
starts-many h [] k = refl
starts-many h (c ∷ cs) k = ap suc (starts-many h cs (k + witnesses (put_at h.formula c)))

abbrev constants_at : List ℕ → ℕ → List TermTree
constants_at [] j = []
constants_at (s ∷ ss) j = t.free_object (constant (s + j)) ∷ constants_at ss j

constants-many : (ss : List ℕ) (j : ℕ) → length (constants_at ss j) ≡ length ss
constants-many [] j = refl
constants-many (s ∷ ss) j = ap suc (constants-many ss j)

constant-in : (s : ℕ) (ss : List ℕ) (j : ℕ) → In s ss → In (t.free_object (constant (s + j))) (constants_at ss j)
constant-in s [] j h = absurd h
constant-in s (r ∷ ss) j (inl e) = inl (ap (λ z. t.free_object (constant (z + j))) e)
constant-in s (r ∷ ss) j (inr h) = inr (constant-in s ss j h)

-- what a universal weighs
abbrev pub weighs : ℕ → FormulaTree → ℕ
weighs n a = weight n a [] 0

module _ (ts : List TermTree) (whole : Whole ts) where
  -- one put
  entry-comes : (all : List ℕ) (a : FormulaTree) → has_local_shape a ≡ true → ((x : TermTree) → In x (closed_terms a) → In x ts) →
      (c : List TermTree) (k : ℕ) → AllThere ts c → length c ≡ in_front a → In k all → (x : TermTree) → In x (closed_terms (prenex (witnessed (put_at a c) [] k))) →
      In x ts ⊎ In x (gather_front all_filled (constants_at all) ts a [])
  entry-comes all a l has c k there many at x h =
      let y : FormulaTree = put_at a c in
      let z : FormulaTree = witnessed y [] k in
      let ly : has_local_shape y ≡ true = put-shaped ts c a there l in
      let lz : has_local_shape z ≡ true = witnessed-shaped y [] k ly in
      let cs : ℕ → List TermTree = constants_at all in
      let found = filter-in (λ b. is_closed_term b 0) x (object_terms (prenex z)) h in
      let under : In x (gather_under all_of z []) = prenex-comes z lz x (under-has x found.1 (prenex z) [] (prenex-shaped z lz) found.0) in
      let top : In x (gather_top all_of cs y [] 0) = witnessed-comes cs k (λ j. constant-in k all j at) y [] [] k 0 (omega arith) tt ly x under in
      let front : In x (gather_front all_of cs ts y []) = moved x (gather_top all_of cs y [] 0) (gather_front all_of cs ts y []) (front-none all_of cs ts y (put-front c a many)) top in
      elim (put-comes ts cs c a there l x front) [
        | inl old ↦ inl old
        | inr new ↦ elim (front-parted x cs ts a [] l new) [
          | inl closed ↦ inl (has x (in-filter (λ b. is_closed_term b 0) x (object_terms a) closed.1 closed.0))
          | inr more ↦ inr more
        ]
      ]

  puts-within : (all : List ℕ) (h : AtHand) → has_local_shape h.formula ≡ true → ((x : TermTree) → In x (closed_terms h.formula) → In x ts) →
      (cs : List (List TermTree)) (k : ℕ) → EachGood ts (in_front h.formula) cs → ((s : ℕ) → In s (starts h cs k) → In s all) →
      Within ts (gather_front all_filled (constants_at all) ts h.formula []) (formulas (puts h cs k))
  puts-within all h l has [] k good sub = tt
  puts-within all h l has (c ∷ cs) k good sub = (
    entry-comes all h.formula l has c k good.0 good.1 (sub k (inl refl)),
    puts-within all h l has cs (k + witnesses (put_at h.formula c)) good.2 (λ s i. sub s (inr i)),
  )

  within-left : (xs ys : List TermTree) (fs : List FormulaTree) → Within ts xs fs → Within ts (xs ++ ys) fs
  within-left xs ys [] w = tt
  within-left xs ys (a ∷ fs) w = ((λ x h. widen x (w.0 x h)), within-left xs ys fs w.1)
    where
      widen : (x : TermTree) → In x ts ⊎ In x xs → In x ts ⊎ In x (xs ++ ys)
      widen x (inl h) = inl h
      widen x (inr h) = inr (in-left x xs ys h)

  within-right : (xs ys : List TermTree) (fs : List FormulaTree) → Within ts ys fs → Within ts (xs ++ ys) fs
  within-right xs ys [] w = tt
  within-right xs ys (a ∷ fs) w = ((λ x h. widen x (w.0 x h)), within-right xs ys fs w.1)
    where
      widen : (x : TermTree) → In x ts ⊎ In x ys → In x ts ⊎ In x (xs ++ ys)
      widen x (inl h) = inl h
      widen x (inr h) = inr (in-right x xs ys h)

  within-both : (xs : List TermTree) (fs gs : List FormulaTree) → Within ts xs fs → Within ts xs gs → Within ts xs (fs ++ gs)
  within-both xs [] gs w v = v
  within-both xs (a ∷ fs) gs w v = (w.0, within-both xs fs gs w.1 v)

  few-starts : (n v : ℕ) → length ts ≤ n → (h : AtHand) (cs : List (List TermTree)) (k j : ℕ) → length cs ≤ length ts ^ v → length (constants_at (starts h cs k) j) ≤ n ^ v
  few-starts n v le h cs k j f =
      let one : length (constants_at (starts h cs k) j) ≡ length (starts h cs k) = constants-many (starts h cs k) j in
      let two : length (starts h cs k) ≡ length cs = starts-many h cs k in
      let three : length ts ^ v ≤ n ^ v = power-le v (length ts) n le in
      omega (arith, f, one, two, three)

  abbrev pub Comes : ℕ → List AtHand → ℕ → Type 0
  Comes n hs k = (more : List TermTree) × Within ts more (formulas (all_puts hs ts k)) × (length more ≤ total (weighs n) (hand hs))

  pub all-come : (n : ℕ) → length ts ≤ n → (hs : List AtHand) (k : ℕ) → AllLocal (hand hs) → Has ts (hand hs) → Comes n hs k
  all-come n le [] k l has = ([], tt, omega arith)
  all-come n le (h ∷ hs) k l has =
      let v : ℕ = in_front h.formula in
      let cs : List (List TermTree) = new_choices v ts h.old in
      let all : List ℕ = starts h cs k in
      let here : List Entry = puts h cs k in
      let first : List TermTree = gather_front all_filled (constants_at all) ts h.formula [] in
      let rest = all-come n le hs (k + made_constants here) l.1 has.1 in
      let within = puts-within all h l.0 has.0 cs k (good-new ts v h.old whole) (λ s i. i) in
      let few : length first ≤ weighs n h.formula = front-length n (constants_at all) v (λ j. few-starts n v le h cs k j (new-choices-fewer v ts h.old)) ts le h.formula [] [] 0 (omega arith) tt in
      let long : length (first ++ rest.0) ≡ length first + length rest.0 = length-both first rest.0 in (
        first ++ rest.0,
        subst (λ z. Within ts (first ++ rest.0) z) (sym (formulas-both here (all_puts hs ts (k + made_constants here))))
            (within-both (first ++ rest.0) (formulas here) (formulas (all_puts hs ts (k + made_constants here))) (within-left first rest.0 (formulas here) within) (within-right first rest.0 (formulas (all_puts hs ts (k + made_constants here))) rest.1)),
        omega (arith, few, long, rest.2),
      )
