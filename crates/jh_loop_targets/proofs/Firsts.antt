-- The locals that statements assign, each once where it first stands: gathering them gives the first ones.
use Rattle.std.proofs.Common.{◌≡◌, refl, sym, ap, ◌∙◌, ◌&&◌, ◌||◌, not, Bool, true, false, if◌then◌else◌, is_some, nat_eq, ℕ, List, [], ◌∷◌, ◌++◌, Option, Some, None, map, filter, arith}
use Rattle.std.specs.Option.{option_map_or}
use Rattle.std.proofs.lemmas.Bool.{true≢false}
use Rattle.std.proofs.lemmas.Bool.Decides.{nat_tests}
use Rattle.jh_name.specs.declared.place.Sort.{Sort}
use Rattle.jh_rules.specs.Words.{same_text}
use Rattle.jh_semantics.specs.Code.{Text, Local, Target, Stmt, Stmts}
use Rattle.jh_semantics.specs.Code as c
use Rattle.jh_guard.specs.Items.{Sorted, sorted_local}
use Rattle.jh_guard.specs.Writes.{local_named, target_local, target_of_stmt, declared, scope_after, locals_assigned, all_assigned, first_ones}
use Rattle.jh_loop_targets.specs.Gathering.{sort_named, is_among, with_one, with_all, target_adds, stmt_adds, stmts_add}

-- texts
nat-is : (a b : ℕ) (t : Bool) → nat_eq a b ≡ t → t ≡ true → a ≡ b
nat-is a b t e h = grind (arith, nat_tests)

nat-same : (a : ℕ) (t : Bool) → nat_eq a a ≡ t → nat_eq a a ≡ true
nat-same a true e = e
nat-same a false e = absurd (grind (arith, nat_tests))

both : (b d : Bool) → (b && d) ≡ true → (b ≡ true) × (d ≡ true)
both true d h = (refl, h)
both false d h = absurd (true≢false (sym h))

pub text-same : (x : Text) → same_text x x ≡ true
text-same [] = refl
text-same (a ∷ x) = λ i. nat-same a (nat_eq a a) refl i && text-same x i

pub text-is : (x y : Text) → same_text x y ≡ true → x ≡ y
text-is [] [] h = refl
text-is [] (b ∷ y) h = absurd (true≢false (sym h))
text-is (a ∷ x) [] h = absurd (true≢false (sym h))
text-is (a ∷ x) (b ∷ y) h = let k = both (nat_eq a b) (same_text x y) h in λ i. nat-is a b (nat_eq a b) refl k.0 i ∷ text-is x y k.1 i

-- which side a text stands on makes no difference
pub text-turned : (x y : Text) → same_text x y ≡ same_text y x
text-turned x y = by (same_text x y) (same_text y x) refl refl
  where
    by : (a b : Bool) → same_text x y ≡ a → same_text y x ≡ b → same_text x y ≡ same_text y x
    by true b e f = e ∙ sym (ap (λ z. same_text y z) (text-is x y e) ∙ text-same y)
    by false true e f = absurd (true≢false (sym (ap (λ z. same_text z y) (sym (text-is y x f)) ∙ text-same y) ∙ e))
    by false false e f = e ∙ sym f

-- lists
nothing : {X : Type 0} (xs : List X) → xs ++ [] ≡ xs
nothing [] = refl
nothing (x ∷ xs) = ap (λ ys. x ∷ ys) (nothing xs)

regroup : {X : Type 0} (xs ys zs : List X) → (xs ++ ys) ++ zs ≡ xs ++ (ys ++ zs)
regroup [] ys zs = refl
regroup (x ∷ xs) ys zs = ap (λ us. x ∷ us) (regroup xs ys zs)

filter-append : {X : Type 0} (f : X → Bool) (xs ys : List X) → filter f (xs ++ ys) ≡ filter f xs ++ filter f ys
filter-append f [] ys = refl
filter-append f (x ∷ xs) ys = by (f x) (filter-append f xs ys)
  where
    by : (b : Bool) → filter f (xs ++ ys) ≡ filter f xs ++ filter f ys → (if b then x ∷ filter f (xs ++ ys) else filter f (xs ++ ys)) ≡ (if b then x ∷ filter f xs else filter f xs) ++ filter f ys
    by true e = ap (λ zs. x ∷ zs) e
    by false e = e

-- a test that fails wherever another one does
filter-within : {X : Type 0} (f g : X → Bool) → ((x : X) → g x ≡ false → f x ≡ false) → (xs : List X) → filter f (filter g xs) ≡ filter f xs
filter-within f g h [] = refl
filter-within f g h (x ∷ xs) = by (g x) refl (f x) refl (filter-within f g h xs)
  where
    by : (b : Bool) → g x ≡ b → (d : Bool) → f x ≡ d → filter f (filter g xs) ≡ filter f xs → filter f (if b then x ∷ filter g xs else filter g xs) ≡ (if d then x ∷ filter f xs else filter f xs)
    by true e true k r = ap (λ t. if t then x ∷ filter f (filter g xs) else filter f (filter g xs)) k ∙ ap (λ zs. x ∷ zs) r
    by true e false k r = ap (λ t. if t then x ∷ filter f (filter g xs) else filter f (filter g xs)) k ∙ r
    by false e true k r = absurd (true≢false (sym k ∙ h x e))
    by false e false k r = r

filter-both : {X : Type 0} (f g k : X → Bool) → ((x : X) → k x ≡ (g x && f x)) → (xs : List X) → filter k xs ≡ filter f (filter g xs)
filter-both f g k h [] = refl
filter-both f g k h (x ∷ xs) = ap (λ t. if t then x ∷ filter k xs else filter k xs) (h x) ∙ by (g x) (filter-both f g k h xs)
  where
    by : (b : Bool) → filter k xs ≡ filter f (filter g xs) → (if b && f x then x ∷ filter k xs else filter k xs) ≡ filter f (if b then x ∷ filter g xs else filter g xs)
    by true e = ap (λ zs. if f x then x ∷ zs else zs) e
    by false e = e

filter-all : {X : Type 0} (f : X → Bool) → ((x : X) → f x ≡ true) → (xs : List X) → filter f xs ≡ xs
filter-all f h [] = refl
filter-all f h (x ∷ xs) = ap (λ t. if t then x ∷ filter f xs else filter f xs) (h x) ∙ ap (λ zs. x ∷ zs) (filter-all f h xs)

-- names, and one more
abbrev or-else : {X : Type 0} → Option X → Option X → Option X
or-else None d = d
or-else (Some x) d = Some x

or-none : {X : Type 0} (o : Option X) → or-else o None ≡ o
or-none None = refl
or-none (Some x) = refl

or-group : {X : Type 0} (a b d : Option X) → or-else (or-else a b) d ≡ or-else a (or-else b d)
or-group None b d = refl
or-group (Some x) b d = refl

some-or : {X : Type 0} (a b : Option X) → is_some (or-else a b) ≡ (is_some a || is_some b)
some-or None b = refl
some-or (Some x) b = refl

sort-append : (xs ys : List Sorted) (x : Text) → sort_named (xs ++ ys) x ≡ or-else (sort_named xs x) (sort_named ys x)
sort-append [] ys x = refl
sort-append (s ∷ xs) ys x = by (same_text x s.text) (sort-append xs ys x)
  where
    by : (b : Bool) → sort_named (xs ++ ys) x ≡ or-else (sort_named xs x) (sort_named ys x) → (if b then Some s.sort else sort_named (xs ++ ys) x) ≡ or-else (if b then Some s.sort else sort_named xs x) (sort_named ys x)
    by true r = refl
    by false r = r

among-append : (xs ys : List Sorted) (x : Text) → is_among (xs ++ ys) x ≡ (is_among xs x || is_among ys x)
among-append xs ys x = ap is_some (sort-append xs ys x) ∙ some-or (sort_named xs x) (sort_named ys x)

among-single : (s : Sorted) (x : Text) → is_among (s ∷ []) x ≡ same_text x s.text
among-single s x = by (same_text x s.text)
  where
    by : (b : Bool) → is_some (if b then Some s.sort else None) ≡ b
    by true = refl
    by false = refl

or-same : (a b : Bool) → (b ≡ true → a ≡ true) → a ≡ (a || b)
or-same true b h = refl
or-same false true h = h refl
or-same false false h = refl

pub among-one : (xs : List Sorted) (s : Sorted) (x : Text) → is_among (with_one xs s) x ≡ (is_among xs x || same_text x s.text)
among-one xs s x = by (is_among xs s.text) refl
  where
    by : (b : Bool) → is_among xs s.text ≡ b → is_among (if b then xs else xs ++ s ∷ []) x ≡ (is_among xs x || same_text x s.text)
    by true e = or-same (is_among xs x) (same_text x s.text) (λ h. ap (is_among xs) (text-is x s.text h) ∙ e)
    by false e = among-append xs (s ∷ []) x ∙ ap (λ b. is_among xs x || b) (among-single s x)

or-left : (a b : Bool) → a ≡ true → (a || b) ≡ true
or-left a b h = ap (λ d. d || b) h

or-right : (a b : Bool) → b ≡ true → (a || b) ≡ true
or-right true b h = refl
or-right false b h = h

among-stays : (ys : List Local) (xs : List Sorted) (x : Text) → is_among xs x ≡ true → is_among (with_all xs ys) x ≡ true
unfolding with_all
among-stays [] xs x h = h
among-stays (y ∷ ys) xs x h = among-stays ys (with_one xs (sorted_local y)) x (among-one xs (sorted_local y) x ∙ or-left (is_among xs x) (same_text x y.text) h)

pub with_all-append : (us vs : List Local) (xs : List Sorted) → with_all xs (us ++ vs) ≡ with_all (with_all xs us) vs
unfolding with_all
with_all-append [] vs xs = refl
with_all-append (u ∷ us) vs xs = with_all-append us vs (with_one xs (sorted_local u))

-- Adding locals one after another adds the first ones that are not there.
abbrev is-new : List Sorted → Local → Bool
is-new xs z = not (is_among xs z.text)

abbrev is-other : Local → Local → Bool
is-other y z = not (same_text z.text y.text)

new-after : (a b : Bool) → not (a || b) ≡ (not b && not a)
new-after true true = refl
new-after true false = refl
new-after false true = refl
new-after false false = refl

not-false : (b : Bool) → not b ≡ false → b ≡ true
not-false true h = refl
not-false false h = absurd (true≢false h)

with_all-by : (y : Local) (ys : List Local) (xs : List Sorted) (b : Bool) → is_among xs y.text ≡ b → with_all xs ys ≡ xs ++ map sorted_local (filter (is-new xs) (first_ones ys)) →
    with_all (xs ++ sorted_local y ∷ []) ys ≡ (xs ++ sorted_local y ∷ []) ++ map sorted_local (filter (is-new (xs ++ sorted_local y ∷ [])) (first_ones ys)) →
    with_all (if b then xs else xs ++ sorted_local y ∷ []) ys ≡ xs ++ map sorted_local (if not b then y ∷ filter (is-new xs) (filter (is-other y) (first_ones ys)) else filter (is-new xs) (filter (is-other y) (first_ones ys)))
with_all-by y ys xs true e r q =
    r
    ∙ ap (λ zs. xs ++ map sorted_local zs) (sym (filter-within (is-new xs) (is-other y) (λ z h. ap not (ap (is_among xs) (text-is z.text y.text (not-false (same_text z.text y.text) h)) ∙ e)) (first_ones ys)))
with_all-by y ys xs false e r q =
    q
    ∙ regroup xs (sorted_local y ∷ []) (map sorted_local (filter (is-new (xs ++ sorted_local y ∷ [])) (first_ones ys)))
    ∙ ap (λ zs. xs ++ (sorted_local y ∷ map sorted_local zs))
    (filter-both (is-new xs) (is-other y) (is-new (xs ++ sorted_local y ∷ [])) (λ z. ap not (among-append xs (sorted_local y ∷ []) z.text ∙ ap (λ b. is_among xs z.text || b) (among-single (sorted_local y) z.text)) ∙ new-after (is_among xs z.text) (same_text z.text y.text)) (first_ones ys))

with_all-is : (ys : List Local) (xs : List Sorted) → with_all xs ys ≡ xs ++ map sorted_local (filter (is-new xs) (first_ones ys))
unfolding with_all
with_all-is [] xs = sym (nothing xs)
with_all-is (y ∷ ys) xs = with_all-by y ys xs (is_among xs y.text) refl (with_all-is ys xs) (with_all-is ys (xs ++ sorted_local y ∷ []))

-- The sort of a local of a text, by the first that has it.
abbrev first-sort : List Local → Text → Option Sort
first-sort [] x = None
first-sort (y ∷ ys) x = if same_text y.text x then Some (sorted_local y).sort else first-sort ys x

present : {X : Type 0} (o d : Option X) → is_some o ≡ true → o ≡ or-else o d
present None d h = absurd (true≢false (sym h))
present (Some x) d h = refl

if-or : {X : Type 0} (t : Bool) (x : X) (d : Option X) → or-else (if t then Some x else None) d ≡ (if t then Some x else d)
if-or true x d = refl
if-or false x d = refl

one-there : (xs : List Sorted) (s : Sorted) → is_among xs s.text ≡ true → with_one xs s ≡ xs
one-there xs s h = ap (λ b. if b then xs else xs ++ s ∷ []) h

sort-with-one : (xs : List Sorted) (s : Sorted) (x : Text) → sort_named (with_one xs s) x ≡ or-else (sort_named xs x) (if same_text x s.text then Some s.sort else None)
sort-with-one xs s x = by (is_among xs s.text) refl (same_text x s.text) refl
  where
    by : (b : Bool) → is_among xs s.text ≡ b → (t : Bool) → same_text x s.text ≡ t → sort_named (if b then xs else xs ++ s ∷ []) x ≡ or-else (sort_named xs x) (if same_text x s.text then Some s.sort else None)
    by true e true h = present (sort_named xs x) (if same_text x s.text then Some s.sort else None) (ap (is_among xs) (text-is x s.text h) ∙ e)
    by true e false h = sym (ap (λ t. or-else (sort_named xs x) (if t then Some s.sort else None)) h ∙ or-none (sort_named xs x))
    by false e t h = sort-append xs (s ∷ []) x

sort-with-all : (ys : List Local) (xs : List Sorted) (x : Text) → sort_named (with_all xs ys) x ≡ or-else (sort_named xs x) (first-sort ys x)
unfolding with_all
sort-with-all [] xs x = sym (or-none (sort_named xs x))
sort-with-all (y ∷ ys) xs x =
    sort-with-all ys (with_one xs (sorted_local y)) x
    ∙ ap (λ o. or-else o (first-sort ys x)) (sort-with-one xs (sorted_local y) x)
    ∙ or-group (sort_named xs x) (if same_text x y.text then Some (sorted_local y).sort else None) (first-sort ys x)
    ∙ ap (or-else (sort_named xs x)) (if-or (same_text x y.text) (sorted_local y).sort (first-sort ys x) ∙ ap (λ t. if t then Some (sorted_local y).sort else first-sort ys x) (text-turned x y.text))

-- locals of a text that is there add nothing
stays-by : (y : Local) (ys : List Local) (xs : List Sorted) (x : Text) → is_among xs x ≡ true → (t : Bool) → same_text y.text x ≡ t → with_all xs (local_named x ys) ≡ xs → with_all xs (if t then y ∷ local_named x ys else local_named x ys) ≡ xs
unfolding with_all
stays-by y ys xs x h true e r = ap (λ w. with_all w (local_named x ys)) (one-there xs (sorted_local y) (ap (is_among xs) (text-is y.text x e) ∙ h)) ∙ r
stays-by y ys xs x h false e r = r

stays-among : (ys : List Local) (xs : List Sorted) (x : Text) → is_among xs x ≡ true → with_all xs (local_named x ys) ≡ xs
unfolding with_all
stays-among [] xs x h = refl
stays-among (y ∷ ys) xs x h = stays-by y ys xs x h (same_text y.text x) refl (stays-among ys xs x h)

-- the locals of a text add the first one
first-by : (y : Local) (ys : List Local) (xs : List Sorted) (x : Text) (t : Bool) → same_text y.text x ≡ t → with_all xs (local_named x ys) ≡ option_map_or (λ k. with_one xs (record { text = x; sort = k })) (first-sort ys x) xs →
    with_all xs (if t then y ∷ local_named x ys else local_named x ys) ≡ option_map_or (λ k. with_one xs (record { text = x; sort = k })) (if t then Some (sorted_local y).sort else first-sort ys x) xs
unfolding with_all
first-by y ys xs x true e r =
    stays-among ys (with_one xs (sorted_local y)) x (among-one xs (sorted_local y) x ∙ or-right (is_among xs x) (same_text x y.text) (text-turned x y.text ∙ e))
    ∙ (λ i. with_one xs (record { text = text-is y.text x e i; sort = (sorted_local y).sort }))
first-by y ys xs x false e r = r

first-named : (ys : List Local) (xs : List Sorted) (x : Text) → with_all xs (local_named x ys) ≡ option_map_or (λ k. with_one xs (record { text = x; sort = k })) (first-sort ys x) xs
unfolding with_all
first-named [] xs x = refl
first-named (y ∷ ys) xs x = first-by y ys xs x (same_text y.text x) refl (first-named ys xs x)

-- all of some locals are there
abbrev all-among : List Sorted → List Local → Bool
all-among xs [] = true
all-among xs (d ∷ ds) = is_among xs d.text && all-among xs ds

and-both : (a b : Bool) → a ≡ true → b ≡ true → (a && b) ≡ true
and-both a b h k = ap (λ d. d && b) h ∙ k

all-stays : (ds : List Local) (xs : List Sorted) (ys : List Local) → all-among xs ds ≡ true → all-among (with_all xs ys) ds ≡ true
all-stays [] xs ys h = refl
all-stays (d ∷ ds) xs ys h =
    let k = both (is_among xs d.text) (all-among xs ds) h in
    and-both (is_among (with_all xs ys) d.text) (all-among (with_all xs ys) ds) (among-stays ys xs d.text k.0) (all-stays ds xs ys k.1)

all-append : (ds es : List Local) (xs : List Sorted) → all-among xs ds ≡ true → all-among xs es ≡ true → all-among xs (ds ++ es) ≡ true
all-append [] es xs h k = k
all-append (d ∷ ds) es xs h k =
    let b = both (is_among xs d.text) (all-among xs ds) h in
    and-both (is_among xs d.text) (all-among xs (ds ++ es)) b.0 (all-append ds es xs b.1 k)

within-by : (d : Local) (ds : List Local) (xs : List Sorted) (x : Text) → is_among xs d.text ≡ true → (t : Bool) → with_all xs (local_named x ds) ≡ xs → with_all xs (if t then d ∷ local_named x ds else local_named x ds) ≡ xs
unfolding with_all
within-by d ds xs x h true r = ap (λ w. with_all w (local_named x ds)) (one-there xs (sorted_local d) h) ∙ r
within-by d ds xs x h false r = r

within : (ds : List Local) (xs : List Sorted) (x : Text) → all-among xs ds ≡ true → with_all xs (local_named x ds) ≡ xs
unfolding with_all
within [] xs x h = refl
within (d ∷ ds) xs x h = let k = both (is_among xs d.text) (all-among xs ds) h in within-by d ds xs x k.0 (same_text d.text x) (within ds xs x k.1)

-- Statements, with some locals in scope before them all, and others that are declared and gathered since.
module _ (outer : List Local) where
  abbrev scope : List Sorted
  scope = with_all [] outer

  target-adds : (t : Target) (ds : List Local) (xs : List Sorted) → all-among xs ds ≡ true → target_adds scope t xs ≡ with_all xs (target_local (outer ++ ds) t)
  unfolding with_all
  target-adds c.nowhere ds xs h = refl
  target-adds (c.to_new y) ds xs h = refl
  target-adds (c.to_name y) ds xs h =
      ap (λ o. option_map_or (λ k. with_one xs (record { text = y; sort = k })) o xs) (sort-with-all outer [] y)
      ∙ sym (first-named outer xs y)
      ∙ sym (within ds (with_all xs (local_named y outer)) y (all-stays ds xs (local_named y outer) h))
      ∙ sym (with_all-append (local_named y outer) (local_named y ds) xs)
      ∙ ap (with_all xs) (sym (filter-append (λ (z : Local). same_text z.text y) outer ds))
  target-adds (c.to_field f r q) ds xs h = refl

  target-declared : (t : Target) (sc : List Local) (xs : List Sorted) → all-among (with_all xs (target_local sc t)) (declared t) ≡ true
  unfolding with_all
  target-declared c.nowhere sc xs = refl
  target-declared (c.to_new y) sc xs = and-both (is_among (with_one xs (sorted_local y)) y.text) true (among-one xs (sorted_local y) y.text ∙ or-right (is_among xs y.text) (same_text y.text y.text) (text-same y.text)) refl
  target-declared (c.to_name y) sc xs = refl
  target-declared (c.to_field f r q) sc xs = refl

  stmt-declared : (s : Stmt) (sc : List Local) (xs : List Sorted) → all-among (with_all xs (locals_assigned sc s)) (declared (target_of_stmt s)) ≡ true
  stmt-declared c.empty sc xs = refl
  stmt-declared (c.block body) sc xs = refl
  stmt-declared (c.assign target e) sc xs = target-declared target sc xs
  stmt-declared (c.new_object q target class) sc xs = target-declared target sc xs
  stmt-declared (c.call q target receiver p m args) sc xs = target-declared target sc xs
  stmt-declared (c.branch q e a b) sc xs = refl
  stmt-declared (c.loop q invariants e body) sc xs = refl
  stmt-declared c.return_nothing sc xs = refl
  stmt-declared (c.return_value e) sc xs = refl
  stmt-declared (c.assert claim) sc xs = refl
  stmt-declared (c.note claim) sc xs = refl
  stmt-declared (c.ghost y q v) sc xs = refl
  stmt-declared (c.ghost_at p class f a q v) sc xs = refl

  mutual
    unfolding stmt_adds

    stmt-adds : (s : Stmt) (ds : List Local) (xs : List Sorted) → all-among xs ds ≡ true → stmt_adds scope s xs ≡ with_all xs (locals_assigned (outer ++ ds) s)
    stmt-adds c.empty ds xs h = target-adds c.nowhere ds xs h
    stmt-adds (c.block body) ds xs h = stmts-add body ds xs h
    stmt-adds (c.assign target e) ds xs h = target-adds target ds xs h
    stmt-adds (c.new_object q target class) ds xs h = target-adds target ds xs h
    stmt-adds (c.call q target receiver p m args) ds xs h = target-adds target ds xs h
    stmt-adds (c.branch q e a b) ds xs h =
        ap (stmts_add scope b) (stmt-adds a ds xs h)
        ∙ stmts-add b ds (with_all xs (locals_assigned (outer ++ ds) a)) (all-stays ds xs (locals_assigned (outer ++ ds) a) h)
        ∙ sym (with_all-append (locals_assigned (outer ++ ds) a) (all_assigned (outer ++ ds) b) xs)
    stmt-adds (c.loop q invariants e body) ds xs h = stmt-adds body ds xs h
    stmt-adds c.return_nothing ds xs h = target-adds c.nowhere ds xs h
    stmt-adds (c.return_value e) ds xs h = target-adds c.nowhere ds xs h
    stmt-adds (c.assert claim) ds xs h = target-adds c.nowhere ds xs h
    stmt-adds (c.note claim) ds xs h = target-adds c.nowhere ds xs h
    stmt-adds (c.ghost y q v) ds xs h = target-adds c.nowhere ds xs h
    stmt-adds (c.ghost_at p class f a q v) ds xs h = target-adds c.nowhere ds xs h

    stmts-add : (ss : Stmts) (ds : List Local) (xs : List Sorted) → all-among xs ds ≡ true → stmts_add scope ss xs ≡ with_all xs (all_assigned (outer ++ ds) ss)
    stmts-add c.none ds xs h = target-adds c.nowhere ds xs h
    stmts-add (c.more s ss) ds xs h =
        let more = declared (target_of_stmt s) in
        let xs' = with_all xs (locals_assigned (outer ++ ds) s) in
        ap (stmts_add scope ss) (stmt-adds s ds xs h)
        ∙ stmts-add ss (ds ++ more) xs' (all-append ds more xs' (all-stays ds xs (locals_assigned (outer ++ ds) s) h) (stmt-declared s (outer ++ ds) xs))
        ∙ ap (λ sc. with_all xs' (all_assigned sc ss)) (sym (regroup outer ds more))
        ∙ sym (with_all-append (locals_assigned (outer ++ ds) s) (all_assigned (scope_after (outer ++ ds) s) ss) xs)

  -- what is gathered of a statement are the first ones of the locals that it assigns
  pub firsts-are : (s : Stmt) → stmt_adds scope s [] ≡ map sorted_local (first_ones (locals_assigned outer s))
  firsts-are s =
      stmt-adds s [] [] refl
      ∙ ap (λ sc. with_all [] (locals_assigned sc s)) (nothing outer)
      ∙ with_all-is (locals_assigned outer s) []
      ∙ ap (map sorted_local) (filter-all (is-new []) (λ z. refl) (first_ones (locals_assigned outer s)))
