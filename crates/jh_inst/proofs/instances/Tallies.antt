-- The tally of a round covers the round: no more is put, at hand or a term than it counts.
use Rattle.std.proofs.Common.{◌≡◌, refl, sym, ap, ◌∙◌, subst, ℕ, zero, suc, ◌+◌, ◌*◌, ◌^◌, ◌<◌, ◌≤◌, ◌==◌, arith, length, Bool, true, false, if◌then◌else◌, List, [], ◌∷◌, ◌++◌, replicate, append_assoc, pow-suc}
use Rattle.std.proofs.lemmas.Bool.{ltb-true}
use Rattle.std.proofs.lemmas.Bool.Decides.{nat_tests}
use Rattle.std.proofs.lemmas.List.{append-nil}
use Rattle.std.proofs.lemmas.Nat.{mul-le}
use native.Mathlib.Nat.{pow-zero}
use Rattle.jh_form.specs.Tree.{TermTree, FormulaTree}
use Rattle.jh_form.specs.Tree as t
use Rattle.jh_form.specs.Closed.{is_closed_term, is_closed_field}
use Rattle.jh_form.proofs.ClosedLemmas.{both-right}
use Rattle.jh_seq.specs.splitting.Local.{has_local_shape}
use Rattle.jh_inst.specs.instances.Witnesses.{witnesses, witnessed}
use Rattle.jh_inst.specs.instances.Prenex.{in_front}
use Rattle.jh_inst.specs.instances.Terms.{closed_terms, with_terms_of}
use Rattle.jh_inst.specs.instances.Choices.{new_choices}
use Rattle.jh_inst.specs.instances.Entries.{Entry, formulas}
use Rattle.jh_inst.specs.instances.Rounds.{AtHand, put_at, made_constants, puts, all_puts, universals, Progress, put_before, round, rounds, of_one, ended}
use Rattle.jh_inst.specs.instances.Count.{total, weight, Group, group, groups, group_puts, left_by, group_left, all_left, group_terms, Tally, tally_round, tally_rounds, last_count, tally_end}
use Rattle.jh_inst.proofs.instances.Comings.{EachGood, good-new, weighs, all-come}
use Rattle.jh_inst.proofs.instances.Gathering.{IsClosed, total-both}
use Rattle.jh_inst.proofs.instances.Growth.{grown-length, Has, has-all, has-stays, Whole, AllLocal, whole-all}
use Rattle.jh_inst.proofs.instances.Lengths.{length-both, In, new-choices-fewer, power-le}
use Rattle.jh_inst.proofs.instances.Putting.{hand, formulas-both}
use Rattle.jh_inst.proofs.instances.Shaped.{witnessed-shaped, prenex-shaped}
use Rattle.jh_inst.proofs.instances.Shapes.{grown, shape, shape_term, front-shape, weight-shape, AllNull, left-shape}
use Rattle.jh_inst.proofs.instances.Stages.{AllThere, put-shaped}

-- what hangs on the shape alone
front-respects : (a b : FormulaTree) → shape a ≡ shape b → in_front a ≡ in_front b
front-respects a b s = sym (front-shape a) ∙ ap in_front s ∙ front-shape b

weighs-respects : (n : ℕ) (a b : FormulaTree) → shape a ≡ shape b → weighs n a ≡ weighs n b
weighs-respects n a b s = sym (weight-shape n a [] 0) ∙ ap (λ z. weight n z [] 0) s ∙ weight-shape n b [] 0

-- Universals are covered by groups: those of each group are of its shape, and no more than it has.
abbrev pub AllAlike : FormulaTree → List FormulaTree → Type 0
AllAlike b [] = Unit {0}
AllAlike b (a ∷ xs) = (shape a ≡ shape b) × AllAlike b xs

abbrev pub Cover : List FormulaTree → List Group → Type 0
Cover xs [] = xs ≡ []
Cover xs (g ∷ gs) = (ys : List FormulaTree) × (zs : List FormulaTree) × (xs ≡ ys ++ zs) × (length ys ≤ g.many) × AllAlike g.formula ys × Cover zs gs

cover-both : (xs us : List FormulaTree) (gs hs : List Group) → Cover xs gs → Cover us hs → Cover (xs ++ us) (gs ++ hs)
cover-both xs us [] hs c d = subst (λ z. Cover (z ++ us) hs) (sym c) d
cover-both xs us (g ∷ gs) hs c d = (c.0, c.1 ++ us, ap (λ z. z ++ us) c.2 ∙ append_assoc c.0 c.1 us, c.3, c.4, cover-both c.1 us gs hs c.5 d)

module _ (f : FormulaTree → ℕ) (respects : (a b : FormulaTree) → shape a ≡ shape b → f a ≡ f b) where
  alike-total : (b : FormulaTree) (xs : List FormulaTree) → AllAlike b xs → total f xs ≡ length xs * f b
  alike-total b [] h = omega arith
  alike-total b (a ∷ xs) h = let rest : total f xs ≡ length xs * f b = alike-total b xs h.1 in let same : f a ≡ f b = respects a b h.0 in omega (arith, rest, same)

  cover-total : (k : Group → ℕ) → ((g : Group) → g.many * f g.formula ≤ k g) → (xs : List FormulaTree) (gs : List Group) → Cover xs gs → total f xs ≤ total k gs
  cover-total k le xs [] c = let none : total f xs ≡ 0 = ap (total f) c in omega (arith, none)
  cover-total k le xs (g ∷ gs) c =
      let sum : total f xs ≡ total f (c.0 ++ c.1) = ap (total f) c.2 in
      let two : total f (c.0 ++ c.1) ≡ total f c.0 + total f c.1 = total-both f c.0 c.1 in
      let one : total f c.0 ≡ length c.0 * f g.formula = alike-total g.formula c.0 c.4 in
      let less : length c.0 * f g.formula ≤ g.many * f g.formula = mul-le (length c.0) (f g.formula) g.many (f g.formula) c.3 (omega arith) in
      omega (arith, sum, two, one, less, le g, cover-total k le c.1 gs c.5)

-- the universals among formulas
abbrev pub one_of : Bool → FormulaTree → List FormulaTree → List FormulaTree
one_of b a xs = if b then xs else a ∷ xs

abbrev pub universal_of : List FormulaTree → List FormulaTree
universal_of [] = []
universal_of (a ∷ xs) = one_of (in_front a == 0) a (universal_of xs)

one-hand : (b : Bool) (h : AtHand) (hs : List AtHand) → hand (if b then hs else h ∷ hs) ≡ one_of b h.formula (hand hs)
one-hand true h hs = refl
one-hand false h hs = refl

pub universals-hand : (n : ℕ) (es : List Entry) → hand (universals n es) ≡ universal_of (formulas es)
universals-hand n [] = refl
universals-hand n (e ∷ es) =
    one-hand (in_front e.formula == 0) (record { place = n; formula = e.formula; old = [] }) (universals (suc n) es)
    ∙ ap (one_of (in_front e.formula == 0) e.formula) (universals-hand (suc n) es)

one-both : (b : Bool) (a : FormulaTree) (xs ys : List FormulaTree) → one_of b a (xs ++ ys) ≡ one_of b a xs ++ ys
one-both true a xs ys = refl
one-both false a xs ys = refl

universal-both : (xs ys : List FormulaTree) → universal_of (xs ++ ys) ≡ universal_of xs ++ universal_of ys
universal-both [] ys = refl
universal-both (a ∷ xs) ys = ap (one_of (in_front a == 0) a) (universal-both xs ys) ∙ one-both (in_front a == 0) a (universal_of xs) (universal_of ys)

none-universal : (b : FormulaTree) (xs : List FormulaTree) → (in_front b == 0) ≡ true → AllAlike b xs → universal_of xs ≡ []
none-universal b [] e h = refl
none-universal b (a ∷ xs) e h = (λ i. one_of (((λ j. front-respects a b h.0 j == 0) ∙ e) i) a (universal_of xs)) ∙ none-universal b xs e h.1

all-universal : (b : FormulaTree) (xs : List FormulaTree) → (in_front b == 0) ≡ false → AllAlike b xs → universal_of xs ≡ xs
all-universal b [] e h = refl
all-universal b (a ∷ xs) e h = (λ i. one_of (((λ j. front-respects a b h.0 j == 0) ∙ e) i) a (universal_of xs)) ∙ ap (λ z. a ∷ z) (all-universal b xs e h.1)

group-case : (b : FormulaTree) (n : ℕ) (xs : List FormulaTree) (c : Bool) → (in_front b == 0) ≡ c → AllAlike b xs → length xs ≤ n → Cover (universal_of xs) (if c then [] else record { formula = b; many = n } ∷ [])
group-case b n xs true e h le = none-universal b xs e h
group-case b n xs false e h le = (xs, [], all-universal b xs e h ∙ sym (append-nil xs), le, h, refl)

group-cover : (b : FormulaTree) (n : ℕ) (xs : List FormulaTree) → AllAlike b xs → length xs ≤ n → Cover (universal_of xs) (group b n)
group-cover b n xs h le = group-case b n xs (in_front b == 0) refl h le

pub groups-cover : (es : List Entry) → Cover (universal_of (formulas es)) (groups es)
groups-cover [] = refl
groups-cover (e ∷ es) =
    subst (λ z. Cover z (groups (e ∷ es))) (sym (universal-both (e.formula ∷ []) (formulas es)))
    (cover-both (universal_of (e.formula ∷ [])) (universal_of (formulas es)) (group e.formula 1) (groups es) (group-cover e.formula 1 (e.formula ∷ []) (refl, tt) (omega arith)) (groups-cover es))

-- What was made of universals at hand: so many of the shape that each leaves.
abbrev pub Made : ℕ → List FormulaTree → List FormulaTree → Type 0
Made n [] xs = xs ≡ []
Made n (a ∷ us) xs = (ys : List FormulaTree) × (zs : List FormulaTree) × (xs ≡ ys ++ zs) × (length ys ≤ n ^ in_front a) × AllAlike (left_by a) ys × Made n us zs

made-total : (n : ℕ) (us xs : List FormulaTree) → Made n us xs → length xs ≤ total (λ a. n ^ in_front a) us
made-total n [] xs m = let none : length xs ≡ 0 = ap length m in omega (arith, none)
made-total n (a ∷ us) xs m =
    let sum : length xs ≡ length (m.0 ++ m.1) = ap length m.2 in
    let two : length (m.0 ++ m.1) ≡ length m.0 + length m.1 = length-both m.0 m.1 in
    omega (arith, sum, two, m.3, made-total n us m.1 m.5)

made-split : (n : ℕ) (us vs xs : List FormulaTree) → Made n (us ++ vs) xs → (ys : List FormulaTree) × (zs : List FormulaTree) × (xs ≡ ys ++ zs) × Made n us ys × Made n vs zs
made-split n [] vs xs m = ([], xs, refl, refl, m)
made-split n (a ∷ us) vs xs m =
    let rest = made-split n us vs m.1 m.5 in
    (m.0 ++ rest.0, rest.1, m.2 ∙ ap (λ z. m.0 ++ z) rest.2 ∙ sym (append_assoc m.0 rest.0 rest.1), (m.0, rest.0, refl, m.3, m.4, rest.3), rest.4)

alike-both : (b : FormulaTree) (xs ys : List FormulaTree) → AllAlike b xs → AllAlike b ys → AllAlike b (xs ++ ys)
alike-both b [] ys h g = g
alike-both b (a ∷ xs) ys h g = (h.0, alike-both b xs ys h.1 g)

alike-to : (b c : FormulaTree) (xs : List FormulaTree) → shape b ≡ shape c → AllAlike b xs → AllAlike c xs
alike-to b c [] e h = tt
alike-to b c (a ∷ xs) e h = (h.0 ∙ e, alike-to b c xs e h.1)

null-length : (n : ℕ) → length (replicate n t.null) ≡ n
null-length zero = refl
null-length (suc n) = ap suc (null-length n)

all-null : (n : ℕ) → AllNull (replicate n t.null)
all-null zero = tt
all-null (suc n) = (refl, all-null n)

left-alike : (a b : FormulaTree) → shape a ≡ shape b → shape (left_by a) ≡ shape (left_by b)
left-alike a b s = left-shape a b s (replicate (in_front a) t.null) (replicate (in_front b) t.null) (null-length (in_front a) ∙ front-respects a b s ∙ sym (null-length (in_front b))) (all-null (in_front a)) (all-null (in_front b)) 0 0

made-alike : (n : ℕ) (b : FormulaTree) (us xs : List FormulaTree) → AllAlike b us → Made n us xs → AllAlike (left_by b) xs × (length xs ≤ length us * n ^ in_front b)
made-alike n b [] xs h m = (subst (λ z. AllAlike (left_by b) z) (sym m) tt, (let none : length xs ≡ 0 = ap length m in omega (arith, none)))
made-alike n b (a ∷ us) xs h m =
    let rest = made-alike n b us m.1 h.1 m.5 in
    let sum : length xs ≡ length (m.0 ++ m.1) = ap length m.2 in
    let two : length (m.0 ++ m.1) ≡ length m.0 + length m.1 = length-both m.0 m.1 in
    let same : n ^ in_front a ≡ n ^ in_front b = ap (λ z. n ^ z) (front-respects a b h.0) in
    let here : length m.0 ≤ n ^ in_front b = omega (arith, m.3, same) in (
      subst (λ z. AllAlike (left_by b) z) (sym m.2) (alike-both (left_by b) m.0 m.1 (alike-to (left_by a) (left_by b) m.0 (left-alike a b h.0) m.4) rest.0),
      omega (arith, sum, two, here, rest.1),
    )

left-cover : (n : ℕ) (gs : List Group) (us xs : List FormulaTree) → Cover us gs → Made n us xs → Cover (universal_of xs) (all_left n gs)
left-cover n [] us xs c m = ap universal_of (subst (λ z. Made n z xs) c m)
left-cover n (g ∷ gs) us xs c m =
    let split = made-split n c.0 c.1 xs (subst (λ z. Made n z xs) c.2 m) in
    let here = made-alike n g.formula c.0 split.0 c.4 split.3 in
    let few : length c.0 * n ^ in_front g.formula ≤ g.many * n ^ in_front g.formula = mul-le (length c.0) (n ^ in_front g.formula) g.many (n ^ in_front g.formula) c.3 (omega arith) in
    subst (λ z. Cover z (all_left n (g ∷ gs))) (sym (ap universal_of split.2 ∙ universal-both split.0 split.1))
    (cover-both (universal_of split.0) (universal_of split.1) (group_left n g) (all_left n gs) (group-cover (left_by g.formula) (group_puts n g) split.0 here.0 (omega (arith, here.1, few))) (left-cover n gs c.1 split.1 c.5 split.4))

-- a closed term has the shape of null
grown-null : (a : TermTree) → a ≡ t.null → grown a ≡ t.null
grown-null a e = ap grown e

closed-null : (a : TermTree) → IsClosed a → shape_term a ≡ t.null
unfolding is_closed_term
closed-null (t.bound k) c = absurd (let lt : k < 0 = ltb-true k 0 c in omega (arith, lt))
closed-null (t.free_object x) c = refl
closed-null t.null c = refl
closed-null (t.read_object f a) c = grown-null (shape_term a) (closed-null a (both-right (is_closed_field f 0) (is_closed_term a 0) c))

pub local-both : (xs ys : List FormulaTree) → AllLocal xs → AllLocal ys → AllLocal (xs ++ ys)
local-both [] ys h g = g
local-both (a ∷ xs) ys h g = (h.0, local-both xs ys h.1 g)

local-one : (b : Bool) (a : FormulaTree) (xs : List FormulaTree) → has_local_shape a ≡ true → AllLocal xs → AllLocal (one_of b a xs)
local-one true a xs h g = g
local-one false a xs h g = (h, g)

pub local-universal : (xs : List FormulaTree) → AllLocal xs → AllLocal (universal_of xs)
local-universal [] h = tt
local-universal (a ∷ xs) h = local-one (in_front a == 0) a (universal_of xs) h.0 (local-universal xs h.1)

has-both : (ts : List TermTree) (xs ys : List FormulaTree) → Has ts xs → Has ts ys → Has ts (xs ++ ys)
has-both ts [] ys h g = g
has-both ts (a ∷ xs) ys h g = (h.0, has-both ts xs ys h.1 g)

has-one : (ts : List TermTree) (b : Bool) (a : FormulaTree) (xs : List FormulaTree) → ((x : TermTree) → In x (closed_terms a) → In x ts) → Has ts xs → Has ts (one_of b a xs)
has-one ts true a xs h g = g
has-one ts false a xs h g = (h, g)

pub has-universal : (ts : List TermTree) (xs : List FormulaTree) → Has ts xs → Has ts (universal_of xs)
has-universal ts [] h = tt
has-universal ts (a ∷ xs) h = has-one ts (in_front a == 0) a (universal_of xs) h.0 (has-universal ts xs h.1)

-- what is put is made so
there-null : (ts c : List TermTree) → AllThere ts c → AllNull c
there-null ts [] h = tt
there-null ts (w ∷ ws) h = (closed-null w h.0.0, there-null ts ws h.1)

module _ (ts : List TermTree) where
  puts-alike : (h : AtHand) (cs : List (List TermTree)) (k : ℕ) → EachGood ts (in_front h.formula) cs → AllAlike (left_by h.formula) (formulas (puts h cs k))
  puts-alike h [] k g = tt
  puts-alike h (c ∷ cs) k g = (
    left-shape h.formula h.formula refl c (replicate (in_front h.formula) t.null) (g.1 ∙ sym (null-length (in_front h.formula))) (there-null ts c g.0) (all-null (in_front h.formula)) k 0,
    puts-alike h cs (k + witnesses (put_at h.formula c)) g.2,
  )

  puts-local : (h : AtHand) (cs : List (List TermTree)) (k : ℕ) → has_local_shape h.formula ≡ true → EachGood ts (in_front h.formula) cs → AllLocal (formulas (puts h cs k))
  puts-local h [] k l g = tt
  puts-local h (c ∷ cs) k l g = (
    prenex-shaped (witnessed (put_at h.formula c) [] k) (witnessed-shaped (put_at h.formula c) [] k (put-shaped ts c h.formula g.0 l)),
    puts-local h cs (k + witnesses (put_at h.formula c)) l g.2,
  )

  puts-many : (h : AtHand) (cs : List (List TermTree)) (k : ℕ) → length (formulas (puts h cs k)) ≡ length cs
  puts-many h [] k = refl
  puts-many h (c ∷ cs) k = ap suc (puts-many h cs (k + witnesses (put_at h.formula c)))

  all-puts-made : Whole ts → (n : ℕ) → length ts ≤ n → (hs : List AtHand) (k : ℕ) → Made n (hand hs) (formulas (all_puts hs ts k))
  all-puts-made whole n le [] k = refl
  all-puts-made whole n le (h ∷ hs) k =
      let v : ℕ = in_front h.formula in
      let cs : List (List TermTree) = new_choices v ts h.old in
      let here : List Entry = puts h cs k in
      let later : List Entry = all_puts hs ts (k + made_constants here) in
      let many : length (formulas here) ≡ length cs = puts-many h cs k in
      let few : length cs ≤ length ts ^ v = new-choices-fewer v ts h.old in
      let more : length ts ^ v ≤ n ^ v = power-le v (length ts) n le in
      (formulas here, formulas later, formulas-both here later, omega (arith, many, few, more), puts-alike h cs k (good-new ts v h.old whole), all-puts-made whole n le hs (k + made_constants here))

  pub all-puts-local : Whole ts → (hs : List AtHand) (k : ℕ) → AllLocal (hand hs) → AllLocal (formulas (all_puts hs ts k))
  all-puts-local whole [] k l = tt
  all-puts-local whole (h ∷ hs) k l =
      let cs : List (List TermTree) = new_choices (in_front h.formula) ts h.old in
      let here : List Entry = puts h cs k in
      let later : List Entry = all_puts hs ts (k + made_constants here) in
      subst AllLocal (sym (formulas-both here later)) (local-both (formulas here) (formulas later) (puts-local h cs k l.0 (good-new ts (in_front h.formula) h.old whole)) (all-puts-local whole hs (k + made_constants here) l.1))

-- what holds between a progress and its tally, where so many entries are facts
pub record Bounded (facts : ℕ) (p : Progress) (c : Tally) : Type 0 where
  pub entries : length p.entries ≤ facts + c.puts
  pub terms : length p.terms ≤ c.terms
  pub cover : Cover (hand p.at_hand) c.at_hand
  pub local : AllLocal (hand p.at_hand)
  pub has : Has p.terms (hand p.at_hand)
  pub whole : Whole p.terms

pub hand-before : (ts : List TermTree) (hs gs : List AtHand) → hand (put_before ts hs ++ gs) ≡ hand hs ++ hand gs
hand-before ts [] gs = refl
hand-before ts (h ∷ hs) gs = ap (λ z. h.formula ∷ z) (hand-before ts hs gs)

power-respects : (n : ℕ) (a b : FormulaTree) → shape a ≡ shape b → n ^ in_front a ≡ n ^ in_front b
power-respects n a b s = ap (λ z. n ^ z) (front-respects a b s)

formulas-many : (es : List Entry) → length (formulas es) ≡ length es
formulas-many [] = refl
formulas-many (e ∷ es) = ap suc (formulas-many es)

round-bounded : (facts : ℕ) (p : Progress) (c : Tally) → Bounded facts p c → Bounded facts (round p) (tally_round c)
round-bounded facts p c b =
    let n : ℕ = c.terms in
    let es : List Entry = all_puts p.at_hand p.terms p.next in
    let made = all-puts-made p.terms b.whole n b.terms p.at_hand p.next in
    let local = all-puts-local p.terms b.whole p.at_hand p.next b.local in
    let come = all-come p.terms b.whole n b.terms p.at_hand p.next b.local b.has in
    let few : length (formulas es) ≤ total (λ a. n ^ in_front a) (hand p.at_hand) = made-total n (hand p.at_hand) (formulas es) made in
    let counted : total (λ a. n ^ in_front a) (hand p.at_hand) ≤ total (group_puts n) c.at_hand = cover-total (λ a. n ^ in_front a) (power-respects n) (group_puts n) (λ g. omega arith) (hand p.at_hand) c.at_hand b.cover in
    let long : length (p.entries ++ es) ≡ length p.entries + length es = length-both p.entries es in
    let grown_by : length (with_terms_of p.terms (formulas es)) ≤ length p.terms + length come.0 = grown-length p.terms come.0 (formulas es) come.1 in
    let weighed : total (weighs n) (hand p.at_hand) ≤ total (group_terms n) c.at_hand = cover-total (weighs n) (weighs-respects n) (group_terms n) (λ g. omega arith) (hand p.at_hand) c.at_hand b.cover in
    let ts : List TermTree = with_terms_of p.terms (formulas es) in
    let hands : hand (put_before p.terms p.at_hand ++ universals (length p.entries) es) ≡ hand p.at_hand ++ universal_of (formulas es) =
    hand-before p.terms p.at_hand (universals (length p.entries) es) ∙ ap (λ z. hand p.at_hand ++ z) (universals-hand (length p.entries) es) in record {
      entries = omega (arith, few, counted, long, formulas-many es, b.entries);
      terms = omega (arith, grown_by, weighed, come.2, b.terms);
      cover = subst (λ z. Cover z (c.at_hand ++ all_left n c.at_hand)) (sym hands) (cover-both (hand p.at_hand) (universal_of (formulas es)) c.at_hand (all_left n c.at_hand) b.cover (left-cover n c.at_hand (hand p.at_hand) (formulas es) b.cover made));
      local = subst AllLocal (sym hands) (local-both (hand p.at_hand) (universal_of (formulas es)) b.local (local-universal (formulas es) local));
      has = subst (λ z. Has ts z) (sym hands) (has-both ts (hand p.at_hand) (universal_of (formulas es)) (has-stays p.terms (formulas es) (hand p.at_hand) b.has) (has-universal ts (formulas es) (has-all p.terms (formulas es))));
      whole = whole-all p.terms (formulas es) local b.whole;
    }

pub rounds-bounded : (facts r : ℕ) (p : Progress) (c : Tally) → Bounded facts p c → Bounded facts (rounds r p) (tally_rounds r c)
rounds-bounded facts zero p c b = b
rounds-bounded facts (suc r) p c b = rounds-bounded facts r (round p) (tally_round c) (round-bounded facts p c b)

-- the last pass
abbrev last_of : ℕ → FormulaTree → ℕ
last_of n a = if in_front a == 1 then n else 0

last-respects : (n : ℕ) (a b : FormulaTree) → shape a ≡ shape b → last_of n a ≡ last_of n b
last-respects n a b s = ap (λ z. if z == 1 then n else 0) (front-respects a b s)

last-case : (n m : ℕ) (b : Bool) → m * (if b then n else 0) ≤ (if b then m * n else 0)
last-case n m true = omega arith
last-case n m false = omega arith

one-total : (n : ℕ) (b : Bool) (h : AtHand) (hs : List AtHand) (m : ℕ) → (in_front h.formula == 1) ≡ b → total (λ a. n ^ in_front a) (hand hs) ≤ m → total (λ a. n ^ in_front a) (hand (if b then h ∷ hs else hs)) ≤ (if b then n else 0) + m
one-total n true h hs m e le =
    let one : in_front h.formula ≡ 1 = grind (arith, nat_tests) in
    let power : n ^ in_front h.formula ≡ n ^ suc 0 = ap (λ z. n ^ z) one in
    let step : n ^ suc 0 ≡ n ^ 0 * n = pow-suc n 0 in
    let unit : n ^ 0 ≡ 1 = pow-zero n in
    let all : n ^ 0 * n ≡ n = rw unit (omega arith) in
    omega (arith, power, step, all, le)
one-total n false h hs m e le = omega (arith, le)

last-total : (n : ℕ) (hs : List AtHand) → total (λ a. n ^ in_front a) (hand (of_one hs)) ≤ total (last_of n) (hand hs)
last-total n [] = omega arith
last-total n (h ∷ hs) = one-total n (in_front h.formula == 1) h (of_one hs) (total (last_of n) (hand hs)) refl (last-total n hs)

pub ended-bounded : (facts : ℕ) (p : Progress) (c : Tally) → Bounded facts p c → length (ended p) ≤ facts + tally_end c
ended-bounded facts p c b =
    let n : ℕ = c.terms in
    let hs : List AtHand = of_one p.at_hand in
    let es : List Entry = all_puts hs p.terms p.next in
    let few : length (formulas es) ≤ total (λ a. n ^ in_front a) (hand hs) = made-total n (hand hs) (formulas es) (all-puts-made p.terms b.whole n b.terms hs p.next) in
    let last : total (last_of n) (hand p.at_hand) ≤ total (last_count n) c.at_hand = cover-total (last_of n) (last-respects n) (last_count n) (λ g. last-case n g.many (in_front g.formula == 1)) (hand p.at_hand) c.at_hand b.cover in
    let long : length (p.entries ++ es) ≡ length p.entries + length es = length-both p.entries es in
    omega (arith, few, last, last-total n p.at_hand, long, formulas-many es, b.entries)
