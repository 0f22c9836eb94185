-- What is found of a list of parts, one after the other, where of each part it matters whether a test holds.
use Rattle.std.proofs.Common.{◌≡◌, refl, sym, ap, subst, ◌∙◌, ℕ, ◌+◌, ◌≤◌, ◌<◌, ◌&&◌, Bool, true, false, List, [], ◌∷◌, ◌++◌, length, drop, get_or, Option, Some, None, option_map}
use Rattle.std.specs.List.{list_all}
use Rattle.std.specs.Option.{option_map_or}
use Rattle.std.proofs.lemmas.List.{drop_all}
use Rattle.jh_rules.specs.declared.fault.Fault.{Fault}
use Rattle.jh_rules.specs.declared.found.Found.{Found}
use Rattle.jh_rules.specs.Faults.{Judged, each, right, both, pair_of, ◌>>=◌}
use Rattle.jh_rules.specs.Found.{Finds, least, lesser}
use Rattle.jh_rules.proofs.Judgements.{least-append, lesser-assoc, lesser-none}
use Rattle.jh_symbols.proofs.scopes.Lists.{drop-at}
use Rattle.jh_type.specs.formula_kinds.Parts.{seen, noted, merged, both_hold}

hold-first : (o : Option Bool) → both_hold (Some true) o ≡ o
hold-first None = refl
hold-first (Some b) = refl

and-true : (b : Bool) → b && true ≡ b
and-true true = refl
and-true false = refl

hold-last : (o : Option Bool) → both_hold o (Some true) ≡ o
hold-last None = refl
hold-last (Some b) = ap Some (and-true b)

and-assoc : (a b c : Bool) → a && (b && c) ≡ (a && b) && c
and-assoc true b c = refl
and-assoc false b c = refl

hold-assoc : (x y z : Option Bool) → both_hold x (both_hold y z) ≡ both_hold (both_hold x y) z
hold-assoc None y z = refl
hold-assoc (Some x) None z = refl
hold-assoc (Some x) (Some y) None = refl
hold-assoc (Some x) (Some y) (Some z) = ap Some (and-assoc x y z)

merged-first : (u o : Found Bool) → u.known ≡ Some true → u.least ≡ None → merged u o ≡ o
merged-first u o k l = λ i. record { least = lesser (l i) o.least; known = (ap (λ x. both_hold x o.known) k ∙ hold-first o.known) i }

merged-last : (u o : Found Bool) → o.known ≡ Some true → o.least ≡ None → merged u o ≡ u
merged-last u o k l = λ i. record { least = (ap (lesser u.least) l ∙ lesser-none u.least) i; known = (ap (both_hold u.known) k ∙ hold-last u.known) i }

merged-assoc : (u v o : Found Bool) → merged u (merged v o) ≡ merged (merged u v) o
merged-assoc u v o = λ i. record { least = sym (lesser-assoc u.least v.least o.least) i; known = hold-assoc u.known v.known o.known i }

abbrev nothing : {A : Type 0} → A → List Fault
nothing u = []

no-faults : {A : Type 0} (o : Option A) → option_map_or nothing o [] ≡ []
no-faults None = refl
no-faults (Some x) = refl

abbrev joined : {A : Type 0} → Judged A → Judged (List A) → Judged (List A)
joined j m = both j m >>= λ p. right (p.0 ∷ p.1)

module _ {A : Type 0} (t : A → Bool) where
  pair-known : (x : Option A) (y : Option (List A)) → both_hold (option_map t x) (option_map (list_all t) y) ≡ option_map (list_all t) (option_map_or (λ p. Some (p.0 ∷ p.1)) (pair_of x y) None)
  pair-known None y = refl
  pair-known (Some x) None = refl
  pair-known (Some x) (Some ys) = refl

  one-more : (j : Judged A) (m : Judged (List A)) (u : Found A) (o : Found Bool) → Finds u j → Finds o (seen (list_all t) m) → Finds (merged (noted t u) o) (seen (list_all t) (joined j m))
  unfolding least
  one-more j m u o hu ho = record {
    known = (λ i. both_hold (option_map t (hu.known i)) (ho.known i)) ∙ pair-known j.known m.known;
    least_is = (λ i. lesser (hu.least_is i) (ho.least_is i)) ∙ sym (least-append j.faults m.faults)
        ∙ sym (lesser-none (least (j.faults ++ m.faults))) ∙ sym (least-append (j.faults ++ m.faults) []) ∙ ap (λ xs. least ((j.faults ++ m.faults) ++ xs)) (sym (no-faults (pair_of j.known m.known)));
  }

  module _ {X : Type 0} (f : X → Judged A) (h : List X → Judged (List A)) (empty : h [] ≡ right []) (cons : (x : X) (xs : List X) → h (x ∷ xs) ≡ joined (f x) (h xs)) where
    abbrev pub Gathers : List X → ℕ → Found Bool → Type 0
    Gathers xs i u = (o : Found Bool) → Finds o (seen (list_all t) (h (drop i xs))) → Finds (merged u o) (seen (list_all t) (h xs))

    pub gathers-start : (xs : List X) (u : Found Bool) → Finds u (right true) → Gathers xs 0 u
    unfolding least
    gathers-start xs u e o ho = subst (λ v. Finds v (seen (list_all t) (h xs))) (sym (merged-first u o e.known e.least_is)) ho

    pub gathers-next : (xs : List X) (i : ℕ) (x : X) (u new : Found Bool) (g : Found A) → i < length xs → x ≡ get_or xs i x → Finds g (f x) → new ≡ merged u (noted t g) → Gathers xs i u → Gathers xs (i + 1) new
    gathers-next xs i x u new g lt is hg n e o ho =
        let more : Finds (merged (noted t g) o) (seen (list_all t) (h (drop i xs))) =
        subst (λ ys. Finds (merged (noted t g) o) (seen (list_all t) (h ys))) (sym (drop-at xs i x lt is))
        (subst (λ j. Finds (merged (noted t g) o) (seen (list_all t) j)) (sym (cons x (drop (i + 1) xs))) (one-more (f x) (h (drop (i + 1) xs)) g o hg ho)) in
        subst (λ v. Finds v (seen (list_all t) (h xs))) (merged-assoc u (noted t g) o ∙ ap (λ w. merged w o) (sym n)) (e (merged (noted t g) o) more)

    none : Found Bool
    none = record { least = None; known = Some true }

    pub gathers-end : (xs : List X) (i : ℕ) (u : Found Bool) → length xs ≤ i → Gathers xs i u → Finds u (seen (list_all t) (h xs))
    unfolding none least
    gathers-end xs i u le e =
        let last : Finds none (seen (list_all t) (h (drop i xs))) = subst (λ j. Finds none (seen (list_all t) j)) (sym (ap h (drop_all i xs le) ∙ empty)) (record { known = refl; least_is = refl }) in
        subst (λ v. Finds v (seen (list_all t) (h xs))) (merged-last u none refl refl) (e none last)

-- of what is seen of a part it matters alone that it is known
abbrev paired : {A B D : Type 0} → List Fault → Option A → Option B → D → Judged D
paired fs o p x = (record { faults = fs; known = pair_of o p }) >>= λ u. right x

pub seen-both : {A B C D : Type 0} (g : A → C) (fs : List Fault) (o : Option A) (p : Option B) (x : D) → paired fs (option_map g o) p x ≡ paired fs o p x
seen-both g fs None p x = refl
seen-both g fs (Some y) None x = refl
seen-both g fs (Some y) (Some z) x = refl

abbrev asked : {A D : Type 0} → List Fault → Option A → (A → Judged D) → Judged D
asked fs o rule = (record { faults = fs; known = o }) >>= rule

pub seen-asked : {A C D : Type 0} (g : A → C) (fs : List Fault) (o : Option A) (rule : C → Judged D) → asked fs (option_map g o) rule ≡ asked fs o (λ y. rule (g y))
seen-asked g fs None rule = refl
seen-asked g fs (Some y) rule = refl

pub each-none : {A B : Type 0} (f : A → Judged B) → each f [] ≡ right []
unfolding each
each-none f = refl

pub each-more : {A B : Type 0} (f : A → Judged B) (x : A) (xs : List A) → each f (x ∷ xs) ≡ joined (f x) (each f xs)
unfolding each
each-more f x xs = refl
