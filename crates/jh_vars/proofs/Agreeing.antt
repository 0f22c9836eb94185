-- A formula outside methods resolves to the same value under two meanings that agree on what it reads.
use Rattle.std.proofs.Common.{◌≡◌, refl, sym, ap, ◌∙◌, ℕ, ◌||◌, ◌&&◌, subst, Bool, true, false, if◌then◌else◌, nat_eq, List, [], ◌∷◌, ◌++◌, length, Option, Some, None, codes, arith}
use Rattle.std.specs.Option.{option_map_or}
use Rattle.std.proofs.lemmas.Bool.Decides.{nat_tests}
use Rattle.jh_boxed.specs.jh_form.Tree.{ValueTree, SetTree, TermTree, of_object, of_number, of_truth, of_set}
use Rattle.jh_boxed.specs.jh_form.Tree as t
use Rattle.jh_boxed.specs.Mapped.{mapped_value}
use Rattle.jh_ast.specs.declared.word.Word.{Word}
use Rattle.jh_ast.specs.Forms.{FormTree, FormTrees}
use Rattle.jh_ast.specs.Forms as f
use Rattle.jh_ast.specs.Programs.{ProgramTree}
use Rattle.jh_rules.specs.Words.{same_text, is_one_of, text_of}
use Rattle.jh_rules.specs.Names.{declared_in}
use Rattle.jh_rules.specs.declared.entries.LocalEntry.{LocalEntry}
use Rattle.jh_rules.specs.Formulas.{equations}
use Rattle.jh_vars.specs.States.{State, state_spelled, state_named}
use Rattle.jh_vars.specs.Resolved.{Spot, resolved, union_of, bound_as, free, kind_of_local, own, read, kind_known, state_name, receiving, this_at, as_object, as_truth, as_set, as_number, opposite, at_entry, binary, literal, quantified, field_list, path_fields, with_single, under}
use Rattle.jh_vars.specs.Resolved as r
use Rattle.jh_vars.specs.Reading.{reads, all_read, name_reads, fields_read, some_state}

-- texts are compared in either order
nat-turned : (a b : ℕ) → nat_eq a b ≡ nat_eq b a
nat-turned a b = by (nat_eq a b) (nat_eq b a) refl refl
  where
    by : (u v : Bool) → nat_eq a b ≡ u → nat_eq b a ≡ v → nat_eq a b ≡ nat_eq b a
    by u v e h = grind (arith, nat_tests)

text-turned : (x y : List ℕ) → same_text x y ≡ same_text y x
text-turned [] [] = refl
text-turned [] (b ∷ y) = refl
text-turned (a ∷ x) [] = refl
text-turned (a ∷ x) (b ∷ y) = λ i. nat-turned a b i && text-turned x y i

any-append : (x : List ℕ) (us vs : List (List ℕ)) → is_one_of x (us ++ vs) ≡ (is_one_of x us || is_one_of x vs)
any-append x [] vs = refl
any-append x (u ∷ us) vs = by (same_text x u) (any-append x us vs)
  where
    by : (b : Bool) → is_one_of x (us ++ vs) ≡ (is_one_of x us || is_one_of x vs) → (b || is_one_of x (us ++ vs)) ≡ ((b || is_one_of x us) || is_one_of x vs)
    by true e = refl
    by false e = e

-- what isn't bound is none of the bound names
unbound : (x : List ℕ) (bs : List (List ℕ)) → bound_as x bs ≡ None → is_one_of x bs ≡ false
unfolding bound_as
unbound x [] e = refl
unbound x (y ∷ ys) e = by (bound_as x ys) (same_text y x) refl refl (unbound x ys) e
  where
    by : (o : Option ℕ) (b : Bool) → bound_as x ys ≡ o → same_text y x ≡ b → (bound_as x ys ≡ None → is_one_of x ys ≡ false) → option_map_or (λ i. Some i) (bound_as x ys) (if same_text y x then Some (length ys) else None) ≡ None → is_one_of x (y ∷ ys) ≡ false
    by None false h k rest q = λ i. (text-turned x y ∙ k) i || rest h i
    by None true h k rest q = absurd (some-none (sym (λ i. option_map_or (λ j. Some j) (h i) (if k i then Some (length ys) else None)) ∙ q))
      where
        some-none : Some (length ys) ≡ None → ⊥
        some-none e = cc
    by (Some n) b h k rest q = absurd (some-none (sym (λ i. option_map_or (λ j. Some j) (h i) (if k i then Some (length ys) else None)) ∙ q))
      where
        some-none : Some n ≡ None → ⊥
        some-none e = cc

module _ (p : ProgramTree) (spelled : ℕ → List ℕ) (m n : ℕ → List ℕ → ValueTree) where
  -- both meanings are one for the defined ones of these variables
  abbrev pub Agree : List State → Type 0
  Agree [] = Unit {0}
  Agree (y ∷ ys) = (y.entry.is_defined ≡ true → m y.entry.class y.name ≡ n y.entry.class y.name) × Agree ys

  agree-left : (us vs : List State) → Agree (us ++ vs) → Agree us
  agree-left [] vs a = tt
  agree-left (u ∷ us) vs a = (a.0, agree-left us vs a.1)

  agree-right : (us vs : List State) → Agree (us ++ vs) → Agree vs
  agree-right [] vs a = a
  agree-right (u ∷ us) vs a = agree-right us vs a.1

  static-agrees : (x : State) → (x.entry.is_defined ≡ true → m x.entry.class x.name ≡ n x.entry.class x.name) → r.static_value (declared_in p) spelled m x ≡ r.static_value (declared_in p) spelled n x
  static-agrees x a = by x.entry.is_defined a
    where
      by : (b : Bool) → (b ≡ true → m x.entry.class x.name ≡ n x.entry.class x.name) → (if b then m x.entry.class x.name else free (kind_known x) (state_name spelled x)) ≡ (if b then n x.entry.class x.name else free (kind_known x) (state_name spelled x))
      by true a = a refl
      by false a = refl

  member-agrees : (x : State) (w : TermTree) → (x.entry.is_defined ≡ true → m x.entry.class x.name ≡ n x.entry.class x.name) → r.member_value (declared_in p) spelled m x w ≡ r.member_value (declared_in p) spelled n x w
  member-agrees x w a = by x.entry.is_defined a
    where
      by : (b : Bool) → (b ≡ true → m x.entry.class x.name ≡ n x.entry.class x.name) → (if b then mapped_value (m x.entry.class x.name) (receiving w) 0 else read (kind_known x) (state_name spelled x) w) ≡ (if b then mapped_value (n x.entry.class x.name) (receiving w) 0 else read (kind_known x) (state_name spelled x) w)
      by true a = ap (λ v. mapped_value v (receiving w) 0) (a refl)
      by false a = refl

  state-agrees : (at : Spot) (x : State) → (x.entry.is_defined ≡ true → m x.entry.class x.name ≡ n x.entry.class x.name) → r.state_value (declared_in p) spelled m at x ≡ r.state_value (declared_in p) spelled n at x
  state-agrees at x a = λ i. if x.entry.fixed then static-agrees x a i else member-agrees x (this_at at) a i

  spelled-agrees : (at : Spot) (o : Option State) (v : ValueTree) → Agree (some_state o) → option_map_or (r.state_value (declared_in p) spelled m at) o v ≡ option_map_or (r.state_value (declared_in p) spelled n at) o v
  spelled-agrees at None v a = refl
  spelled-agrees at (Some x) v a = state-agrees at x a.0

  abbrev others : List (List ℕ)
  others = codes "this" ∷ codes "result" ∷ codes "alloc" ∷ codes "Object" ∷ codes "Object.alloc" ∷ []

  outer-agrees : (at : Spot) (w : Word) → is_one_of (text_of w) at.bound ≡ false → Agree (name_reads (declared_in p) at.class at.bound w) → r.outer_value (declared_in p) spelled m at w ≡ r.outer_value (declared_in p) spelled n at w
  outer-agrees at w free-of a =
      by (same_text (text_of w) (codes "this")) (same_text (text_of w) (codes "result")) (is_one_of (text_of w) (codes "alloc" ∷ codes "Object" ∷ codes "Object.alloc" ∷ []))
      (λ h. spelled-agrees at o v (known h))
    where
      o : Option State
      o = state_spelled (declared_in p) at.class (text_of w)

      v : ValueTree
      v = of_set (t.free_set (own (text_of w) 0))

      known : is_one_of (text_of w) others ≡ false → Agree (some_state o)
      known h = subst (λ (b : Bool). Agree (if b then [] else some_state o)) (any-append (text_of w) at.bound others ∙ (λ i. free-of i || h i)) a

      by : (b c d : Bool) → ((b || (c || d)) ≡ false → option_map_or (r.state_value (declared_in p) spelled m at) o v ≡ option_map_or (r.state_value (declared_in p) spelled n at) o v) →
          (if b then of_object (this_at at) else (if c then free at.result (own (codes "result") 0) else (if d then of_set (t.free_set (own (codes "alloc") 0)) else option_map_or (r.state_value (declared_in p) spelled m at) o v)))
          ≡ (if b then of_object (this_at at) else (if c then free at.result (own (codes "result") 0) else (if d then of_set (t.free_set (own (codes "alloc") 0)) else option_map_or (r.state_value (declared_in p) spelled n at) o v)))
      by true c d e = refl
      by false true d e = refl
      by false false true e = refl
      by false false false e = e refl

  name-agrees : (at : Spot) (w : Word) → at.local (text_of w) ≡ None → Agree (name_reads (declared_in p) at.class at.bound w) → r.name_value (declared_in p) spelled m at w ≡ r.name_value (declared_in p) spelled n at w
  name-agrees at w none a = by (bound_as (text_of w) at.bound) refl
    where
      local : (k : ℕ → List ℕ → ValueTree) → r.local_value (declared_in p) spelled k at w ≡ r.outer_value (declared_in p) spelled k at w
      local k = ap (λ o. option_map_or (λ (l : LocalEntry). free (kind_of_local l) (own (text_of w) 0)) o (r.outer_value (declared_in p) spelled k at w)) none

      by : (o : Option ℕ) → bound_as (text_of w) at.bound ≡ o → option_map_or (λ i. of_object (t.bound i)) o (r.local_value (declared_in p) spelled m at w) ≡ option_map_or (λ i. of_object (t.bound i)) o (r.local_value (declared_in p) spelled n at w)
      by (Some i) e = refl
      by None e = local m ∙ outer-agrees at w (unbound (text_of w) at.bound e) a ∙ sym (local n)

  dots-agree : (at : Spot) (a : TermTree) (w : Word) → Agree (fields_read (declared_in p) at.class (w ∷ [])) → r.after_dots (declared_in p) spelled m at a w ≡ r.after_dots (declared_in p) spelled n at a w
  dots-agree at a w h = by (state_named (declared_in p) at.class (text_of w)) (agree-left (some_state (state_named (declared_in p) at.class (text_of w))) [] h)
    where
      by : (o : Option State) → Agree (some_state o) → option_map_or (λ x. r.member_value (declared_in p) spelled m x a) o (of_object a) ≡ option_map_or (λ x. r.member_value (declared_in p) spelled n x a) o (of_object a)
      by None h = refl
      by (Some x) h = member-agrees x a h.0

  mutual
    unfolding resolved reads

    pub agrees : (a : FormTree) (at : Spot) → ((x : List ℕ) → at.local x ≡ None) → Agree (reads (declared_in p) a at.class at.bound) → resolved (declared_in p) spelled m a at ≡ resolved (declared_in p) spelled n a at
    agrees (f.null q) at none h = refl
    agrees (f.yes q) at none h = refl
    agrees (f.no q) at none h = refl
    agrees (f.univ q) at none h = refl
    agrees (f.number q z) at none h = refl
    agrees (f.name q w) at none h = name-agrees at w (none (text_of w)) h
    agrees (f.member q a w) at none h =
        (λ i. r.after_dots (declared_in p) spelled m at (as_object (agrees a at none (agree-left (reads (declared_in p) a at.class at.bound) (fields_read (declared_in p) at.class (w ∷ [])) h) i)) w)
        ∙ dots-agree at (as_object (resolved (declared_in p) spelled n a at)) w (agree-right (reads (declared_in p) a at.class at.bound) (fields_read (declared_in p) at.class (w ∷ [])) h)
    agrees (f.negation q a) at none h = λ i. of_truth (t.negation (as_truth (agrees a at none h i)))
    agrees (f.minus q a) at none h = λ i. opposite (agrees a at none h i)
    agrees (f.old q a) at none h = λ i. mapped_value (agrees a at none h i) at_entry 0
    agrees (f.card q a) at none h = λ i. of_number (t.card (as_set (agrees a at none h i)))
    agrees (f.binary q o a b) at none h = λ i.
        binary o (literal a) (agrees a at none (agree-left (reads (declared_in p) a at.class at.bound) (reads (declared_in p) b at.class at.bound) h) i) (literal b) (agrees b at none (agree-right (reads (declared_in p) a at.class at.bound) (reads (declared_in p) b at.class at.bound) h) i)
    agrees (f.dvd q z a) at none h = λ i. of_truth (t.divides z (as_number (agrees a at none h i)))
    agrees (f.all q ws a) at none h = λ i. of_truth (quantified t.all (length ws) (as_truth (agrees a (under at ws) none h i)))
    agrees (f.ex q ws a) at none h = λ i. of_truth (quantified t.ex (length ws) (as_truth (agrees a (under at ws) none h i)))
    agrees (f.tree q ws) at none h = refl
    agrees (f.rtrancl q x y body a b) at none h =
        let fs = option_map_or (fields_read (declared_in p) at.class) (equations (text_of x) (text_of y) body) [] in
        let us = reads (declared_in p) a at.class at.bound in
        let vs = reads (declared_in p) b at.class at.bound in
        let first = agree-right fs us (agree-left (fs ++ us) vs h) in
        let second = agree-right (fs ++ us) vs h in
        λ i. of_truth (t.reach (path_fields (declared_in p) spelled at x y body) (as_object (agrees a at none first i)) (as_object (agrees b at none second i)))
    agrees (f.braces q fs) at none h = λ i. of_set (unions-agree fs at None none h i)
    agrees (f.compr q w a) at none h = λ i. of_set (t.compr (as_truth (agrees a (under at (w ∷ [])) none h i)))

    unions-agree : (fs : FormTrees) (at : Spot) (made : Option SetTree) → ((x : List ℕ) → at.local x ≡ None) → Agree (all_read (declared_in p) fs at.class at.bound) → union_of (declared_in p) spelled m fs at made ≡ union_of (declared_in p) spelled n fs at made
    unions-agree f.none at made none h = refl
    unions-agree (f.more a fs) at made none h =
        (λ i. union_of (declared_in p) spelled m fs at (Some (with_single made (as_object (agrees a at none (agree-left (reads (declared_in p) a at.class at.bound) (all_read (declared_in p) fs at.class at.bound) h) i)))))
        ∙ unions-agree fs at (Some (with_single made (as_object (resolved (declared_in p) spelled n a at)))) none (agree-right (reads (declared_in p) a at.class at.bound) (all_read (declared_in p) fs at.class at.bound) h)
