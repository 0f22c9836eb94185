-- Where what has to be true at the return of a method is true, the method returned well.
use Rattle.std.proofs.Common.{◌≡◌, refl, sym, ap, ◌∙◌, subst, ℕ, zero, suc, ◌<◌, ◌⊎◌, inl, inr, nat_lt, Bool, true, false, not, ◌&&◌, ◌||◌, if◌then◌else◌, List, [], ◌∷◌, ◌++◌, map, Option, None, Some, codes, arith}
use Rattle.std.specs.List.{Contains}
use Rattle.std.proofs.lemmas.Bool.{true≢false, eqb-true}
use Rattle.std.proofs.lemmas.Bool.Decides.{nat_tests, Decides-int_eq}
use Rattle.std.proofs.lemmas.List.Elements.{Contains-append_cases}
use Rattle.jh_name.specs.declared.place.Kind.{Kind}
use Rattle.jh_name.specs.declared.place.Kind.TheVariants as k
use Rattle.jh_name.specs.declared.place.Place.{Place}
use Rattle.jh_name.specs.declared.place.Sort.{Sort}
use Rattle.jh_name.specs.declared.place.Sort.TheVariants as sort
use Rattle.jh_form.specs.declared.mark.MarkKind.TheVariants as kind
use Rattle.jh_form.specs.Tree.{FormulaTree}
use Rattle.jh_form.specs.Tree as t
use Rattle.jh_form.specs.Meaning.{Interp, Datum, agree, all_below, every, truth}
use Rattle.jh_form.specs.Assigned.{assigned}
use Rattle.jh_form.proofs.ClosedLemmas.{both-left, both-right}
use Rattle.jh_rules.specs.declared.types.Ty.{Ty}
use Rattle.jh_vars.specs.Written.{Callee}
use Rattle.jh_semantics.specs.Code.{Text, Claim}
use Rattle.jh_semantics.specs.Program.{Program, Method, Member}
use Rattle.jh_semantics.specs.State.{State, named, alloc_name, result_name, shown}
use Rattle.jh_semantics.specs.WellFormed.{each_in}
use Rattle.jh_semantics.specs.Frame.{KeepsStatic, KeepsAt, KeepsBy, Keeps}
use Rattle.jh_semantics.specs.Entry.{condition, owed}
use Rattle.jh_semantics.specs.Sound.{HasResult, with_result, ReturnsWell}
use Rattle.jh_semantics.specs.Laws.{Grew}
use Rattle.jh_semantics.specs.Typed.{NamesFit, IsOfStates, AreOfStates, listed}
use Rattle.jh_guard.specs.Writes.{Writes}
use Rattle.jh_guard.specs.Steps.{fresh, mark_without_name, mark_of}
use Rattle.jh_guard.specs.Frames.{same_static, same_read, frame_fact, framed, frame_facts}
use Rattle.jh_guard.specs.Methods.{post_formula, returned_formulas, method_command}
use Rattle.jh_logic.specs.logic.MethodContracts.{AllSpeak, speaks_of_state, LeavesUnwritten}
use Rattle.jh_logic.specs.logic.Histories.{viewed}
use Rattle.jh_logic.proofs.logic.Stated.{truth-stated}
use Rattle.jh_logic.proofs.logic.Puts.{IsScalar, stored-scalar}
use Rattle.jh_logic.proofs.logic.Written.{filter-has}
use Rattle.jh_logic.proofs.logic.Writing.{single}
use Rattle.jh_logic.proofs.logic.Renamings.{GivesAt, at-then}
use Rattle.jh_logic.proofs.logic.StateNames.{StateText, state-text, stored-local, unwritten-text, unwritten-state, with-result-last}
use Rattle.jh_logic.proofs.logic.WellFormed.{AllTrueIn, joined-true, parts-true}
use Rattle.jh_logic.proofs.logic.CallNames.{viewed-now}
use Rattle.jh_logic.proofs.logic.CallFacts.{ClaimsTrue, claims-seen, owed-speak}
use Rattle.jh_logic.proofs.logic.CallResults.{lies-scalar, some-result}

agree-same : (b d : Bool) → agree b d ≡ true → b ≡ d
agree-same true true e = refl
agree-same true false e = sym e
agree-same false true e = e
agree-same false false e = refl

below-at : (n : ℕ) (f : ℕ → Bool) → all_below n f ≡ true → (a : ℕ) → a < n → f a ≡ true
below-at zero f e a lt = absurd (none lt)
  where
    none : a < zero → ⊥
    none i = omega (i, arith)
below-at (suc n) f e a lt = from (nat_lt a n) refl (below-at n f (both-left (all_below n f) (f n) e) a)
  where
    lower : nat_lt a n ≡ true → a < n
    lower e = grind (arith, nat_tests)

    last : nat_lt a n ≡ false → n ≡ a
    last e = grind (arith, nat_tests)

    from : (b : Bool) → nat_lt a n ≡ b → (a < n → f a ≡ true) → f a ≡ true
    from true is g = g (lower is)
    from false is g = ap f (sym (last is)) ∙ both-right (all_below n f) (f n) e

every-at : (n : ℕ) (f : ℕ → Bool) → every n f ≡ true → (a : ℕ) → a < suc n → f a ≡ true
every-at n f e a lt = below-at (suc n) f e a lt

implied : (b d : Bool) → b ≡ true → (not b || d) ≡ true → d ≡ true
implied true d e h = h
implied false d e h = absurd (true≢false (sym e))

-- the state has what the last state has, whatever the result
result-plain : (s : State) (d : Datum) (y : Text) (a : Sort) → IsScalar d → StateText y a → GivesAt a (assigned s result_name d) (named y) s (named y)
result-plain s d y a i h = subst (λ (u : State). GivesAt a u (named y) s (named y)) (sym (stored-scalar s (codes "result") d i)) (stored-local s (codes "result") d y a i refl h)

with-result-state : (p : Program) (type : Ty) (last : State) (v : Option Datum) (y : Text) (a : Sort) → HasResult p type last v → StateText y a → GivesAt a (with_result last v) (named y) last (named y)
with-result-state p type last None y sort.Obj h i = refl
with-result-state p type last None y sort.Int h i = refl
with-result-state p type last None y sort.Bool h i = refl
with-result-state p type last None y sort.Set h i = refl
with-result-state p type last None y sort.Field h i = refl
with-result-state p type last (Some d) y a h i = result-plain last d y a (lies-scalar p type last d (some-result p type last d h)) i

-- each of a list that is mapped
mapped-at : {X : Type 0} (f : X → FormulaTree) (xs : List X) (m : Interp) → AllTrueIn m (map f xs) → (x : X) → Contains xs x → truth (f x) m [] ≡ true
mapped-at f [] m h x i = absurd (none i.0 i.1)
  where
    none : (j : ℕ) → j < 0 → ⊥
    none j lt = omega arith
mapped-at {X = X} f (y ∷ ys) m h x i = from (Contains-append_cases (y ∷ []) ys x i) (λ j. mapped-at f ys m h.1 x j)
  where
    from : Contains (y ∷ []) x ⊎ Contains ys x → (Contains ys x → truth (f x) m [] ≡ true) → truth (f x) m [] ≡ true
    from (inl j) g = subst (λ (z : X). truth (f z) m [] ≡ true) (sym (single y x j)) h.0
    from (inr j) g = g j

unmarked : (fs : List FormulaTree) (place : Place) (m : Interp) → AllTrueIn m (map (λ f. t.mark (mark_without_name kind.Frame place) f) fs) → AllTrueIn m fs
unmarked [] place m h = tt
unmarked (f ∷ fs) place m h = (h.0, unmarked fs place m h.1)

claims-marked : (claims : List Claim) (m : Interp) → AllTrueIn m (map (λ claim. t.mark (mark_of kind.Inv claim) claim.formula) claims) → ClaimsTrue claims m
claims-marked [] m h = tt
claims-marked (claim ∷ more) m h = (h.0, claims-marked more m h.1)

last-states : (r e : Option Claim) (claim : Claim) → e ≡ Some claim → AreOfStates (listed r ++ listed e) → IsOfStates (t.of_truth claim.formula)
last-states None e claim is h = (subst (λ (z : Option Claim). AreOfStates (listed z)) is h).0
last-states (Some r) e claim is h = (subst (λ (z : Option Claim). AreOfStates (listed z)) is h.1).0

post-true : (place : Place) (e : Option Claim) (now old g : Interp) → ((claim : Claim) → e ≡ Some claim → IsOfStates (t.of_truth claim.formula)) → truth (post_formula place e) (viewed now old g) [] ≡ true → truth (condition e) (shown now old) [] ≡ true
post-true place None now old g states h = h
post-true place (Some claim) now old g states h = sym (truth-stated now old g claim.formula (states claim refl)) ∙ h

module _ (p : Program) (names : NamesFit p) (ws : Writes) (m : Callee) (x : Method) (first last : State) (v : Option Datum) (g : Interp) (same : last.last ≡ first.last) (typed : HasResult p x.result last v) where
  abbrev pub end : Interp
  end = viewed (with_result last v) first g

  at-last : (y : Text) (a : Sort) → StateText y a → GivesAt a end (named y) last (named y)
  at-last y a h = at-then a end (with_result last v) last (named y) (named y) (named y) (viewed-now a (with_result last v) first g y) (with-result-state p x.result last v y a typed h)

  end-last : end.last ≡ first.last
  end-last = with-result-last last v ∙ same

  over : (f : ℕ → Bool) → every end.last f ≡ true → (a : ℕ) → a < suc first.last → f a ≡ true
  over f h a lt = every-at end.last f h a (subst (λ (n : ℕ). a < suc n) (sym end-last) lt)

  -- a frame fact says that a member keeps its value
  static-kept : (y : Member) → Contains p.members y → truth (same_static y.kind (named y.text) (fresh y.text 1)) end [] ≡ true → KeepsStatic y.kind (named y.text) first last
  static-kept y i h = from y.kind h
    where
      from : (kind : Kind) → truth (same_static kind (named y.text) (fresh y.text 1)) end [] ≡ true → KeepsStatic kind (named y.text) first last
      from k.Obj h = sym (at-last y.text sort.Obj (names.dots y i)) ∙ eqb-true (end.object (named y.text)) (first.object (named y.text)) h
      from k.Int h = sym (at-last y.text sort.Int (names.dots y i)) ∙ (Decides-int_eq (end.number (named y.text)) (first.number (named y.text))).0 h
      from k.Bool h = sym (at-last y.text sort.Bool (names.dots y i)) ∙ agree-same (end.truth (named y.text)) (first.truth (named y.text)) h
      from k.Set h = λ b lt. (λ j. sym (at-last y.text sort.Set tt) j b) ∙ agree-same (end.set (named y.text) b) (first.set (named y.text) b) (over (λ z. agree (end.set (named y.text) z) (first.set (named y.text) z)) h b lt)

  read-kept : (y : Member) (a : ℕ) → truth (same_read y.kind (named y.text) (fresh y.text 1)) end (a ∷ []) ≡ true → KeepsAt y.kind (named y.text) a first last
  read-kept y a h = from y.kind h
    where
      now : end.field (named y.text) ≡ last.field (named y.text)
      now = at-last y.text sort.Field tt

      from : (kind : Kind) → truth (same_read kind (named y.text) (fresh y.text 1)) end (a ∷ []) ≡ true → KeepsAt kind (named y.text) a first last
      from k.Obj h = (λ j. (sym now j).objects a) ∙ eqb-true ((end.field (named y.text)).objects a) ((first.field (named y.text)).objects a) h
      from k.Int h = (λ j. (sym now j).numbers a) ∙ (Decides-int_eq ((end.field (named y.text)).numbers a) ((first.field (named y.text)).numbers a)).0 h
      from k.Bool h = (λ j. (sym now j).truths a) ∙ agree-same ((end.field (named y.text)).truths a) ((first.field (named y.text)).truths a) h
      from k.Set h = λ b lt. (λ j. (sym now j).sets a b) ∙ agree-same ((end.field (named y.text)).sets a b) ((first.field (named y.text)).sets a b)
          (over (λ z. agree ((end.field (named y.text)).sets a z) ((first.field (named y.text)).sets a z)) h b lt)

  fact-kept : (inside : (a : ℕ) → first.set alloc_name a ≡ true → a < suc first.last) (y : Member) → Contains p.members y → truth (frame_fact (t.free_set (fresh (codes "alloc") 1)) 1 y) end [] ≡ true → Keeps y first last
  fact-kept inside y i h = from y.is_static h
    where
      from : (b : Bool) → truth (if b then same_static y.kind (named y.text) (fresh y.text 1) else each_in (t.free_set (fresh (codes "alloc") 1)) (same_read y.kind (named y.text) (fresh y.text 1))) end [] ≡ true →
          KeepsBy b y.kind (named y.text) first last
      from true h = static-kept y i h
      from false h = λ a there. read-kept y a (implied (first.set alloc_name a) (truth (same_read y.kind (named y.text) (fresh y.text 1)) end (a ∷ [])) there
          (over (λ z. not (first.set alloc_name z) || truth (same_read y.kind (named y.text) (fresh y.text 1)) end (z ∷ [])) h a (inside a there)))

  -- what isn't written is kept
  left-kept : (y : Member) → Contains p.members y → LeavesUnwritten p ws m first last → ws.written m y.text ≡ false → Keeps y first last
  left-kept y i left e = from y.is_static
    where
      one : (a : Sort) → GivesAt a last (named y.text) first (named y.text)
      one a = unwritten-state p ws m first last y.text a left (dotted a) (unwritten-text p ws m y.text a e)
        where
          dotted : (a : Sort) → StateText y.text a
          dotted sort.Obj = names.dots y i
          dotted sort.Int = names.dots y i
          dotted sort.Bool = names.dots y i
          dotted sort.Set = tt
          dotted sort.Field = tt

      static : (kind : Kind) → KeepsStatic kind (named y.text) first last
      static k.Obj = one sort.Obj
      static k.Int = one sort.Int
      static k.Bool = one sort.Bool
      static k.Set = λ b lt j. one sort.Set j b

      reads : (kind : Kind) (a : ℕ) → KeepsAt kind (named y.text) a first last
      reads k.Obj a = λ j. (one sort.Field j).objects a
      reads k.Int a = λ j. (one sort.Field j).numbers a
      reads k.Bool a = λ j. (one sort.Field j).truths a
      reads k.Set a = λ b lt j. (one sort.Field j).sets a b

      from : (b : Bool) → KeepsBy b y.kind (named y.text) first last
      from true = static y.kind
      from false = λ a there. reads y.kind a

  -- the whole
  pub returns-well : (inside : (a : ℕ) → first.set alloc_name a ≡ true → a < suc first.last) → LeavesUnwritten p ws m first last → Grew first last → AreOfStates (listed x.requires ++ listed x.ensures) → AllSpeak (speaks_of_state p) p.invariants →
      truth (method_command p ws m x).returned end [] ≡ true → ReturnsWell p (λ y. ws.modified m y ≡ true) x first last v
  returns-well inside left grew states speak h =
      let claims : List FormulaTree = map (λ claim. t.mark (mark_of kind.Inv claim) claim.formula) (owed p x) in
      let facts : List FormulaTree = frame_facts p ws m (t.free_set (fresh (codes "alloc") 1)) 1 in
      let marked : List FormulaTree = map (λ f. t.mark (mark_without_name kind.Frame x.place) f) facts in
      let all : AllTrueIn end (post_formula x.place x.ensures ∷ claims) × AllTrueIn end marked =
      parts-true end (post_formula x.place x.ensures ∷ claims) marked (joined-true end (returned_formulas p ws m x) h) in
      let frames : AllTrueIn end facts = unmarked facts x.place end all.1 in
      record {
        typed = typed;
        ensures = post-true x.place x.ensures (with_result last v) first g (λ claim is. last-states x.requires x.ensures claim is states) (all.0).0;
        invariants = claims-seen p end last first (with-result-last last v) (λ y a i. at-last y a (state-text p names y a i)) (owed p x) (owed-speak p x speak) (claims-marked (owed p x) end (all.0).1);
        frame = record {
          universe = same;
          alloc = λ a i. grew (codes "alloc") refl a i;
          classes = λ c i a j. grew c (names.dotless c i) a j;
          members = λ y i out. kept y i out frames (ws.written m y.text) refl;
        };
      }
    where
      not-modified : (b : Bool) → (b ≡ true → ⊥) → not b ≡ true
      not-modified true h = absurd (h refl)
      not-modified false h = refl

      both : (b d : Bool) → b ≡ true → d ≡ true → (b && d) ≡ true
      both true d e f = f
      both false d e f = e

      kept : (y : Member) → Contains p.members y → (ws.modified m y.text ≡ true → ⊥) → AllTrueIn end (frame_facts p ws m (t.free_set (fresh (codes "alloc") 1)) 1) → (b : Bool) → ws.written m y.text ≡ b → Keeps y first last
      kept y i out frames true e =
          fact-kept inside y i (mapped-at (frame_fact (t.free_set (fresh (codes "alloc") 1)) 1) (framed p ws m) end frames y
          (filter-has (λ (z : Member). ws.written m z.text && not (ws.modified m z.text)) p.members y i (both (ws.written m y.text) (not (ws.modified m y.text)) e (not-modified (ws.modified m y.text) out))))
      kept y i out frames false e = left-kept y i left e
