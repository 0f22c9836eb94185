-- What is read and is defined has a definition; and a defined variable is one of the variables of the text.
use Rattle.std.proofs.Common.{◌≡◌, refl, sym, ap, subst, ◌∙◌, ℕ, zero, suc, ◌+◌, Bool, true, false, if◌then◌else◌, List, [], ◌∷◌, ◌++◌, map, slice_get, Option, Some, None, is_some, option_map, codes, arith}
use Rattle.std.specs.Option.{option_map_or}
use Rattle.std.proofs.lemmas.Bool.{true≢false}
use Rattle.jh_ast.specs.declared.word.Word.{Word}
use Rattle.jh_ast.specs.Forms.{FormTree, FormTrees}
use Rattle.jh_ast.specs.Forms as f
use Rattle.jh_ast.specs.Programs.{ProgramTree, ClassPart}
use Rattle.jh_rules.specs.declared.entries.StateEntry.{StateEntry}
use Rattle.jh_rules.specs.Formulas.{equations}
use Rattle.jh_rules.specs.Names.{◌then◌, MemberPart, field, method, var, member_word, members_of, first_named, def_in, def_of, state_from, state_in, states_from, the_only, declared_in, own_name}
use Rattle.jh_rules.specs.Names as names
use Rattle.jh_rules.specs.Words.{same_text, is_one_of, is_before, text_of, halves}
use Rattle.jh_symbols.proofs.member_numbers.Puttings.{text-is}
use Rattle.jh_vars.specs.States.{State, called, state_spelled, state_named}
use Rattle.jh_vars.specs.Reading.{reads, all_read, name_reads, fields_read, some_state}

some-is : {X : Type 0} (a b : X) → Some a ≡ Some b → a ≡ b
some-is a b e = cc

none-some : {X : Type 0} (a : X) → None ≡ Some a → ⊥
none-some a e = cc

-- a member that is found has the name
pub named-so : (x : List ℕ) (ms : List MemberPart) (m : MemberPart) → first_named x ms ≡ Some m → text_of (member_word m) ≡ x
unfolding first_named
named-so x [] m e = absurd (none-some m e)
named-so x (n ∷ ms) m e = by (same_text (text_of (member_word n)) x) refl (first_named x ms) (λ k q. named-so x ms k q) e
  where
    by : (b : Bool) → same_text (text_of (member_word n)) x ≡ b → (o : Option MemberPart) → ((k : MemberPart) → o ≡ Some k → text_of (member_word k) ≡ x) →
        (if b then Some (option_map_or (λ k. if is_before (member_word k).place (member_word n).place then k else n) o n) else o) ≡ Some m → text_of (member_word m) ≡ x
    by false h o rest q = rest m q
    by true h None rest q = ap (λ (k : MemberPart). text_of (member_word k)) (sym (some-is n m q)) ∙ text-is (text_of (member_word n)) x h
    by true h (Some k) rest q = one (is_before (member_word k).place (member_word n).place) (some-is _ m q)
      where
        one : (b : Bool) → (if b then k else n) ≡ m → text_of (member_word m) ≡ x
        one true s = ap (λ (i : MemberPart). text_of (member_word i)) (sym s) ∙ rest k refl
        one false s = ap (λ (i : MemberPart). text_of (member_word i)) (sym s) ∙ text-is (text_of (member_word n)) x h

-- and is one of the members
pub named-in : (x : List ℕ) (ms : List MemberPart) (m : MemberPart) → first_named x ms ≡ Some m → (j : ℕ) × (slice_get ms j ≡ Some m)
unfolding first_named
named-in x [] m e = absurd (none-some m e)
named-in x (n ∷ ms) m e = by (same_text (text_of (member_word n)) x) (first_named x ms) (λ k q. named-in x ms k q) e
  where
    later : (k : MemberPart) → ((j : ℕ) × (slice_get ms j ≡ Some k)) → k ≡ m → (j : ℕ) × (slice_get (n ∷ ms) j ≡ Some m)
    later k w s = (suc w.0, w.1 ∙ ap Some s)

    by : (b : Bool) (o : Option MemberPart) → ((k : MemberPart) → o ≡ Some k → (j : ℕ) × (slice_get ms j ≡ Some k)) →
        (if b then Some (option_map_or (λ k. if is_before (member_word k).place (member_word n).place then k else n) o n) else o) ≡ Some m → (j : ℕ) × (slice_get (n ∷ ms) j ≡ Some m)
    by false o rest q = later m (rest m q) refl
    by true None rest q = (0, q)
    by true (Some k) rest q = one (is_before (member_word k).place (member_word n).place) (some-is _ m q)
      where
        one : (b : Bool) → (if b then k else n) ≡ m → (j : ℕ) × (slice_get (n ∷ ms) j ≡ Some m)
        one true s = later k (rest k refl) s
        one false s = (0, ap Some s)

module _ (p : ProgramTree) where
  -- what is defined has a definition
  abbrev pub IsSaid : State → Type 0
  IsSaid y = y.entry.is_defined ≡ true → is_some (def_of p y.entry.class y.name) ≡ true

  -- what is found of a name in a class
  abbrev pub IsSaidAt : ℕ → List ℕ → StateEntry → Type 0
  IsSaidAt c x s = (s.class ≡ c) × (s.is_defined ≡ true → is_some (def_of p c x) ≡ true)

  from-member : (c : ℕ) (x : List ℕ) (class : ClassPart) (o : Option MemberPart) (s : StateEntry) → slice_get p.classes c ≡ Some class → ((m : MemberPart) → o ≡ Some m → text_of (member_word m) ≡ x) → state_from p class c o ≡ Some s → IsSaidAt c x s
  from-member c x class None s at text e = absurd (none-some s e)
  from-member c x class (Some (method m)) s at text e = absurd (none-some s e)
  from-member c x class (Some (field k)) s at text e = (ap (λ (t : StateEntry). t.class) (sym (some-is _ s e)), λ d. absurd (true≢false (sym (ap (λ (t : StateEntry). t.is_defined) (some-is _ s e) ∙ d))))
  from-member c x class (Some (var v)) s at text e = (
    ap (λ (t : StateEntry). t.class) (sym (some-is _ s e)),
    λ d.
        (ap (λ o. is_some (o then λ (k : ClassPart). def_in x k.defs)) at) ∙ ap (λ y. is_some (def_in y class.defs)) (sym (text (var v) refl)) ∙ ap (λ (t : StateEntry). t.is_defined) (some-is _ s e) ∙ d,
  )

  in-class : (c : ℕ) (x : List ℕ) (class : ClassPart) (s : StateEntry) → slice_get p.classes c ≡ Some class → state_in p c x class ≡ Some s → IsSaidAt c x s
  in-class c x class s at e = from-member c x class (first_named x (members_of class)) s at (λ m q. named-so x (members_of class) m q) e

  of-state : (c : ℕ) (x : List ℕ) (s : StateEntry) → (declared_in p).state_of c x ≡ Some s → IsSaidAt c x s
  of-state c x s e = by (slice_get p.classes c) refl e
    where
      by : (o : Option ClassPart) → slice_get p.classes c ≡ o → (o then state_in p c x) ≡ Some s → IsSaidAt c x s
      by None h q = absurd (none-some s q)
      by (Some class) h q = in-class c x class s h q

  -- the classes from a number on
  abbrev AreFrom : ℕ → List ClassPart → Type 0
  AreFrom n cs = (j : ℕ) (c : ClassPart) → slice_get cs j ≡ Some c → slice_get p.classes (n + j) ≡ Some c

  from-next : (n : ℕ) (c : ClassPart) (cs : List ClassPart) → AreFrom n (c ∷ cs) → AreFrom (n + 1) cs
  from-next n c cs h j d e = let same : (n + 1) + j ≡ n + suc j = omega arith in ap (slice_get p.classes) same ∙ h (suc j) d e

  -- the states of a name
  in-states : (n : ℕ) (x : List ℕ) (cs : List ClassPart) → AreFrom n cs → (j : ℕ) (s : StateEntry) → slice_get (states_from p n x cs) j ≡ Some s → IsSaidAt s.class x s
  unfolding states_from
  in-states n x [] h zero s e = cc
  in-states n x [] h (suc j) s e = cc
  in-states n x (c ∷ cs) h j s e = by (state_in p n x c) refl j e (λ i q. in-states (n + 1) x cs (from-next n c cs h) i s q)
    where
      class-at : slice_get p.classes n ≡ Some c
      class-at = let same : n ≡ n + 0 = omega arith in ap (slice_get p.classes) same ∙ h 0 c refl

      own : (t : StateEntry) → IsSaidAt n x t → IsSaidAt t.class x t
      own t w = (refl, λ d. ap (λ k. is_some (def_of p k x)) w.0 ∙ w.1 d)

      by : (o : Option StateEntry) → state_in p n x c ≡ o → (j : ℕ) → slice_get (option_map_or (λ t. t ∷ states_from p (n + 1) x cs) o (states_from p (n + 1) x cs)) j ≡ Some s →
          ((i : ℕ) → slice_get (states_from p (n + 1) x cs) i ≡ Some s → IsSaidAt s.class x s) → IsSaidAt s.class x s
      by None g j q rest = rest j q
      by (Some t) g zero q rest = subst (λ (u : StateEntry). IsSaidAt u.class x u) (some-is t s q) (own t (in-class n x c t class-at g))
      by (Some t) g (suc j) q rest = rest j q

  all-from : AreFrom 0 p.classes
  all-from j c q = let same : 0 + j ≡ j = omega arith in ap (slice_get p.classes) same ∙ q

  only-said : (x : List ℕ) (s : StateEntry) → (declared_in p).only_state x ≡ Some s → IsSaidAt s.class x s
  only-said x s e = in-states 0 x p.classes all-from 0 s (by (states_from p 0 x p.classes) e)
    where
      by : (ss : List StateEntry) → the_only p ss ≡ Some s → slice_get ss 0 ≡ Some s
      by [] q = absurd (none-some s q)
      by (t ∷ []) q = q
      by (t ∷ u ∷ ss) q = absurd (none-some s q)

  as-said : (c : ℕ) (x : List ℕ) (s : StateEntry) (y : List ℕ) → y ≡ x → IsSaidAt c x s → IsSaid (record { entry = s; name = y })
  as-said c x s y e w = λ d. (λ i. is_some (def_of p (w.0 i) (e i))) ∙ w.1 d

  -- what is spelled and what is named
  spelled-by : (c : ℕ) (x : List ℕ) (h : Option (List ℕ × List ℕ)) (s : StateEntry) → option_map_or (λ h. (declared_in p).class_named h.0 then λ d. (declared_in p).state_of d h.1) h ((declared_in p).state_of c x) ≡ Some s → IsSaid (record { entry = s; name = option_map_or (λ h. h.1) h x })
  spelled-by c x None s e = as-said c x s x refl (of-state c x s e)
  spelled-by c x (Some h) s e = by ((declared_in p).class_named h.0) e
    where
      by : (o : Option ℕ) → (o then λ d. (declared_in p).state_of d h.1) ≡ Some s → IsSaid (record { entry = s; name = h.1 })
      by None q = absurd (none-some s q)
      by (Some d) q = as-said d h.1 s h.1 refl (of-state d h.1 s q)

  spelled-said : (c : ℕ) (x : List ℕ) (s : StateEntry) → names.state_spelled (declared_in p) c x ≡ Some s → IsSaid (called x s)
  spelled-said c x s e = spelled-by c x (halves x) s e

  named-said : (c : ℕ) (x : List ℕ) (s : StateEntry) → names.state_named (declared_in p) c x ≡ Some s → IsSaid (called x s)
  named-said c x s e = by (names.state_spelled (declared_in p) c x) refl e
    where
      plain : (h : Option (List ℕ × List ℕ)) → (if is_some h then None else (declared_in p).only_state x) ≡ Some s → IsSaid (record { entry = s; name = option_map_or (λ h. h.1) h x })
      plain None q = as-said s.class x s x refl (only-said x s q)
      plain (Some h) q = absurd (none-some s q)

      by : (o : Option StateEntry) → names.state_spelled (declared_in p) c x ≡ o → option_map_or (λ t. Some t) o (if is_some (halves x) then None else (declared_in p).only_state x) ≡ Some s → IsSaid (called x s)
      by None h q = plain (halves x) q
      by (Some t) h q = subst (λ (u : StateEntry). IsSaid (called x u)) (some-is t s q) (spelled-said c x t h)

  -- all of a list have a definition where they are defined
  abbrev pub AllSaid : List State → Type 0
  AllSaid ys = (j : ℕ) (y : State) → slice_get ys j ≡ Some y → IsSaid y

  said-none : AllSaid []
  said-none zero y e = cc
  said-none (suc j) y e = cc

  said-both : (xs ys : List State) → AllSaid xs → AllSaid ys → AllSaid (xs ++ ys)
  said-both [] ys g h j y e = h j y e
  said-both (x ∷ xs) ys g h zero y e = g zero y e
  said-both (x ∷ xs) ys g h (suc j) y e = said-both xs ys (λ i z. g (suc i) z) h j y e

  said-some : (x : List ℕ) (o : Option StateEntry) → ((s : StateEntry) → o ≡ Some s → IsSaid (called x s)) → AllSaid (some_state (option_map (called x) o))
  said-some x None h j y e = said-none j y e
  said-some x (Some s) h zero y e = subst (λ (z : State). IsSaid z) (some-is (called x s) y e) (h s refl)
  said-some x (Some s) h (suc j) y e = cc

  said-name : (n : ℕ) (bound : List (List ℕ)) (w : Word) → AllSaid (name_reads (declared_in p) n bound w)
  said-name n bound w = by (is_one_of (text_of w) (bound ++ codes "this" ∷ codes "result" ∷ codes "alloc" ∷ codes "Object" ∷ codes "Object.alloc" ∷ []))
    where
      by : (b : Bool) → AllSaid (if b then [] else some_state (state_spelled (declared_in p) n (text_of w)))
      by true = said-none
      by false = said-some (text_of w) (names.state_spelled (declared_in p) n (text_of w)) (λ s q. spelled-said n (text_of w) s q)

  said-fields : (n : ℕ) (ws : List Word) → AllSaid (fields_read (declared_in p) n ws)
  said-fields n [] = said-none
  said-fields n (w ∷ ws) = said-both (some_state (state_named (declared_in p) n (text_of w))) (fields_read (declared_in p) n ws) (said-some (text_of w) (names.state_named (declared_in p) n (text_of w)) (λ s q. named-said n (text_of w) s q)) (said-fields n ws)

  said-path : (n : ℕ) (o : Option (List Word)) → AllSaid (option_map_or (fields_read (declared_in p) n) o [])
  said-path n None = said-none
  said-path n (Some ws) = said-fields n ws

  mutual
    unfolding reads all_read

    pub said : (a : FormTree) (n : ℕ) (bound : List (List ℕ)) → AllSaid (reads (declared_in p) a n bound)
    said (f.name q w) n bound = said-name n bound w
    said (f.member q a w) n bound = said-both (reads (declared_in p) a n bound) (fields_read (declared_in p) n (w ∷ [])) (said a n bound) (said-fields n (w ∷ []))
    said (f.negation q a) n bound = said a n bound
    said (f.minus q a) n bound = said a n bound
    said (f.old q a) n bound = said a n bound
    said (f.card q a) n bound = said a n bound
    said (f.binary q o a b) n bound = said-both (reads (declared_in p) a n bound) (reads (declared_in p) b n bound) (said a n bound) (said b n bound)
    said (f.dvd q z a) n bound = said a n bound
    said (f.all q ws a) n bound = said a n (bound ++ map text_of ws)
    said (f.ex q ws a) n bound = said a n (bound ++ map text_of ws)
    said (f.tree q ws) n bound = said-fields n ws
    said (f.rtrancl q x y body a b) n bound =
        said-both (option_map_or (fields_read (declared_in p) n) (equations (text_of x) (text_of y) body) [] ++ reads (declared_in p) a n bound) (reads (declared_in p) b n bound)
        (said-both (option_map_or (fields_read (declared_in p) n) (equations (text_of x) (text_of y) body) []) (reads (declared_in p) a n bound) (said-path n (equations (text_of x) (text_of y) body)) (said a n bound))
        (said b n bound)
    said (f.braces q fs) n bound = all-said fs n bound
    said (f.compr q w a) n bound = said a n (bound ++ text_of w ∷ [])
    said (f.null q) n bound = said-none
    said (f.yes q) n bound = said-none
    said (f.no q) n bound = said-none
    said (f.univ q) n bound = said-none
    said (f.number q z) n bound = said-none

    all-said : (fs : FormTrees) (n : ℕ) (bound : List (List ℕ)) → AllSaid (all_read (declared_in p) fs n bound)
    all-said f.none n bound = said-none
    all-said (f.more a fs) n bound = said-both (reads (declared_in p) a n bound) (all_read (declared_in p) fs n bound) (said a n bound) (all-said fs n bound)
