-- Tables of names, one entry after the other.
use Rattle.std.proofs.Common.{zero, suc, take, is_some, ◌≡◌, refl, sym, ap, subst, ◌∙◌, ℕ, ◌+◌, ◌-◌, ◌≤◌, ◌<◌, not, Bool, true, false, List, [], ◌∷◌, ◌++◌, map, length, get_or, Option, Some, None, option_map, if◌then◌else◌, arith}
use Rattle.std.specs.Option.{option_map_or}
use Rattle.std.specs.Cmp.Lexicographic.{bytes_decides}
use Rattle.std.proofs.lemmas.Bool.{true≢false}
use Rattle.jh_ast.specs.declared.program.Class.{Class}
use Rattle.jh_ast.specs.declared.program.VarDef.{VarDef}
use Rattle.jh_ast.specs.declared.program.SpecVar.{SpecVar}
use Rattle.std.proofs.lemmas.List.{append_assoc}
use Rattle.indexmap.specs.IndexMap.{get_by_text}
use Rattle.jh_symbols.specs.declared.scopes.looking.Members.{Members}
use Rattle.jh_ast.specs.Bare.{class_part, def_part, field_part, method_part, var_part}
use Rattle.jh_ast.specs.Programs.{ClassPart, DefPart}
use Rattle.jh_rules.specs.Words.{same_text, text_of, is_before}
use Rattle.jh_rules.specs.Names.{members_of, MemberPart, member_word, first_named, class_from, def_in}
use Rattle.jh_rules.specs.Names as n
use Rattle.jh_symbols.specs.declared.scopes.looking.Member.{Member}
use Rattle.jh_symbols.specs.declarations.Entries.{AreTables, members, var_member, entry_of, kept, is_first, Puts, Holds, marked}
use Rattle.jh_symbols.proofs.declarations.Reversals.{take-next, behind, behind-start, behind-next, behind-end}

pick-new : (q m : Member) (b : Bool) → not b ≡ true → (if b then q else m) ≡ m
pick-new q m true e = absurd (true≢false (sym e))
pick-new q m false e = refl

kept-first : (o : Option Member) (m : Member) → is_first o m.place ≡ true → kept o m ≡ m
kept-first None m e = refl
kept-first (Some q) m e = pick-new q m (is_before q.place m.place) e

-- a member that is taken in
pub put-new : (old new : List ℕ → Option Member) (w : List ℕ) (m : Member) → is_first (old w) m.place ≡ true → ((x : List ℕ) → new x ≡ (if same_text w x then Some m else old x)) → Puts old new w m
put-new old new w m e h x = h x ∙ ap (λ k. if same_text w x then Some k else old x) (sym (kept-first (old w) m e))

pick-old : (q m : Member) (b : Bool) → not b ≡ false → (if b then q else m) ≡ q
pick-old q m true e = refl
pick-old q m false e = absurd (true≢false e)

kept-again : (o : Option Member) (m : Member) → is_first o m.place ≡ false → Some (kept o m) ≡ o
kept-again None m e = absurd (true≢false e)
kept-again (Some q) m e = ap Some (pick-old q m (is_before q.place m.place) e)

kept-at : (old : List ℕ → Option Member) (w x : List ℕ) (m : Member) (b : Bool) → same_text w x ≡ b → is_first (old w) m.place ≡ false → old x ≡ (if b then Some (kept (old w) m) else old x)
kept-at old w x m true s e = ap old (sym ((bytes_decides w x).0 s)) ∙ sym (kept-again (old w) m e)
kept-at old w x m false s e = refl

-- a member that isn't
pub put-old : (old : List ℕ → Option Member) (w : List ℕ) (m : Member) → is_first (old w) m.place ≡ false → Puts old old w m
put-old old w m e x = kept-at old w x m (same_text w x) refl e

module _ (numbers : List ℕ → Option ℕ) (class : ℕ) (defs : List DefPart) where
  abbrev E : MemberPart → Member
  E m = entry_of numbers class defs m

  same-place : (m : MemberPart) → (E m).place ≡ (member_word m).place
  same-place (n.field x) = refl
  same-place (n.method m) = refl
  same-place (n.var v) = refl

  if-entry : (q m : MemberPart) (b : Bool) → (if b then E q else E m) ≡ E (if b then q else m)
  if-entry q m true = refl
  if-entry q m false = refl

  kept-entry : (o : Option MemberPart) (m : MemberPart) → kept (option_map E o) (E m) ≡ E (option_map_or (λ q. if is_before (member_word q).place (member_word m).place then q else m) o m)
  kept-entry None m = refl
  kept-entry (Some q) m = (λ i. if is_before (same-place q i) (same-place m i) then E q else E m) ∙ if-entry q m (is_before (member_word q).place (member_word m).place)

  abbrev winner : List ℕ → MemberPart → List MemberPart → MemberPart
  winner x m ms = option_map_or (λ q. if is_before (member_word q).place (member_word m).place then q else m) (first_named x ms) m

  one-at : (f : List ℕ → Option Member) (ms : List MemberPart) (m : MemberPart) (x : List ℕ) (b : Bool) → Holds E f ms → same_text (text_of (member_word m)) x ≡ b → (if b then Some (kept (f (text_of (member_word m))) (E m)) else f x) ≡ option_map E (if b then Some (winner x m ms) else first_named x ms)
  one-at f ms m x true h s =
      ap (λ o. Some (kept o (E m))) (h (text_of (member_word m))) ∙ ap (λ y. Some (kept (option_map E (first_named y ms)) (E m))) ((bytes_decides (text_of (member_word m)) x).0 s)
      ∙ ap Some (kept-entry (first_named x ms) m)
  one-at f ms m x false h s = h x

  pub holds-more : (f g : List ℕ → Option Member) (ms : List MemberPart) (m : MemberPart) → Holds E f ms → Puts f g (text_of (member_word m)) (E m) → Holds E g (m ∷ ms)
  unfolding first_named
  holds-more f g ms m h p x = p x ∙ one-at f ms m x (same_text (text_of (member_word m)) x) h refl

  pub holds-none : (f : List ℕ → Option Member) → ((x : List ℕ) → f x ≡ None) → Holds E f []
  unfolding first_named
  holds-none f h x = h x

  -- a loop through members of a kind, from behind
  module _ {A : Type 0} (part : A → MemberPart) where
    abbrev pub Fills : (List ℕ → Option Member) → (List ℕ → Option Member) → List A → ℕ → Type 0
    Fills old new xs back = (ms : List MemberPart) → Holds E old ms → Holds E new (map part (behind xs back) ++ ms)

    pub fills-start : (f : List ℕ → Option Member) (xs : List A) → Fills f f xs 0
    fills-start f xs ms h = subst (λ ys. Holds E f (map part ys ++ ms)) (sym (behind-start xs)) h

    pub fills-next : (old f g : List ℕ → Option Member) (xs : List A) (back index : ℕ) (a : A) → index + back + 1 ≡ length xs → a ≡ get_or xs index a → Puts f g (text_of (member_word (part a))) (E (part a)) → Fills old f xs back → Fills old g xs (back + 1)
    fills-next old f g xs back index a e is p h ms o = subst (λ ys. Holds E g (map part ys ++ ms)) (sym (behind-next xs back index a e is)) (holds-more f g (map part (behind xs back) ++ ms) (part a) (h ms o) p)

    pub fills-end : (old f : List ℕ → Option Member) (xs : List A) (back : ℕ) → length xs ≤ back → Fills old f xs back → (ms : List MemberPart) → Holds E old ms → Holds E f (map part xs ++ ms)
    fills-end old f xs back le h ms o = subst (λ ys. Holds E f (map part ys ++ ms)) (behind-end xs back le) (h ms o)

-- the numbers of classes
abbrev pub Numbers : (List ℕ → Option ℕ) → List Class → ℕ → Type 0
Numbers f cs back = (x : List ℕ) → f x ≡ class_from (length cs - back) x (map class_part (behind cs back))

pub numbers-start : (f : List ℕ → Option ℕ) (cs : List Class) → ((x : List ℕ) → f x ≡ None) → Numbers f cs 0
unfolding class_from
numbers-start f cs h x = h x ∙ sym (ap (λ ys. class_from (length cs - 0) x (map class_part ys)) (behind-start cs))

pub numbers-next : (f g : List ℕ → Option ℕ) (cs : List Class) (back index : ℕ) (a : Class) → index + back + 1 ≡ length cs → a ≡ get_or cs index a → ((x : List ℕ) → g x ≡ (if same_text (text_of a.name) x then Some index else f x)) → Numbers f cs back → Numbers g cs (back + 1)
unfolding class_from class_part
numbers-next f g cs back index a e is p h x =
    let here : length cs - (back + 1) ≡ index = omega arith in
    let next : length cs - back ≡ index + 1 = omega arith in
    p x ∙ ap (λ o. if same_text (text_of a.name) x then Some index else o) (h x ∙ ap (λ k. class_from k x (map class_part (behind cs back))) next)
    ∙ (λ i. class_from (sym here i) x (map class_part (sym (behind-next cs back index a e is) i)))

pub numbers-end : (f : List ℕ → Option ℕ) (cs : List Class) (back : ℕ) → length cs ≤ back → Numbers f cs back → (x : List ℕ) → f x ≡ class_from 0 x (map class_part cs)
numbers-end f cs back le h x =
    let none : length cs - back ≡ 0 = omega arith in
    h x ∙ (λ i. class_from (none i) x (map class_part (behind-end cs back le i)))

-- the names that have definitions
abbrev pub Marks : (List ℕ → Option Bool) → List VarDef → ℕ → Type 0
Marks f ds back = (x : List ℕ) → f x ≡ marked (def_in x (map def_part (behind ds back)))

pub marks-start : (f : List ℕ → Option Bool) (ds : List VarDef) → ((x : List ℕ) → f x ≡ None) → Marks f ds 0
unfolding def_in
marks-start f ds h x = h x ∙ sym (ap (λ ys. marked (def_in x (map def_part ys))) (behind-start ds))

marks-at : (d : DefPart) (ds : List DefPart) (x : List ℕ) (b : Bool) → (if b then Some true else marked (def_in x ds)) ≡ marked (if b then Some d else def_in x ds)
marks-at d ds x true = refl
marks-at d ds x false = refl

pub marks-next : (f g : List ℕ → Option Bool) (ds : List VarDef) (back index : ℕ) (a : VarDef) → index + back + 1 ≡ length ds → a ≡ get_or ds index a → ((x : List ℕ) → g x ≡ (if same_text (text_of a.name) x then Some true else f x)) → Marks f ds back → Marks g ds (back + 1)
unfolding def_in
marks-next f g ds back index a e is p h x =
    p x ∙ ap (λ o. if same_text (text_of a.name) x then Some true else o) (h x) ∙ marks-at (def_part a) (map def_part (behind ds back)) x (same_text (text_of a.name) x)
    ∙ ap (λ ys. marked (def_in x (map def_part ys))) (sym (behind-next ds back index a e is))

pub marks-end : (f : List ℕ → Option Bool) (ds : List VarDef) (back : ℕ) → length ds ≤ back → Marks f ds back → (x : List ℕ) → f x ≡ marked (def_in x (map def_part ds))
marks-end f ds back le h x = h x ∙ ap (λ ys. marked (def_in x (map def_part ys))) (behind-end ds back le)

pub twice-mapped : {A B C : Type 0} (f : B → C) (g : A → B) (xs : List A) → map (λ x. f (g x)) xs ≡ map f (map g xs)
twice-mapped f g [] = refl
twice-mapped f g (x ∷ xs) = ap (λ ys. f (g x) ∷ ys) (twice-mapped f g xs)

some-marked : (o : Option DefPart) → is_some (marked o) ≡ is_some o
some-marked None = refl
some-marked (Some d) = refl

-- what the marks say of a variable is what its definitions say
pub defined-same : (class : ℕ) (f g : List ℕ → Option Member) (v : SpecVar) (ds : List DefPart) (marks : List ℕ → Option Bool) → ((x : List ℕ) → marks x ≡ marked (def_in x ds)) → Puts f g (text_of v.name) (var_member class (is_some (marks (text_of v.name))) (var_part v)) → Puts f g (text_of v.name) (var_member class (is_some (def_in (text_of v.name) ds)) (var_part v))
defined-same class f g v ds marks h p = subst (λ b. Puts f g (text_of v.name) (var_member class b (var_part v))) (ap is_some (h (text_of v.name)) ∙ some-marked (def_in (text_of v.name) ds)) p

append-none : {A : Type 0} (xs : List A) → xs ++ [] ≡ xs
append-none [] = refl
append-none (x ∷ xs) = ap (λ ys. x ∷ ys) (append-none xs)

pub whole-members : (c : Class) → map n.field (map field_part c.fields) ++ (map n.method (map method_part c.methods) ++ (map n.var (map var_part c.vars) ++ [])) ≡ members c
whole-members c =
    ap (λ vs. map n.field (map field_part c.fields) ++ (map n.method (map method_part c.methods) ++ vs)) (append-none (map n.var (map var_part c.vars)))
    ∙ sym (append_assoc (map n.field (map field_part c.fields)) (map n.method (map method_part c.methods)) (map n.var (map var_part c.vars)))

map-append : (xs ys : List Class) → map class_part (xs ++ ys) ≡ map class_part xs ++ map class_part ys
map-append [] ys = refl
map-append (x ∷ xs) ys = ap (λ zs. class_part x ∷ zs) (map-append xs ys)

taken-long : (i : ℕ) (cs : List Class) → i < length cs → length (map class_part (take i cs)) ≡ i
taken-long zero cs lt = refl
taken-long (suc i) [] lt = absurd (omega arith)
taken-long (suc i) (c ∷ cs) lt = ap suc (taken-long i cs (omega arith))

module _ (numbers : List ℕ → Option ℕ) where
  tables-more : (k : ℕ) (ts : List Members) (cs : List ClassPart) (t : Members) (c : ClassPart) → AreTables numbers k ts cs → Holds (entry_of numbers (k + length ts) c.defs) (λ x. get_by_text t.names x) (members_of c) → AreTables numbers k (ts ++ t ∷ []) (cs ++ c ∷ [])
  tables-more k [] [] t c h p = (subst (λ n. Holds (entry_of numbers n c.defs) (λ x. get_by_text t.names x) (members_of c)) (omega arith) p, tt)
  tables-more k [] (d ∷ cs) t c h p = absurd h
  tables-more k (u ∷ ts) [] t c h p = absurd h
  tables-more k (u ∷ ts) (d ∷ cs) t c h p = (h.0, tables-more (k + 1) ts cs t c h.1 (subst (λ n. Holds (entry_of numbers n c.defs) (λ x. get_by_text t.names x) (members_of c)) (omega arith) p))

  pub tables-long : (k : ℕ) (ts : List Members) (cs : List ClassPart) → AreTables numbers k ts cs → length ts ≡ length cs
  tables-long k [] [] h = refl
  tables-long k [] (d ∷ cs) h = absurd h
  tables-long k (u ∷ ts) [] h = absurd h
  tables-long k (u ∷ ts) (d ∷ cs) h = ap suc (tables-long (k + 1) ts cs h.1)

  pub tables-next : (ts new : List Members) (cs : List Class) (i : ℕ) (t : Members) (a : Class) → i < length cs → a ≡ get_or cs i a → new ≡ ts ++ t ∷ [] → AreTables numbers 0 ts (map class_part (take i cs)) → Holds (entry_of numbers i (map def_part a.defs)) (λ x. get_by_text t.names x) (members a) → AreTables numbers 0 new (map class_part (take (i + 1) cs))
  unfolding class_part
  tables-next ts new cs i t a lt is n h p =
      let long : length ts ≡ i = tables-long 0 ts (map class_part (take i cs)) h ∙ taken-long i cs lt in
      subst (λ us. AreTables numbers 0 us (map class_part (take (i + 1) cs))) (sym n)
      (subst (λ ds. AreTables numbers 0 (ts ++ t ∷ []) ds) (sym (ap (map class_part) (take-next cs i a lt is) ∙ map-append (take i cs) (a ∷ [])))
      (tables-more 0 ts (map class_part (take i cs)) t (class_part a) h (subst (λ k. Holds (entry_of numbers k (map def_part a.defs)) (λ x. get_by_text t.names x) (members a)) (omega arith) p)))

pub parts-long : (cs : List Class) → length (map class_part cs) ≡ length cs
parts-long [] = refl
parts-long (c ∷ cs) = ap suc (parts-long cs)
