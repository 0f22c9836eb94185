-- The states of a name in one class after another.
use Rattle.std.proofs.Common.{◌≡◌, refl, sym, ap, subst, ◌∙◌, ℕ, zero, suc, ◌+◌, ◌-◌, ◌≤◌, ◌<◌, ◌||◌, Bool, true, false, List, [], ◌∷◌, ◌++◌, map, length, take, get_or, Option, Some, None, option_map, if◌then◌else◌, arith}
use Rattle.std.specs.List.{list_any}
use Rattle.std.specs.Option.{option_map_or}
use Rattle.std.specs.Cmp.Lexicographic.{bytes_decides}
use Rattle.std.proofs.lemmas.Bool.{true≢false}
use Rattle.indexmap.specs.IndexMap.{get_by_text}
use Rattle.std.proofs.lemmas.List.{append_assoc}
use Rattle.jh_ast.specs.declared.program.Class.{Class}
use Rattle.jh_ast.specs.declared.program.Field.{Field}
use Rattle.jh_ast.specs.declared.program.Method.{Method}
use Rattle.jh_ast.specs.declared.program.SpecVar.{SpecVar}
use Rattle.jh_ast.specs.Bare.{class_part, field_part, method_part, var_part}
use Rattle.jh_ast.specs.Programs.{ProgramTree, ClassPart, DefPart}
use Rattle.jh_rules.specs.declared.entries.StateEntry.{StateEntry}
use Rattle.jh_rules.specs.Words.{same_text, text_of, is_before}
use Rattle.jh_rules.specs.Names.{MemberPart, member_word, members_of, first_named, number_of, state_from, state_in, states_from, the_only, ◌then◌}
use Rattle.jh_rules.specs.Names as n
use Rattle.jh_symbols.specs.declared.scopes.looking.Member.{Member}
use Rattle.jh_symbols.specs.declared.scopes.looking.Members.{Members}
use Rattle.jh_symbols.specs.scopes.Lookings.{only_of}
use Rattle.jh_symbols.specs.scopes.Lookings as looks
use Rattle.jh_symbols.specs.declarations.Entries.{entry_of, Holds, AreTables, members}
use Rattle.jh_symbols.specs.declarations.States.{upper, lower, first_of, last_of, state_at, named, Over, field_text, var_text, state_texts, is_absent}
use Rattle.jh_symbols.proofs.declarations.Reversals.{behind, behind-start, behind-next, behind-end, take-next, take-whole}

or-false : (a : Bool) → a || false ≡ a
or-false true = refl
or-false false = refl

or-true : (a : Bool) → a || true ≡ true
or-true true = refl
or-true false = refl

or-assoc : (a b c : Bool) → (a || b) || c ≡ a || (b || c)
or-assoc true b c = refl
or-assoc false b c = refl

any-append : {A : Type 0} (t : A → Bool) (xs ys : List A) → list_any t (xs ++ ys) ≡ list_any t xs || list_any t ys
any-append t [] ys = refl
any-append t (x ∷ xs) ys = ap (λ b. t x || b) (any-append t xs ys) ∙ sym (or-assoc (t x) (list_any t xs) (list_any t ys))

map-append : {A B : Type 0} (f : A → B) (xs ys : List A) → map f (xs ++ ys) ≡ map f xs ++ map f ys
map-append f [] ys = refl
map-append f (x ∷ xs) ys = ap (λ zs. f x ∷ zs) (map-append f xs ys)

abbrev State : Type 0
State = Option StateEntry

upper-idle : (o : State) → upper None o ≡ o
upper-idle o = refl

upper-twice : (s o : State) → upper s (upper s o) ≡ upper s o
upper-twice None o = refl
upper-twice (Some s) o = refl

lower-twice : (s o : State) → lower s (lower s o) ≡ lower s o
lower-twice None o = refl
lower-twice (Some s) None = refl
lower-twice (Some s) (Some t) = refl

module _ (over : State → State → State) (idle : (o : State) → over None o ≡ o) (twice : (s o : State) → over s (over s o) ≡ over s o) where
  joined : (s o m : State) (a b : Bool) → m ≡ (if a then over s o else o) → (if b then over s m else m) ≡ (if a || b then over s o else o)
  joined s o m true true e = ap (over s) e ∙ twice s o
  joined s o m true false e = e
  joined s o m false true e = ap (over s) e
  joined s o m false false e = e

  over-append : (st old mid new : List ℕ → State) (ws vs : List (List ℕ)) → Over over st old mid ws → Over over st mid new vs → Over over st old new (ws ++ vs)
  over-append st old mid new ws vs h k x =
      k x ∙ joined (st x) (old x) (mid x) (named ws x) (named vs x) (h x) ∙ ap (λ b. if b then over (st x) (old x) else old x) (sym (any-append (λ w. same_text w x) ws vs))

  over-next : {A : Type 0} (text : A → List ℕ) (st old cur new : List ℕ → State) (xs : List A) (i : ℕ) (a : A) → i < length xs → a ≡ get_or xs i a → Over over st cur new (text a ∷ []) → Over over st old cur (map text (take i xs)) → Over over st old new (map text (take (i + 1) xs))
  over-next text st old cur new xs i a lt is k h =
      subst (λ ws. Over over st old new ws) (sym (ap (map text) (take-next xs i a lt is) ∙ map-append text (take i xs) (a ∷ [])))
      (over-append st old cur new (map text (take i xs)) (text a ∷ []) h k)

  pick : (s o : State) (b : Bool) → ((t : StateEntry) → s ≡ Some t → b ≡ true) → (if b then over s o else o) ≡ over s o
  pick s o true h = refl
  pick None o false h = sym (idle o)
  pick (Some t) o false h = absurd (true≢false (sym (h t refl)))

  over-all : (st old new : List ℕ → State) (ws : List (List ℕ)) → ((x : List ℕ) (s : StateEntry) → st x ≡ Some s → named ws x ≡ true) → Over over st old new ws → (x : List ℕ) → new x ≡ over (st x) (old x)
  over-all st old new ws h k x = k x ∙ pick (st x) (old x) (named ws x) (h x)

  none-at : (st old : List ℕ → State) (w x : List ℕ) (b : Bool) → same_text w x ≡ b → st w ≡ None → old x ≡ (if b then over (st x) (old x) else old x)
  none-at st old w x true e h = sym (ap (λ s. over s (old x)) (ap st (sym ((bytes_decides w x).0 e)) ∙ h) ∙ idle (old x))
  none-at st old w x false e h = refl

  over-none : (st old : List ℕ → State) (w : List ℕ) → st w ≡ None → Over over st old old (w ∷ [])
  over-none st old w h x = none-at st old w x (same_text w x) refl h ∙ ap (λ b. if b then over (st x) (old x) else old x) (sym (or-false (same_text w x)))

  some-at : (st old : List ℕ → State) (s : StateEntry) (w x : List ℕ) (b : Bool) → same_text w x ≡ b → st w ≡ Some s → (if b then over (Some s) (old x) else old x) ≡ (if b then over (st x) (old x) else old x)
  some-at st old s w x true e h = ap (λ t. over t (old x)) (sym h ∙ ap st ((bytes_decides w x).0 e))
  some-at st old s w x false e h = refl

  over-some : (st old new : List ℕ → State) (s : StateEntry) (w : List ℕ) → st w ≡ Some s → Over over (λ x. Some s) old new (w ∷ []) → Over over st old new (w ∷ [])
  over-some st old new s w h k x =
      k x ∙ ap (λ b. if b then over (Some s) (old x) else old x) (or-false (same_text w x)) ∙ some-at st old s w x (same_text w x) refl h
      ∙ ap (λ b. if b then over (st x) (old x) else old x) (sym (or-false (same_text w x)))

-- both ways of standing over, each with what is asked of them
pub upper-append : (st old mid new : List ℕ → State) (ws vs : List (List ℕ)) → Over upper st old mid ws → Over upper st mid new vs → Over upper st old new (ws ++ vs)
upper-append = over-append upper upper-idle upper-twice

pub lower-append : (st old mid new : List ℕ → State) (ws vs : List (List ℕ)) → Over lower st old mid ws → Over lower st mid new vs → Over lower st old new (ws ++ vs)
lower-append = over-append lower (λ o. refl) lower-twice

pub upper-next : {A : Type 0} (text : A → List ℕ) (st old cur new : List ℕ → State) (xs : List A) (i : ℕ) (a : A) → i < length xs → a ≡ get_or xs i a → Over upper st cur new (text a ∷ []) → Over upper st old cur (map text (take i xs)) → Over upper st old new (map text (take (i + 1) xs))
upper-next = over-next upper upper-idle upper-twice

pub lower-next : {A : Type 0} (text : A → List ℕ) (st old cur new : List ℕ → State) (xs : List A) (i : ℕ) (a : A) → i < length xs → a ≡ get_or xs i a → Over lower st cur new (text a ∷ []) → Over lower st old cur (map text (take i xs)) → Over lower st old new (map text (take (i + 1) xs))
lower-next = over-next lower (λ o. refl) lower-twice

pub over-end : {A : Type 0} (over : State → State → State) (text : A → List ℕ) (st old cur : List ℕ → State) (xs : List A) (i : ℕ) → length xs ≤ i → Over over st old cur (map text (take i xs)) → Over over st old cur (map text xs)
over-end over text st old cur xs i le h = subst (λ ys. Over over st old cur (map text ys)) (take-whole xs i le) h

pub upper-none : (st old : List ℕ → State) (w : List ℕ) → st w ≡ None → Over upper st old old (w ∷ [])
upper-none = over-none upper upper-idle upper-twice

pub lower-none : (st old : List ℕ → State) (w : List ℕ) → st w ≡ None → Over lower st old old (w ∷ [])
lower-none = over-none lower (λ o. refl) lower-twice

pub upper-some : (st old new : List ℕ → State) (s : StateEntry) (w : List ℕ) → st w ≡ Some s → Over upper (λ x. Some s) old new (w ∷ []) → Over upper st old new (w ∷ [])
upper-some = over-some upper upper-idle upper-twice

pub lower-some : (st old new : List ℕ → State) (s : StateEntry) (w : List ℕ) → st w ≡ Some s → Over lower (λ x. Some s) old new (w ∷ []) → Over lower st old new (w ∷ [])
lower-some = over-some lower (λ o. refl) lower-twice

pub first-put : (old new : List ℕ → State) (s : StateEntry) (w : List ℕ) → ((x : List ℕ) → new x ≡ (if same_text w x then Some s else old x)) → Over upper (λ x. Some s) old new (w ∷ [])
first-put old new s w h x = h x ∙ ap (λ b. if b then Some s else old x) (sym (or-false (same_text w x)))

absent-is : (o : State) → is_absent o ≡ true → o ≡ None
absent-is None e = refl
absent-is (Some s) e = absurd (true≢false (sym e))

last-at : (old : List ℕ → State) (s : StateEntry) (w x : List ℕ) (b : Bool) → same_text w x ≡ b → old w ≡ None → (if b then Some s else old x) ≡ (if b then lower (Some s) (old x) else old x)
last-at old s w x true e h = ap (lower (Some s)) (sym h ∙ ap old ((bytes_decides w x).0 e))
last-at old s w x false e h = refl

pub last-put : (old new : List ℕ → State) (s : StateEntry) (w : List ℕ) → is_absent (old w) ≡ true → ((x : List ℕ) → new x ≡ (if same_text w x then Some s else old x)) → Over lower (λ x. Some s) old new (w ∷ [])
last-put old new s w e h x =
    h x ∙ last-at old s w x (same_text w x) refl (absent-is (old w) e) ∙ ap (λ b. if b then lower (Some s) (old x) else old x) (sym (or-false (same_text w x)))

lower-kept : (s : StateEntry) (o : State) → is_absent o ≡ false → o ≡ lower (Some s) o
lower-kept s None e = absurd (true≢false e)
lower-kept s (Some t) e = refl

kept-at : (old : List ℕ → State) (s : StateEntry) (w x : List ℕ) (b : Bool) → same_text w x ≡ b → is_absent (old w) ≡ false → old x ≡ (if b then lower (Some s) (old x) else old x)
kept-at old s w x true e h = lower-kept s (old x) (ap (λ y. is_absent (old y)) (sym ((bytes_decides w x).0 e)) ∙ h)
kept-at old s w x false e h = refl

pub last-kept : (old : List ℕ → State) (s : StateEntry) (w : List ℕ) → is_absent (old w) ≡ false → Over lower (λ x. Some s) old old (w ∷ [])
last-kept old s w e x = kept-at old s w x (same_text w x) refl e ∙ ap (λ b. if b then lower (Some s) (old x) else old x) (sym (or-false (same_text w x)))

-- which names have a state in a class
unfoldable texts : List MemberPart → List (List ℕ)
texts [] = []
texts (n.field f ∷ ms) = text_of f.name ∷ texts ms
texts (n.method m ∷ ms) = texts ms
texts (n.var v ∷ ms) = text_of v.name ∷ texts ms

more-named : (m : MemberPart) (ms : List MemberPart) (x : List ℕ) → named (texts ms) x ≡ true → named (texts (m ∷ ms)) x ≡ true
unfolding texts
more-named (n.field f) ms x h = ap (λ b. same_text (text_of f.name) x || b) h ∙ or-true (same_text (text_of f.name) x)
more-named (n.method m) ms x h = h
more-named (n.var v) ms x h = ap (λ b. same_text (text_of v.name) x || b) h ∙ or-true (same_text (text_of v.name) x)

none-some : {A : Type 0} (s : StateEntry) → None ≡ Some s → A
none-some s e = absurd (true≢false (ap is_absent e))

module _ (numbers : List ℕ → Option ℕ) (c : ℕ) (defs : List DefPart) where
  abbrev E : MemberPart → Member
  E m = entry_of numbers c defs m

  abbrev state_of : Option MemberPart → State
  state_of o = option_map E o then looks.state_in

  here-named : (m : MemberPart) (ms : List MemberPart) (x : List ℕ) (s : StateEntry) → same_text (text_of (member_word m)) x ≡ true → state_of (Some m) ≡ Some s → named (texts (m ∷ ms)) x ≡ true
  unfolding texts
  here-named (n.field f) ms x s e h = ap (λ b. b || named (texts ms) x) e
  here-named (n.method m) ms x s e h = none-some s h
  here-named (n.var v) ms x s e h = ap (λ b. b || named (texts ms) x) e

  either-named : (m q : MemberPart) (ms : List MemberPart) (x : List ℕ) (s : StateEntry) (b : Bool) → same_text (text_of (member_word m)) x ≡ true → (state_of (Some q) ≡ Some s → named (texts ms) x ≡ true) → state_of (Some (if b then q else m)) ≡ Some s → named (texts (m ∷ ms)) x ≡ true
  either-named m q ms x s true e h k = more-named m ms x (h k)
  either-named m q ms x s false e h k = here-named m ms x s e k

  winner-named : (m : MemberPart) (ms : List MemberPart) (x : List ℕ) (s : StateEntry) (o : Option MemberPart) → same_text (text_of (member_word m)) x ≡ true → (state_of o ≡ Some s → named (texts ms) x ≡ true) → state_of (Some (option_map_or (λ q. if is_before (member_word q).place (member_word m).place then q else m) o m)) ≡ Some s → named (texts (m ∷ ms)) x ≡ true
  winner-named m ms x s None e h k = here-named m ms x s e k
  winner-named m ms x s (Some q) e h k = either-named m q ms x s (is_before (member_word q).place (member_word m).place) e h k

  at-named : (m : MemberPart) (ms : List MemberPart) (x : List ℕ) (s : StateEntry) (b : Bool) → same_text (text_of (member_word m)) x ≡ b → (state_of (first_named x ms) ≡ Some s → named (texts ms) x ≡ true) → state_of (if b then Some (option_map_or (λ q. if is_before (member_word q).place (member_word m).place then q else m) (first_named x ms) m) else first_named x ms) ≡ Some s → named (texts (m ∷ ms)) x ≡ true
  at-named m ms x s true e h k = winner-named m ms x s (first_named x ms) e h k
  at-named m ms x s false e h k = more-named m ms x (h k)

  found-named : (ms : List MemberPart) (x : List ℕ) (s : StateEntry) → state_of (first_named x ms) ≡ Some s → named (texts ms) x ≡ true
  unfolding first_named
  found-named [] x s h = none-some s h
  found-named (m ∷ ms) x s h = at-named m ms x s (same_text (text_of (member_word m)) x) refl (found-named ms x s) h

texts-vars : (vs : List SpecVar) → texts (map n.var (map var_part vs)) ≡ map var_text vs
unfolding texts
texts-vars [] = refl
texts-vars (v ∷ vs) = ap (λ ws. var_text v ∷ ws) (texts-vars vs)

texts-methods : (ms : List Method) (rest : List MemberPart) → texts (map n.method (map method_part ms) ++ rest) ≡ texts rest
unfolding texts
texts-methods [] rest = refl
texts-methods (m ∷ ms) rest = texts-methods ms rest

texts-fields : (fs : List Field) (rest : List MemberPart) → texts (map n.field (map field_part fs) ++ rest) ≡ map field_text fs ++ texts rest
unfolding texts
texts-fields [] rest = refl
texts-fields (f ∷ fs) rest = ap (λ ws. field_text f ∷ ws) (texts-fields fs rest)

texts-class : (a : Class) → texts (members a) ≡ state_texts a
texts-class a =
    ap texts (append_assoc (map n.field (map field_part a.fields)) (map n.method (map method_part a.methods)) (map n.var (map var_part a.vars)))
    ∙ texts-fields a.fields (map n.method (map method_part a.methods) ++ map n.var (map var_part a.vars))
    ∙ ap (λ ws. map field_text a.fields ++ ws) (texts-methods a.methods (map n.var (map var_part a.vars)) ∙ texts-vars a.vars)

-- the table of a class
table-at : (numbers : List ℕ → Option ℕ) (k : ℕ) (ts : List Members) (cs : List ClassPart) (i : ℕ) (t : Members) (c : ClassPart) → AreTables numbers k ts cs → i < length cs → t ≡ get_or ts i t → c ≡ get_or cs i c → Holds (entry_of numbers (k + i) c.defs) (λ x. get_by_text t.names x) (members_of c)
table-at numbers k [] [] i t c h lt e f = absurd (omega arith)
table-at numbers k [] (d ∷ cs) i t c h lt e f = absurd h
table-at numbers k (u ∷ ts) [] i t c h lt e f = absurd h
table-at numbers k (u ∷ ts) (d ∷ cs) zero t c h lt e f =
    let same : k ≡ k + 0 = omega arith in
    subst (λ q. Holds (entry_of numbers q c.defs) (λ x. get_by_text t.names x) (members_of c)) same
    (subst (λ v. Holds (entry_of numbers k c.defs) (λ x. get_by_text v.names x) (members_of c)) (sym e)
    (subst (λ b. Holds (entry_of numbers k b.defs) (λ x. get_by_text u.names x) (members_of b)) (sym f) h.0))
table-at numbers k (u ∷ ts) (d ∷ cs) (suc i) t c h lt e f =
    let same : k + 1 + i ≡ k + suc i = omega arith in
    subst (λ q. Holds (entry_of numbers q c.defs) (λ x. get_by_text t.names x) (members_of c)) same (table-at numbers (k + 1) ts cs i t c h.1 (omega arith) e f)

part-at : (cs : List Class) (i : ℕ) (a : Class) → i < length cs → a ≡ get_or cs i a → class_part a ≡ get_or (map class_part cs) i (class_part a)
part-at [] i a lt e = absurd (omega arith)
part-at (c ∷ cs) zero a lt e = ap class_part e
part-at (c ∷ cs) (suc i) a lt e = part-at cs i a (omega arith) e

parts-long : (cs : List Class) → length (map class_part cs) ≡ length cs
parts-long [] = refl
parts-long (c ∷ cs) = ap suc (parts-long cs)

state-same : (p : ProgramTree) (d : ClassPart) (c : ℕ) (o : Option MemberPart) → (option_map (entry_of (number_of p) c d.defs) o then looks.state_in) ≡ state_from p d c o
state-same p d c None = refl
state-same p d c (Some (n.field x)) = refl
state-same p d c (Some (n.method m)) = refl
state-same p d c (Some (n.var v)) = refl

module _ (p : ProgramTree) (ts : List Members) (cs : List Class) (tables : AreTables (number_of p) 0 ts (map class_part cs)) (i : ℕ) (t : Members) (a : Class) (lt : i < length cs) (e : t ≡ get_or ts i t) (f : a ≡ get_or cs i a) where
  held : Holds (entry_of (number_of p) i (class_part a).defs) (λ x. get_by_text t.names x) (members_of (class_part a))
  held =
      let long : length (map class_part cs) ≡ length cs = parts-long cs in
      let same : 0 + i ≡ i = omega arith in
      subst (λ q. Holds (entry_of (number_of p) q (class_part a).defs) (λ x. get_by_text t.names x) (members_of (class_part a))) same
      (table-at (number_of p) 0 ts (map class_part cs) i t (class_part a) tables (omega arith) e (part-at cs i a lt f))

  state-is : (x : List ℕ) → state_at t x ≡ state_in p i x (class_part a)
  state-is x = ap (λ o. o then looks.state_in) (held x) ∙ state-same p (class_part a) i (first_named x (members_of (class_part a)))

  named-is : (x : List ℕ) (s : StateEntry) → state_at t x ≡ Some s → named (state_texts a) x ≡ true
  unfolding class_part
  named-is x s h = ap (λ ws. named ws x) (sym (texts-class a)) ∙ found-named (number_of p) i (class_part a).defs (members a) x s (sym (ap (λ o. o then looks.state_in) (held x)) ∙ h)

  module _ (over : State → State → State) (idle : (o : State) → over None o ≡ o) (twice : (s o : State) → over s (over s o) ≡ over s o) (pick-of : List StateEntry → State) (law : (s : StateEntry) (ss : List StateEntry) → pick-of (s ∷ ss) ≡ over (Some s) (pick-of ss)) where
    pick-more : (o : State) (ss : List StateEntry) → over o (pick-of ss) ≡ pick-of (option_map_or (λ s. s ∷ ss) o ss)
    pick-more None ss = idle (pick-of ss)
    pick-more (Some s) ss = sym (law s ss)

    class-next : (old new : List ℕ → State) (back : ℕ) → i + back + 1 ≡ length cs → ((x : List ℕ) → old x ≡ pick-of (states_from p (length cs - back) x (map class_part (behind cs back)))) → Over over (state_at t) old new (state_texts a) → (x : List ℕ) → new x ≡ pick-of (states_from p (length cs - (back + 1)) x (map class_part (behind cs (back + 1))))
    unfolding states_from
    class-next old new back el h k x =
        let here : length cs - (back + 1) ≡ i = omega arith in
        let next : length cs - back ≡ i + 1 = omega arith in
        over-all over idle twice (state_at t) old new (state_texts a) named-is k x
        ∙ (λ j. over (state-is x j) ((h x ∙ ap (λ q. pick-of (states_from p q x (map class_part (behind cs back)))) next) j))
        ∙ pick-more (state_in p i x (class_part a)) (states_from p (i + 1) x (map class_part (behind cs back)))
        ∙ (λ j. pick-of (states_from p (sym here j) x (map class_part (sym (behind-next cs back i a el f) j))))

  first-law : (s : StateEntry) (ss : List StateEntry) → first_of (s ∷ ss) ≡ upper (Some s) (first_of ss)
  first-law s ss = refl

  last-law : (s : StateEntry) (ss : List StateEntry) → last_of (s ∷ ss) ≡ lower (Some s) (last_of ss)
  unfolding last_of
  last-law s ss = refl

  pub firsts-next : (old new : List ℕ → State) (back : ℕ) → i + back + 1 ≡ length cs → ((x : List ℕ) → old x ≡ first_of (states_from p (length cs - back) x (map class_part (behind cs back)))) → Over upper (state_at t) old new (state_texts a) → (x : List ℕ) → new x ≡ first_of (states_from p (length cs - (back + 1)) x (map class_part (behind cs (back + 1))))
  firsts-next = class-next upper upper-idle upper-twice first_of first-law

  pub lasts-next : (old new : List ℕ → State) (back : ℕ) → i + back + 1 ≡ length cs → ((x : List ℕ) → old x ≡ last_of (states_from p (length cs - back) x (map class_part (behind cs back)))) → Over lower (state_at t) old new (state_texts a) → (x : List ℕ) → new x ≡ last_of (states_from p (length cs - (back + 1)) x (map class_part (behind cs (back + 1))))
  lasts-next = class-next lower (λ o. refl) lower-twice last_of last-law

pub states-start : (pick-of : List StateEntry → State) → pick-of [] ≡ None → (f : List ℕ → State) (cs : List Class) → ((x : List ℕ) → f x ≡ None) → (p : ProgramTree) (x : List ℕ) → f x ≡ pick-of (states_from p (length cs - 0) x (map class_part (behind cs 0)))
unfolding states_from
states-start pick-of e f cs h p x = h x ∙ sym e ∙ sym (ap (λ ys. pick-of (states_from p (length cs - 0) x (map class_part ys))) (behind-start cs))

pub none-last : last_of [] ≡ None
unfolding last_of
none-last = refl

pub states-end : (pick-of : List StateEntry → State) (f : List ℕ → State) (cs : List Class) (back : ℕ) (p : ProgramTree) (x : List ℕ) → length cs ≤ back → f x ≡ pick-of (states_from p (length cs - back) x (map class_part (behind cs back))) → f x ≡ pick-of (states_from p 0 x (map class_part cs))
states-end pick-of f cs back p x le h =
    let none : length cs - back ≡ 0 = omega arith in
    h ∙ (λ i. pick-of (states_from p (none i) x (map class_part (behind-end cs back le i))))
