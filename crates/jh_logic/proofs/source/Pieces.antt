-- A state that has no definition is a member of the program, and words that stand for something everywhere name none.
use Rattle.std.proofs.Common.{◌≡◌, refl, sym, ap, subst, ◌∙◌, ℕ, Bool, true, false, not, ◌&&◌, ◌||◌, if◌then◌else◌, List, [], ◌∷◌, map, Option, Some, None, is_some, option_map, slice_get, codes}
use Rattle.std.specs.List.{Contains}
use Rattle.std.specs.Option.{option_map_or}
use Rattle.std.proofs.lemmas.Bool.{true≢false}
use Rattle.jh_name.specs.declared.place.Kind.{Kind}
use Rattle.jh_name.specs.declared.place.Kind.TheVariants as k
use Rattle.jh_ast.specs.Programs.{ProgramTree, ClassPart, VarPart, DefPart}
use Rattle.jh_rules.specs.declared.entries.StateEntry.{StateEntry}
use Rattle.jh_rules.specs.Breaks.{faults_of}
use Rattle.jh_rules.specs.Words.{same_text, is_one_of, text_of, used_before}
use Rattle.jh_rules.specs.Kinds.{kind_of}
use Rattle.jh_rules.specs.Names.{◌then◌, Declared, declared_in, MemberPart, field, method, var, member_word, members_of, first_named, state_from, state_in, def_in, number_of, kind_of_word}
use Rattle.jh_rules.specs.Rules.{rule_8, rule_9}
use Rattle.jh_rules.specs.Shape.{may_be_declared, ◌and◌, all_parts, some_parts, program_parts, field_parts, method_parts, var_parts, def_parts, labelled_parts, of_declared, of_type, spec_parts, expr_parts, of_words, type_words, of_param, stmts_parts}
use Rattle.jh_vars.specs.States.{State}
use Rattle.jh_vars.specs.Written.{Piece, field_piece, pieces_of}
use Rattle.jh_vars.specs.Resolved.{kind_known}
use Rattle.jh_logic.specs.source.Placed.{IsPlaced}
use Rattle.jh_logic.proofs.source.Lists.{has-first, has-later, at-has, left-empty, right-empty, and-right, not-true, not-false, or-false-left, or-false-right, some-same, no-none}
use Rattle.jh_logic.proofs.source.Judged.{not-broken}
use Rattle.jh_logic.proofs.source.Texts.{same-is, not-same, declared-not-this}
use Rattle.jh_logic.proofs.source.Shaped.{Shaped, shaped-left, shaped-right, shaped-each}
use Rattle.jh_logic.proofs.source.Types.{kind-of-word}
use Rattle.jh_logic.proofs.source.Classes.{ClassAt, class-at, class-fine, class-not-object}
use Rattle.jh_logic.proofs.source.Members.{field-piece-has, ghost-piece, ghost-piece-has}
use Rattle.jh_logic.proofs.source.Declared.{first-is, field-in, method-in, var-in, field-known}
use Rattle.jh_logic.proofs.source.Named.{class-shaped, dotless}
use Rattle.jh_logic.proofs.source.States.{IsDeclared}

-- the definition that is found has the name
pub def-found : (x : List ℕ) (ds : List DefPart) (d : DefPart) → def_in x ds ≡ Some d → Contains ds d × (text_of d.name ≡ x)
unfolding def_in
def-found x [] d e = absurd (no-none d e)
def-found x (z ∷ zs) d e = by (same_text (text_of z.name) x) refl e (λ f. def-found x zs d f)
  where
    by : (b : Bool) → same_text (text_of z.name) x ≡ b → (if b then Some z else def_in x zs) ≡ Some d → (def_in x zs ≡ Some d → Contains zs d × (text_of d.name ≡ x)) → Contains (z ∷ zs) d × (text_of d.name ≡ x)
    by true s g rest = (subst (Contains (z ∷ zs)) (some-same z d g) (has-first z zs), ap (λ (w : DefPart). text_of w.name) (sym (some-same z d g)) ∙ same-is (text_of z.name) x s)
    by false s g rest = let r = rest g in (has-later z zs d r.0, r.1)

module _ (p : ProgramTree) (placed : IsPlaced p) (clean : faults_of p ≡ []) (shaped : Shaped (program_parts p)) where
  abbrev l : Declared
  l = declared_in p

  -- where a state comes from: a member of its class
  pub record MemberOf (c : ℕ) (x : List ℕ) (s : StateEntry) : Type 0 where
    pub class : ClassPart
    pub is : slice_get p.classes c ≡ Some class
    pub member : MemberPart
    pub stands : Contains (members_of class) member
    pub name : text_of (member_word member) ≡ x
    pub entry : state_from p class c (Some member) ≡ Some s

  pub member-of-state : (c : ℕ) (x : List ℕ) (s : StateEntry) → l.state_of c x ≡ Some s → MemberOf c x s
  member-of-state c x s e = by (slice_get p.classes c) refl e
    where
      from : (d : ClassPart) → slice_get p.classes c ≡ Some d → (o : Option MemberPart) → first_named x (members_of d) ≡ o → state_from p d c o ≡ Some s → MemberOf c x s
      from d f None g h = absurd (no-none s h)
      from d f (Some m) g h = let r = first-is x (members_of d) m g in record { class = d; is = f; member = m; stands = r.0; name = r.1; entry = h }

      by : (o : Option ClassPart) → slice_get p.classes c ≡ o → (o then state_in p c x) ≡ Some s → MemberOf c x s
      by None f g = absurd (no-none s g)
      by (Some d) f g = from d f (first_named x (members_of d)) refl g

  -- a state without a definition is a piece of its class
  pub record PieceIs (x : State) : Type 0 where
    pub class : ClassPart
    pub is : slice_get p.classes x.entry.class ≡ Some class
    pub piece : Piece
    pub stands : Contains (pieces_of class) piece
    pub name : text_of piece.word ≡ x.name
    pub fixed : piece.fixed ≡ x.entry.fixed
    pub kind : piece.kind ≡ kind_known x
    pub ghost : piece.is_ghost ≡ x.entry.is_ghost

  kind-some : (u : Kind) (o : Option Kind) → o ≡ Some u → u ≡ option_map_or (λ z. z) o k.Obj
  kind-some u o e = sym (ap (λ q. option_map_or (λ z. z) q k.Obj) e)

  var-entry : ClassPart → ℕ → VarPart → StateEntry
  var-entry d c v = record { class = c; kind = Some v.kind; fixed = v.fixed; is_variable = true; is_ghost = v.is_ghost; is_defined = is_some (def_in (text_of v.name) d.defs) }

  pub piece-is : (x : State) → IsDeclared p x → x.entry.is_defined ≡ false → PieceIs x
  piece-is x e plain = let m : MemberOf x.entry.class x.name x.entry = member-of-state x.entry.class x.name x.entry e in by m.class m.is m.member m.stands m.name m.entry
    where
      n : ℕ
      n = x.entry.class

      has-rule-9 : (c : ClassPart) (v : VarPart) → rule_9 l x.entry.class v ≡ [] → v.is_ghost ≡ false → text_of v.name ≡ x.name → ⊥
      has-rule-9 c v h g name = true≢false (sym (on x.entry.is_defined v.is_ghost g (not-false (v.is_ghost || option_map_or (λ (z : StateEntry). z.is_defined) (l.state_of x.entry.class (text_of v.name)) false) (not-broken 9 v.name.place (not (v.is_ghost || option_map_or (λ (z : StateEntry). z.is_defined) (l.state_of x.entry.class (text_of v.name)) false)) h))) ∙ plain)
        where
          on : (d g : Bool) → g ≡ false → (g || option_map_or (λ (z : StateEntry). z.is_defined) (l.state_of x.entry.class (text_of v.name)) false) ≡ true → x.entry.is_defined ≡ true
          on d true u w = absurd (true≢false u)
          on d false u w = ap (λ o. option_map_or (λ (z : StateEntry). z.is_defined) o false) (sym e ∙ ap (l.state_of x.entry.class) (sym name)) ∙ w

      by : (c : ClassPart) → slice_get p.classes x.entry.class ≡ Some c → (m : MemberPart) → Contains (members_of c) m → text_of (member_word m) ≡ x.name → state_from p c x.entry.class (Some m) ≡ Some x.entry → PieceIs x
      by c is (method m) i name f = absurd (no-none x.entry f)
      by c is (field y) i name f =
          let known = field-known p placed clean (dotless p placed clean shaped) x.entry.class c is y (field-in c y i) in
          let same = some-same _ x.entry f in
          record {
            class = c;
            is = is;
            piece = field_piece y;
            stands = field-piece-has c y (field-in c y i);
            name = name;
            fixed = ap (λ (z : StateEntry). z.fixed) same;
            kind = kind-some (kind_of_word y.jtype) x.entry.kind (ap (λ (z : StateEntry). z.kind) (sym same) ∙ ap (λ o. option_map kind_of o) known.1 ∙ ap (λ (u : Kind). Some u) (kind-of-word (number_of p) y.jtype known.0 known.1));
            ghost = ap (λ (z : StateEntry). z.is_ghost) same;
          }
      by c is (var v) i name f = from v.is_ghost refl
        where
          from : (b : Bool) → v.is_ghost ≡ b → PieceIs x
          from true g = record {
            class = c;
            is = is;
            piece = ghost-piece v;
            stands = ghost-piece-has c v (var-in c v i) g;
            name = name;
            fixed = ap (λ (z : StateEntry). z.fixed) (some-same _ x.entry f);
            kind = kind-some v.kind x.entry.kind (ap (λ (z : StateEntry). z.kind) (sym (some-same _ x.entry f)));
            ghost = sym g ∙ ap (λ (z : StateEntry). z.is_ghost) (some-same _ x.entry f);
          }
          from false g = absurd (has-rule-9 c v (right-empty _ (rule_9 l x.entry.class v) ((class-fine p placed clean x.entry.class c is).vars v (var-in c v i))) g name)

  -- a ghost variable has no definition
  pub ghost-plain : (x : State) → IsDeclared p x → x.entry.is_ghost ≡ true → x.entry.is_defined ≡ false
  ghost-plain x e ghost = let m : MemberOf x.entry.class x.name x.entry = member-of-state x.entry.class x.name x.entry e in by m.class m.is m.member m.stands m.name m.entry
    where
      by : (c : ClassPart) → slice_get p.classes x.entry.class ≡ Some c → (m : MemberPart) → Contains (members_of c) m → text_of (member_word m) ≡ x.name → state_from p c x.entry.class (Some m) ≡ Some x.entry → x.entry.is_defined ≡ false
      by c is (method m) i name f = absurd (no-none x.entry f)
      by c is (field y) i name f = ap (λ (z : StateEntry). z.is_defined) (sym (some-same _ x.entry f))
      by c is (var v) i name f = ap (λ (z : StateEntry). z.is_defined) (sym (some-same _ x.entry f)) ∙ from (def_in (text_of v.name) c.defs) refl
        where
          from : (o : Option DefPart) → def_in (text_of v.name) c.defs ≡ o → is_some o ≡ false
          from None g = refl
          from (Some d) g =
              let r = def-found (text_of v.name) c.defs d g in
              let rule : rule_8 l x.entry.class c d ≡ [] = left-empty (rule_8 l x.entry.class c d) _ ((class-fine p placed clean x.entry.class c is).defs d r.0) in
              let test : Bool = option_map_or (λ (z : StateEntry). z.is_variable && not z.is_ghost) (l.state_of x.entry.class (text_of d.name)) false in
              let so : test ≡ true = not-false test (or-false-left (not test) (used_before (map (λ (z : DefPart). z.name) c.defs) d.name) (not-broken 8 d.name.place (not test || used_before (map (λ (z : DefPart). z.name) c.defs) d.name) rule)) in
              let here : (x.entry.is_variable && not x.entry.is_ghost) ≡ true = ap (λ o. option_map_or (λ (z : StateEntry). z.is_variable && not z.is_ghost) o false) (sym e ∙ ap (l.state_of x.entry.class) (sym (r.1 ∙ name))) ∙ so in
              absurd (true≢false (sym ghost ∙ not-true x.entry.is_ghost (and-right x.entry.is_variable (not x.entry.is_ghost) here)))

  -- the kind of a state is known
  pub kind-known : (c : ℕ) (x : List ℕ) (s : StateEntry) → l.state_of c x ≡ Some s → (u : Kind) × (s.kind ≡ Some u)
  kind-known c x s e = let m : MemberOf c x s = member-of-state c x s e in by m.class m.is m.member m.stands m.entry
    where
      by : (d : ClassPart) → slice_get p.classes c ≡ Some d → (m : MemberPart) → Contains (members_of d) m → state_from p d c (Some m) ≡ Some s → (u : Kind) × (s.kind ≡ Some u)
      by d is (method m) i f = absurd (no-none s f)
      by d is (var v) i f = (v.kind, ap (λ (z : StateEntry). z.kind) (sym (some-same _ s f)))
      by d is (field y) i f =
          let known = field-known p placed clean (dotless p placed clean shaped) c d is y (field-in d y i) in
          (kind_of known.0, ap (λ (z : StateEntry). z.kind) (sym (some-same _ s f)) ∙ ap (λ o. option_map kind_of o) known.1)

  -- no member has a name that stands for something everywhere
  module _ (n : ℕ) (c : ClassPart) (is : slice_get p.classes n ≡ Some c) where
    member-declared : (m : MemberPart) → Contains (members_of c) m → may_be_declared (text_of (member_word m)) ≡ true
    member-declared (field y) i =
        let s : Shaped (field_parts y) = shaped-each field_parts c.fields (shaped-left (all_parts field_parts c.fields) (all_parts method_parts c.methods and all_parts var_parts c.vars and all_parts def_parts c.defs and all_parts labelled_parts c.invariants)
        (shaped-right (of_declared c.name) (all_parts field_parts c.fields and all_parts method_parts c.methods and all_parts var_parts c.vars and all_parts def_parts c.defs and all_parts labelled_parts c.invariants) (class-shaped p placed clean shaped n c is))) y (field-in c y i) in
        (shaped-left (of_declared y.name) (some_parts expr_parts y.init) (shaped-right (of_type y.jtype) (of_declared y.name and some_parts expr_parts y.init) s)).declared y.name (has-first y.name [])
    member-declared (method m) i =
        let s : Shaped (method_parts m) = shaped-each method_parts c.methods (shaped-left (all_parts method_parts c.methods) (all_parts var_parts c.vars and all_parts def_parts c.defs and all_parts labelled_parts c.invariants)
        (shaped-right (all_parts field_parts c.fields) (all_parts method_parts c.methods and all_parts var_parts c.vars and all_parts def_parts c.defs and all_parts labelled_parts c.invariants)
        (shaped-right (of_declared c.name) (all_parts field_parts c.fields and all_parts method_parts c.methods and all_parts var_parts c.vars and all_parts def_parts c.defs and all_parts labelled_parts c.invariants) (class-shaped p placed clean shaped n c is)))) m (method-in c m i) in
        (shaped-left (of_declared m.name) (all_parts of_param m.params and some_parts spec_parts m.pre and of_words m.modifies and some_parts spec_parts m.post and stmts_parts m.body) (shaped-right (of_words (type_words m.result)) (of_declared m.name and all_parts of_param m.params and some_parts spec_parts m.pre and of_words m.modifies and some_parts spec_parts m.post and stmts_parts m.body) s)).declared m.name (has-first m.name [])
    member-declared (var v) i =
        let s : Shaped (var_parts v) = shaped-each var_parts c.vars (shaped-left (all_parts var_parts c.vars) (all_parts def_parts c.defs and all_parts labelled_parts c.invariants)
        (shaped-right (all_parts method_parts c.methods) (all_parts var_parts c.vars and all_parts def_parts c.defs and all_parts labelled_parts c.invariants)
        (shaped-right (all_parts field_parts c.fields) (all_parts method_parts c.methods and all_parts var_parts c.vars and all_parts def_parts c.defs and all_parts labelled_parts c.invariants)
        (shaped-right (of_declared c.name) (all_parts field_parts c.fields and all_parts method_parts c.methods and all_parts var_parts c.vars and all_parts def_parts c.defs and all_parts labelled_parts c.invariants) (class-shaped p placed clean shaped n c is))))) v (var-in c v i) in
        (shaped-left (of_declared v.name) (some_parts spec_parts v.init) s).declared v.name (has-first v.name [])

    member-plain : (m : MemberPart) → Contains (members_of c) m → is_one_of (text_of (member_word m)) (codes "result" ∷ codes "alloc" ∷ []) ≡ false
    member-plain m i = not-broken 6 (member_word m).place (is_one_of (text_of (member_word m)) (codes "result" ∷ codes "alloc" ∷ [])) ((class-fine p placed clean n c is).members m i).1

  pub state-not-this : (c : ℕ) (s : StateEntry) → l.state_of c (codes "this") ≡ Some s → ⊥
  state-not-this c s e = let m : MemberOf c (codes "this") s = member-of-state c (codes "this") s e in declared-not-this (text_of (member_word m.member)) (member-declared c m.class m.is m.member m.stands) m.name

  pub state-not-result : (c : ℕ) (s : StateEntry) → l.state_of c (codes "result") ≡ Some s → ⊥
  state-not-result c s e = let m : MemberOf c (codes "result") s = member-of-state c (codes "result") s e in
      not-same (text_of (member_word m.member)) (codes "result") (or-false-left (same_text (text_of (member_word m.member)) (codes "result")) (is_one_of (text_of (member_word m.member)) (codes "alloc" ∷ [])) (member-plain c m.class m.is m.member m.stands)) m.name

  pub state-not-alloc : (c : ℕ) (s : StateEntry) → l.state_of c (codes "alloc") ≡ Some s → ⊥
  state-not-alloc c s e = let m : MemberOf c (codes "alloc") s = member-of-state c (codes "alloc") s e in
      not-same (text_of (member_word m.member)) (codes "alloc") (or-false-left (same_text (text_of (member_word m.member)) (codes "alloc")) (is_one_of (text_of (member_word m.member)) []) (or-false-right (same_text (text_of (member_word m.member)) (codes "result")) (is_one_of (text_of (member_word m.member)) (codes "alloc" ∷ [])) (member-plain c m.class m.is m.member m.stands))) m.name

  pub no-class-object : (n : ℕ) → l.class_named (codes "Object") ≡ Some n → ⊥
  no-class-object n e = let c : ClassAt p n (codes "Object") = class-at p (codes "Object") n e in class-not-object p placed clean n c.part c.is c.text
