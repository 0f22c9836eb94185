-- The classes of a program that breaks no rule: nothing is wrong in any of them, their names are told apart, and so are their members.
use Rattle.std.proofs.Common.{◌≡◌, refl, sym, ap, subst, ◌∙◌, ℕ, zero, suc, ◌+◌, ◌==◌, nat_lt, Bool, true, false, ◌&&◌, ◌||◌, if◌then◌else◌, List, [], ◌∷◌, ◌++◌, map, Some, None, slice_get, codes, arith}
use Rattle.std.specs.List.{Contains, flat_map}
use Rattle.std.proofs.lemmas.Bool.{true≢false}
use Rattle.std.proofs.lemmas.Bool.Decides.{nat_tests}
use Rattle.jh_name.specs.declared.place.Place.{Place}
use Rattle.jh_ast.specs.declared.word.Word.{Word}
use Rattle.jh_ast.specs.Forms.{LabelledPart}
use Rattle.jh_ast.specs.Programs.{ProgramTree, ClassPart, FieldPart, VarPart, DefPart, MethodPart}
use Rattle.jh_rules.specs.declared.fault.Fault.{Fault}
use Rattle.jh_rules.specs.Faults.{fault}
use Rattle.jh_rules.specs.Breaks.{faults_of, Breaks}
use Rattle.jh_rules.specs.Words.{same_text, is_one_of, text_of, is_before, used_before}
use Rattle.jh_rules.specs.Names.{Declared, declared_in, MemberPart, member_word, members_of, class_from, number_of}
use Rattle.jh_rules.specs.Rules.{rule_1, rule_2, rule_3, rule_4, rule_6_member, rule_12, rule_25, rule_32}
use Rattle.jh_rules.specs.Scopes.{outermost, declare_all}
use Rattle.jh_rules.specs.Formulas.{truth_faults}
use Rattle.jh_rules.specs.Statements.{of_some, param_faults, contract_place, result_kind, all_faults, outside, field_faults, var_faults, def_faults, label_words, method_faults, class_faults, classes_faults}
use Rattle.jh_logic.specs.source.Placed.{IsPlaced}
use Rattle.jh_logic.proofs.source.Lists.{has-first, at-has, map-has, left-empty, right-empty, each-empty, none-passes, or-false-left, or-false-right, some-same, no-none}
use Rattle.jh_logic.proofs.source.Judged.{not-broken}
use Rattle.jh_logic.proofs.source.Texts.{same-is, is-same, not-same}

-- no rule is broken where no fault is found
pub faultless : (p : ProgramTree) → ((rule : ℕ) (place : Place) → Breaks p rule place → ⊥) → faults_of p ≡ []
faultless p none = by (faults_of p) (λ rule place i. none rule place i)
  where
    by : (fs : List Fault) → ((rule : ℕ) (place : Place) → Contains fs (fault rule place) → ⊥) → fs ≡ []
    by [] h = refl
    by (x ∷ xs) h = absurd (h x.rule x.place (has-first x xs))

-- nothing is wrong in a class
pub record ClassFine (l : Declared) (p : ProgramTree) (n : ℕ) (c : ClassPart) : Type 0 where
  pub name : rule_1 p c ≡ []
  pub members : (x : MemberPart) → Contains (members_of c) x → (rule_2 c (member_word x) ≡ []) × (rule_6_member (member_word x) ≡ [])
  pub fields : (x : FieldPart) → Contains c.fields x → field_faults l x ≡ []
  pub vars : (v : VarPart) → Contains c.vars v → var_faults l n v ≡ []
  pub defs : (d : DefPart) → Contains c.defs d → def_faults l n c d ≡ []
  pub invariants : (x : LabelledPart) → Contains c.invariants x → truth_faults l (outside l n true) x.spec ≡ []
  pub methods : (m : MethodPart) → Contains c.methods m → method_faults l n m ≡ []

module _ (l : Declared) (p : ProgramTree) where
  fine-class : (n : ℕ) (c : ClassPart) → class_faults l p n c ≡ [] → ClassFine l p n c
  unfolding class_faults
  fine-class n c h =
      let f1 : List Fault = rule_1 p c in
      let f2 : List Fault = flat_map (λ x. rule_2 c (member_word x) ++ rule_6_member (member_word x)) (members_of c) in
      let f3 : List Fault = flat_map (rule_3 (flat_map (label_words l) c.invariants)) (flat_map (label_words l) c.invariants) in
      let f4 : List Fault = flat_map (field_faults l) c.fields in
      let f5 : List Fault = flat_map (var_faults l n) c.vars in
      let f6 : List Fault = flat_map (def_faults l n c) c.defs in
      let f7 : List Fault = flat_map (λ (x : LabelledPart). truth_faults l (outside l n true) x.spec) c.invariants in
      let f8 : List Fault = flat_map (method_faults l n) c.methods in
      let h7 : f1 ++ f2 ++ f3 ++ f4 ++ f5 ++ f6 ++ f7 ≡ [] = left-empty (f1 ++ f2 ++ f3 ++ f4 ++ f5 ++ f6 ++ f7) f8 h in
      let h6 : f1 ++ f2 ++ f3 ++ f4 ++ f5 ++ f6 ≡ [] = left-empty (f1 ++ f2 ++ f3 ++ f4 ++ f5 ++ f6) f7 h7 in
      let h5 : f1 ++ f2 ++ f3 ++ f4 ++ f5 ≡ [] = left-empty (f1 ++ f2 ++ f3 ++ f4 ++ f5) f6 h6 in
      let h4 : f1 ++ f2 ++ f3 ++ f4 ≡ [] = left-empty (f1 ++ f2 ++ f3 ++ f4) f5 h5 in
      let h3 : f1 ++ f2 ++ f3 ≡ [] = left-empty (f1 ++ f2 ++ f3) f4 h4 in
      let h2 : f1 ++ f2 ≡ [] = left-empty (f1 ++ f2) f3 h3 in
      let both : (x : MemberPart) → Contains (members_of c) x → rule_2 c (member_word x) ++ rule_6_member (member_word x) ≡ [] = each-empty (λ x. rule_2 c (member_word x) ++ rule_6_member (member_word x)) (members_of c) (right-empty f1 f2 h2) in
      record {
        name = left-empty f1 f2 h2;
        members = λ x i. (left-empty (rule_2 c (member_word x)) (rule_6_member (member_word x)) (both x i), right-empty (rule_2 c (member_word x)) (rule_6_member (member_word x)) (both x i));
        fields = each-empty (field_faults l) c.fields (right-empty (f1 ++ f2 ++ f3) f4 h4);
        vars = each-empty (var_faults l n) c.vars (right-empty (f1 ++ f2 ++ f3 ++ f4) f5 h5);
        defs = each-empty (def_faults l n c) c.defs (right-empty (f1 ++ f2 ++ f3 ++ f4 ++ f5) f6 h6);
        invariants = each-empty (λ (x : LabelledPart). truth_faults l (outside l n true) x.spec) c.invariants (right-empty (f1 ++ f2 ++ f3 ++ f4 ++ f5 ++ f6) f7 h7);
        methods = each-empty (method_faults l n) c.methods (right-empty (f1 ++ f2 ++ f3 ++ f4 ++ f5 ++ f6 ++ f7) f8 h);
      }

  fine-from : (k : ℕ) (cs : List ClassPart) → classes_faults l p k cs ≡ [] → (j : ℕ) (c : ClassPart) → slice_get cs j ≡ Some c → ClassFine l p (k + j) c
  unfolding classes_faults
  fine-from k [] h j c e = absurd (no-none c e)
  fine-from k (d ∷ ds) h zero c e = subst (λ (n : ℕ). ClassFine l p n c) (no-more k) (subst (ClassFine l p k) (some-same d c e) (fine-class k d (left-empty (class_faults l p k d) (classes_faults l p (k + 1) ds) h)))
    where
      no-more : (k : ℕ) → k ≡ k + 0
      no-more k = omega arith
  fine-from k (d ∷ ds) h (suc j) c e = subst (λ (n : ℕ). ClassFine l p n c) (one-later k j) (fine-from (k + 1) ds (right-empty (class_faults l p k d) (classes_faults l p (k + 1) ds) h) j c e)
    where
      one-later : (k j : ℕ) → k + 1 + j ≡ k + suc j
      one-later k j = omega arith

-- nothing is wrong in a method
pub record MethodFine (l : Declared) (n : ℕ) (m : MethodPart) : Type 0 where
  pub result : rule_4 l m.result ≡ []
  pub params : param_faults l (outermost n m.fixed) m.params ≡ []
  pub pre : of_some (truth_faults l (contract_place l n m false None)) m.pre ≡ []
  pub post : of_some (truth_faults l (contract_place l n m true (result_kind l m.result))) m.post ≡ []
  pub body : all_faults l m m.body (declare_all l (outermost n m.fixed) m.params) ≡ []
  pub end : rule_25 m ≡ []

pub method-fine : (l : Declared) (n : ℕ) (m : MethodPart) → method_faults l n m ≡ [] → MethodFine l n m
unfolding method_faults
method-fine l n m h =
    let f1 : List Fault = rule_4 l m.result in
    let f2 : List Fault = param_faults l (outermost n m.fixed) m.params in
    let f3 : List Fault = of_some (truth_faults l (contract_place l n m false None)) m.pre in
    let f4 : List Fault = flat_map (rule_12 l n) m.modifies in
    let f5 : List Fault = of_some (truth_faults l (contract_place l n m true (result_kind l m.result))) m.post in
    let f6 : List Fault = all_faults l m m.body (declare_all l (outermost n m.fixed) m.params) in
    let f7 : List Fault = rule_32 m in
    let f8 : List Fault = rule_25 m in
    let h7 : f1 ++ f2 ++ f3 ++ f4 ++ f5 ++ f6 ++ f7 ≡ [] = left-empty (f1 ++ f2 ++ f3 ++ f4 ++ f5 ++ f6 ++ f7) f8 h in
    let h6 : f1 ++ f2 ++ f3 ++ f4 ++ f5 ++ f6 ≡ [] = left-empty (f1 ++ f2 ++ f3 ++ f4 ++ f5 ++ f6) f7 h7 in
    let h5 : f1 ++ f2 ++ f3 ++ f4 ++ f5 ≡ [] = left-empty (f1 ++ f2 ++ f3 ++ f4 ++ f5) f6 h6 in
    let h4 : f1 ++ f2 ++ f3 ++ f4 ≡ [] = left-empty (f1 ++ f2 ++ f3 ++ f4) f5 h5 in
    let h3 : f1 ++ f2 ++ f3 ≡ [] = left-empty (f1 ++ f2 ++ f3) f4 h4 in
    let h2 : f1 ++ f2 ≡ [] = left-empty (f1 ++ f2) f3 h3 in
    record {
      result = left-empty f1 f2 h2;
      params = right-empty f1 f2 h2;
      pre = right-empty (f1 ++ f2) f3 h3;
      post = right-empty (f1 ++ f2 ++ f3 ++ f4) f5 h5;
      body = right-empty (f1 ++ f2 ++ f3 ++ f4 ++ f5) f6 h6;
      end = right-empty (f1 ++ f2 ++ f3 ++ f4 ++ f5 ++ f6 ++ f7) f8 h;
    }

-- places of which none is before the other
pub same-place : (x y : Place) → is_before x y ≡ false → is_before y x ≡ false → x ≡ y
same-place x y h g = λ i. record { line = lines x.line x.column y.line y.column h g i; column = columns x.line x.column y.line y.column h g i }
  where
    lines : (a b c d : ℕ) → (nat_lt a c || ((a == c) && nat_lt b d)) ≡ false → (nat_lt c a || ((c == a) && nat_lt d b)) ≡ false → a ≡ c
    lines a b c d h g = grind (arith, nat_tests)

    columns : (a b c d : ℕ) → (nat_lt a c || ((a == c) && nat_lt b d)) ≡ false → (nat_lt c a || ((c == a) && nat_lt d b)) ≡ false → b ≡ d
    columns a b c d h g = grind (arith, nat_tests)

-- of words of one text none was used before another
not-before : (words : List Word) (v w : Word) → used_before words w ≡ false → Contains words v → text_of v ≡ text_of w → is_before v.place w.place ≡ false
not-before words v w h i e = second (same_text (text_of v) (text_of w)) (is_before v.place w.place) (is-same (text_of v) (text_of w) e) (none-passes (λ z. same_text (text_of z) (text_of w) && is_before z.place w.place) words h v i)
  where
    second : (a b : Bool) → a ≡ true → (a && b) ≡ false → b ≡ false
    second true b f g = g
    second false b f g = absurd (true≢false (sym f))

module _ (p : ProgramTree) (placed : IsPlaced p) (clean : faults_of p ≡ []) where
  abbrev l : Declared
  l = declared_in p

  pub class-fine : (n : ℕ) (c : ClassPart) → slice_get p.classes n ≡ Some c → ClassFine l p n c
  class-fine n c e = subst (λ (k : ℕ). ClassFine l p k c) (none-more n) (fine-from l p 0 p.classes clean n c e)
    where
      none-more : (n : ℕ) → 0 + n ≡ n
      none-more n = omega arith

  -- members of one name are one
  pub same-member : (n : ℕ) (c : ClassPart) → slice_get p.classes n ≡ Some c → (a b : MemberPart) → Contains (members_of c) a → Contains (members_of c) b → text_of (member_word a) ≡ text_of (member_word b) → a ≡ b
  same-member n c e a b i k same =
      let fine : ClassFine l p n c = class-fine n c e in
      let words : List Word = map member_word (members_of c) in
      placed.members c (at-has p.classes n c e) a b i k (same-place (member_word a).place (member_word b).place
      (not-before words (member_word a) (member_word b) (not-broken 2 (member_word b).place (used_before words (member_word b)) (fine.members b k).0) (map-has member_word (members_of c) a i) same)
      (not-before words (member_word b) (member_word a) (not-broken 2 (member_word a).place (used_before words (member_word a)) (fine.members a i).0) (map-has member_word (members_of c) b k) (sym same)))

  -- classes of one name are one
  abbrev name-word : ClassPart → Word
  name-word c = c.name

  class-words : (n : ℕ) (c : ClassPart) → slice_get p.classes n ≡ Some c → (used_before (map name-word p.classes) c.name ≡ false) × (is_one_of (text_of c.name) (codes "Object" ∷ codes "result" ∷ codes "alloc" ∷ []) ≡ false)
  class-words n c e =
      let h = not-broken 1 c.name.place (used_before (map name-word p.classes) c.name || is_one_of (text_of c.name) (codes "Object" ∷ codes "result" ∷ codes "alloc" ∷ [])) (class-fine n c e).name in
      (or-false-left (used_before (map name-word p.classes) c.name) (is_one_of (text_of c.name) (codes "Object" ∷ codes "result" ∷ codes "alloc" ∷ [])) h, or-false-right (used_before (map name-word p.classes) c.name) (is_one_of (text_of c.name) (codes "Object" ∷ codes "result" ∷ codes "alloc" ∷ [])) h)

  pub same-class : (i j : ℕ) (c d : ClassPart) → slice_get p.classes i ≡ Some c → slice_get p.classes j ≡ Some d → text_of c.name ≡ text_of d.name → i ≡ j
  same-class i j c d e f same =
      let words : List Word = map name-word p.classes in
      placed.classes i j c d e f (same-place c.name.place d.name.place
      (not-before words c.name d.name (class-words j d f).0 (map-has name-word p.classes c (at-has p.classes i c e)) same)
      (not-before words d.name c.name (class-words i c e).0 (map-has name-word p.classes d (at-has p.classes j d f)) (sym same)))

  pub class-not-object : (n : ℕ) (c : ClassPart) → slice_get p.classes n ≡ Some c → text_of c.name ≡ codes "Object" → ⊥
  class-not-object n c e = not-same (text_of c.name) (codes "Object") (or-false-left (same_text (text_of c.name) (codes "Object")) (is_one_of (text_of c.name) (codes "result" ∷ codes "alloc" ∷ [])) (class-words n c e).1)

  pub class-not-alloc : (n : ℕ) (c : ClassPart) → slice_get p.classes n ≡ Some c → text_of c.name ≡ codes "alloc" → ⊥
  class-not-alloc n c e = not-same (text_of c.name) (codes "alloc") (or-false-left (same_text (text_of c.name) (codes "alloc")) (is_one_of (text_of c.name) []) (or-false-right (same_text (text_of c.name) (codes "result")) (is_one_of (text_of c.name) (codes "alloc" ∷ [])) (or-false-right (same_text (text_of c.name) (codes "Object")) (is_one_of (text_of c.name) (codes "result" ∷ codes "alloc" ∷ [])) (class-words n c e).1)))

  pub class-not-result : (n : ℕ) (c : ClassPart) → slice_get p.classes n ≡ Some c → text_of c.name ≡ codes "result" → ⊥
  class-not-result n c e = not-same (text_of c.name) (codes "result") (or-false-left (same_text (text_of c.name) (codes "result")) (is_one_of (text_of c.name) (codes "alloc" ∷ [])) (or-false-right (same_text (text_of c.name) (codes "Object")) (is_one_of (text_of c.name) (codes "result" ∷ codes "alloc" ∷ [])) (class-words n c e).1))

-- the class of a number
pub record ClassAt (p : ProgramTree) (n : ℕ) (x : List ℕ) : Type 0 where
  pub part : ClassPart
  pub is : slice_get p.classes n ≡ Some part
  pub text : text_of part.name ≡ x

found-from : (k : ℕ) (x : List ℕ) (cs : List ClassPart) (m : ℕ) → class_from k x cs ≡ Some m → (j : ℕ) × (m ≡ k + j) × (c : ClassPart) × (slice_get cs j ≡ Some c) × (text_of c.name ≡ x)
unfolding class_from
found-from k x [] m e = absurd (no-none m e)
found-from k x (c ∷ cs) m e = by (same_text (text_of c.name) x) refl e (λ f. found-from (k + 1) x cs m f)
  where
    by : (b : Bool) → same_text (text_of c.name) x ≡ b → (if b then Some k else class_from (k + 1) x cs) ≡ Some m → (class_from (k + 1) x cs ≡ Some m → (j : ℕ) × (m ≡ k + 1 + j) × (d : ClassPart) × (slice_get cs j ≡ Some d) × (text_of d.name ≡ x)) → (j : ℕ) × (m ≡ k + j) × (d : ClassPart) × (slice_get (c ∷ cs) j ≡ Some d) × (text_of d.name ≡ x)
    by true f g rest = (zero, sym (some-same k m g) ∙ none-more k, c, refl, same-is (text_of c.name) x f)
      where
        none-more : (k : ℕ) → k ≡ k + 0
        none-more k = omega arith
    by false f g rest = let r = rest g in (suc r.0, r.1 ∙ one-later k r.0, r.2, r.3, r.4)
      where
        one-later : (k j : ℕ) → k + 1 + j ≡ k + suc j
        one-later k j = omega arith

pub class-at : (p : ProgramTree) (x : List ℕ) (m : ℕ) → number_of p x ≡ Some m → ClassAt p m x
class-at p x m e = let r = found-from 0 x p.classes m e in record { part = r.2; is = ap (slice_get p.classes) (r.1 ∙ none-more r.0) ∙ r.3; text = r.4 }
  where
    none-more : (n : ℕ) → 0 + n ≡ n
    none-more n = omega arith
