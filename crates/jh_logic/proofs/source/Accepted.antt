-- A source that is accepted: what is asked can be met.
use Rattle.std.proofs.Common.{◌≡◌, refl, sym, ap, subst, ◌∙◌, ℕ, zero, suc, ◌==◌, true, false, List, [], ◌∷◌, Some, None, slice_get, codes, ⊎_elim}
use Rattle.std.specs.List.{Contains}
use Rattle.std.proofs.lemmas.Bool.{true≢false}
use Rattle.jh_name.specs.declared.place.Place.{Place}
use Rattle.jh_name.specs.declared.place.Kind.TheVariants as k
use Rattle.jh_ast.specs.declared.word.Word.{Word}
use Rattle.jh_ast.specs.declared.word.JType.TheVariants as j
use Rattle.jh_ast.specs.Forms.{FormTree, SpecPart}
use Rattle.jh_ast.specs.Forms as f
use Rattle.jh_ast.specs.Stmts as st
use Rattle.jh_ast.specs.Programs.{ProgramTree, ClassPart, VarPart, MethodPart}
use Rattle.jh_rules.specs.declared.fault.Fault.{Fault}
use Rattle.jh_rules.specs.Breaks.{faults_of}
use Rattle.jh_rules.specs.Faults.{fault}
use Rattle.jh_rules.specs.Words.{same_text, text_of, halves}
use Rattle.jh_rules.specs.Names.{MemberPart, method, var, member_word, members_of, first_named, class_from, def_in, states_from}
use Rattle.jh_rules.specs.Scopes.{declared, labels_in, with_all_declared, declare_all, count, is_closed}
use Rattle.jh_rules.specs.Exprs.{expr_type}
use Rattle.jh_rules.specs.Formulas.{form_kind}
use Rattle.jh_rules.specs.Statements.{stmt_faults, param_faults, method_faults, class_faults, classes_faults}
use Rattle.jh_rules.specs.Shape.{all_parts, expr_parts, form_parts, stmt_parts, are_different, ShapeOfSource}
use Rattle.jh_logic.specs.source.Laws.{IsAccepted}
use Rattle.jh_logic.proofs.source.Lists.{has-none, has-cases, no-none}
use Rattle.jh_logic.proofs.source.Texts.{is-same}

abbrev at : ℕ → ℕ → Place
at l n = record { line = l; column = n }

abbrev word : List ℕ → Place → Word
word x q = record { text = record { text = x; turn = 0 }; place = q }

abbrev spec : Place → ℕ → FormTree → SpecPart
spec q n a = record { place = q; number = n; form = a }

-- class C {
--   /*: public static ghost specvar g :: objset; */
--   static void m() { /*: g := "{}" */ }
-- }
abbrev clears : MethodPart
clears = record {
  name = word (codes "m") (at 3 15);
  is_public = false;
  fixed = true;
  result = j.Void;
  params = [];
  pre = None;
  modifies = [];
  post = None;
  body = st.more (st.ghost (at 3 25) (spec (at 3 25) 0 (f.name (at 3 25) (word (codes "g") (at 3 25)))) (spec (at 3 30) 1 (f.braces (at 3 31) f.none))) st.none;
  end = at 3 38;
}

abbrev set : VarPart
set = record { name = word (codes "g") (at 2 36); kind = k.Set; fixed = true; is_ghost = true; init = None }

abbrev class : ClassPart
class = record { name = word (codes "C") (at 1 7); fields = []; methods = clears ∷ []; vars = set ∷ []; defs = []; invariants = [] }

abbrev clearing : ProgramTree
clearing = record { classes = class ∷ [] }

clean : faults_of clearing ≡ []
unfolding halves first_named class_from def_in states_from declared labels_in with_all_declared declare_all count is_closed expr_type form_kind stmt_faults param_faults method_faults class_faults classes_faults
clean = refl

shape : ShapeOfSource clearing
unfolding all_parts expr_parts form_parts stmt_parts are_different
shape = record { turns = refl; numbers = refl; literals = refl; declared = refl; types = refl; targets = refl }

first : (i : ℕ) (c : ClassPart) → slice_get (class ∷ []) i ≡ Some c → i ≡ 0
first zero c e = refl
first (suc i) c e = absurd (no-none c e)

-- the lines of the two members
apart : at 3 15 ≡ at 2 36 → ⊥
apart e = true≢false (ap (λ (q : Place). q.line == 3) e)

member : (a : MemberPart) → Contains (method clears ∷ var set ∷ []) a → (b : MemberPart) → Contains (method clears ∷ var set ∷ []) b → (member_word a).place ≡ (member_word b).place → a ≡ b
member a i b h e = ⊎_elim
    (λ u. ⊎_elim (λ v. sym u ∙ v) (λ w. ⊎_elim (λ v. absurd (apart (ap (λ z. (member_word z).place) u ∙ e ∙ sym (ap (λ z. (member_word z).place) v)))) (λ z. absurd (has-none b z)) (has-cases (var set) [] b w)) (has-cases (method clears) (var set ∷ []) b h))
    (λ w. ⊎_elim (λ u. ⊎_elim (λ v. absurd (apart (ap (λ z. (member_word z).place) v ∙ sym e ∙ sym (ap (λ z. (member_word z).place) u)))) (λ z. ⊎_elim (λ v. sym u ∙ v) (λ y. absurd (has-none b y)) (has-cases (var set) [] b z)) (has-cases (method clears) (var set ∷ []) b h)) (λ z. absurd (has-none a z)) (has-cases (var set) [] a w))
    (has-cases (method clears) (var set ∷ []) a i)

clearing-accepted : IsAccepted clearing
clearing-accepted = record {
  shape = shape;
  placed = record {
    classes = λ i h c d e g q. first i c e ∙ sym (first h d g);
    members = λ c i a b u v e. ⊎_elim (λ (s : class ≡ c). member a (subst (λ (z : ClassPart). Contains (members_of z) a) (sym s) u) b (subst (λ (z : ClassPart). Contains (members_of z) b) (sym s) v) e) (λ h. absurd (has-none c h)) (has-cases class [] c i);
  };
  fine = λ rule place i. has-none (fault rule place) (subst (λ (fs : List Fault). Contains fs (fault rule place)) clean i);
}
