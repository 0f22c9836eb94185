-- Typed code, by an example: class A { static Object a; public static void m(A x) { a = x; A y = new A(); } }.
use Rattle.std.proofs.Common.{◌≡◌, refl, sym, ap, subst, ◌∙◌, ℕ, zero, suc, ◌<◌, ◌⊎◌, inl, inr, true, false, List, [], ◌∷◌, length, slice_index_or, Option, None, Some, codes, arith}
use Rattle.std.specs.List.{Contains}
use Rattle.std.specs.Option.{option_map_or}
use Rattle.std.proofs.lemmas.Bool.{true≢false}
use Rattle.jh_name.specs.declared.place.Kind.TheVariants as k
use Rattle.jh_rules.specs.declared.types.Ty.{Ty}
use Rattle.jh_rules.specs.declared.types.Ty.TheVariants as ty
use Rattle.jh_rules.specs.Words.{same_text}
use Rattle.jh_rules.specs.Kinds.{fits, kind_of}
use Rattle.jh_semantics.specs.Code.{Text, Local, Stmts}
use Rattle.jh_semantics.specs.Code as c
use Rattle.jh_semantics.specs.Program.{Program, Method, Member}
use Rattle.jh_semantics.specs.Typed.{IsType, NamesFit, MethodFits, ProgramFits, MayDeclare, as_local, of_name, new_local, a_static, objects_of}
use Rattle.jh_semantics.proofs.Cases.{at}
use Rattle.jh_semantics.specs.Locals.{has_dot}
use Rattle.std.proofs.lemmas.List.Elements.{Contains-append_cases}

abbrev x : Local
x = record { text = codes "x"; type = ty.Class 0 }

abbrev y : Local
y = record { text = codes "y"; type = ty.Class 0 }

abbrev static_a : Member
static_a = record { text = codes "A.a"; class = codes "A"; kind = k.Obj; is_static = true; type = Some ty.Object }

abbrev body : Stmts
body =
    c.more (c.assign (c.to_name (codes "A.a")) (c.an_object (c.object (codes "x"))))
    (c.more (c.new_object (at 1 1) (c.to_new y) (codes "A")) c.none)

abbrev method : Method
method = record { place = at 1 1; is_public = true; this = None; params = x ∷ []; result = ty.Void; requires = None; ensures = None; body = body }

abbrev program : Program
program = record { classes = codes "A" ∷ []; members = static_a ∷ []; method = λ m. Some method; invariants = [] }

here : {X : Type 0} (z : X) (zs : List X) → Contains (z ∷ zs) z
here z zs = (0, omega arith, refl)

only : {X : Type 0} {z : X} (w : X) → Contains (z ∷ []) w → w ≡ z
only {X} {z} w h = at_place h.0 h.1 h.2
  where
    at_place : (j : ℕ) → j < length (z ∷ []) → slice_index_or (z ∷ []) j w ≡ w → w ≡ z
    at_place zero l e = sym e
    at_place (suc j) l e = absurd (beyond l)
      where
        beyond : suc j < 1 → ⊥
        beyond l = omega (l, arith)

nothing : {X : Type 0} (z : X) → Contains [] z → ⊥
nothing z h = omega (h.1, arith)

texts-apart : (a b : Text) → same_text a b ≡ false → same_text b b ≡ true → a ≡ b → ⊥
texts-apart a b h i e = true≢false (sym i ∙ (ap (λ (z : Text). same_text z b) (sym e) ∙ h))

some-of : (t u : Ty) → ◌≡◌ {A = Option Ty} (Some t) (Some u) → t ≡ u
some-of t u e = ap (λ (o : Option Ty). option_map_or (λ z. z) o ty.Int) e

may-x : MayDeclare program (record { this = None; params = []; locals = [] }) x
may-x = record {
  no_state = refl;
  not_this = λ e. texts-apart (codes "x") (codes "this") refl refl e;
  is_new = λ z h e. nothing z h;
  type_fits = here (codes "A") [];
}

may-y : MayDeclare program (record { this = None; params = x ∷ []; locals = [] }) y
may-y = record {
  no_state = refl;
  not_this = λ e. texts-apart (codes "y") (codes "this") refl refl e;
  is_new = λ z h e. texts-apart (codes "x") (codes "y") refl refl (sym (ap (λ (w : Local). w.text) (first-local z h)) ∙ e);
  type_fits = here (codes "A") [];
}
  where
    first-local : (z : Local) → Contains (x ∷ []) z → z ≡ x
    first-local z h = only z h

each-class : (P : Text → Type 0) → P (codes "A") → P (codes "Object") → (z : Text) → Contains (codes "A" ∷ codes "Object" ∷ []) z → P z
each-class P f g z h = cases (Contains-append_cases (codes "A" ∷ []) (codes "Object" ∷ []) z h)
  where
    cases : Contains (codes "A" ∷ []) z ⊎ Contains (codes "Object" ∷ []) z → P z
    cases (inl i) = subst P (sym (only z i)) f
    cases (inr i) = subst P (sym (only z i)) g

the-member : (P : Member → Type 0) → P static_a → (z : Member) → Contains (static_a ∷ []) z → P z
the-member P f z h = subst P (sym (only z h)) f

names-fit : NamesFit program
names-fit = record {
  dotless = each-class (λ z. has_dot z ≡ false) refl refl;
  not_alloc = each-class (λ z. z ≡ codes "alloc" → ⊥) (λ e. texts-apart (codes "A") (codes "alloc") refl refl e) (λ e. texts-apart (codes "Object") (codes "alloc") refl refl e);
  classes = ((λ z h e. texts-apart (codes "A") (codes "Object") refl refl (e ∙ only z h)), ((λ z h e. nothing z h), tt));
  members = λ z w h i e. only z h ∙ sym (only w i);
  dots = the-member (λ z. has_dot z.text ≡ true) refl;
  of_class = the-member (λ z. Contains program.classes z.class) (here (codes "A") []);
  types = λ z type h e. the-member (λ w. w.type ≡ Some type → IsType program type) (λ q. subst (λ (t : Ty). IsType program t) (some-of ty.Object type q) tt) z h e;
  not_null = the-member (λ w. w.type ≡ Some ty.Null → ⊥) (λ q. true≢false (sym (ap (λ (t : Ty). fits t ty.Null) (some-of ty.Object ty.Null q))));
  kinds = λ z type h e. the-member (λ w. w.type ≡ Some type → kind_of type ≡ w.kind) (λ q. sym (ap kind_of (some-of ty.Object type q))) z h e;
}

method-fits : MethodFits program method
method-fits = record {
  of_class = λ n e. absurd (true≢false (sym (ap (λ (o : Option ℕ). option_map_or (λ z. true) o false) e)));
  params = (may-x, tt);
  result_type = tt;
  result_value = λ e. true≢false (ap (λ (t : Ty). fits t ty.Void) e);
  body = (
    record {
      type = ty.Class 0;
      has = of_name (codes "x") (ty.Class 0) (as_local x (here x [])) refl;
      fit = record { type = ty.Object; takes = a_static static_a ty.Object (record { stands = here static_a []; sort = refl; has = refl }); fit = refl };
    },
    (
      record {
        type = ty.Class 0;
        is = objects_of 0 (here (codes "A") []);
        fit = record { type = ty.Class 0; takes = new_local y may-y; fit = refl };
      },
      tt,
    ),
  );
  end = inl refl;
  contract = tt;
}

program-fits : ProgramFits program
program-fits = record {
  names = names-fit;
  methods = λ m z e. subst (λ (w : Method). MethodFits program w) (some-method method z e) method-fits;
  invariants = tt;
}
  where
    some-method : (v w : Method) → ◌≡◌ {A = Option Method} (Some v) (Some w) → v ≡ w
    some-method v w e = ap (λ (o : Option Method). option_map_or (λ u. u) o v) e
