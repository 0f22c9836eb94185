-- What the arms of operators compute.
use Rattle.std.proofs.Common.{◌∙◌, sym, ◌∷◌, ap, List, ◌++◌, ◌&&◌, ◌≤◌, [], length, get_or, arith, subst, Option, Some, None, ◌≡◌, refl, sym, ℕ, ℤ, pos, negsuc, Bool, true, false}
use Rattle.std.proofs.lemmas.Bool.{true≢false}
use Rattle.jh_name.specs.declared.place.Place.{Place}
use Rattle.jh_ast.specs.declared.spec.SpecBody.{SpecBody}
use Rattle.jh_ast.specs.declared.spec.SpecBody.TheVariants as y
use Rattle.jh_ast.specs.Bare.{form_body_tree, form_tree, form_trees}
use Rattle.jh_ast.specs.Forms.{FormTree}
use Rattle.jh_ast.specs.Forms as f
use Rattle.jh_rules.specs.declared.found.Found.{Found}
use Rattle.jh_rules.specs.Faults.{right, wrong, needs_none, broken, both, ◌>>=◌}
use Rattle.jh_rules.specs.Found.{Finds}
use Rattle.jh_rules.specs.Formulas.{Where, binary_kind, form_kind, form_kinds, first_place, equations, in_old, under}
use Rattle.jh_rules.specs.Names.{Declared}
use Rattle.jh_rules.specs.Words.{text_of}
use Rattle.jh_rules.specs.Kinds.{is_obj}
use Rattle.std.specs.List.{list_all}
use Rattle.std.proofs.lemmas.List.{append_assoc}
use Rattle.jh_ast.specs.declared.word.Word.{Word}
use Rattle.jh_ast.specs.declared.spec.SpecTree.{SpecTree}
use Rattle.jh_ast.specs.declared.spec.SpecOp.{SpecOp}
use Rattle.jh_ast.specs.declared.spec.SpecOp.TheVariants as op
use Rattle.jh_type.proofs.formula_kinds.Gathering.{seen-asked}
use Rattle.jh_rules.specs.Rules.{is_number_literal, rule_27_field, rule_29_dvd, rule_31_old}
use Rattle.jh_type.specs.formula_kinds.Parts.{is_plain_number, is_zero, fields_kind, path_fields, path, read, one, complement, behind, multiple, seen, braces, is_or, Gathered, either_fields}
use Rattle.jh_type.specs.declared.formula_kinds.operators.Wanted.TheVariants as wanted
use Rattle.jh_name.specs.declared.place.Kind.TheVariants as k
use Rattle.std.specs.declared.alloc.Global.{Global}
use Rattle.std.specs.declared.boxed.Box.{Box}

pub place-form : (p : Place) (a : SpecBody) → f.place_of (form_body_tree p a) ≡ p
unfolding form_body_tree
place-form p y.Null = refl
place-form p y.True = refl
place-form p y.False = refl
place-form p y.Univ = refl
place-form p (y.Number n) = refl
place-form p (y.Name w) = refl
place-form p (y.Member' i q a w) = refl
place-form p (y.Not' i q a) = refl
place-form p (y.Minus' i q a) = refl
place-form p (y.Old' i q a) = refl
place-form p (y.Card' i q a) = refl
place-form p (y.Binary' op i q a j r b) = refl
place-form p (y.Dvd' n i q a) = refl
place-form p (y.All' ws i q a) = refl
place-form p (y.Ex' ws i q a) = refl
place-form p (y.Tree ws) = refl
place-form p (y.Rtrancl' u v i q a j r b k t c) = refl
place-form p (y.Braces' shape fs) = refl
place-form p (y.Compr' w i q a) = refl

pub literal-minus : (p : Place) (a : FormTree) → is_number_literal (f.minus p a) ≡ is_plain_number a
literal-minus p (f.number q z) = refl
literal-minus p _ = refl

pub none-broken : (t : Bool) (r : ℕ) (p : Place) (o : Found (Unit {0})) → t ≡ true → Finds o (wrong r p) → Finds o (needs_none (broken r p t))
none-broken true r p o e h = h
none-broken false r p o e h = absurd (true≢false (sym e))

pub none-whole : (t : Bool) (r : ℕ) (p : Place) (o : Found (Unit {0})) → t ≡ false → Finds o (right tt) → Finds o (needs_none (broken r p t))
none-whole true r p o e h = absurd (true≢false e)
none-whole false r p o e h = h

pub dvd-zero : (p : Place) (z : ℤ) → broken 29 p (is_zero z) ≡ rule_29_dvd p z
dvd-zero p (pos n) = refl
dvd-zero p (negsuc n) = refl

pub place-first : (q : Place) (items : List SpecTree) (a : SpecTree) → 1 ≤ length items → a ≡ get_or items 0 a → a.place ≡ first_place q (form_trees items)
place-first q [] a le e = absurd (omega arith)
place-first q (b ∷ rest) a le e = ap (λ x. x.place) e ∙ sym (place-form b.place b.body)

pub kinds-none : (l : Declared) (at : Where) → form_kinds l (form_trees []) at ≡ right []
unfolding form_kinds
kinds-none l at = refl

pub kinds-more : (l : Declared) (at : Where) (a : SpecTree) (items : List SpecTree) → form_kinds l (form_trees (a ∷ items)) at ≡ (both (form_kind l (form_tree a) at) (form_kinds l (form_trees items) at) >>= λ p. right (p.0 ∷ p.1))
unfolding form_kinds
kinds-more l at a items = refl

pub kind-tree : (l : Declared) (at : Where) (q : Place) (ws : List Word) → form_kind l (f.tree q ws) at ≡ fields_kind l at.class q ws
unfolding form_kind
kind-tree l at q ws = refl

pub kind-path : (l : Declared) (at : Where) (q : Place) (x y : Word) (a b c : FormTree) → form_kind l (f.rtrancl q x y a b c) at ≡ path (path_fields l at.class q (text_of x) (text_of y) a) b (form_kind l b at) (form_kind l c at)
unfolding form_kind
kind-path l at q x y a b c = refl

pub kind-braces : (l : Declared) (at : Where) (q : Place) (items : List SpecTree) → form_kind l (f.braces q (form_trees items)) at ≡ (seen (list_all is_obj) (form_kinds l (form_trees items) at) >>= braces q (form_trees items))
unfolding form_kind
kind-braces l at q items = sym (seen-asked (list_all is_obj) (form_kinds l (form_trees items) at).faults (form_kinds l (form_trees items) at).known (braces q (form_trees items)))

-- the arms of formulas with formulas inside
module _ (l : Declared) (at : Where) (q : Place) where
  pub kind-member : (a : Box SpecTree Global) (w : Word) → form_kind l (form_body_tree q (y.Member a w)) at ≡ read (form_tree a.value) (form_kind l (form_tree a.value) at) (rule_27_field l at.class w)
  unfolding form_kind form_body_tree
  kind-member a w = refl

  pub kind-not : (a : Box SpecTree Global) → form_kind l (form_body_tree q (y.Not a)) at ≡ one wanted.Truth (form_tree a.value) (form_kind l (form_tree a.value) at) k.Bool
  unfolding form_kind form_body_tree
  kind-not a = refl

  pub kind-minus : (a : Box SpecTree Global) → form_kind l (form_body_tree q (y.Minus a)) at ≡ complement (form_tree a.value) (form_kind l (form_tree a.value) at)
  unfolding form_kind form_body_tree
  kind-minus a = refl

  pub kind-old : (a : Box SpecTree Global) → form_kind l (form_body_tree q (y.Old a)) at ≡ behind (rule_31_old at.old q) (form_kind l (form_tree a.value) (in_old at))
  unfolding form_kind form_body_tree
  kind-old a = refl

  pub kind-card : (a : Box SpecTree Global) → form_kind l (form_body_tree q (y.Card a)) at ≡ one wanted.Set (form_tree a.value) (form_kind l (form_tree a.value) at) k.Int
  unfolding form_kind form_body_tree
  kind-card a = refl

  pub kind-binary : (o : SpecOp) (a b : Box SpecTree Global) → form_kind l (form_body_tree q (y.Binary o a b)) at ≡ binary_kind l q o (form_tree a.value) (form_kind l (form_tree a.value) at) (form_tree b.value) (form_kind l (form_tree b.value) at)
  unfolding form_kind form_body_tree
  kind-binary o a b = refl

  pub kind-dvd : (z : ℤ) (a : Box SpecTree Global) → form_kind l (form_body_tree q (y.Dvd z a)) at ≡ multiple q z (form_kind l (form_tree a.value) at)
  unfolding form_kind form_body_tree
  kind-dvd z a = refl

  pub kind-all : (ws : List Word) (a : Box SpecTree Global) → form_kind l (form_body_tree q (y.All ws a)) at ≡ one wanted.Truth (form_tree a.value) (form_kind l (form_tree a.value) (under at ws)) k.Bool
  unfolding form_kind form_body_tree
  kind-all ws a = refl

  pub kind-ex : (ws : List Word) (a : Box SpecTree Global) → form_kind l (form_body_tree q (y.Ex ws a)) at ≡ one wanted.Truth (form_tree a.value) (form_kind l (form_tree a.value) (under at ws)) k.Bool
  unfolding form_kind form_body_tree
  kind-ex ws a = refl

  pub kind-compr : (w : Word) (a : Box SpecTree Global) → form_kind l (form_body_tree q (y.Compr w a)) at ≡ one wanted.Truth (form_tree a.value) (form_kind l (form_tree a.value) (under at (w ∷ []))) k.Set
  unfolding form_kind form_body_tree
  kind-compr w a = refl

or-case : (x y : List ℕ) (q : Place) (o : SpecOp) (a b : FormTree) → is_or o ≡ true → equations x y (f.binary q o a b) ≡ either_fields (equations x y a) (equations x y b)
unfolding equations
or-case x y q op.Or a b e = refl
or-case x y q _ a b e = absurd (true≢false (sym e))

gathered-both : (e g : Option (List Word)) (old mid new : List Word) (good more : Bool) → Gathered e old mid good → Gathered g mid new more → Gathered (either_fields e g) old new (good && more)
gathered-both None g old mid new good more h k = ap (λ b. b && more) h
gathered-both (Some ws) None old mid new good more h k = (λ i. h.0 i && k i)
gathered-both (Some ws) (Some vs) old mid new good more h k = ((λ i. h.0 i && k.0 i), k.1 ∙ ap (λ xs. xs ++ vs) h.1 ∙ append_assoc old ws vs)

pub or-gathered : (x y : List ℕ) (q : Place) (o : SpecOp) (a b : FormTree) (old mid new : List Word) (good more : Bool) → is_or o ≡ true → Gathered (equations x y a) old mid good → Gathered (equations x y b) mid new more → Gathered (equations x y (f.binary q o a b)) old new (good && more)
or-gathered x y q o a b old mid new good more e h k = subst (λ g. Gathered g old new (good && more)) (sym (or-case x y q o a b e)) (gathered-both (equations x y a) (equations x y b) old mid new good more h k)

pub ruleset kind_steps = (place-form, literal-minus, none-broken, none-whole)
