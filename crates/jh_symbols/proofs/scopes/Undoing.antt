-- Declaring, and putting back what names stood for.
use Rattle.std.proofs.Common.{◌≡◌, refl, sym, ap, ◌∙◌, ℕ, zero, suc, ◌≤◌, ◌<◌, ◌+◌, Bool, true, false, List, [], ◌∷◌, ◌++◌, length, take, drop, Option, Some, arith, if◌then◌else◌}
use Rattle.std.specs.Cmp.Lexicographic.{bytes_decides}
use Rattle.std.proofs.lemmas.List.{drop_all}
use Rattle.jh_name.specs.declared.place.Kind.{Kind}
use Rattle.jh_ast.specs.declared.word.Param.{Param}
use Rattle.jh_rules.specs.declared.entries.Sorts.{Sorts}
use Rattle.jh_rules.specs.declared.types.Ty.{Ty}
use Rattle.jh_rules.specs.Words.{same_text, text_of}
use Rattle.jh_rules.specs.Names.{Declared, type_of, kind_of_word}
use Rattle.jh_rules.specs.Scopes.{Scope, declare, with_sort}
use Rattle.jh_symbols.specs.declared.scopes.scope.Undo.{Undo}
use Rattle.jh_symbols.specs.scopes.Changing.{with_local, with_sorts, undone}

sorts-there : (f : List ℕ → Sorts) (k : Kind) (x y : List ℕ) (b : Bool) → same_text x y ≡ b → (if b then with_sort k (f x) else f y) ≡ (if b then with_sort k (f y) else f y)
sorts-there f k x y true e = ap (λ z. with_sort k (f z)) ((bytes_decides x y).0 e)
sorts-there f k x y false e = refl

-- the local and the sorts of a declaration are the declaration
pub declared : (l : Declared) (s : Scope) (d : Param) (is_param : Bool) (ty : Option Ty) (sorts : Sorts) → ty ≡ type_of l.class_named d.jtype → sorts ≡ with_sort (kind_of_word d.jtype) (s.earlier (text_of d.name)) → with_sorts (with_local s (text_of d.name) (Some (record { ty = ty; is_param = is_param }))) (text_of d.name) sorts ≡ declare l is_param s d
declared l s d is_param ty sorts e k = λ i. record {
  class = s.class;
  fixed = s.fixed;
  local = λ x. if same_text (text_of d.name) x then Some (record { ty = e i; is_param = is_param }) else s.local x;
  earlier = λ x. (ap (λ q. if same_text (text_of d.name) x then q else s.earlier x) k ∙ sorts-there s.earlier (kind_of_word d.jtype) (text_of d.name) x (same_text (text_of d.name) x) refl) i;
  labels = s.labels;
}

undone-last : (s : Scope) (us : List Undo) (u : Undo) → undone s (us ++ u ∷ []) ≡ undone (with_local s u.name u.before) us
unfolding undone
undone-last s [] u = refl
undone-last s (v ∷ us) u = ap (λ t. with_local t v.name v.before) (undone-last s us u)

long : (us : List Undo) (u : Undo) → length (us ++ u ∷ []) ≡ length us + 1
long [] u = refl
long (v ∷ us) u = rw (long us u) (omega arith)

drop-last : (n : ℕ) (us : List Undo) (u : Undo) → n ≤ length us → drop n (us ++ u ∷ []) ≡ drop n us ++ u ∷ []
drop-last zero us u le = refl
drop-last (suc n) [] u le = absurd (omega arith)
drop-last (suc n) (v ∷ us) u le = drop-last n us u (omega arith)

pub take-last : (n : ℕ) (us : List Undo) (u : Undo) → n ≤ length us → take n (us ++ u ∷ []) ≡ take n us
take-last zero us u le = refl
take-last (suc n) [] u le = absurd (omega arith)
take-last (suc n) (v ∷ us) u le = ap (λ ws. v ∷ ws) (take-last n us u (omega arith))

pub shorter : (n : ℕ) (vs us : List Undo) (u : Undo) → vs ≡ us ++ u ∷ [] → n < length vs → n ≤ length us
shorter n vs us u e lt =
    let same : length vs ≡ length us + 1 = ap length e ∙ long us u in
    omega arith

-- one more is put back
pub one-back : (s t : Scope) (us : List Undo) (u : Undo) (n : ℕ) → n ≤ length us → t ≡ with_local s u.name u.before → undone t (drop n us) ≡ undone s (drop n (us ++ u ∷ []))
one-back s t us u n le h = ap (λ r. undone r (drop n us)) h ∙ sym (undone-last s (drop n us) u) ∙ sym (ap (undone s) (drop-last n us u le))

-- all is put back
pub all-back : (s : Scope) (us : List Undo) (n : ℕ) → length us ≤ n → undone s (drop n us) ≡ s
unfolding undone
all-back s us n le = ap (undone s) (drop_all n us le)
