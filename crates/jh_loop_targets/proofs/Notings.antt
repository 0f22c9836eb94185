-- Texts that are noted, one after another.
use Rattle.std.proofs.Common.{◌≡◌, refl, sym, ap, ◌∙◌, ℕ, zero, suc, ◌+◌, ◌<◌, ◌≤◌, ◌||◌, Bool, true, false, if◌then◌else◌, is_some, List, [], ◌∷◌, ◌++◌, length, drop, get_or, slice_get, Option, Some, None, arith}
use Rattle.std.specs.List.{list_any}
use Rattle.std.specs.Option.{option_map_or}
use Rattle.std.specs.String.{string_bytes, string_eq}
use Rattle.std.specs.declared.alloc.Global.{Global}
use Rattle.std.specs.declared.string.String.{String}
use Rattle.std.proofs.lemmas.List.{drop_all}
use Rattle.std.proofs.lemmas.Map.Text.{hash_map_updates_text}
use Rattle.indexmap.specs.IndexMap.{get_by_text, Updates}
use Rattle.jh_symbols.proofs.scopes.Lists.{drop-at}
use Rattle.jh_rules.specs.Words.{same_text}
use Rattle.jh_semantics.specs.Code.{Text}
use Rattle.jh_loop_targets.specs.declared.texts.Texts.{Texts}
use Rattle.jh_loop_targets.specs.Noted.{holds, Notes}
use Rattle.jh_loop_targets.specs.Telling.{is_text_of, standing, standing_at}
use Rattle.jh_loop_targets.proofs.Firsts.{text-is}
use Rattle.jh_state_facts.specs.declared.changes.names.SortedName.{SortedName}

or-false : (b : Bool) → (b || false) ≡ b
or-false true = refl
or-false false = refl

or-group : (a b c : Bool) → ((a || b) || c) ≡ (a || (b || c))
or-group true b c = refl
or-group false b c = refl

pub or-grouped : (a b c : Bool) → (a || b || c) ≡ ((a || b) || c)
or-grouped true b c = refl
or-grouped false b c = refl

pub notes-none : (s : Texts) (f : Text → Bool) → ((x : Text) → f x ≡ false) → Notes s s f
notes-none s f h = record { is = λ x. sym (or-false (holds s x)) ∙ ap (λ b. holds s x || b) (sym (h x)) }

pub notes-then : (a b c : Texts) (f g h : Text → Bool) → Notes a b f → Notes b c g → ((x : Text) → h x ≡ (f x || g x)) → Notes a c h
notes-then a b c f g h p q e = record { is = λ x. q.is x ∙ ap (λ v. v || g x) (p.is x) ∙ or-group (holds a x) (f x) (g x) ∙ ap (λ v. holds a x || v) (sym (e x)) }

pub notes-as : (a b : Texts) (f g : Text → Bool) → Notes a b f → ((x : Text) → g x ≡ f x) → Notes a b g
notes-as a b f g p e = record { is = λ x. p.is x ∙ ap (λ v. holds a x || v) (sym (e x)) }

-- what is found after a text was put
put-text : (b : Bool) (o : Option Bool) → is_some (if b then Some true else o) ≡ (is_some o || b)
put-text true None = refl
put-text true (Some x) = refl
put-text false o = sym (or-false (is_some o))

pub note-put : (old new : Texts) (key : String Global) (text : Text) → string_bytes key ≡ text → Updates string_eq old.known new.known key (Some true) → Notes old new (same_text text)
note-put old new key text named updates = record {
  is = λ x. ap is_some (hash_map_updates_text (string_bytes key) old.known new.known (Some true) updates x ∙ ap (λ b. if same_text b x then Some true else get_by_text old.known x) named)
      ∙ put-text (same_text text x) (get_by_text old.known x);
}

or-same : (a b : Bool) → (b ≡ true → a ≡ true) → a ≡ (a || b)
or-same true b h = refl
or-same false true h = h refl
or-same false false h = refl

-- a text that was noted before
pub note-kept : (s : Texts) (text : Text) → holds s text ≡ true → Notes s s (same_text text)
note-kept s text h = record { is = λ x. or-same (holds s x) (same_text text x) (λ e. ap (holds s) (sym (text-is text x e)) ∙ h) }

-- names at places
any-append : {X : Type 0} (f : X → Bool) (us vs : List X) → list_any f (us ++ vs) ≡ (list_any f us || list_any f vs)
any-append f [] vs = refl
any-append f (u ∷ us) vs = ap (λ b. f u || b) (any-append f us vs) ∙ sym (or-group (f u) (list_any f us) (list_any f vs))

text-append : (us vs : List SortedName) (x : Text) → is_text_of (us ++ vs) x ≡ (is_text_of us x || is_text_of vs x)
text-append us vs x = any-append (λ (s : SortedName). same_text s.text.now x) us vs

-- nothing stands behind the end
pub past : {X : Type 0} (xs : List X) (i : ℕ) → length xs ≤ i → slice_get xs i ≡ None
past [] i le = refl
past (x ∷ xs) zero le = absurd (omega arith)
past (x ∷ xs) (suc i) le = past xs i (omega arith)

-- a piece of state at a place: none, or one
pub note-none-at : (s : Texts) (states : List SortedName) (place : ℕ) → slice_get states place ≡ None → Notes s s (is_text_of (standing_at states place))
note-none-at s states place e = notes-none s (is_text_of (standing_at states place)) (λ x. ap (λ o. is_text_of (option_map_or (λ y. y ∷ []) o []) x) e)

pub note-one-at : (old new : Texts) (states : List SortedName) (place : ℕ) (one : SortedName) → slice_get states place ≡ Some one → Notes old new (same_text one.text.now) → Notes old new (is_text_of (standing_at states place))
note-one-at old new states place one e p =
    notes-as old new (same_text one.text.now) (is_text_of (standing_at states place)) p (λ x. ap (λ o. is_text_of (option_map_or (λ y. y ∷ []) o []) x) e ∙ or-false (same_text one.text.now x))

got : {X : Type 0} (xs : List X) (i : ℕ) (d e : X) → i < length xs → get_or xs i d ≡ get_or xs i e
got [] i d e lt = absurd (omega arith)
got (x ∷ xs) zero d e lt = refl
got (x ∷ xs) (suc i) d e lt = got xs i d e (omega arith)

module _ (states : List SortedName) (places : List ℕ) (i : ℕ) where
  -- one more place
  pub places-next : (d : ℕ) (old mid new : Texts) → i < length places → Notes old mid (is_text_of (standing_at states (get_or places i d))) → Notes mid new (is_text_of (standing states (drop (i + 1) places))) → Notes old new (is_text_of (standing states (drop i places)))
  places-next d old mid new lt p q =
      let n = get_or places i d in
      notes-then old mid new (is_text_of (standing_at states n)) (is_text_of (standing states (drop (i + 1) places))) (is_text_of (standing states (drop i places))) p q
      (λ x. ap (λ ns. is_text_of (standing states ns) x) (drop-at places i n lt (got places i d n lt)) ∙ text-append (standing_at states n) (standing states (drop (i + 1) places)) x)

  pub places-end : (s : Texts) → length places ≤ i → Notes s s (is_text_of (standing states (drop i places)))
  places-end s le = notes-none s (is_text_of (standing states (drop i places))) (λ x. ap (λ ns. is_text_of (standing states ns) x) (drop_all i places le))

pub ruleset note_steps = (notes-none, note-kept)
