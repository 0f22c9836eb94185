-- What names stand for, by what is known of them.
use Rattle.std.proofs.Common.{◌≡◌, refl, sym, ap, ◌∙◌, ℕ, zero, suc, ◌+◌, ◌-◌, ◌<◌, ◌≤◌, Bool, true, false, if◌then◌else◌, List, [], ◌∷◌, length, drop, get_or, slice_get, Option, Some, None, option_map, add-one, drop-cons, arith}
use Rattle.std.specs.Borrow.{Bor}
use Rattle.std.specs.Option.{option_map_or}
use Rattle.std.proofs.lemmas.List.{drop_all}
use Rattle.jh_form.specs.Tree.{ValueTree, TermTree, of_object}
use Rattle.jh_ast.specs.declared.word.Word.{Word}
use Rattle.jh_boxed.specs.Mapped.{mapped_value}
use Rattle.jh_arena.specs.table.Entries.{Listing, is_object, the_object, the_value}
use Rattle.jh_arena.specs.table.Growth.{Extends}
use Rattle.jh_arena.specs.table.Nodes.{nodes}
use Rattle.jh_rules.specs.declared.entries.StateEntry.{StateEntry}
use Rattle.jh_rules.specs.Words.{same_text, text_of}
use Rattle.jh_symbols.specs.scopes.Lookings.{declared_by}
use Rattle.jh_rules.specs.Names.{own_name}
use Rattle.jh_rules.specs.Names as names
use Rattle.jh_vars.specs.States.{called}
use Rattle.jh_vars.specs.Resolved.{receiving, bound_as}
use Rattle.jh_vars.specs.Resolved as r
use Rattle.jh_resolution.specs.declared.context.Context.{Context}
use Rattle.jh_resolution.specs.declared.context.Spot as context
use Rattle.jh_resolution.specs.Meant.{meaning_in, AreHeld}
use Rattle.jh_resolution.specs.Spots.{texts_of, spot_of, spelled_by, member_in, static_in, state_in, after_dots_in}
use Rattle.jh_resolution.proofs.Meant.{meaning-grows}
use Rattle.jh_resolution.proofs.NameSteps.{object-on}

pub is-object-at : (o : Option ValueTree) (a : TermTree) → o ≡ Some (of_object a) → is_object o ≡ true
unfolding is_object
is-object-at o a e = ap is_object e

pub object-of : (o : Option ValueTree) (a : TermTree) → o ≡ Some (of_object a) → the_object o ≡ a
unfolding the_object
object-of o a e = ap the_object e

value-of : (o : Option ValueTree) (v : ValueTree) → o ≡ Some v → the_value o ≡ v
unfolding the_value
value-of o v e = ap the_value e

-- what is defined for a variable, at a receiver, once the table has grown
module _ (old mid new : Listing) (x : Context) (s : StateEntry) (n : List ℕ) (defined receiver : ℕ) (g : Extends old mid) (h : Extends mid new) (held : AreHeld (nodes mid) x.meanings.now) (is : s.is_defined ≡ true) (there : is_object (slice_get (nodes old) receiver) ≡ true) (found : slice_get (nodes mid) defined ≡ Some (meaning_in (nodes mid) x.meanings.now s.class n)) where
  receiver-at : slice_get (nodes mid) receiver ≡ Some (of_object (the_object (slice_get (nodes old) receiver)))
  receiver-at = object-on old mid receiver g there

  pub still-object : is_object (slice_get (nodes mid) receiver) ≡ true
  still-object = is-object-at (slice_get (nodes mid) receiver) (the_object (slice_get (nodes old) receiver)) receiver-at

  pub member-defined : mapped_value (the_value (slice_get (nodes mid) defined)) (receiving (the_object (slice_get (nodes mid) receiver))) 0 ≡ member_in (nodes new) x s n (the_object (slice_get (nodes old) receiver))
  member-defined =
      (λ i. mapped_value ((value-of (slice_get (nodes mid) defined) (meaning_in (nodes mid) x.meanings.now s.class n) found ∙ (λ j. sym (meaning-grows mid new x.meanings.now h held) j s.class n)) i)
      (receiving (object-of (slice_get (nodes mid) receiver) (the_object (slice_get (nodes old) receiver)) receiver-at i)) 0)
      ∙ ap (λ b. if b then mapped_value (meaning_in (nodes new) x.meanings.now s.class n) (receiving (the_object (slice_get (nodes old) receiver))) 0 else r.read (r.kind_known (record { entry = s; name = n })) (r.state_name (spelled_by x.classes.now) (record { entry = s; name = n })) (the_object (slice_get (nodes old) receiver))) (sym is)

-- a member of `this`
pub state-of-this : (ts : List ValueTree) (x : Context) (at : context.Spot) (s : StateEntry) (n : List ℕ) (o : Option ValueTree) → s.fixed ≡ false → o ≡ Some (of_object (r.this_at (spot_of at))) → member_in ts x s n (the_object o) ≡ state_in ts x at s n
state-of-this ts x at s n o h e =
    ap (member_in ts x s n) (object-of o (r.this_at (spot_of at)) e) ∙ ap (λ b. if b then static_in ts x s n else member_in ts x s n (r.this_at (spot_of at))) (sym h)

-- a member after dots
pub member-after : (ts : List ValueTree) (x : Context) (at : context.Spot) (w : Word) (s : StateEntry) (n : List ℕ) (a : TermTree) (o : Option ValueTree) → n ≡ own_name (text_of w) → names.state_named (declared_by x.lookups.now) at.class (text_of w) ≡ Some s → o ≡ Some (of_object a) → member_in ts x s n (the_object o) ≡ after_dots_in ts x at a w
member-after ts x at w s n a o own found e =
    (λ i. member_in ts x s (own i) (object-of o a e i))
    ∙ ap (λ y. option_map_or (λ z. r.member_value (declared_by x.lookups.now) (spelled_by x.classes.now) (meaning_in ts x.meanings.now) z a) (option_map (called (text_of w)) y) (of_object a)) (sym found)

-- the bound names that are left
pub left-none : (o : Option ℕ) → o ≡ option_map_or (λ i. Some i) o None
left-none None = refl
left-none (Some i) = refl

turned-round : (o found : Option ℕ) (b : Bool) (n : ℕ) → option_map_or (λ i. Some i) (option_map_or (λ i. Some i) o (if b then Some n else None)) found ≡ option_map_or (λ i. Some i) o (if b then Some n else found)
turned-round (Some i) found b n = refl
turned-round None found true n = refl
turned-round None found false n = refl

length-texts : (ws : List (Bor Word)) → length (texts_of ws) ≡ length ws
length-texts [] = refl
length-texts (w ∷ ws) = ap suc (length-texts ws)

length-rest : (ws : List (Bor Word)) (j : ℕ) → length (drop j ws) ≡ length ws - j
length-rest ws zero = omega arith
length-rest [] (suc j) = omega arith
length-rest (w ∷ ws) (suc j) = length-rest ws j ∙ omega arith

pub bound-step : (ws : List (Bor Word)) (j : ℕ) (w : Bor Word) (x : List ℕ) (whole found : Option ℕ) (b : Bool) → j < length ws → w ≡ get_or ws j w → b ≡ same_text (text_of w.now) x →
    whole ≡ option_map_or (λ i. Some i) (bound_as x (texts_of (drop j ws))) found →
    whole ≡ option_map_or (λ i. Some i) (bound_as x (texts_of (drop (j + 1) ws))) (if b then Some (length ws - j - 1) else found)
unfolding bound_as
bound-step ws j w x whole found b lt e t h =
    let rest = texts_of (drop (suc j) ws) in
    let split : drop j ws ≡ w ∷ drop (suc j) ws = drop-cons ws j w lt ∙ ap (λ v. v ∷ drop (suc j) ws) (sym e) in
    let count : length rest ≡ length ws - j - 1 = length-texts (drop (suc j) ws) ∙ length-rest ws (suc j) ∙ omega arith in
    h ∙ ap (λ vs. option_map_or (λ i. Some i) (bound_as x (texts_of vs)) found) split
    ∙ (λ k. option_map_or (λ i. Some i) (option_map_or (λ i. Some i) (bound_as x rest) (if sym t k then Some (count k) else None)) found)
    ∙ turned-round (bound_as x rest) found b (length ws - j - 1)
    ∙ (λ k. option_map_or (λ i. Some i) (bound_as x (texts_of (drop (sym (add-one j) k) ws))) (if b then Some (length ws - j - 1) else found))

pub bound-end : (ws : List (Bor Word)) (j : ℕ) (x : List ℕ) (whole found : Option ℕ) → length ws ≤ j → whole ≡ option_map_or (λ i. Some i) (bound_as x (texts_of (drop j ws))) found → found ≡ whole
unfolding bound_as
bound-end ws j x whole found le h = sym (h ∙ ap (λ vs. option_map_or (λ i. Some i) (bound_as x (texts_of vs)) found) (drop_all j ws le))

pub chosen-then : (b : Bool) (n : ℕ) (found new : Option ℕ) → b ≡ true → new ≡ Some n → (if b then Some n else found) ≡ new
chosen-then b n found new h e = ap (λ d. if d then Some n else found) h ∙ sym e

pub chosen-else : (b : Bool) (n : ℕ) (found new : Option ℕ) → b ≡ false → new ≡ found → (if b then Some n else found) ≡ new
chosen-else b n found new h e = ap (λ d. if d then Some n else found) h ∙ sym e
