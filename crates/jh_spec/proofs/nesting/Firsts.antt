-- The first token that is nested too deep.
use Rattle.std.proofs.Common.{◌≡◌, ℕ, zero, suc, ◌<◌, ◌≤◌, Bool, true, false, List, [], ◌∷◌, length, refl, sym, arith}
use Rattle.std.proofs.lemmas.Option.{none-some}
use Rattle.std.specs.Prelude.{nat_lt, if◌then◌else◌, slice_index, slice_get, None, Some}
use Rattle.std.specs.Option.{option_map_or}
use Rattle.jh_name.specs.declared.place.Place.{Place}
use Rattle.jh_lex.specs.declared.lexer.mode.Mode.{Mode}
use Rattle.jh_lex.specs.declared.lexer.token.Token.{Token}
use Rattle.jh_lex.specs.lexer.Modes.{mode_after}
use Rattle.jh_spec.specs.nesting.Nesting.{nesting, with_token, behind_token, goes_on, nestings, first_deep}

-- an index of the first deep one
pub record Deep (ns : List ℕ) (ts : List Token) (p : Place) : Type 0 where
  pub index : ℕ
  pub within : index < length ts
  pub deep : 64 < slice_index ns index
  pub first : (k : ℕ) → k < index → slice_index ns k ≤ 64
  pub place : option_map_or (λ (t : Token). Some t.place) (slice_get ts index) None ≡ Some p

next_deep : (n : ℕ) (ns : List ℕ) (t : Token) (ts : List Token) (p : Place) → n ≤ 64 → Deep ns ts p → Deep (n ∷ ns) (t ∷ ts) p
next_deep n ns t ts p small d = record {
  index = suc d.index;
  within = omega (arith, d.within);
  deep = d.deep;
  first = before;
  place = d.place;
} where
  before : (k : ℕ) → k < suc d.index → slice_index (n ∷ ns) k ≤ 64
  before zero h = small
  before (suc k) h = d.first k (omega (arith, h))

pub deep-first : (ns : List ℕ) (ts : List Token) (p : Place) → first_deep ns ts ≡ Some p → Deep ns ts p
deep-first [] ts p e = absurd (none-some p e)
deep-first (n ∷ ns) [] p e = absurd (none-some p e)
deep-first (n ∷ ns) (t ∷ ts) p e = by_test (nat_lt 64 n) refl e (deep-first ns ts p) where
  by_test : (b : Bool) → nat_lt 64 n ≡ b → (if b then Some t.place else first_deep ns ts) ≡ Some p → (first_deep ns ts ≡ Some p → Deep ns ts p) → Deep (n ∷ ns) (t ∷ ts) p
  by_test true h e go = record { index = 0; within = omega arith; deep = grind (arith, h); first = λ k j. absurd (omega (arith, j)); place = e }
  by_test false h e go = next_deep n ns t ts p (grind (arith, h)) (go e)

pub none-deep : (m : Mode) (ls : List ℕ) (ts : List Token) → first_deep (nestings m ls ts) ts ≡ None → (k : ℕ) → k < length ts → slice_index (nestings m ls ts) k ≤ 64
none-deep m ls [] e k h = absurd (omega (arith, h))
none-deep m ls (t ∷ ts) e k h = by_test (nat_lt 64 (nesting (with_token m t.kind ls))) refl e k h (λ e k h. none-deep (mode_after m t.kind) (behind_token m t.kind (goes_on m t.kind ts) (with_token m t.kind ls)) ts e k h) where
  by_test : (b : Bool) → nat_lt 64 (nesting (with_token m t.kind ls)) ≡ b → (if b then Some t.place else first_deep (nestings (mode_after m t.kind) (behind_token m t.kind (goes_on m t.kind ts) (with_token m t.kind ls)) ts) ts) ≡ None → (k : ℕ) → k < length (t ∷ ts)
      → (first_deep (nestings (mode_after m t.kind) (behind_token m t.kind (goes_on m t.kind ts) (with_token m t.kind ls)) ts) ts ≡ None → (k : ℕ) → k < length ts → slice_index (nestings (mode_after m t.kind) (behind_token m t.kind (goes_on m t.kind ts) (with_token m t.kind ls)) ts) k ≤ 64)
      → slice_index (nestings m ls (t ∷ ts)) k ≤ 64
  by_test true q e k h go = absurd (none-some t.place (sym e))
  by_test false q e zero h go = grind (arith, q)
  by_test false q e (suc k) h go = go e k (omega (arith, h))
