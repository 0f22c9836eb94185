-- Where the lines of some lists end.
use Rattle.std.proofs.Common.{◌≡◌, refl, sym, ap, ◌∙◌, arith, ℕ, zero, suc, List, [], ◌∷◌, ◌++◌, length, map, drop, append-nil}
use Rattle.std.specs.Borrow.{Bor}
use Rattle.std.specs.Prelude.{min}
use Rattle.jh_store.specs.heaps.Cells.{cell_in}
use Rattle.jh_store.specs.declared.heaps.cells.Cell.{Cell}
use Rattle.jh_semantics.specs.Code.{Text}
use Rattle.jh_heap.specs.text.Outlines as o
use Rattle.jh_heap.specs.text.Writing.{classes_text, statics_text, fields_text}
use Rattle.jh_heap.specs.text.Held.{texts_in, holders_in}
use Rattle.jh_heap.specs.declared.text.outline.Holder.{Holder}

classes-none : (cs : List Text) → classes_text cs [] ≡ []
classes-none [] = refl
classes-none (c ∷ cs) = refl

statics-none : (hs : List o.Holder) → statics_text hs [] ≡ []
statics-none [] = refl
statics-none (c ∷ cs) = refl

fields-none : (hs : List o.Holder) → fields_text hs [] ≡ []
fields-none [] = refl
fields-none (c ∷ cs) = refl

pub classes_end : (cs : List (Bor (List ℕ))) (xs : List (List ℕ)) (n : ℕ) → n ≡ min (length cs) (length xs) → classes_text (texts_in (drop n cs)) (drop n xs) ≡ []
classes_end [] xs zero e = refl
classes_end [] xs (suc n) e = refl
classes_end (c ∷ cs) [] zero e = refl
classes_end (c ∷ cs) [] (suc n) e = classes-none (texts_in (drop n cs))
classes_end (c ∷ cs) (x ∷ xs) zero e = absurd (omega (arith, e))
classes_end (c ∷ cs) (x ∷ xs) (suc n) e = classes_end cs xs n (omega (arith, e))

pub statics_end : (cs : List Holder) (xs : List Cell) (n : ℕ) → n ≡ min (length cs) (length xs) → statics_text (holders_in (drop n cs)) (map cell_in (drop n xs)) ≡ []
statics_end [] xs zero e = refl
statics_end [] xs (suc n) e = refl
statics_end (c ∷ cs) [] zero e = refl
statics_end (c ∷ cs) [] (suc n) e = statics-none (holders_in (drop n cs))
statics_end (c ∷ cs) (x ∷ xs) zero e = absurd (omega (arith, e))
statics_end (c ∷ cs) (x ∷ xs) (suc n) e = statics_end cs xs n (omega (arith, e))

pub fields_end : (cs : List Holder) (xs : List (List Cell)) (n : ℕ) → n ≡ min (length cs) (length xs) → fields_text (holders_in (drop n cs)) (map (map cell_in) (drop n xs)) ≡ []
fields_end [] xs zero e = refl
fields_end [] xs (suc n) e = refl
fields_end (c ∷ cs) [] zero e = refl
fields_end (c ∷ cs) [] (suc n) e = fields-none (holders_in (drop n cs))
fields_end (c ∷ cs) (x ∷ xs) zero e = absurd (omega (arith, e))
fields_end (c ∷ cs) (x ∷ xs) (suc n) e = fields_end cs xs n (omega (arith, e))

-- what is left of a text at the end of some lines
pub end_is : (now first rest end : List ℕ) → end ≡ [] → now ++ end ≡ first ++ rest → now ≡ first ++ rest
end_is now first rest end e h = sym (ap (λ xs. now ++ xs) e ∙ append-nil now) ∙ h
