-- Lists of objects of the universe.
use Rattle.std.proofs.Common.{◌≡◌, refl, ℕ, zero, suc, ◌<◌, Bool, true, false, ◌&&◌, if◌then◌else◌, List, [], ◌∷◌, arith}
use Rattle.std.specs.Prelude.{nat_le}
use Rattle.std.proofs.lemmas.Bool.{leb-true}
use Rattle.std.specs.List.{list_all}
use Rattle.jh_name.specs.Names.{same_name}
use Rattle.jh_name.specs.declared.naming.Name.{Name}
use Rattle.jh_form.specs.Meaning.{InUniverse}
use Rattle.jh_boxed_calls.specs.declared.interpretations.interp.FieldValue.{FieldValue}
use Rattle.jh_boxed_calls.specs.declared.interpretations.interp.FieldValue.TheVariants as kind
use Rattle.jh_boxed_calls.specs.declared.interpretations.interp.Interp.{Interp}
use Rattle.jh_boxed_calls.specs.interpretations.Interps.{first_of, objects_of, are_inside, field_inside, is_inside, interp_of}
use Rattle.jh_sem.specs.Wide.{AreInside}

both-left : (p q : Bool) → (p && q) ≡ true → p ≡ true
both-left true q h = refl
both-left false q h = absurd (cc)

both-right : (p q : Bool) → (p && q) ≡ true → q ≡ true
both-right true q h = h
both-right false q h = absurd (cc)

either-so : {X : Type 0} (P : X → Type 0) (v w : X) (b : Bool) → P v → P w → P (if b then v else w)
either-so P v w true h k = h
either-so P v w false h k = k

-- objects that are tested one by one
pub inside-all : (last : ℕ) (objects : List ℕ) → are_inside last objects ≡ true → AreInside last objects
inside-all last [] h k = omega arith
inside-all last (x ∷ xs) h zero = let le = leb-true x last (both-left (nat_le x last) (are_inside last xs) h) in omega (arith, le)
inside-all last (x ∷ xs) h (suc k) = inside-all last xs (both-right (nat_le x last) (are_inside last xs) h) k

-- the first object for a name
object-so : (last : ℕ) (entries : List (Name × ℕ)) → list_all (λ (e : Name × ℕ). nat_le e.1 last) entries ≡ true → (x : Name) → first_of 0 entries x < suc last
object-so last [] h x = omega arith
object-so last (e ∷ entries) h x =
    let le = leb-true e.1 last (both-left (nat_le e.1 last) (list_all (λ (d : Name × ℕ). nat_le d.1 last) entries) h) in
    either-so (λ v. v < suc last) e.1 (first_of 0 entries x) (same_name e.0 x) (omega (arith, le)) (object-so last entries (both-right (nat_le e.1 last) (list_all (λ (d : Name × ℕ). nat_le d.1 last) entries) h) x)

-- and the first field of objects
objects-so : (last : ℕ) (entries : List (Name × FieldValue)) → list_all (λ (e : Name × FieldValue). field_inside last e.1) entries ≡ true → (x : Name) → AreInside last (first_of [] (objects_of entries) x)
objects-so last [] h x = λ k. omega arith
objects-so last ((y, kind.Obj values) ∷ entries) h x =
    either-so (AreInside last) values (first_of [] (objects_of entries) x) (same_name y x) (inside-all last values (both-left (are_inside last values) (list_all (λ (e : Name × FieldValue). field_inside last e.1) entries) h))
    (objects-so last entries (both-right (are_inside last values) (list_all (λ (e : Name × FieldValue). field_inside last e.1) entries) h) x)
objects-so last ((y, kind.Int values) ∷ entries) h x = objects-so last entries h x
objects-so last ((y, kind.Bool values) ∷ entries) h x = objects-so last entries h x
objects-so last ((y, kind.Set values) ∷ entries) h x = objects-so last entries h x

pub inside-universe : (i : Interp) → is_inside i ≡ true → InUniverse (interp_of i)
inside-universe i h =
    let names = list_all (λ (e : Name × ℕ). nat_le e.1 i.greatest) i.objects in
    let fields = list_all (λ (e : Name × FieldValue). field_inside i.greatest e.1) i.fields in
    record {
      object = λ x. object-so i.greatest i.objects (both-left names fields h) x;
      field = λ x a lt. objects-so i.greatest i.fields (both-right names fields h) x a;
    }

pub ruleset inside_steps = (inside-all, inside-universe)
