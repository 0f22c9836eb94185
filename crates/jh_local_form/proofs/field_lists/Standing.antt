-- What stands for changes and for lists of fields while the table grows.
use Rattle.std.proofs.Common.{◌≡◌, refl, sym, ap, subst, ◌∙◌, ℕ, zero, suc, true, List, [], ◌∷◌, ◌++◌, length, slice_get, Option, Some, None}
use Rattle.std.proofs.lemmas.Option.{none-some}
use Rattle.jh_form.specs.Tree.{FieldTree, ValueTree, of_object, of_field, free_field}
use Rattle.jh_arena.specs.table.Entries.{Listing, are_fields}
use Rattle.jh_arena.specs.table.Growth.{Grows, Extends}
use Rattle.jh_reach.specs.declared.backbones.Base.{Base}
use Rattle.jh_reach.specs.Axioms.{BaseTree, BackboneTree}
use Rattle.jh_reach.specs.Based.{IsBaseAt}
use Rattle.jh_reach.specs.Standing.{AreFields}
use Rattle.jh_reach.proofs.Standings.{fields-grow}
use Rattle.jh_reach.proofs.Basing.{there-grows}
use Rattle.jh_fca.specs.local_form.Chains.{ChangeTree}
use Rattle.jh_local_form.specs.declared.updates.facts.NamedUpdate.{NamedUpdate}
use Rattle.jh_local_form.proofs.updates.Places.{some-same}
use Rattle.jh_local_form.specs.declared.field_lists.backbones.Backbone.{Backbone}
use Rattle.jh_local_form.specs.field_lists.Changing.{IsChange, AreChanges}
use Rattle.jh_local_form.specs.field_lists.Leading.{IsListed, IsBackbone, AreBackbones}

-- ---- changes

pub change-grows : (ts us : List ValueTree) → Grows ts us → (x : NamedUpdate) (c : ChangeTree) → IsChange ts x c → IsChange us x c
change-grows ts us g x c h = record {
  called = g.keeps x.name (of_field (free_field c.name)) h.called;
  on = g.keeps x.field (of_field c.field) h.on;
  for_object = g.keeps x.at (of_object c.at) h.for_object;
  gives = g.keeps x.value (of_object c.value) h.gives;
}

pub changes-grow : (ts us : List ValueTree) → Grows ts us → (xs : List NamedUpdate) (cs : List ChangeTree) → AreChanges ts xs cs → AreChanges us xs cs
unfolding AreChanges
changes-grow ts us g [] [] h = h
changes-grow ts us g [] (c ∷ cs) h = h
changes-grow ts us g (x ∷ xs) [] h = h
changes-grow ts us g (x ∷ xs) (c ∷ cs) h = (change-grows ts us g x c h.0, changes-grow ts us g xs cs h.1)

pub changes-append : (ts : List ValueTree) (xs ys : List NamedUpdate) (cs ds : List ChangeTree) → AreChanges ts xs cs → AreChanges ts ys ds → AreChanges ts (xs ++ ys) (cs ++ ds)
unfolding AreChanges
changes-append ts [] ys [] ds h k = k
changes-append ts [] ys (c ∷ cs) ds h k = absurd h
changes-append ts (x ∷ xs) ys [] ds h k = absurd h
changes-append ts (x ∷ xs) ys (c ∷ cs) ds h k = (h.0, changes-append ts xs ys cs ds h.1 k)

pub change-at : (ts : List ValueTree) (xs : List NamedUpdate) (cs : List ChangeTree) (i : ℕ) (x : NamedUpdate) → AreChanges ts xs cs → slice_get xs i ≡ Some x → (c : ChangeTree) × (slice_get cs i ≡ Some c) × IsChange ts x c
unfolding AreChanges
change-at ts [] cs i x h at = absurd (none-some x at)
change-at ts (y ∷ xs) [] i x h at = absurd h
change-at ts (y ∷ xs) (c ∷ cs) zero x h at = (c, refl, subst (λ (z : NamedUpdate). IsChange ts z c) (some-same y x at) h.0)
change-at ts (y ∷ xs) (c ∷ cs) (suc i) x h at = change-at ts xs cs i x h.1 at

pub changes-length : (ts : List ValueTree) (xs : List NamedUpdate) (cs : List ChangeTree) → AreChanges ts xs cs → length cs ≡ length xs
unfolding AreChanges
changes-length ts [] [] h = refl
changes-length ts [] (c ∷ cs) h = absurd h
changes-length ts (x ∷ xs) [] h = absurd h
changes-length ts (x ∷ xs) (c ∷ cs) h = ap suc (changes-length ts xs cs h.1)

-- ---- backbones

pub base-grows : (t u : Listing) → Extends t u → (w : Option Base) (b : Option BaseTree) → IsBaseAt t w b → IsBaseAt u w b
unfolding IsBaseAt
base-grows t u g None None h = h
base-grows t u g None (Some b) h = h
base-grows t u g (Some w) None h = h
base-grows t u g (Some w) (Some b) h = there-grows t u w b g h

pub listed-grows : (t u : Listing) → Extends t u → (list : ℕ) (fs : List FieldTree) → IsListed t list fs → IsListed u list fs
listed-grows t u g list fs h = record { items = h.items; listed = g.lists.keeps list h.items h.listed; fields = fields-grow t u h.items fs g h.fields }

pub backbone-grows : (t u : Listing) → Extends t u → (x : Backbone) (b : BackboneTree) → IsBackbone t x b → IsBackbone u x b
backbone-grows t u g x b h = record { list = listed-grows t u g x.list b.fields h.list; base = base-grows t u g x.base b.base h.base; known = h.known }

pub backbones-grow : (t u : Listing) → Extends t u → (xs : List Backbone) (bs : List BackboneTree) → AreBackbones t xs bs → AreBackbones u xs bs
unfolding AreBackbones
backbones-grow t u g [] [] h = h
backbones-grow t u g [] (b ∷ bs) h = h
backbones-grow t u g (x ∷ xs) [] h = h
backbones-grow t u g (x ∷ xs) (b ∷ bs) h = (backbone-grows t u g x b h.0, backbones-grow t u g xs bs h.1)

pub backbones-length : (t : Listing) (xs : List Backbone) (bs : List BackboneTree) → AreBackbones t xs bs → length bs ≡ length xs
unfolding AreBackbones
backbones-length t [] [] h = refl
backbones-length t [] (b ∷ bs) h = absurd h
backbones-length t (x ∷ xs) [] h = absurd h
backbones-length t (x ∷ xs) (b ∷ bs) h = ap suc (backbones-length t xs bs h.1)

pub backbones-push : (t : Listing) (xs : List Backbone) (bs : List BackboneTree) (x : Backbone) (b : BackboneTree) → AreBackbones t xs bs → IsBackbone t x b → AreBackbones t (xs ++ x ∷ []) (bs ++ b ∷ [])
unfolding AreBackbones
backbones-push t [] [] x b h k = (k, tt)
backbones-push t [] (c ∷ bs) x b h k = absurd h
backbones-push t (y ∷ xs) [] x b h k = absurd h
backbones-push t (y ∷ xs) (c ∷ bs) x b h k = (h.0, backbones-push t xs bs x b h.1 k)

pub backbone-at : (t : Listing) (xs : List Backbone) (bs : List BackboneTree) (i : ℕ) (x : Backbone) → AreBackbones t xs bs → slice_get xs i ≡ Some x → (b : BackboneTree) × (slice_get bs i ≡ Some b) × IsBackbone t x b
unfolding AreBackbones
backbone-at t [] bs i x h at = absurd (none-some x at)
backbone-at t (y ∷ xs) [] i x h at = absurd h
backbone-at t (y ∷ xs) (b ∷ bs) zero x h at = (b, refl, subst (λ (z : Backbone). IsBackbone t z b) (some-same y x at) h.0)
backbone-at t (y ∷ xs) (b ∷ bs) (suc i) x h at = backbone-at t xs bs i x h.1 at

pub backbones-none : (t : Listing) (xs : List Backbone) → xs ≡ [] → AreBackbones t xs []
unfolding AreBackbones
backbones-none t xs e = subst (λ (ys : List Backbone). AreBackbones t ys []) (sym e) tt

pub changes-none : (ts : List ValueTree) (xs : List NamedUpdate) → xs ≡ [] → AreChanges ts xs []
unfolding AreChanges
changes-none ts xs e = subst (λ (ys : List NamedUpdate). AreChanges ts ys []) (sym e) tt

-- ---- the same nodes, said otherwise

pub backbones-as : (t : Listing) (xs ys : List Backbone) (bs : List BackboneTree) → ys ≡ xs → AreBackbones t xs bs → AreBackbones t ys bs
backbones-as t xs ys bs e h = subst (λ (zs : List Backbone). AreBackbones t zs bs) (sym e) h

pub fields-as : (t : Listing) (ns ms : List ℕ) (fs : List FieldTree) → ms ≡ ns → AreFields t ns fs → AreFields t ms fs
fields-as t ns ms fs e h = subst (λ (ks : List ℕ). AreFields t ks fs) (sym e) h

pub are-as : (ts : List ValueTree) (ns ms : List ℕ) → ms ≡ ns → are_fields ts ns ≡ true → are_fields ts ms ≡ true
are-as ts ns ms e h = ap (are_fields ts) e ∙ h
