-- Questions why nodes are one, answered by others.
use Rattle.std.proofs.Common.{◌≡◌, refl, sym, ap, subst, ◌∙◌, ℕ, zero, suc, ◌+◌, ◌*◌, ◌<◌, ◌≤◌, Bool, true, false, List, [], ◌∷◌, ◌++◌, length, set, get_or, replicate, slice_get, ◌⊎◌, inl, inr, Some, arith}
use Rattle.std.proofs.lemmas.Bool.{true≢false}
use Rattle.std.proofs.lemmas.Bool.Decides.{eqb_tells}
use Rattle.std.proofs.lemmas.List.{get_or-set_other, get_or-replicate, length-set, length-replicate}
use Rattle.std.proofs.lemmas.Option.{slice_get_within, slice_get-get_or, get_or_from_slice_get}
use Rattle.jh_closure.specs.declared.union_find.merge.Joint.{Joint}
use Rattle.jh_closure.specs.declared.union_find.merge.Merge.{Merge}
use Rattle.jh_closure.specs.declared.union_find.merge.Why.{Why}
use Rattle.jh_closure.specs.declared.union_find.merge.Why.TheVariants as why
use Rattle.jh_closure.specs.union_find.Merges.{root, IsJoint}
use Rattle.jh_closure.proofs.union_find.Rooting.{below-next, one-merge}
use Rattle.jh_closure.specs.declared.congruence_closure.equation.Equation.{Equation}
use Rattle.jh_closure.specs.declared.congruence_closure.explaining.Question.{Question}
use Rattle.jh_closure.specs.declared.congruence_closure.node.Node.{Node}
use Rattle.jh_closure.specs.declared.congruence_closure.node.Node.TheVariants as n
use Rattle.jh_closure.specs.congruence_closure.Nodes.{sig, EachPart, Has, Structure, Gives, MeetsListed, node_value}
use Rattle.jh_closure.specs.congruence_closure.Closing.{IsTrail, Justified}
use Rattle.jh_closure.specs.congruence_closure.Explaining.{IsQuestion, AreQuestions, EqualUpTo, Explains, effort, efforts}
use Rattle.jh_closure.proofs.congruence_closure.Having.{has-left, has-last, has-pushed}
use Rattle.jh_closure.proofs.congruence_closure.Signing.{node-at}

abbrev pub question : ℕ → ℕ → ℕ → Question
question a b t = record { left = a; right = b; before = t }

-- efforts
pub efforts-push : (qs : List Question) (q : Question) → efforts (qs ++ q ∷ []) ≡ efforts qs + effort q.before
efforts-push [] q = omega arith
efforts-push (x ∷ qs) q = let r : efforts (qs ++ q ∷ []) ≡ efforts qs + effort q.before = efforts-push qs q in omega (arith, r)

pub effort-some : (t : ℕ) → 1 ≤ effort t
effort-some zero = omega arith
effort-some (suc t) = let r : 1 ≤ effort t = effort-some t in omega (arith, r)

pub effort-grows : (t b : ℕ) → t < b → 5 * effort t ≤ effort b
effort-grows t zero h = absurd (omega (arith, h))
effort-grows t (suc b) h = elim (below-next t b h) [
  | inl less ↦ let r : 5 * effort t ≤ effort b = effort-grows t b less in omega (arith, r)
  | inr same ↦ subst (λ z. 5 * effort t ≤ 5 * effort z) same (omega arith)
]

-- one more question
pub questions-push : (ms : List Merge) (m : ℕ) (qs : List Question) (q : Question) → IsQuestion ms m q → AreQuestions ms m qs → AreQuestions ms m (qs ++ q ∷ [])
questions-push ms m qs q one all x h = elim (has-pushed qs q x h) [ inl old ↦ all x old | inr same ↦ subst (λ (z : Question). IsQuestion ms m z) same one ]

-- the parts of two nodes of one signature
module _ (f : ℕ → ℕ) (o a b q c d : ℕ) (h : sig f (n.Apply o a b) ≡ sig f (n.Apply q c d)) where
  same-operation : o ≡ q
  same-operation = cc

  same-left : f a ≡ f c
  same-left = cc

  same-right : f b ≡ f d
  same-right = cc

  pub same-parts : (o ≡ q) × (f a ≡ f c) × (f b ≡ f d)
  same-parts = (same-operation, same-left, same-right)

module _ (f : ℕ → ℕ) (left right : Node) (o a b q c d : ℕ) (l : left ≡ n.Apply o a b) (r : right ≡ n.Apply q c d) (h : sig f left ≡ sig f right) where
  parts-same : (o ≡ q) × (f a ≡ f c) × (f b ≡ f d)
  parts-same = same-parts f o a b q c d (sym (ap (sig f) l) ∙ (h ∙ ap (sig f) r))

  pub parts-value : (s : Structure ℕ) (at : ℕ → ℕ) → at a ≡ at c → at b ≡ at d → node_value s at left ≡ node_value s at right
  parts-value s at x y = ap (node_value s at) l ∙ ((λ i. s.apply (parts-same.0 i) (x i) (y i)) ∙ sym (ap (node_value s at) r))

pub parts-asked : (ms : List Merge) (t m : ℕ) (left right : Node) (o a b q c d : ℕ) → left ≡ n.Apply o a b → right ≡ n.Apply q c d → t ≤ length ms → sig (root ms t) left ≡ sig (root ms t) right →
    EachPart (λ p. p < m) left → EachPart (λ p. p < m) right → IsQuestion ms m (question a c t) × IsQuestion ms m (question b d t)
parts-asked ms t m left right o a b q c d l r lt h il ir =
    let e = same-parts (root ms t) o a b q c d (sym (ap (sig (root ms t)) l) ∙ (h ∙ ap (sig (root ms t)) r)) in
    let x : EachPart (λ p. p < m) (n.Apply o a b) = subst (λ z. EachPart (λ p. p < m) z) l il in
    let y : EachPart (λ p. p < m) (n.Apply q c d) = subst (λ z. EachPart (λ p. p < m) z) r ir in
    (record { before = lt; left = x.0; right = y.0; same = e.1 }, record { before = lt; left = x.1; right = y.1; same = e.2 })

-- a leaf and an application have two signatures
pub leaf-apply : (f : ℕ → ℕ) (left right : Node) (o q c d : ℕ) → left ≡ n.Leaf o → right ≡ n.Apply q c d → sig f left ≡ sig f right → ⊥
leaf-apply f left right o q c d l r h = let e : n.Leaf o ≡ n.Apply q (f c) (f d) = sym (ap (sig f) l) ∙ (h ∙ ap (sig f) r) in cc

-- two more questions of the same merges
module _ (qs new : List Question) (q r : Question) (e : new ≡ (qs ++ q ∷ []) ++ r ∷ []) where
  pub two-kept : (x : Question) → Has qs x → Has new x
  two-kept x h = subst (λ (zs : List Question). Has zs x) (sym e) (has-left (qs ++ q ∷ []) (r ∷ []) x (has-left qs (q ∷ []) x h))

  pub two-first : Has new q
  two-first = subst (λ (zs : List Question). Has zs q) (sym e) (has-left (qs ++ q ∷ []) (r ∷ []) q (has-last qs q))

  pub two-second : Has new r
  two-second = subst (λ (zs : List Question). Has zs r) (sym e) (has-last (qs ++ q ∷ []) r)

  pub two-only : (t : ℕ) → q.before ≡ t → r.before ≡ t → (x : Question) → Has new x → Has qs x ⊎ (x.before ≡ t)
  two-only t a b x h = elim (has-pushed (qs ++ q ∷ []) r x (subst (λ (zs : List Question). Has zs x) e h)) [
    | inl old ↦ elim (has-pushed qs q x old) [ inl first ↦ inl first | inr same ↦ inr (ap (λ (z : Question). z.before) (sym same) ∙ a) ]
    | inr same ↦ inr (ap (λ (z : Question). z.before) (sym same) ∙ b)
  ]

  pub two-asked : (ms : List Merge) (m : ℕ) → IsQuestion ms m q → IsQuestion ms m r → AreQuestions ms m qs → AreQuestions ms m new
  two-asked ms m a b all x h = questions-push ms m (qs ++ q ∷ []) r b (questions-push ms m qs q a all) x (subst (λ (zs : List Question). Has zs x) e h)

  pub two-efforts : (t : ℕ) → q.before ≡ t → r.before ≡ t → efforts new ≡ efforts qs + 2 * effort t
  two-efforts t a b =
      let x : efforts new ≡ efforts ((qs ++ q ∷ []) ++ r ∷ []) = ap efforts e in
      let y = efforts-push (qs ++ q ∷ []) r in
      let z = efforts-push qs q in
      let u : effort q.before ≡ effort t = ap effort a in
      let v : effort r.before ≡ effort t = ap effort b in
      omega (arith, x, y, z, u, v)

-- what an equation gives, and what one signature gives
pub given-inside : (ns : List Node) (said : List Equation) (f : ℕ → ℕ) (w : Why) (a b i : ℕ) → w ≡ why.Given i → Justified ns said f w a b → i < length said
given-inside ns said f w a b i e h = inside (subst (λ z. Justified ns said f z a b) e h)
  where
    inside : Justified ns said f (why.Given i) a b → i < length said
    inside (inl s) = slice_get_within said i (record { left = a; right = b }) s
    inside (inr s) = slice_get_within said i (record { left = b; right = a }) s

pub given-value : (ns : List Node) (said : List Equation) (f : ℕ → ℕ) (w : Why) (a b i : ℕ) → w ≡ why.Given i → Justified ns said f w a b → (at : ℕ → ℕ) (listed : List ℕ) → MeetsListed at said listed → Has listed i → at a ≡ at b
given-value ns said f w a b i e h at listed met here = value (subst (λ z. Justified ns said f z a b) e h)
  where
    value : Justified ns said f (why.Given i) a b → at a ≡ at b
    value (inl s) = met i (record { left = a; right = b }) here s
    value (inr s) = sym (met i (record { left = b; right = a }) here s)

pub alike-signature : (ns : List Node) (said : List Equation) (f : ℕ → ℕ) (w : Why) (a b : ℕ) (x y : Node) → w ≡ why.Alike → Justified ns said f w a b → slice_get ns a ≡ Some x → slice_get ns b ≡ Some y → sig f x ≡ sig f y
alike-signature ns said f w a b x y e h hx hy =
    let j : Justified ns said f why.Alike a b = subst (λ z. Justified ns said f z a b) e h in
    ap (sig f) (node-at ns a x j.0 hx j.2) ∙ (j.4 ∙ ap (sig f) (node-at ns b j.1 y j.3 hy))

-- the merge that joined two nodes, and what is asked of it
module _ (ns : List Node) (said : List Equation) (ms : List Merge) (r : IsTrail ns said ms) (q : Question) (i : IsQuestion ms (length ns) q) (j : Joint) (is : IsJoint ms q.left q.right j) (early : j.time < q.before)
    (m : Merge) (here : slice_get ms j.time ≡ Some m) where
  merge-is : is.merge ≡ m
  merge-is = one-merge (slice_get ms j.time) is.merge m is.here here

  time-inside : j.time ≤ length ms
  time-inside = let a = i.before in omega (arith, a, early)

  pub goes-asked : IsQuestion ms (length ns) (question j.goes m.left j.time)
  goes-asked = record {
    before = time-inside;
    left = elim is.sides [ inl s ↦ subst (λ z. z < length ns) (sym s.0) i.left | inr s ↦ subst (λ z. z < length ns) (sym s.0) i.right ];
    right = r.left_inside j.time m here;
    same = is.goes ∙ (ap (λ (x : Merge). x.small) merge-is ∙ sym (r.left j.time m here));
  }

  pub stays-asked : IsQuestion ms (length ns) (question m.right j.stays j.time)
  stays-asked = record {
    before = time-inside;
    left = r.right_inside j.time m here;
    right = elim is.sides [ inl s ↦ subst (λ z. z < length ns) (sym s.1) i.right | inr s ↦ subst (λ z. z < length ns) (sym s.1) i.left ];
    same = r.right j.time m here ∙ (ap (λ (x : Merge). x.large) (sym merge-is) ∙ sym is.stays);
  }

-- a merge that is marked as used was marked before, or it is this one
pub used-cases : (used : List Bool) (time t : ℕ) → slice_get (set used time true) t ≡ Some true → (t ≡ time) ⊎ (slice_get used t ≡ Some true)
used-cases used time t h = elim (eqb_tells t time) [
  | inl same ↦ inl same.1
  | inr other ↦
      let l : t < length (set used time true) = slice_get_within (set used time true) t true h in
      let e : length (set used time true) ≡ length used = rw length-set refl in
      let g : get_or used t false ≡ true = sym (get_or-set_other used time t true false other.1) ∙ get_or_from_slice_get (set used time true) t true false h in
      inr (slice_get-get_or used t false (omega (arith, l, e)) ∙ ap Some g)
]

module _ (ns : List Node) (said : List Equation) (ms : List Merge) (q : Question) (j : Joint) (is : IsJoint ms q.left q.right j) (early : j.time < q.before) (m : Merge) (here : slice_get ms j.time ≡ Some m)
    (asked more : List Question) (listed longer : List ℕ) (used marked : List Bool) (left right : ℕ) (h : Explains ns said ms listed used (asked ++ q ∷ []) left right)
    (keeps : (x : Question) → Has asked x → Has more x) (goes : Has more (question j.goes m.left j.time)) (stays : Has more (question m.right j.stays j.time))
    (lists : (i : ℕ) → Has listed i → Has longer i) (numbers : (i : ℕ) → Has longer i → Has listed i ⊎ (i < length said))
    (marks : (t : ℕ) → slice_get marked t ≡ Some true → (t ≡ j.time) ⊎ (slice_get used t ≡ Some true))
    (right-merge : (s : Structure ℕ) (at : ℕ → ℕ) → Gives s ns at → MeetsListed at said longer → EqualUpTo at more j.time → at m.left ≡ at m.right) where
  -- the question is answered by what is asked in its place
  answered : (s : Structure ℕ) (at : ℕ → ℕ) → Gives s ns at → MeetsListed at said longer → (u : ℕ) → j.time ≤ u → EqualUpTo at more u → at q.left ≡ at q.right
  answered s at g met u le eq =
      let one : at j.goes ≡ at m.left = eq (question j.goes m.left j.time) goes le in
      let two : at m.left ≡ at m.right = right-merge s at g met (λ x w l. eq x w (omega (arith, l, le))) in
      let three : at m.right ≡ at j.stays = eq (question m.right j.stays j.time) stays le in
      let all : at j.goes ≡ at j.stays = one ∙ (two ∙ three) in
      elim is.sides [ inl s ↦ ap at (sym s.0) ∙ (all ∙ ap at s.1) | inr s ↦ ap at (sym s.1) ∙ (sym all ∙ ap at s.0) ]

  met-before : (at : ℕ → ℕ) → MeetsListed at said longer → MeetsListed at said listed
  met-before at met i e w here = met i e (lists i w) here

  pub explains-answered : Explains ns said ms longer marked more left right
  explains-answered = record {
    leads = λ s at g met all. h.leads s at g (met-before at met) (λ x w. elim (has-pushed asked q x w) [
      | inl old ↦ all x (keeps x old)
      | inr same ↦ subst (λ (z : Question). at z.left ≡ at z.right) same (answered s at g met j.time (omega arith) (λ y v l. all y v))
    ]);
    merges = λ s at g met t k us there eq. elim (marks t us) [
      | inl now ↦ subst (λ (z : Merge). at z.left ≡ at z.right) (one-merge (slice_get ms t) m k (ap (slice_get ms) now ∙ here) there) (right-merge s at g met (λ x w l. eq x w (subst (λ z. x.before ≤ z) (sym now) l)))
      | inr before ↦ h.merges s at g (met-before at met) t k before there (λ x w l. elim (has-pushed asked q x w) [
        | inl old ↦ eq x (keeps x old) l
        | inr same ↦
            let b : q.before ≤ t = subst (λ (z : Question). z.before ≤ t) (sym same) l in
            subst (λ (z : Question). at z.left ≡ at z.right) same (answered s at g met t (omega (arith, b, early)) eq)
      ])
    ];
    numbers = λ i w. elim (numbers i w) [ inl old ↦ h.numbers i old | inr new ↦ new ];
  }

-- a merge that was used before is right
pub used-right : (ns : List Node) (said : List Equation) (ms : List Merge) (q : Question) (j : Joint) (is : IsJoint ms q.left q.right j) (early : j.time < q.before) (m : Merge) (here : slice_get ms j.time ≡ Some m)
    (asked more : List Question) (listed : List ℕ) (used : List Bool) (left right : ℕ) → Explains ns said ms listed used (asked ++ q ∷ []) left right → ((x : Question) → Has asked x → Has more x) →
    slice_get used j.time ≡ Some true → (s : Structure ℕ) (at : ℕ → ℕ) → Gives s ns at → MeetsListed at said listed → EqualUpTo at more j.time → at m.left ≡ at m.right
used-right ns said ms q j is early m here asked more listed used left right h keeps us s at g met eq = h.merges s at g met j.time m us here (λ x w l. elim (has-pushed asked q x w) [
  | inl old ↦ eq x (keeps x old) l
  | inr same ↦ absurd (let b : q.before ≤ j.time = subst (λ (z : Question). z.before ≤ j.time) (sym same) l in omega (arith, b, early))
])

-- a question about one node
pub explains-same : (ns : List Node) (said : List Equation) (ms : List Merge) (listed : List ℕ) (used : List Bool) (asked : List Question) (q : Question) (left right : ℕ) → q.left ≡ q.right →
    Explains ns said ms listed used (asked ++ q ∷ []) left right → Explains ns said ms listed used asked left right
explains-same ns said ms listed used asked q left right e h = record {
  leads = λ s at g met all. h.leads s at g met (λ x w. elim (has-pushed asked q x w) [ inl old ↦ all x old | inr same ↦ subst (λ (z : Question). at z.left ≡ at z.right) same (ap at e) ]);
  merges = λ s at g met t k us there eq. h.merges s at g met t k us there (λ x w l. elim (has-pushed asked q x w) [ inl old ↦ eq x old l | inr same ↦ subst (λ (z : Question). at z.left ≡ at z.right) same (ap at e) ]);
  numbers = h.numbers;
}

-- nothing is marked at first
pub none-used : (count t : ℕ) → slice_get (replicate count false) t ≡ Some true → ⊥
none-used count t h =
    let l : t < length (replicate count false) = slice_get_within (replicate count false) t true h in
    let e : length (replicate count false) ≡ count = length-replicate count false in
    true≢false (sym (get_or_from_slice_get (replicate count false) t true false h) ∙ get_or-replicate count t false false (omega (arith, l, e)))

pub explains-first : (ns : List Node) (said : List Equation) (ms : List Merge) (count : ℕ) (q : Question) → Explains ns said ms [] (replicate count false) (q ∷ []) q.left q.right
explains-first ns said ms count q = record {
  leads = λ s at g met all. all q (inl refl);
  merges = λ s at g met t k us there eq. absurd (none-used count t us);
  numbers = λ i w. absurd w;
}
