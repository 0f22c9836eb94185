-- The faults of a class are those of its parts.
use Rattle.std.proofs.Common.{◌≡◌, refl, sym, ap, ◌∙◌, ℕ, ◌+◌, ◌≤◌, ◌<◌, Bool, List, [], ◌∷◌, ◌++◌, map, length, drop, get_or, Option}
use Rattle.std.specs.List.{flat_map}
use Rattle.std.proofs.lemmas.List.{drop_all, append_assoc}
use Rattle.jh_ast.specs.declared.word.Word.{Word}
use Rattle.jh_ast.specs.declared.program.Class.{Class}
use Rattle.jh_ast.specs.declared.program.Field.{Field}
use Rattle.jh_ast.specs.declared.program.Method.{Method}
use Rattle.jh_ast.specs.declared.program.SpecVar.{SpecVar}
use Rattle.jh_ast.specs.declared.spec.Labelled.{Labelled}
use Rattle.jh_ast.specs.Programs.{ProgramTree, ClassPart, DefPart}
use Rattle.jh_ast.specs.Bare.{class_part, method_part, field_part, var_part, def_part, labelled_part}
use Rattle.jh_rules.specs.declared.fault.Fault.{Fault}
use Rattle.jh_rules.specs.Found.{least, lesser}
use Rattle.jh_rules.specs.Names.{Declared, member_word, members_of}
use Rattle.jh_rules.specs.Names as n
use Rattle.jh_rules.specs.Words.{used_before}
use Rattle.jh_rules.specs.Statements.{class_faults, classes_faults}
use Rattle.jh_rules.proofs.Judgements.{least-append, lesser-assoc, lesser-none}
use Rattle.jh_symbols.proofs.scopes.Lists.{drop-at}
use Rattle.jh_type.specs.checker.Parts.{member_faults, label_faults, member_words, label_words_of, def_words, words_of, class_names}
use Rattle.jh_type.specs.checker.Parts as parts
use Rattle.jh_type.specs.checker.Wholes as wholes
use Rattle.jh_type.specs.checker.Wholes.{all_classes}
use Rattle.jh_type.proofs.checker.Leasts.{flat-mapped}

map-append : {A B : Type 0} (f : A → B) (xs ys : List A) → map f (xs ++ ys) ≡ map f xs ++ map f ys
map-append f [] ys = refl
map-append f (x ∷ xs) ys = ap (λ zs. f x ∷ zs) (map-append f xs ys)

pub map-twice : {A B C : Type 0} (f : B → C) (g : A → B) (xs : List A) → map f (map g xs) ≡ map (λ x. f (g x)) xs
map-twice f g [] = refl
map-twice f g (x ∷ xs) = ap (λ ys. f (g x) ∷ ys) (map-twice f g xs)

flat-append : {A B : Type 0} (f : A → List B) (xs ys : List A) → flat_map f (xs ++ ys) ≡ flat_map f xs ++ flat_map f ys
flat-append f [] ys = refl
flat-append f (x ∷ xs) ys = ap (λ zs. f x ++ zs) (flat-append f xs ys) ∙ sym (append_assoc (f x) (flat_map f xs) (flat_map f ys))

pub flat-flat : {A B C : Type 0} (g : B → List C) (f : A → List B) (xs : List A) → flat_map g (flat_map f xs) ≡ flat_map (λ a. flat_map g (f a)) xs
flat-flat g f [] = refl
flat-flat g f (x ∷ xs) = flat-append g (f x) (flat_map f xs) ∙ ap (λ zs. flat_map g (f x) ++ zs) (flat-flat g f xs)

abbrev fields_of : Class → List n.MemberPart
fields_of c = map n.field (map field_part c.fields)

abbrev methods_of : Class → List n.MemberPart
methods_of c = map n.method (map method_part c.methods)

abbrev vars_of : Class → List n.MemberPart
vars_of c = map n.var (map var_part c.vars)

-- the words of the members of a class
words-is : (c : Class) → map member_word (fields_of c ++ methods_of c ++ vars_of c) ≡ member_words c
unfolding method_part
words-is c =
    map-append member_word (fields_of c ++ methods_of c) (vars_of c)
    ∙ (λ i. (map-append member_word (fields_of c) (methods_of c) ∙ (λ j. (map-twice member_word n.field (map field_part c.fields) ∙ map-twice (λ x. member_word (n.field x)) field_part c.fields) j ++ (map-twice member_word n.method (map method_part c.methods) ∙ map-twice (λ x. member_word (n.method x)) method_part c.methods) j)) i
    ++ (map-twice member_word n.var (map var_part c.vars) ∙ map-twice (λ x. member_word (n.var x)) var_part c.vars) i)

-- the faults in the names of the members
names-split : (b : Word → Bool) (c : Class) → flat_map (λ x. member_faults b (member_word x)) (fields_of c ++ methods_of c ++ vars_of c) ≡ flat_map (λ (x : Field). member_faults b x.name) c.fields ++ flat_map (λ (x : Method). member_faults b x.name) c.methods ++ flat_map (λ (x : SpecVar). member_faults b x.name) c.vars
unfolding method_part
names-split b c =
    let f : n.MemberPart → List Fault = λ x. member_faults b (member_word x) in
    flat-append f (fields_of c ++ methods_of c) (vars_of c)
    ∙ (λ i. (flat-append f (fields_of c) (methods_of c) ∙ (λ j. (flat-mapped f n.field (map field_part c.fields) ∙ flat-mapped (λ x. f (n.field x)) field_part c.fields) j ++ (flat-mapped f n.method (map method_part c.methods) ∙ flat-mapped (λ x. f (n.method x)) method_part c.methods) j)) i
    ++ (flat-mapped f n.var (map var_part c.vars) ∙ flat-mapped (λ x. f (n.var x)) var_part c.vars) i)

pub members-is : (b : Word → Bool) (c : Class) (x y z o : Option Fault) → ((w : Word) → b w ≡ used_before (member_words c) w) → x ≡ least (flat_map (λ (f : Field). member_faults b f.name) c.fields) → y ≡ least (flat_map (λ (f : Method). member_faults b f.name) c.methods) → z ≡ least (flat_map (λ (f : SpecVar). member_faults b f.name) c.vars) → o ≡ lesser (lesser x y) z → o ≡ least (wholes.member_names (class_part c))
unfolding class_part
members-is b c x y z o h e f g k =
    let fields = flat_map (λ (q : Field). member_faults b q.name) c.fields in
    let methods = flat_map (λ (q : Method). member_faults b q.name) c.methods in
    let vars = flat_map (λ (q : SpecVar). member_faults b q.name) c.vars in
    k ∙ (λ i. lesser (lesser (e i) (f i)) (g i)) ∙ ap (λ q. lesser q (least vars)) (sym (least-append fields methods)) ∙ sym (least-append (fields ++ methods) vars)
    ∙ ap least (sym (names-split b c))
    ∙ (λ i. least (flat_map (λ q. member_faults (λ w. (h w ∙ ap (λ ws. used_before ws w) (sym (words-is c))) i) (member_word q)) (fields_of c ++ methods_of c ++ vars_of c)))

-- the faults in the names of invariants
pub labels-is : (b : Word → Bool) (is : List Labelled) → ((w : Word) → b w ≡ used_before (label_words_of is) w) → least (flat_map (λ x. flat_map (label_faults b) (words_of x)) is) ≡ least (wholes.label_names (map labelled_part is))
labels-is b is h =
    ap least (sym (flat-flat (label_faults b) words_of is))
    ∙ (λ i. least (flat_map (label_faults (λ w. h w i)) (label_words_of is)))
    ∙ ap (λ ws. least (flat_map (label_faults (used_before ws)) ws)) (sym (flat-mapped wholes.label_words labelled_part is))

-- the faults of definitions
pub defs-is : (l : Declared) (n : ℕ) (b : Word → Bool) (c : Class) → ((w : Word) → b w ≡ used_before (def_words c.defs) w) → least (flat_map (parts.def_faults l n b) (map def_part c.defs)) ≡ least (wholes.all_defs l n (class_part c))
unfolding class_part
defs-is l n b c h = λ i. least (flat_map (parts.def_faults l n (λ w. (h w ∙ ap (λ ws. used_before ws w) (sym (map-twice (λ (d : DefPart). d.name) def_part c.defs))) i)) (map def_part c.defs))

one-more : (xs ys : List Fault) (o : Option Fault) → o ≡ least xs → lesser o (least ys) ≡ least (xs ++ ys)
one-more xs ys o e = ap (λ x. lesser x (least ys)) e ∙ sym (least-append xs ys)

pub eight : (a b c d e f g h : List Fault) → lesser (lesser (lesser (lesser (lesser (lesser (lesser (least a) (least b)) (least c)) (least d)) (least e)) (least f)) (least g)) (least h) ≡ least (a ++ b ++ c ++ d ++ e ++ f ++ g ++ h)
eight a b c d e f g h = one-more _ h _ (one-more _ g _ (one-more _ f _ (one-more _ e _ (one-more _ d _ (one-more _ c _ (one-more a b _ refl))))))

-- classes, one after the other
pub classes-next : (l : Declared) (b : Word → Bool) (cs : List Class) (i : ℕ) (a : Class) (found new f : Option Fault) → i < length cs → a ≡ get_or cs i a → f ≡ least (wholes.class_faults l i b (class_part a)) → new ≡ lesser found f → lesser new (least (wholes.all_classes l (i + 1) b (map class_part (drop (i + 1) cs)))) ≡ lesser found (least (wholes.all_classes l i b (map class_part (drop i cs))))
unfolding all_classes
classes-next l b cs i a found new f lt is e n =
    ap (λ x. lesser x (least (wholes.all_classes l (i + 1) b (map class_part (drop (i + 1) cs))))) (n ∙ ap (lesser found) e)
    ∙ lesser-assoc found (least (wholes.class_faults l i b (class_part a))) (least (wholes.all_classes l (i + 1) b (map class_part (drop (i + 1) cs))))
    ∙ ap (lesser found) (sym (least-append (wholes.class_faults l i b (class_part a)) (wholes.all_classes l (i + 1) b (map class_part (drop (i + 1) cs)))))
    ∙ ap (λ ys. lesser found (least (wholes.all_classes l i b (map class_part ys)))) (sym (drop-at cs i a lt is))

pub classes-end : (l : Declared) (b : Word → Bool) (cs : List Class) (i : ℕ) (found : Option Fault) → length cs ≤ i → lesser found (least (wholes.all_classes l i b (map class_part (drop i cs)))) ≡ found
unfolding all_classes least
classes-end l b cs i found le = ap (λ ys. lesser found (least (wholes.all_classes l i b (map class_part ys)))) (drop_all i cs le) ∙ lesser-none found

-- with the words that are used before, they are the faults of the program
pub whole-classes : (l : Declared) (p : ProgramTree) (n : ℕ) (cs : List ClassPart) → wholes.all_classes l n (used_before (class_names p)) cs ≡ classes_faults l p n cs
unfolding all_classes classes_faults class_faults
whole-classes l p n [] = refl
whole-classes l p n (c ∷ cs) = ap (λ fs. class_faults l p n c ++ fs) (whole-classes l p (n + 1) cs)
