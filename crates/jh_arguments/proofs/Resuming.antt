-- Words that are read one by one are made of what the definition says.
use Rattle.std.proofs.Common.{◌≡◌, refl, sym, ap, ◌∙◌, Bool, true, false, List, [], ◌∷◌, ◌++◌, Option, None, Some, option_map}
use Rattle.std.specs.Prelude.{if◌then◌else◌}
use Rattle.std.proofs.lemmas.List.{append_assoc}
use Rattle.jh_arguments.specs.Arguments.{Given, Parts, Shape, Word, begins_with_hyphen, dashed, end, given, named, parts_by, parts_from, plain, shape, valued, with_option, with_word}
use Rattle.jh_arguments.specs.Reading.{Reader, joined, read_by, read_one, read_option, read_value, read_word, resumed, resumed_from}

abbrev made : List Given → List Word → Option Parts
made options words = Some (record { options = options; words = words })

joined-option : (r : Reader) (name value : Word) (o : Option Parts) → joined r (option_map (with_option name value) o) ≡ joined (read_option name value r) o
joined-option r name value None = refl
joined-option r name value (Some p) = ap (λ (os : List Given). made os (r.words ++ p.words)) (sym (append_assoc r.options (given name value ∷ []) p.options))

joined-word : (r : Reader) (w : Word) (o : Option Parts) → joined r (option_map (with_word w) o) ≡ joined (read_word w r) o
joined-word r w None = refl
joined-word r w (Some p) = ap (λ (ws : List Word). made (r.options ++ p.options) ws) (sym (append_assoc r.words (w ∷ []) p.words))

abbrev at : List Given → List Word → Option Word → Bool → Reader
at options words waiting ended = record { options = options; words = words; waiting = waiting; ended = ended }

shape-next : (os : List Given) (us : List Word) (s : Shape) (w : Word) (ws : List Word) → joined (at os us None false) (parts_by s w ws (parts_from ws)) ≡ resumed_from (read_by s w (at os us None false)) ws
shape-next os us (named name) w ws = refl
shape-next os us (valued name value) w ws = joined-option (at os us None false) name value (parts_from ws None)
shape-next os us end w ws = refl
shape-next os us dashed w ws = refl
shape-next os us plain w ws = joined-word (at os us None false) w (parts_from ws None)

value-next : (os : List Given) (us : List Word) (b : Bool) (name w : Word) (ws : List Word) →
    joined (at os us (Some name) false) (if b then None else option_map (with_option name w) (parts_from ws None)) ≡ resumed_from (read_value b name w (at os us (Some name) false)) ws
value-next os us true name w ws = refl
value-next os us false name w ws = joined-option (at os us (Some name) false) name w (parts_from ws None)

one-next : (os : List Given) (us : List Word) (waiting : Option Word) (ended : Bool) (w : Word) (ws : List Word) → resumed (at os us waiting ended) (w ∷ ws) ≡ resumed_from (read_one w (at os us waiting ended)) ws
one-next os us waiting true w ws = ap (λ (vs : List Word). made (os ++ []) vs) (sym (append_assoc us (w ∷ []) ws))
one-next os us None false w ws = shape-next os us (shape w) w ws
one-next os us (Some name) false w ws = value-next os us (begins_with_hyphen w) name w ws

resumed-next : (r : Reader) (w : Word) (ws : List Word) → resumed r (w ∷ ws) ≡ resumed_from (read_one w r) ws
resumed-next r w ws = one-next r.options r.words r.waiting r.ended w ws

-- where the next word may stand there, the rest is read from there on
pub read-on : (old new : Reader) (good : Bool) (w : Word) (ws : List Word) → good ≡ true → (if good then Some new else None) ≡ read_one w old → resumed old (w ∷ ws) ≡ resumed new ws
read-on old new good w ws e h = resumed-next old w ws ∙ ap (λ (o : Option Reader). resumed_from o ws) (sym h ∙ ap (λ (b : Bool). if b then Some new else None) e)

-- and else nothing is
pub read-off : (old new : Reader) (good : Bool) (w : Word) (ws : List Word) → good ≡ false → (if good then Some new else None) ≡ read_one w old → resumed old (w ∷ ws) ≡ None
read-off old new good w ws e h = resumed-next old w ws ∙ ap (λ (o : Option Reader). resumed_from o ws) (sym h ∙ ap (λ (b : Bool). if b then Some new else None) e)
