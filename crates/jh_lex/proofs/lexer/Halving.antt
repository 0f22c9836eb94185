-- The two words of a qualified name.
use Rattle.std.proofs.Common.{◌≡◌, ℕ, zero, suc, true, false, List, [], ◌∷◌, Option, Some, None, Bor, MatchOption, refl, sym, subst, ◌∙◌, arith}
use Rattle.std.specs.List.{list_all}
use Rattle.std.proofs.lemmas.Bool.{and_parts, both_ways}
use Rattle.std.proofs.lemmas.List.Sums.{list_all-from_AllPass}
use Rattle.std.proofs.lemmas.Str.Pattern.{IsSplitOnceResult, split_after}
use Rattle.jh_name.specs.declared.naming.Name.{Name}
use Rattle.jh_lex.specs.lexer.Shapes.{is_inside_word, IsWordText, IsQualifiedName, HasNoDot}

no_dot : (xs : List ℕ) → list_all is_inside_word xs ≡ true → HasNoDot xs
no_dot [] e i h = absurd (omega arith)
no_dot (x ∷ xs) e zero h = λ same. both_ways (is_inside_word x) (subst (λ b. is_inside_word b ≡ false) (sym same) refl) (and_parts (is_inside_word x) (list_all is_inside_word xs) e).0
no_dot (x ∷ xs) e (suc i) h = no_dot xs (and_parts (is_inside_word x) (list_all is_inside_word xs) e).1 i (omega arith)

-- a word holds no dot
pub word_no_dot : (text : List ℕ) → IsWordText text → HasNoDot text
word_no_dot text word = no_dot text (list_all-from_AllPass is_inside_word text word.plain)

both_words : (left right : List ℕ) (r : Option (Bor (List ℕ) × Bor (List ℕ))) → IsWordText left → IsWordText right → MatchOption r ⊥ (λ parts. (parts.0.now ≡ left) × (parts.1.now ≡ right)) → MatchOption r ⊥ (λ parts. IsWordText parts.0.now × IsWordText parts.1.now)
both_words left right None first second x = x
both_words left right (Some parts) first second x = (subst IsWordText (sym x.0) first, subst IsWordText (sym x.1) second)

pub halves_words : (x : Name) (text : List ℕ) (r : Option (Bor (List ℕ) × Bor (List ℕ))) → text ≡ x.text → IsSplitOnceResult 46 text r → IsQualifiedName x → MatchOption r ⊥ (λ parts. IsWordText parts.0.now × IsWordText parts.1.now)
halves_words x text r is split q =
    both_words q.left q.right r q.left_word q.right_word
    (split_after 46 text q.left q.right r split (omega arith) (is ∙ q.parts) (word_no_dot q.left q.left_word))
