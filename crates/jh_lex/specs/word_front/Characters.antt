-- Which characters begin and continue a word.
use Rattle.std.specs.Prelude.{ℕ, Bool, ◌||◌, ◌==◌}
use Rattle.unicode_ident.specs.Ident.{is_xid_start, is_xid_continue}

-- a word begins with `_` or a character that may begin an identifier
abbrev pub starts_word : ℕ → Bool
starts_word c = is_xid_start c || (c == 95)

-- and goes on with characters that may continue one
abbrev pub continues_word : ℕ → Bool
continues_word c = is_xid_continue c
