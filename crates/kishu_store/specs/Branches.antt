-- Branches: names of commits, in byte order (Kishu, "checkpoint graph").
use Rattle.std.specs.Prelude.{ℕ, Bool, ◌&&◌, ◌||◌, ◌==◌, nat_le, if◌then◌else◌, List, [], ◌∷◌, length, Option, Some, None}
use Rattle.std.specs.Cmp.Lexicographic.{slice_cmp}
use Rattle.std.specs.List.{list_all}
use Rattle.std.specs.Ordering.{nat_cmp, match_ordering}
use Rattle.std.specs.Str.{bytes_eq}
use Rattle.kishu_language.specs.tokens.Names.{begins_with_letter, is_word_char}

-- each branch with the number of its commit
abbrev pub Branches : Type 0
Branches = List (List ℕ × ℕ)

-- the commit of a branch
abbrev pub commit_of : List ℕ → Branches → Option ℕ
commit_of name [] = None
commit_of name (b ∷ bs) = if bytes_eq name b.0 then Some b.1 else commit_of name bs

-- the branches, with this one at that commit
abbrev pub with_branch_at : List ℕ → ℕ → Branches → Branches
with_branch_at name commit [] = (name, commit) ∷ []
with_branch_at name commit (b ∷ bs) =
    match_ordering (slice_cmp nat_cmp name b.0) ((name, commit) ∷ b ∷ bs) ((name, commit) ∷ bs) (b ∷ with_branch_at name commit bs)

-- a letter, a digit, `_` or `-`
abbrev pub is_branch_char : ℕ → Bool
is_branch_char c = is_word_char c || (c == 45)

abbrev pub longest_branch_name : ℕ
longest_branch_name = 64

-- 1 to 64 of these characters, the first a letter or `_`
abbrev pub is_branch_name : List ℕ → Bool
is_branch_name name = begins_with_letter name && (list_all is_branch_char name && nat_le (length name) longest_branch_name)
