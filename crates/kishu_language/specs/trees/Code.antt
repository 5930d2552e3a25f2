-- The code of a function: the text from the `d` of `def` to the end of its body's last token, ends of lines and of blocks aside.
use Rattle.std.specs.Prelude.{ℕ, ◌-◌, Bool, true, false, if◌then◌else◌, List, [], ◌∷◌, take, drop}
use Rattle.kishu_language.specs.tokens.Layout.{Kind, name, integer, quoted, newline, indent, dedent, mark, Token}
use Rattle.kishu_language.specs.trees.Tree.{Text}

-- the end of a line, or the begin or the end of a block
abbrev pub is_layout : Kind → Bool
is_layout newline = true
is_layout indent = true
is_layout dedent = true
is_layout (name x) = false
is_layout (integer z) = false
is_layout (quoted x) = false
is_layout (mark m) = false

abbrev pub begin_of : List Token → ℕ
begin_of [] = 0
begin_of (t ∷ ts) = t.start

-- behind the last token that is no layout, where the last so far ended there
abbrev pub end_after : ℕ → List Token → ℕ
end_after at [] = at
end_after at (t ∷ ts) = end_after (if is_layout t.kind then at else t.end) ts

-- of the tokens that spell the function, in a text with plain line ends
unfoldable pub code_of : Text → List Token → Text
code_of source ts = take (end_after 0 ts - begin_of ts) (drop (begin_of ts) source)
