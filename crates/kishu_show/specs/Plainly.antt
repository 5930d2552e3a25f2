-- The str of values that have no node (Library Reference, "Text Sequence Type": str).
use Rattle.std.specs.Prelude.{ℕ, List}
use Rattle.kishu_meaning.specs.values.Values.{Value, none, bool, integer, text, range, builtin, class, node}
use Rattle.kishu_meaning.specs.comparing.Show.{repr_text}

-- A text is itself.
abbrev pub plain_shown : Value → List ℕ
plain_shown (text cs) = cs
plain_shown none = repr_text none
plain_shown (bool b) = repr_text (bool b)
plain_shown (integer z) = repr_text (integer z)
plain_shown (range a b c) = repr_text (range a b c)
plain_shown (builtin n) = repr_text (builtin n)
plain_shown (class n) = repr_text (class n)
plain_shown (node i) = repr_text (node i)
