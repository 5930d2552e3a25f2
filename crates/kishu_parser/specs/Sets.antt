-- Sets of names, in the order in which they were first seen.
use Rattle.std.specs.Prelude.{◌≡◌, Bool, true, false, not, ◌&&◌, List, [], ◌∷◌, ◌++◌, map, Option, Some, None, if◌then◌else◌}
use Rattle.std.specs.Rc.{rc_str_bytes}
use Rattle.kishu_language.specs.tokens.Names.{is_among}
use Rattle.kishu_language.specs.trees.Tree.{Text}
use Rattle.kishu_language.specs.grammar.Refusals.{Mention, variable, declared}
use Rattle.kishu_parser.specs.declared.texts.Texts.{Texts}

abbrev pub names_in : Texts → List Text
names_in s = map rc_str_bytes s.names.keys

-- a name that is new goes last
unfoldable pub with_name : List Text → Text → List Text
with_name seen x = if is_among x seen then seen else seen ++ x ∷ []

abbrev pub with_names : List Text → List Text → List Text
with_names seen [] = seen
with_names seen (x ∷ xs) = with_names (with_name seen x) xs

-- What is seen behind a part of a body; none where a global name stood before as a variable.
abbrev pub note : List Text → List Mention → Option (List Text)
note seen [] = Some seen
note seen (variable x ∷ ms) = note (with_name seen x) ms
note seen (declared x ∷ ms) = if is_among x seen then None else note seen ms

-- what a walk found, if it fits
abbrev pub noted : Bool → List Text → Option (List Text)
noted fits seen = if fits then Some seen else None

-- These mentions are variables, and are added to the set.
abbrev pub Adds : List Mention → Texts → Texts → Type 0
Adds ms old new = note (names_in old) ms ≡ Some (names_in new)

-- The set goes along these mentions, which fit or not.
abbrev pub Walks : List Mention → Bool → Texts → Texts → Type 0
Walks ms fits old new = note (names_in old) ms ≡ noted fits (names_in new)
