-- What may be assigned to (Python Language Reference 3, "Assignment statements").
use Rattle.std.specs.Prelude.{ℕ, zero, suc, Bool, true, false, ◌&&◌, [], ◌∷◌, ◌++◌}
use Rattle.kishu_language.specs.declared.token.Mark.TheVariants as m
use Rattle.kishu_language.specs.trees.Tree.{Expression, Expressions, Trailer, Trailers, no_expressions, more_expressions, no_trailers, more_trailers, expressions}
use Rattle.kishu_language.specs.trees.Tree as t
use Rattle.kishu_language.specs.grammar.Language.{Language, pure, ◌>>=◌, ◌>>◌, ◌or◌, none, mark}
use Rattle.kishu_language.specs.grammar.Grammar.{Phrase, alone, several, listed, with_trailers, name, attribute, item, primary_parts, has_room, phrase}

module _ (room : Bool) (inner : Phrase → Language Expression) where
  -- NAME | primary "." NAME | primary "[" exprs "]"
  unfoldable pub place_level : Language Expression
  place_level = name or (do
    parts ← primary_parts room inner
    last ← attribute inner or item inner
    pure (with_trailers parts.0 (parts.1 ++ last ∷ [])))

module _ (room : Bool) (inner : Phrase → Language Expression) (inner_target : Language Expression) where
  -- "(" targets ")"
  unfoldable pub target_in_parentheses : Language Expression
  target_in_parentheses = do
    mark m.LeftParenthesis
    inside ← listed inner_target alone several
    mark m.RightParenthesis
    pure (t.paren inside)

  -- "[" targets "]"
  unfoldable pub target_in_brackets : Language Expression
  target_in_brackets = do
    mark m.LeftBracket
    all ← listed inner_target (λ all. all) (λ all. all)
    mark m.RightBracket
    pure (t.list (expressions all))

  -- place | "(" targets ")" | "[" targets "]"
  unfoldable pub target_level : Language Expression
  target_level = place_level room inner or target_in_parentheses or target_in_brackets

-- with so many nestings, its own among them
unfoldable pub place : ℕ → Language Expression
place zero = none
place (suc depth) = place_level (has_room depth) (phrase depth)

unfoldable pub target : ℕ → Language Expression
target zero = none
target (suc depth) = target_level (has_room depth) (phrase depth) (target depth)

-- target { "," target } [ "," ]
unfoldable pub targets : ℕ → Language Expression
targets depth = listed (target depth) alone several

-- ---- the same, told from an expression

abbrev pub is_place_trailer : Trailer → Bool
is_place_trailer (t.attribute x) = true
is_place_trailer (t.index e) = true
is_place_trailer (t.call found) = false
is_place_trailer (t.slice start stop step) = false

abbrev pub ends_in_place : Trailers → Bool
ends_in_place no_trailers = false
ends_in_place (more_trailers last no_trailers) = is_place_trailer last
ends_in_place (more_trailers first (more_trailers second ts)) = ends_in_place (more_trailers second ts)

-- a name, an attribute or an item
abbrev pub is_place : Expression → Bool
is_place (t.name x) = true
is_place (t.primary e ts) = ends_in_place ts
is_place _ = false

abbrev mutual
  -- a place, or targets in parentheses or brackets, or one and more with a comma
  pub is_target : Expression → Bool
  is_target (t.name x) = true
  is_target (t.primary e ts) = ends_in_place ts
  is_target (t.paren e) = is_target e
  is_target (t.tuple es) = are_targets es
  is_target (t.list es) = are_targets es
  is_target _ = false

  pub are_targets : Expressions → Bool
  are_targets no_expressions = false
  are_targets (more_expressions e no_expressions) = is_target e
  are_targets (more_expressions e (more_expressions f es)) = is_target e && are_targets (more_expressions f es)
