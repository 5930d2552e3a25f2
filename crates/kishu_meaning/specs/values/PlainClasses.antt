-- The classes but those of exceptions, by their numbers from 0 (Library Reference, "Built-in Types").
use Rattle.std.specs.Prelude.{List, [], ◌∷◌}

pub data PlainClass : Type 0 where
  bool : PlainClass
  dict : PlainClass
  int : PlainClass
  list : PlainClass
  range : PlainClass
  namespace : PlainClass
  str : PlainClass
  tuple : PlainClass

abbrev pub plain_classes : List PlainClass
plain_classes = bool ∷ dict ∷ int ∷ list ∷ range ∷ namespace ∷ str ∷ tuple ∷ []
