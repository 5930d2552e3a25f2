-- What is bound at a commit, as it is told, computed on the definitions.
use Rattle.std.proofs.Common.{◌≡◌, [], ◌∷◌, ◌++◌, map, codes, refl}
use Rattle.std.specs.Prelude.{pos, negsuc, true, false}
use Rattle.kishu_language.specs.declared.profile.Profile.TheVariants.{One}
use Rattle.kishu_meaning.specs.values.Keys as k
use Rattle.kishu_meaning.specs.values.Values.{none, bool, integer, text, range, builtin, class, node, list, tuple, dict, object, function, exception, State}
use Rattle.kishu_objects.specs.Picture.{whole}
use Rattle.kishu_store.specs.Graph.{Graph, new_graph}
use Rattle.kishu_model.specs.Answers.{answer_line}
use Rattle.kishu_model.specs.Request.{cell, checkout, inspect}
use Rattle.kishu_model.specs.Serve.{after, answered, after_all, answer_of}
use Rattle.kishu_model.specs.requests.Inspect.{told_at}
use Rattle.kishu_rows.proofs.OnLiterals.{cells_on_literals}

nothing_bound : answer_of new_graph inspect ≡ codes "{\"answer\":\"inspect\",\"commit\":0,\"names\":{},\"nodes\":[]}\n"
unfolding cells_on_literals
nothing_bound = refl

-- one list under two names
shared : answer_of (after new_graph (cell (codes "a = [1]; b = a"))) inspect
    ≡ codes "{\"answer\":\"inspect\",\"commit\":1,\"names\":{\"a\":\"#0\",\"b\":\"#0\"},\"nodes\":[[\"list\",\"1\"]]}\n"
unfolding cells_on_literals
shared = refl

-- A list that holds itself has itself for its item, and so it is after the way back to it.
abbrev came_back : Graph
came_back = after_all new_graph (map answered (cell (codes "a = []") ∷ cell (codes "a.append(a)") ∷ checkout (codes "0") ∷ checkout (codes "main") ∷ []))

holds_itself : answer_of came_back inspect ≡ codes "{\"answer\":\"inspect\",\"commit\":2,\"names\":{\"a\":\"#0\"},\"nodes\":[[\"list\",\"#0\"]]}\n"
unfolding cells_on_literals
holds_itself = refl

-- each kind of value, key and node; the first list is reached from nowhere
abbrev kinds : State
kinds = record {
  names = (codes "d", node 4) ∷ (codes "f", node 2) ∷ (codes "t", node 6) ∷ [];
  nodes =
      list []
      ∷ exception 24 (text (codes "no") ∷ [])
      ∷ function One (codes "def g(x=[]): pass") (node 3 ∷ [])
      ∷ list []
      ∷ dict ((k.tuple (k.integer (pos 1) ∷ k.text (233 ∷ []) ∷ []), node 5) ∷ (k.single k.none, bool true) ∷ (k.single (k.text (codes "k")), range (pos 0) (pos 3) (negsuc 0)) ∷ [])
      ∷ object ((codes "left", node 4) ∷ (codes "kind", builtin 6) ∷ [])
      ∷ tuple (node 1 ∷ node 2 ∷ class 5 ∷ integer (negsuc 1) ∷ bool false ∷ none ∷ [])
      ∷ [];
}

kinds_are_told : answer_line (told_at 7 (whole kinds))
    ≡ codes "{\"answer\":\"inspect\",\"commit\":7,\"names\":{\"d\":\"#0\",\"f\":\"#1\",\"t\":\"#2\"},\"nodes\":[[\"dict\",\"(1, '" ++ 195 ∷ 169 ∷ codes "')\",\"#3\",\"None\",\"True\",\"'k'\",\"range(0, 3, -1)\"],[\"function\",\"1\",\"def g(x=[]): pass\",\"#4\"],[\"tuple\",\"#5\",\"#1\",\"<class 'SimpleNamespace'>\",\"-2\",\"False\",\"None\"],[\"object\",\"left\",\"#0\",\"kind\",\"<built-in function len>\"],[\"list\"],[\"exception\",\"ValueError\",\"'no'\"]]}\n"
unfolding cells_on_literals
kinds_are_told = refl
