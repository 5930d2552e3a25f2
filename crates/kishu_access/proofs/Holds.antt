-- What a sound node holds is sound.
use Rattle.std.proofs.Common.{◌≡◌, ℕ, ◌&&◌, IsTrue, List, Some}
use Rattle.std.specs.List.{list_all}
use Rattle.kishu_meaning.specs.values.Keys.{Key}
use Rattle.kishu_language.specs.tokens.Names.{is_name}
use Rattle.kishu_meaning.specs.values.Nodes.{dict_in, object_in}
use Rattle.kishu_meaning.specs.values.Sound.{is_sound, are_sound, is_sound_node, is_exception_class}
use Rattle.kishu_meaning.specs.values.Values.{Value, Node, list, tuple, dict, object, function, exception}
use Rattle.kishu_items.specs.Holding.{second}
use Rattle.kishu_access.specs.Forms.{arguments_in}

module _ (n : ℕ) where
  pub entries_are_sound : (x : Node) (es : List (Key × Value)) → Some es ≡ dict_in x → IsTrue (is_sound_node n x) → IsTrue (list_all (λ e. is_sound n e.1) es)
  entries_are_sound (dict gs) es e h =
      let same : es ≡ gs = cc in
      rw same h
  entries_are_sound (list vs) es e h = absurd cc
  entries_are_sound (tuple vs) es e h = absurd cc
  entries_are_sound (object as') es e h = absurd cc
  entries_are_sound (function profile code vs) es e h = absurd cc
  entries_are_sound (exception kind vs) es e h = absurd cc

  pub attributes_are_sound : (x : Node) (es : List (List ℕ × Value)) → Some es ≡ object_in x → IsTrue (is_sound_node n x) → IsTrue (list_all (λ a. is_name a.0 && is_sound n a.1) es)
  attributes_are_sound (object as') es e h =
      let same : es ≡ as' = cc in
      rw same h
  attributes_are_sound (list vs) es e h = absurd cc
  attributes_are_sound (tuple vs) es e h = absurd cc
  attributes_are_sound (dict gs) es e h = absurd cc
  attributes_are_sound (function profile code vs) es e h = absurd cc
  attributes_are_sound (exception kind vs) es e h = absurd cc
