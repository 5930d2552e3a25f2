-- The name that a function's text shows is the one in its tree, and a repr takes as many steps as it has code points.
use Rattle.std.specs.Prelude.{◌≡◌, ℕ, zero, suc, ◌+◌, ◌-◌, ◌≤◌, nat_le, ◌==◌, Bool, true, false, if◌then◌else◌, List, [], ◌∷◌, ◌++◌, length, codes, Option, Some, None, slice_get}
use Rattle.std.specs.Str.{chars}
use Rattle.std.proofs.Common.{refl, ap, ◌∙◌, arith, length-append, leb-true}
use Rattle.kishu_language.specs.declared.profile.Profile.{Profile}
use Rattle.kishu_language.specs.trees.Tree.{Text, Definition}
use Rattle.kishu_language.specs.reading.ReadText.{ReadsDef}
use Rattle.kishu_meaning.specs.values.Keys.{Key}
use Rattle.kishu_meaning.specs.values.Values.{Value, none, bool, integer, text, range, builtin, class, node, Node, list, tuple, dict, object, function, exception}
use Rattle.kishu_meaning.specs.moments.Moment.{most_depth}
use Rattle.kishu_meaning.specs.moments.Counting.{Count, Counted, answer, too_deep, spent, and_then, ◌>>=◌, ◌>>◌, give, spend, stop_deep}
use Rattle.kishu_meaning.specs.comparing.Equal.{room_at}
use Rattle.kishu_meaning.specs.values.Classes.{key_error_class}
use Rattle.kishu_meaning.specs.comparing.Show.{title_in, function_name, function_text, class_name, repr_text, key_text, tuple_end, made, ◌⊕◌, further, listed, repr_by, entry_repr, attribute_repr, tuple_repr, contents_repr, again, repr_at, repr_nodes, repr_in, show_by, argument_text, exception_text, show_at, show_nodes, show_in, thrown_in}
use Rattle.kishu_meaning_laws.specs.CountLaws.{Falls, then_falls, both_fall, give_falls, spend_falls, deep_falls}

pub name_as_read : (profile : Profile) (code : Text) (d : Definition) → ReadsDef profile code d → function_name profile code ≡ chars d.title
name_as_read profile code d h = ap (λ r. chars (title_in r)) h

-- ---- a repr takes as many steps as it has code points

-- from n steps: what is left, and the length of what was made
abbrev pub Takes : ℕ → Counted (List ℕ) → Type 0
Takes n (answer cs left) = left + length cs ≡ n
Takes n (too_deep left) = left ≤ n
Takes n (spent left) = left ≡ 0

pub record IsMade (m : Count (List ℕ)) : Type 0 where
  pub takes : (n : ℕ) → Takes n (m n)
  pub counts : Falls m

either_made : (cs : List ℕ) (n : ℕ) (b : Bool) → nat_le (length cs) n ≡ b → Takes n (and_then {A = Unit {0}} (if b then answer tt (n - length cs) else spent 0) (λ _. give cs))
either_made cs n true e = (let fits : length cs ≤ n = leb-true (length cs) n e in omega (arith, fits))
either_made cs n false e = refl

made_takes : (cs : List ℕ) → IsMade (made cs)
made_takes cs = record { takes = λ n. either_made cs n (nat_le (length cs) n) refl; counts = both_fall (spend (length cs)) (give cs) (spend_falls (length cs)) (give_falls cs) }

nothing_takes : IsMade (give [])
nothing_takes = record { takes = λ n. omega arith; counts = give_falls [] }

behind : (front : List ℕ) (n k : ℕ) (e : Counted (List ℕ)) → k + length front ≡ n → Takes k e → Takes n (and_then e (λ back. give (front ++ back)))
behind front n k (answer back j) h t = ap (λ l. j + l) (length-append front back) ∙ omega (arith, h, t)
behind front n k (too_deep j) h t = omega (arith, h, t)
behind front n k (spent j) h t = t

in_front : (b : Count (List ℕ)) → IsMade b → (n : ℕ) (e : Counted (List ℕ)) → Takes n e → Takes n (and_then e (λ front. b >>= λ back. give (front ++ back)))
in_front b h n (answer front k) t = behind front n k (b k) t (h.takes k)
in_front b h n (too_deep k) t = t
in_front b h n (spent k) t = t

both_take : (a b : Count (List ℕ)) → IsMade a → IsMade b → IsMade (a ⊕ b)
both_take a b ha hb = record {
  takes = λ n. in_front b hb n (a n) (ha.takes n);
  counts = then_falls a (λ front. b >>= λ back. give (front ++ back)) ha.counts (λ front. then_falls b (λ back. give (front ++ back)) hb.counts (λ back. give_falls (front ++ back)));
}

deep_takes : IsMade stop_deep
deep_takes = record { takes = λ n. omega arith; counts = deep_falls }

module _ {A : Type 0} (text_of : A → Count (List ℕ)) (h : (a : A) → IsMade (text_of a)) where
  further_takes : (as' : List A) → IsMade (further text_of as')
  further_takes [] = nothing_takes
  further_takes (a ∷ as') = both_take (made (codes ", ")) (text_of a ⊕ further text_of as') (made_takes (codes ", ")) (both_take (text_of a) (further text_of as') (h a) (further_takes as'))

  listed_takes : (as' : List A) → IsMade (listed text_of as')
  listed_takes [] = nothing_takes
  listed_takes (a ∷ as') = both_take (text_of a) (further text_of as') (h a) (further_takes as')

module _ (nodes : ℕ → Count (List ℕ)) (h : (i : ℕ) → IsMade (nodes i)) where
  value_takes : (v : Value) → IsMade (repr_by nodes v)
  value_takes (node i) = h i
  value_takes v = made_takes (repr_text v)

  -- between two texts that stand there
  between_take : (front back : List ℕ) (m : Count (List ℕ)) → IsMade m → IsMade (made front ⊕ m ⊕ made back)
  between_take front back m hm = both_take (made front) (m ⊕ made back) (made_takes front) (both_take m (made back) hm (made_takes back))

  named_takes : (name mark : List ℕ) (v : Value) → IsMade (made name ⊕ made mark ⊕ repr_by nodes v)
  named_takes name mark v = both_take (made name) (made mark ⊕ repr_by nodes v) (made_takes name) (both_take (made mark) (repr_by nodes v) (made_takes mark) (value_takes v))

  entry_takes : (e : Key × Value) → IsMade (entry_repr nodes e)
  entry_takes e = named_takes (key_text e.0) (codes ": ") e.1

  attribute_takes : (a : Text × Value) → IsMade (attribute_repr nodes a)
  attribute_takes a = named_takes (chars a.0) (codes "=") a.1

  tuple_takes : (vs : List Value) → IsMade (tuple_repr nodes vs)
  tuple_takes vs = between_take (codes "(") (tuple_end vs) (listed (repr_by nodes) vs) (listed_takes (repr_by nodes) value_takes vs)

  contents_take : (n : Node) → IsMade (contents_repr nodes n)
  contents_take (list vs) = between_take (codes "[") (codes "]") (listed (repr_by nodes) vs) (listed_takes (repr_by nodes) value_takes vs)
  contents_take (tuple vs) = tuple_takes vs
  contents_take (dict es) = between_take (codes "{") (codes "}") (listed (entry_repr nodes) es) (listed_takes (entry_repr nodes) entry_takes es)
  contents_take (object as') = between_take (codes "namespace(") (codes ")") (listed (attribute_repr nodes) as') (listed_takes (attribute_repr nodes) attribute_takes as')
  contents_take (function profile code vs) = made_takes (function_text profile code)
  contents_take (exception kind vs) =
      both_take (made (class_name kind)) (made (codes "(") ⊕ listed (repr_by nodes) vs ⊕ made (codes ")")) (made_takes (class_name kind))
      (between_take (codes "(") (codes ")") (listed (repr_by nodes) vs) (listed_takes (repr_by nodes) value_takes vs))

  either_takes : (b : Bool) (n : Node) → IsMade (if b then made (again n) else contents_repr nodes n)
  either_takes true n = made_takes (again n)
  either_takes false n = contents_take n

  at_takes : (b : Bool) (o : Option Node) → IsMade (repr_at nodes b o)
  at_takes b (Some n) = either_takes b n
  at_takes b None = nothing_takes

node_takes : (ns : List Node) (room : ℕ) (around : List ℕ) (i : ℕ) → IsMade (repr_nodes ns room around i)
node_takes ns zero around i = deep_takes
node_takes ns (suc room) around i = at_takes (repr_nodes ns room (i ∷ around)) (node_takes ns room (i ∷ around)) _ (slice_get ns i)

pub repr_takes : (ns : List Node) (depth : ℕ) (v : Value) → IsMade (repr_in ns depth v)
repr_takes ns depth = value_takes (repr_nodes ns (room_at depth) []) (node_takes ns (room_at depth) [])

-- ---- a str takes at least as many

abbrev pub Covers : ℕ → Counted (List ℕ) → Type 0
Covers n (answer cs left) = left + length cs ≤ n
Covers n (too_deep left) = left ≤ n
Covers n (spent left) = left ≡ 0

pub record IsCovered (m : Count (List ℕ)) : Type 0 where
  pub covers : (n : ℕ) → Covers n (m n)
  pub counts : Falls m

as_many : (n : ℕ) (e : Counted (List ℕ)) → Takes n e → Covers n e
as_many n (answer cs left) t = omega (arith, t)
as_many n (too_deep left) t = t
as_many n (spent left) t = t

pub made_covers : (m : Count (List ℕ)) → IsMade m → IsCovered m
made_covers m h = record { covers = λ n. as_many n (m n) (h.takes n); counts = h.counts }

one_less : (n : ℕ) (e : Counted (List ℕ)) → Covers (n - 1) e → Covers n e
one_less n (answer cs left) t = omega (arith, t)
one_less n (too_deep left) t = omega (arith, t)
one_less n (spent left) t = t

either_step : (m : Count (List ℕ)) → IsCovered m → (n : ℕ) (b : Bool) → Covers n (and_then {A = Unit {0}} (if b then answer tt (n - 1) else spent 0) (λ _. m))
either_step m h n true = one_less n (m (n - 1)) (h.covers (n - 1))
either_step m h n false = refl

after_step : (m : Count (List ℕ)) → IsCovered m → IsCovered (spend 1 >> m)
after_step m h = record { covers = λ n. either_step m h n (nat_le 1 n); counts = both_fall (spend 1) m (spend_falls 1) h.counts }

module _ (reprs shows : ℕ → Count (List ℕ)) (hr : (i : ℕ) → IsMade (reprs i)) (hs : (i : ℕ) → IsCovered (shows i)) where
  shown_covers : (v : Value) → IsCovered (show_by shows v)
  shown_covers (node i) = hs i
  shown_covers (text cs) = made_covers (made cs) (made_takes cs)
  shown_covers none = made_covers (made (repr_text none)) (made_takes (repr_text none))
  shown_covers (bool b) = made_covers (made (repr_text (bool b))) (made_takes (repr_text (bool b)))
  shown_covers (integer z) = made_covers (made (repr_text (integer z))) (made_takes (repr_text (integer z)))
  shown_covers (range a b c) = made_covers (made (repr_text (range a b c))) (made_takes (repr_text (range a b c)))
  shown_covers (builtin n) = made_covers (made (repr_text (builtin n))) (made_takes (repr_text (builtin n)))
  shown_covers (class n) = made_covers (made (repr_text (class n))) (made_takes (repr_text (class n)))

  either_argument : (b : Bool) (v : Value) → IsCovered (if b then repr_by reprs v else show_by shows v)
  either_argument true v = made_covers (repr_by reprs v) (value_takes reprs hr v)
  either_argument false v = shown_covers v

  exception_covers : (kind : ℕ) (vs : List Value) → IsCovered (exception_text reprs shows kind vs)
  exception_covers kind [] = made_covers (give []) nothing_takes
  exception_covers kind (v ∷ []) = after_step (argument_text reprs shows kind v) (either_argument (kind == key_error_class) v)
  exception_covers kind (v ∷ (w ∷ vs)) = made_covers (tuple_repr reprs (v ∷ w ∷ vs)) (tuple_takes reprs hr (v ∷ w ∷ vs))

  show_at_covers : (other : Count (List ℕ)) → IsMade other → (o : Option Node) → IsCovered (show_at (exception_text reprs shows) other o)
  show_at_covers other h (Some (exception kind vs)) = exception_covers kind vs
  show_at_covers other h _ = made_covers other h

show_node_covers : (ns : List Node) (room : ℕ) (i : ℕ) → IsCovered (show_nodes ns room i)
show_node_covers ns zero i = made_covers stop_deep deep_takes
show_node_covers ns (suc room) i =
    show_at_covers (repr_nodes ns room []) (show_nodes ns room) (node_takes ns room []) (show_node_covers ns room)
    (repr_nodes ns (suc room) [] i) (node_takes ns (suc room) [] i) (slice_get ns i)

pub show_covers : (ns : List Node) (depth : ℕ) (v : Value) → IsCovered (show_in ns depth v)
show_covers ns depth = shown_covers (repr_nodes ns (room_at depth) []) (show_nodes ns (room_at depth)) (node_takes ns (room_at depth) []) (show_node_covers ns (room_at depth))

pub thrown_covers : (ns : List Node) (depth : ℕ) (kind : ℕ) (vs : List Value) → IsCovered (thrown_in ns depth kind vs)
thrown_covers ns depth = exception_covers (repr_nodes ns (most_depth - depth) []) (show_nodes ns (most_depth - depth)) (node_takes ns (most_depth - depth) []) (show_node_covers ns (most_depth - depth))
