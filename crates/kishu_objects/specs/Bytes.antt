-- The bytes of a picture. Numbers are big-endian.
use Rattle.std.specs.Prelude.{ℕ, true, false, List, [], ◌∷◌, ◌++◌, length, flat_map}
use Rattle.std.specs.Str.{encode_utf8_all}
use Rattle.kishu_meaning.specs.values.Keys.{Key, KeyPart}
use Rattle.kishu_meaning.specs.values.Keys as k
use Rattle.kishu_meaning.specs.values.Values.{Value, none, bool, integer, text, range, builtin, class, node, Node, list, tuple, dict, object, function, exception, State}
use Rattle.kishu_bytes.specs.Numbers.{four, sixteen, profile_number}
use Rattle.kishu_objects.specs.Picture.{picture}

-- a number in four bytes, as one word
unfoldable pub in_four : ℕ → List ℕ
in_four = four

-- a length of at most 255 in one byte, and then what is so long
abbrev pub short : List ℕ → List ℕ
short cs = length cs ∷ cs

-- a length in four bytes, and then what is so long
abbrev pub long : List ℕ → List ℕ
long cs = in_four (length cs) ++ cs

-- a number of items, and the items
abbrev pub many : {A : Type 0} → (A → List ℕ) → List A → List ℕ
many bytes as' = in_four (length as') ++ flat_map bytes as'

-- a value behind the number of its kind; a text is in UTF-8
abbrev pub value_bytes : Value → List ℕ
value_bytes none = 0 ∷ []
value_bytes (bool false) = 1 ∷ []
value_bytes (bool true) = 2 ∷ []
value_bytes (integer z) = 3 ∷ sixteen z
value_bytes (text cs) = 4 ∷ long (encode_utf8_all cs)
value_bytes (range start stop step) = 5 ∷ (sixteen start ++ (sixteen stop ++ sixteen step))
value_bytes (builtin n) = 6 ∷ n ∷ []
value_bytes (class n) = 7 ∷ n ∷ []
value_bytes (node i) = 8 ∷ in_four i

-- a part of a key, as the value that it is
abbrev pub part_bytes : KeyPart → List ℕ
part_bytes k.none = 0 ∷ []
part_bytes (k.bool false) = 1 ∷ []
part_bytes (k.bool true) = 2 ∷ []
part_bytes (k.integer z) = 3 ∷ sixteen z
part_bytes (k.text cs) = 4 ∷ long (encode_utf8_all cs)

-- a key of one part as that part, and a tuple behind a number of its own
abbrev pub key_bytes : Key → List ℕ
key_bytes (k.single p) = part_bytes p
key_bytes (k.tuple ps) = 9 ∷ many part_bytes ps

-- an entry of a dict
abbrev pub entry_bytes : Key × Value → List ℕ
entry_bytes e = key_bytes e.0 ++ value_bytes e.1

-- a name or an attribute, with its value
abbrev pub name_bytes : List ℕ × Value → List ℕ
name_bytes b = short b.0 ++ value_bytes b.1

-- a node behind the number of its kind
abbrev pub row_bytes : Node → List ℕ
row_bytes (list vs) = 1 ∷ many value_bytes vs
row_bytes (tuple vs) = 2 ∷ many value_bytes vs
row_bytes (dict es) = 3 ∷ many entry_bytes es
row_bytes (object as') = 4 ∷ many name_bytes as'
row_bytes (function profile code vs) = 5 ∷ profile_number profile ∷ (long code ++ many value_bytes vs)
row_bytes (exception kind vs) = 6 ∷ kind ∷ many value_bytes vs

-- the names, and then the rows
abbrev pub state_bytes : State → List ℕ
state_bytes s = many name_bytes s.names ++ many row_bytes s.nodes

-- the bytes of the picture of names
abbrev pub picture_bytes : State → List (List ℕ) → List ℕ
picture_bytes s names = state_bytes (picture s names)
