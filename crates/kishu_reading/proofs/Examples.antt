-- Worked rows, computed on the definitions.
use Rattle.std.specs.Prelude.{◌≡◌, ℕ, pos, negsuc, true, false, List, [], ◌∷◌, ◌++◌, Ok, Err, codes, refl}
use Rattle.std.specs.Char.{encode_utf8}
use Rattle.std.specs.Str.{chars}
use Rattle.kishu_language.specs.tokens.Names.{reserved_words}
use Rattle.kishu_meaning.specs.values.Keys as k
use Rattle.kishu_meaning.specs.values.Values.{none, bool, integer, text, range, builtin, class, node, list, tuple, dict, object, exception, State}
use Rattle.kishu_reading.specs.FromBytes.{read_picture}

-- ---- after a = [1]

-- one name, of one letter
abbrev name : List ℕ
name = 0 ∷ 0 ∷ 0 ∷ 1 ∷ 1 ∷ 0x61 ∷ []

-- node 0, and one node
abbrev nodes : List ℕ
nodes = 8 ∷ 0 ∷ 0 ∷ 0 ∷ 0 ∷ 0 ∷ 0 ∷ 0 ∷ 1 ∷ []

-- whole numbers
abbrev small : ℕ → List ℕ
small n = 0 ∷ 0 ∷ 0 ∷ 0 ∷ 0 ∷ 0 ∷ 0 ∷ 0 ∷ 0 ∷ 0 ∷ 0 ∷ 0 ∷ 0 ∷ 0 ∷ 0 ∷ n ∷ []

abbrev minus_one : List ℕ
minus_one = 255 ∷ 255 ∷ 255 ∷ 255 ∷ 255 ∷ 255 ∷ 255 ∷ 255 ∷ 255 ∷ 255 ∷ 255 ∷ 255 ∷ 255 ∷ 255 ∷ 255 ∷ 255 ∷ []

-- a list of one whole number
abbrev row : List ℕ
row = 1 ∷ 0 ∷ 0 ∷ 0 ∷ 1 ∷ 3 ∷ small 1

one_list : State
one_list = record { names = (codes "a", node 0) ∷ []; nodes = list (integer (pos 1) ∷ []) ∷ [] }

a_picture : read_picture (name ++ nodes ++ row) ≡ Ok one_list
unfolding read_picture one_list reserved_words
a_picture = refl

nothing : read_picture [] ≡ Err 0
unfolding read_picture
nothing = refl

no_such_value : read_picture (name ++ 10 ∷ 0 ∷ 0 ∷ 0 ∷ 0 ∷ 0 ∷ 0 ∷ 0 ∷ 1 ∷ row) ≡ Err 6
unfolding read_picture reserved_words
no_such_value = refl

number_too_high : read_picture (name ++ 8 ∷ 0 ∷ 0 ∷ 0 ∷ 1 ∷ 0 ∷ 0 ∷ 0 ∷ 1 ∷ row) ≡ Err 7
unfolding read_picture reserved_words
number_too_high = refl

too_few_nodes : read_picture (name ++ 8 ∷ 0 ∷ 0 ∷ 0 ∷ 0 ∷ 0 ∷ 0 ∷ 0 ∷ 0 ∷ row) ≡ Err 11
unfolding read_picture reserved_words
too_few_nodes = refl

too_many_nodes : read_picture (name ++ 8 ∷ 0 ∷ 0 ∷ 0 ∷ 0 ∷ 0 ∷ 0 ∷ 0 ∷ 2 ∷ row) ≡ Err 37
unfolding read_picture reserved_words
too_many_nodes = refl

one_byte_more : read_picture (name ++ nodes ++ row ++ 0 ∷ []) ≡ Err 37
unfolding read_picture reserved_words
one_byte_more = refl

no_name : read_picture (0 ∷ 0 ∷ 0 ∷ 1 ∷ 0 ∷ []) ≡ Err 4
unfolding read_picture
no_name = refl

reserved : read_picture (0 ∷ 0 ∷ 0 ∷ 1 ∷ 2 ∷ 0x69 ∷ 0x66 ∷ 0 ∷ 0 ∷ 0 ∷ 0 ∷ 0 ∷ []) ≡ Err 5
unfolding read_picture reserved_words
reserved = refl

not_rising : read_picture (0 ∷ 0 ∷ 0 ∷ 2 ∷ 1 ∷ 0x61 ∷ 0 ∷ 1 ∷ 0x61 ∷ 0 ∷ 0 ∷ 0 ∷ 0 ∷ 0 ∷ []) ≡ Err 8
unfolding read_picture reserved_words
not_rising = refl

falling : read_picture (0 ∷ 0 ∷ 0 ∷ 2 ∷ 1 ∷ 0x62 ∷ 0 ∷ 1 ∷ 0x61 ∷ 0 ∷ 0 ∷ 0 ∷ 0 ∷ 0 ∷ []) ≡ Err 8
unfolding read_picture reserved_words
falling = refl

-- {1: None, True: None}, of which the second key is the first once more
repeated_key : read_picture (name ++ nodes ++ 3 ∷ 0 ∷ 0 ∷ 0 ∷ 2 ∷ 3 ∷ (small 1 ++ 0 ∷ 2 ∷ 0 ∷ [])) ≡ Err 38
unfolding read_picture reserved_words
repeated_key = refl

-- an object of which x is set twice
repeated_attribute : read_picture (name ++ nodes ++ 4 ∷ 0 ∷ 0 ∷ 0 ∷ 2 ∷ 1 ∷ 0x78 ∷ 0 ∷ 1 ∷ 0x78 ∷ 0 ∷ []) ≡ Err 23
unfolding read_picture reserved_words
repeated_attribute = refl

-- ---- two names of one list, and a list in itself

two_names : read_picture (0 ∷ 0 ∷ 0 ∷ 2 ∷ 1 ∷ 0x61 ∷ 8 ∷ 0 ∷ 0 ∷ 0 ∷ 0 ∷ 1 ∷ 0x62 ∷ 8 ∷ 0 ∷ 0 ∷ 0 ∷ 0 ∷ 0 ∷ 0 ∷ 0 ∷ 1 ∷ row)
    ≡ Ok (record { names = (codes "a", node 0) ∷ (codes "b", node 0) ∷ []; nodes = list (integer (pos 1) ∷ []) ∷ [] })
unfolding read_picture reserved_words
two_names = refl

in_itself : read_picture (name ++ nodes ++ 1 ∷ 0 ∷ 0 ∷ 0 ∷ 1 ∷ 8 ∷ 0 ∷ 0 ∷ 0 ∷ 0 ∷ [])
    ≡ Ok (record { names = (codes "a", node 0) ∷ []; nodes = list (node 0 ∷ []) ∷ [] })
unfolding read_picture reserved_words
in_itself = refl

-- ---- further faults

no_such_row : read_picture (name ++ nodes ++ 7 ∷ []) ≡ Err 15
unfolding read_picture reserved_words
no_such_row = refl

no_exception : read_picture (name ++ nodes ++ 6 ∷ 7 ∷ 0 ∷ 0 ∷ 0 ∷ 0 ∷ []) ≡ Err 16
unfolding read_picture reserved_words
no_exception = refl

no_such_builtin : read_picture (name ++ 6 ∷ 14 ∷ 0 ∷ 0 ∷ 0 ∷ 0 ∷ []) ≡ Err 7
unfolding read_picture reserved_words
no_such_builtin = refl

no_step : read_picture (name ++ 5 ∷ (small 1 ++ small 2 ++ small 0 ++ 0 ∷ 0 ∷ 0 ∷ 0 ∷ [])) ≡ Err 39
unfolding read_picture reserved_words
no_step = refl

no_text : read_picture (name ++ 4 ∷ 0 ∷ 0 ∷ 0 ∷ 1 ∷ 255 ∷ 0 ∷ 0 ∷ 0 ∷ 0 ∷ []) ≡ Err 11
unfolding read_picture reserved_words chars encode_utf8
no_text = refl

cut_number : read_picture (name ++ nodes ++ 1 ∷ 0 ∷ 0 ∷ 0 ∷ 1 ∷ 3 ∷ 0 ∷ 0 ∷ []) ≡ Err 21
unfolding read_picture reserved_words
cut_number = refl

no_identifier : read_picture (0 ∷ 0 ∷ 0 ∷ 1 ∷ 1 ∷ 0x31 ∷ 0 ∷ 0 ∷ 0 ∷ 0 ∷ 0 ∷ []) ≡ Err 5
unfolding read_picture reserved_words
no_identifier = refl

cut_name : read_picture (0 ∷ 0 ∷ 0 ∷ 1 ∷ 3 ∷ 0x61 ∷ 0x62 ∷ []) ≡ Err 5
unfolding read_picture reserved_words
cut_name = refl

no_such_class : read_picture (name ++ 7 ∷ 25 ∷ 0 ∷ 0 ∷ 0 ∷ 0 ∷ []) ≡ Err 7
unfolding read_picture reserved_words
no_such_class = refl

no_such_exception : read_picture (name ++ nodes ++ 6 ∷ 25 ∷ 0 ∷ 0 ∷ 0 ∷ 0 ∷ []) ≡ Err 16
unfolding read_picture reserved_words
no_such_exception = refl

-- one node, and a row that would lead to a second one
number_past_nodes : read_picture (name ++ nodes ++ 1 ∷ 0 ∷ 0 ∷ 0 ∷ 1 ∷ 8 ∷ 0 ∷ 0 ∷ 0 ∷ 1 ∷ []) ≡ Err 21
unfolding read_picture reserved_words
number_past_nodes = refl

-- two nodes, of which the row of the first doesn't lead to the second
row_not_met : read_picture (name ++ 8 ∷ 0 ∷ 0 ∷ 0 ∷ 0 ∷ 0 ∷ 0 ∷ 0 ∷ 2 ∷ 1 ∷ 0 ∷ 0 ∷ 0 ∷ 0 ∷ 1 ∷ 0 ∷ 0 ∷ 0 ∷ 0 ∷ []) ≡ Err 20
unfolding read_picture reserved_words
row_not_met = refl

-- a dict with a key that is a range, and one with a tuple in a tuple
no_such_key : read_picture (name ++ nodes ++ 3 ∷ 0 ∷ 0 ∷ 0 ∷ 1 ∷ 5 ∷ 0 ∷ []) ≡ Err 20
unfolding read_picture reserved_words
no_such_key = refl

no_such_part : read_picture (name ++ nodes ++ 3 ∷ 0 ∷ 0 ∷ 0 ∷ 1 ∷ 9 ∷ 0 ∷ 0 ∷ 0 ∷ 1 ∷ 9 ∷ 0 ∷ 0 ∷ 0 ∷ 0 ∷ 0 ∷ []) ≡ Err 25
unfolding read_picture reserved_words
no_such_part = refl

no_attribute : read_picture (name ++ nodes ++ 4 ∷ 0 ∷ 0 ∷ 0 ∷ 1 ∷ 0 ∷ 0 ∷ []) ≡ Err 20
unfolding read_picture reserved_words
no_attribute = refl

reserved_attribute : read_picture (name ++ nodes ++ 4 ∷ 0 ∷ 0 ∷ 0 ∷ 1 ∷ 2 ∷ 0x69 ∷ 0x66 ∷ 0 ∷ []) ≡ Err 21
unfolding read_picture reserved_words
reserved_attribute = refl

-- of a function: a profile and a length that are too high
no_such_profile : read_picture (name ++ nodes ++ 5 ∷ 2 ∷ 0 ∷ 0 ∷ 0 ∷ 0 ∷ []) ≡ Err 16
unfolding read_picture reserved_words
no_such_profile = refl

code_too_long : read_picture (name ++ nodes ++ 5 ∷ 1 ∷ 0 ∷ 16 ∷ 0 ∷ 1 ∷ []) ≡ Err 17
unfolding read_picture reserved_words
code_too_long = refl

-- ---- every kind

-- a is [None, False, True, 'x', range(1, 2, 3), print, SimpleNamespace, ()], and the tuple is node 1
kinds_of_values : read_picture (name ++ 8 ∷ 0 ∷ 0 ∷ 0 ∷ 0 ∷ 0 ∷ 0 ∷ 0 ∷ 2
    ∷ 1 ∷ 0 ∷ 0 ∷ 0 ∷ 8 ∷ 0 ∷ 1 ∷ 2 ∷ 4 ∷ 0 ∷ 0 ∷ 0 ∷ 1 ∷ 0x78 ∷ 5 ∷ (small 1 ++ small 2 ++ small 3 ++ 6 ∷ 10 ∷ 7 ∷ 5 ∷ 8 ∷ 0 ∷ 0 ∷ 0 ∷ 1
    ∷ 2 ∷ 0 ∷ 0 ∷ 0 ∷ 0 ∷ []))
    ≡ Ok (record {
      names = (codes "a", node 0) ∷ [];
      nodes = list (none ∷ bool false ∷ bool true ∷ text (codes "x") ∷ range (pos 1) (pos 2) (pos 3) ∷ builtin 10 ∷ class 5 ∷ node 1 ∷ [])
          ∷ tuple [] ∷ [];
    })
unfolding read_picture reserved_words chars encode_utf8
kinds_of_values = refl

-- a is {None: x, (True, -1): e}, where x is a SimpleNamespace of which b is a itself, and e is ValueError(2)
kinds_of_rows : read_picture (name ++ 8 ∷ 0 ∷ 0 ∷ 0 ∷ 0 ∷ 0 ∷ 0 ∷ 0 ∷ 3
    ∷ 3 ∷ 0 ∷ 0 ∷ 0 ∷ 2 ∷ 0 ∷ 8 ∷ 0 ∷ 0 ∷ 0 ∷ 1 ∷ 9 ∷ 0 ∷ 0 ∷ 0 ∷ 2 ∷ 2 ∷ 3 ∷ (minus_one ++ 8 ∷ 0 ∷ 0 ∷ 0 ∷ 2
    ∷ 4 ∷ 0 ∷ 0 ∷ 0 ∷ 1 ∷ 1 ∷ 0x62 ∷ 8 ∷ 0 ∷ 0 ∷ 0 ∷ 0
    ∷ 6 ∷ 24 ∷ 0 ∷ 0 ∷ 0 ∷ 1 ∷ 3 ∷ small 2))
    ≡ Ok (record {
      names = (codes "a", node 0) ∷ [];
      nodes = dict ((k.single k.none, node 1) ∷ (k.tuple (k.bool true ∷ k.integer (negsuc 0) ∷ []), node 2) ∷ [])
          ∷ object ((codes "b", node 0) ∷ []) ∷ exception 24 (integer (pos 2) ∷ []) ∷ [];
    })
unfolding read_picture reserved_words
kinds_of_rows = refl
