-- Keys of a dict, which it keeps by content (Python Language Reference 3, "Dictionaries").
use Rattle.std.specs.Prelude.{ℕ, ℤ, pos, ◌==◌, Bool, true, false, List, [], map}
use Rattle.std.specs.Cmp.Lexicographic.{pointwise}
use Rattle.std.specs.Ordering.{int_eq, on, eq_of_both}
use Rattle.std.specs.Rc.{rc_str_bytes}
use Rattle.std.specs.Str.{chars, bytes_eq}
use Rattle.kishu_meaning.specs.declared.key.KeyPart as rust_part
use Rattle.kishu_meaning.specs.declared.key.KeyPart.TheVariants as rust_parts
use Rattle.kishu_meaning.specs.declared.key.Key as rust_key
use Rattle.kishu_meaning.specs.declared.key.Key.TheVariants as rust_keys

pub data KeyPart : Type 0 where
  none : KeyPart
  bool : Bool → KeyPart
  integer : ℤ → KeyPart
  -- the code points of a text
  text : List ℕ → KeyPart

-- a single value, or a tuple of them
pub data Key : Type 0 where
  single : KeyPart → Key
  tuple : List KeyPart → Key

-- ---- when two keys are one

-- A bool is a number here.
abbrev pub part_kind : KeyPart → ℕ
part_kind none = 0
part_kind (bool b) = 1
part_kind (integer z) = 1
part_kind (text cs) = 2

abbrev pub number_of_bool : Bool → ℤ
number_of_bool true = pos 1
number_of_bool false = pos 0

-- the number of a number, and 0 otherwise
abbrev pub part_number : KeyPart → ℤ
part_number none = pos 0
part_number (bool b) = number_of_bool b
part_number (integer z) = z
part_number (text cs) = pos 0

-- the code points of a text, and none otherwise
abbrev pub part_text : KeyPart → List ℕ
part_text none = []
part_text (bool b) = []
part_text (integer z) = []
part_text (text cs) = cs

-- Two numbers are one by value, so 1 and True are, and two texts by their code points.
abbrev pub is_one_part : KeyPart → KeyPart → Bool
is_one_part = eq_of_both (on part_kind ◌==◌) (eq_of_both (on part_number int_eq) (on part_text bytes_eq))

-- A tuple is of a kind of its own.
abbrev pub key_kind : Key → ℕ
key_kind (single p) = part_kind p
key_kind (tuple ps) = 3

abbrev pub key_number : Key → ℤ
key_number (single p) = part_number p
key_number (tuple ps) = pos 0

abbrev pub key_text : Key → List ℕ
key_text (single p) = part_text p
key_text (tuple ps) = []

abbrev pub key_parts : Key → List KeyPart
key_parts (single p) = []
key_parts (tuple ps) = ps

-- Two tuples are one where they are as long and their parts are one, in order.
abbrev pub is_one : Key → Key → Bool
is_one = eq_of_both (on key_kind ◌==◌) (eq_of_both (on key_number int_eq) (eq_of_both (on key_text bytes_eq) (on key_parts (pointwise is_one_part))))

-- ---- the keys of the code

abbrev pub part_of : rust_part.KeyPart → KeyPart
part_of rust_parts.None = none
part_of (rust_parts.Bool b) = bool b
part_of (rust_parts.Int z) = integer z
part_of (rust_parts.Text x) = text (chars (rc_str_bytes x))

abbrev pub key_of : rust_key.Key → Key
key_of rust_keys.None = single none
key_of (rust_keys.Bool b) = single (bool b)
key_of (rust_keys.Int z) = single (integer z)
key_of (rust_keys.Text x) = single (text (chars (rc_str_bytes x)))
key_of (rust_keys.Tuple ps) = tuple (map part_of ps.items)

abbrev pub same_part : rust_part.KeyPart → rust_part.KeyPart → Bool
same_part = on part_of is_one_part

abbrev pub same_key : rust_key.Key → rust_key.Key → Bool
same_key = on key_of is_one
