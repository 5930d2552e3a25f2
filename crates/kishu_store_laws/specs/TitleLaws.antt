-- The names of groups and of branches are texts of ASCII characters, so records can tell them as the names of branches.
use Rattle.std.specs.Prelude.{◌≡◌, ◌<◌, ◌⊎◌, ℕ, suc, zero, nat_le, ◌==◌, Bool, true, false, ◌&&◌, ◌||◌, not, IsTrue, List, [], ◌∷◌, length, refl}
use Rattle.std.specs.List.{list_all}
use Rattle.std.specs.Str.{IsAscii}
use Rattle.std.proofs.Common.{inl, inr, arith, leb-true, eqb-true}
use Rattle.std.proofs.lemmas.Bool.{false≢true}
use Rattle.std.proofs.lemmas.Str.{IsUtf8-from_ascii}
use Rattle.kishu_language.specs.tokens.Names.{is_digit, is_letter, is_word_char, begins_with_letter, is_reserved_word}
use Rattle.kishu_store.specs.Branches.{is_branch_char, is_branch_name}
use Rattle.kishu_store.specs.Groups.{IsName}
use Rattle.kishu_store.specs.Rules.{IsTitle}

first : (a b : Bool) → (a && b) ≡ true → a ≡ true
first true b e = refl
first false b e = absurd (false≢true e)

second : (a b : Bool) → (a && b) ≡ true → b ≡ true
second true b e = e
second false b e = absurd (false≢true e)

either : (a b : Bool) → (a || b) ≡ true → (a ≡ true) ⊎ (b ≡ true)
either true b e = inl refl
either false b e = inr e

letter_low : (c : ℕ) → is_letter c ≡ true → c < 128
letter_low c e = elim (either (nat_le 65 c && nat_le c 90) ((nat_le 97 c && nat_le c 122) || (c == 95)) e) [
  | inl a ↦ omega (arith, leb-true c 90 (second (nat_le 65 c) (nat_le c 90) a))
  | inr m ↦ elim (either (nat_le 97 c && nat_le c 122) (c == 95) m) [
    | inl b ↦ omega (arith, leb-true c 122 (second (nat_le 97 c) (nat_le c 122) b))
    | inr d ↦ omega (arith, eqb-true c 95 d)
  ]
]

word_low : (c : ℕ) → is_word_char c ≡ true → c < 128
word_low c e = elim (either (is_letter c) (is_digit c) e) [
  | inl l ↦ letter_low c l
  | inr d ↦ omega (arith, leb-true c 57 (second (nat_le 48 c) (nat_le c 57) d))
]

branch_low : (c : ℕ) → is_branch_char c ≡ true → c < 128
branch_low c e = elim (either (is_word_char c) (c == 45) e) [ inl l ↦ word_low c l | inr d ↦ omega (arith, eqb-true c 45 d) ]

-- characters of which each is of ASCII
all_low : (p : ℕ → Bool) → ((c : ℕ) → p c ≡ true → c < 128) → (cs : List ℕ) → list_all p cs ≡ true → IsAscii cs
all_low p low [] e i = omega arith
all_low p low (c ∷ cs) e zero = low c (first (p c) (list_all p cs) e)
all_low p low (c ∷ cs) e (suc i) = all_low p low cs (second (p c) (list_all p cs) e) i

-- an identifier
pub name_title : (x : List ℕ) → IsName x → IsTitle x
name_title x e =
    let behind = second (begins_with_letter x) (list_all is_word_char x && (nat_le (length x) 255 && not (is_reserved_word x))) e in
    let rest = second (list_all is_word_char x) (nat_le (length x) 255 && not (is_reserved_word x)) behind in
    record {
      short = leb-true (length x) 255 (first (nat_le (length x) 255) (not (is_reserved_word x)) rest);
      utf8 = IsUtf8-from_ascii x (all_low is_word_char word_low x (first (list_all is_word_char x) (nat_le (length x) 255 && not (is_reserved_word x)) behind));
    }

-- a name of that form
pub branch_title : (x : List ℕ) → IsTrue (is_branch_name x) → IsTitle x
branch_title x e =
    let behind = second (begins_with_letter x) (list_all is_branch_char x && nat_le (length x) 64) e in
    let short = leb-true (length x) 64 (second (list_all is_branch_char x) (nat_le (length x) 64) behind) in
    record {
      short = omega (arith, short);
      utf8 = IsUtf8-from_ascii x (all_low is_branch_char branch_low x (first (list_all is_branch_char x) (nat_le (length x) 64) behind));
    }
