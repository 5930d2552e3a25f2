-- The lexemes of a text of JSON are no larger than the text, the contents of its strings among them.
use Rattle.std.proofs.Common.{◌≡◌, ℕ, suc, ◌+◌, ◌≤◌, ◌==◌, Bool, true, false, cond, ◌&&◌, nat_lt, List, [], ◌∷◌, length, Option, Some, None, option_and_then, refl, sym, ap, ◌∙◌, subst, arith}
use Rattle.std.proofs.lemmas.Bool.{false≢true, eqb-true, and_parts}
use Rattle.std.proofs.lemmas.List.{length-append}
use Rattle.std.proofs.lemmas.Option.{none-some}
use Rattle.std.specs.Prelude.{⊤}
use Rattle.std.specs.Char.{is_digit, encode_utf8}
use Rattle.json.specs.Ascii as ascii
use Rattle.json.specs.Lex.{Lexeme, token, comma, colon, Class, quote, backslash, operator, space, other, class, operator_lexeme, string_token, Mode, between, in_word, in_string, in_escape, lex_byte, lex}
use Rattle.json.specs.Text.{code_unit, short_escape, is_high_surrogate, is_low_surrogate, surrogate_pair, Within, plain, after_backslash, after_u, after_high, prepend, content}
use Rattle.json.specs.Token.{Token, begin_object, end_object, begin_array, end_array, key, string, number, boolean, null, bad}
use Rattle.json.specs.Word.{is_operator, is_space, ends_word, literal, after_number, number_before, word, head}

-- A string is as large as its content and two quotes.
abbrev pub token_size : Token → ℕ
token_size begin_object = 1
token_size end_object = 1
token_size begin_array = 1
token_size end_array = 1
token_size (key s) = length s + 2
token_size (string s) = length s + 2
token_size (number s) = 1
token_size (boolean b) = 1
token_size null = 1
token_size bad = 1

abbrev pub lexeme_size : Lexeme → ℕ
lexeme_size (token t) = token_size t
lexeme_size comma = 1
lexeme_size colon = 1

abbrev pub lexemes_size : List Lexeme → ℕ
lexemes_size [] = 0
lexemes_size (l ∷ ls) = lexeme_size l + lexemes_size ls

-- ---- a lexeme that is no string has the size 1

one_of : (b : Bool) (k l : Lexeme) → lexeme_size k ≤ 1 → lexeme_size l ≤ 1 → lexeme_size (cond b k l) ≤ 1
one_of true k l first second = first
one_of false k l first second = second

operator_one : (x : ℕ) → lexeme_size (operator_lexeme x) ≤ 1
operator_one x =
    one_of (x == ascii.open_brace) _ _ (omega arith) (one_of (x == ascii.close_brace) _ _ (omega arith)
    (one_of (x == ascii.open_bracket) _ _ (omega arith) (one_of (x == ascii.close_bracket) _ _ (omega arith)
    (one_of (x == ascii.comma) _ _ (omega arith) (omega arith)))))

token_one : (b : Bool) (t u : Token) → token_size t ≤ 1 → token_size u ≤ 1 → token_size (cond b t u) ≤ 1
token_one true t u first second = first
token_one false t u first second = second

literal_one : (name : List ℕ) (t : Token) (text : List ℕ) → token_size t ≤ 1 → token_size (literal name t text) ≤ 1
literal_one name t text one = token_one _ t bad one (omega arith)

number_one : (text : List ℕ) (o : Option (List ℕ)) → token_size (number_before text o) ≤ 1
number_one text None = omega arith
number_one text (Some rest) = token_one (ends_word rest) _ bad (omega arith) (omega arith)

word_one : (text : List ℕ) → token_size (word text) ≤ 1
unfolding word
word_one text =
    token_one (head text == ascii.lower_t) _ _ (literal_one ascii.true_text (boolean true) text (omega arith))
    (token_one (head text == ascii.lower_f) _ _ (literal_one ascii.false_text (boolean false) text (omega arith))
    (token_one (head text == ascii.lower_n) _ _ (literal_one ascii.null_text null text (omega arith)) (number_one text (after_number text))))

-- ---- a string's content, and what stands behind it

-- Of n bytes so many are left behind a content and its closing quote.
abbrev Leaves : (rest n : ℕ) → Option (List ℕ) → Type 0
Leaves rest n None = ⊤
Leaves rest n (Some s) = length s + 1 + rest ≤ n

wider : (rest m n : ℕ) (o : Option (List ℕ)) → Leaves rest m o → m ≤ n → Leaves rest n o
wider rest m n None leaves more = tt
wider rest m n (Some s) leaves more = omega arith

put_before : (rest m n : ℕ) (front : List ℕ) (o : Option (List ℕ)) → Leaves rest m o → length front + m ≤ n → Leaves rest n (prepend front o)
put_before rest m n front None leaves more = tt
put_before rest m n front (Some s) leaves more = omega (arith, length-append front s)

either : (rest n : ℕ) (b : Bool) (o p : Option (List ℕ)) → Leaves rest n o → Leaves rest n p → Leaves rest n (cond b o p)
either rest n true o p first second = first
either rest n false o p first second = second

if_so : (rest n : ℕ) (b : Bool) (o : Option (List ℕ)) → (b ≡ true → Leaves rest n o) → Leaves rest n (cond b o None)
if_so rest n true o leaves = leaves refl
if_so rest n false o leaves = tt

found : (rest n : ℕ) (f : ℕ → Option (List ℕ)) (o : Option ℕ) → ((u : ℕ) → o ≡ Some u → Leaves rest n (f u)) → Leaves rest n (option_and_then f o)
found rest n f None leaves = tt
found rest n f (Some u) leaves = leaves u refl

-- a byte of a string
plain_byte : (q b low o s : Bool) (x : ℕ) (xs : List ℕ) (k : Mode → List Lexeme) (n : ℕ) (escaped further : Option (List ℕ))
    → lexemes_size (k between) ≤ n → Leaves (lexemes_size (k in_escape)) n escaped → Leaves (lexemes_size (k in_string)) n further
    → Leaves (lexemes_size (lex_byte in_string (cond q quote (cond b backslash (cond o operator (cond s space other)))) x xs k)) (suc n) (cond q (Some []) (cond b escaped (cond low None (prepend (x ∷ []) further))))
plain_byte true b low o s x xs k n escaped further closed leaves goes = omega (arith, closed)
plain_byte false true low o s x xs k n escaped further closed leaves goes = wider _ n (suc n) escaped leaves (omega arith)
plain_byte false false true o s x xs k n escaped further closed leaves goes = tt
plain_byte false false false true s x xs k n escaped further closed leaves goes = put_before _ n (suc n) (x ∷ []) further goes (omega arith)
plain_byte false false false false true x xs k n escaped further closed leaves goes = put_before _ n (suc n) (x ∷ []) further goes (omega arith)
plain_byte false false false false false x xs k n escaped further closed leaves goes = put_before _ n (suc n) (x ∷ []) further goes (omega arith)

-- the byte behind a backslash
escaped_byte : (rest n x : ℕ) (u : Bool) (o : Option ℕ) (unit further : Option (List ℕ)) → Leaves rest n unit → Leaves rest n further
    → Leaves rest (suc n) (cond u unit (option_and_then (λ c. prepend (c ∷ []) further) o))
escaped_byte rest n x true o unit further first second = wider rest n (suc n) unit first (omega arith)
escaped_byte rest n x false None unit further first second = tt
escaped_byte rest n x false (Some c) unit further first second = put_before rest n (suc n) (c ∷ []) further second (omega arith)

-- a digit ends no string
passed : (q b o s : Bool) (x : ℕ) (xs : List ℕ) (k : Mode → List Lexeme) → (q ≡ true → ⊥) → (b ≡ true → ⊥)
    → lex_byte in_string (cond q quote (cond b backslash (cond o operator (cond s space other)))) x xs k ≡ k in_string
passed true b o s x xs k no_quote no_backslash = absurd (no_quote refl)
passed false true o s x xs k no_quote no_backslash = absurd (no_backslash refl)
passed false false true s x xs k no_quote no_backslash = refl
passed false false false true x xs k no_quote no_backslash = refl
passed false false false false x xs k no_quote no_backslash = refl

no_digit : (c x : ℕ) → is_digit c 16 ≡ false → is_digit x 16 ≡ true → (x == c) ≡ true → ⊥
no_digit c x never is same = false≢true (sym never ∙ ap (λ y. is_digit y 16) (sym (eqb-true x c same)) ∙ is)

digit_passes : (x : ℕ) (xs : List ℕ) → is_digit x 16 ≡ true → lex in_string (x ∷ xs) ≡ lex in_string xs
unfolding lex
digit_passes x xs is =
    passed (x == ascii.quote) (x == ascii.backslash) (is_operator x) (is_space x) x xs (λ next. lex next xs) (no_digit ascii.quote x refl is) (no_digit ascii.backslash x refl is)

if_found : {A : Type 0} (b : Bool) (x y : A) → cond b (Some x) None ≡ Some y → b ≡ true
if_found true x y is = refl
if_found false x y is = absurd (none-some y is)

digits_in : (a b c d u : ℕ) → code_unit a b c d ≡ Some u → (is_digit a 16 && is_digit b 16 && is_digit c 16 && is_digit d 16) ≡ true
unfolding code_unit
digits_in a b c d u is = if_found _ _ u is

unit_passes : (a b c d u : ℕ) (xs : List ℕ) → code_unit a b c d ≡ Some u → lex in_string (a ∷ b ∷ c ∷ d ∷ xs) ≡ lex in_string xs
unit_passes a b c d u xs is =
    let all = and_parts (is_digit a 16 && is_digit b 16 && is_digit c 16) (is_digit d 16) (digits_in a b c d u is) in
    let three = and_parts (is_digit a 16 && is_digit b 16) (is_digit c 16) all.0 in
    let two = and_parts (is_digit a 16) (is_digit b 16) three.0 in
    digit_passes a (b ∷ c ∷ d ∷ xs) two.0 ∙ digit_passes b (c ∷ d ∷ xs) two.1 ∙ digit_passes c (d ∷ xs) three.1 ∙ digit_passes d xs all.1

escape_passes : (x : ℕ) (xs : List ℕ) → (x == ascii.backslash) ≡ true → lex in_string (x ∷ xs) ≡ lex in_escape xs
unfolding lex
escape_passes x xs is = ap (λ y. lex in_string (y ∷ xs)) (eqb-true x ascii.backslash is)

escaped_passes : (x : ℕ) (xs : List ℕ) → lex in_escape (x ∷ xs) ≡ lex in_string xs
unfolding lex
escaped_passes x xs = refl

character_size : (u : ℕ) → length (encode_utf8 u) ≤ 4
unfolding encode_utf8
character_size u = grind arith

-- a lexeme that begins with a quote
string_size : (o : Option (List ℕ)) (rest n : ℕ) → rest ≤ n → Leaves rest n o → token_size (string_token o) + rest ≤ suc n
string_size None rest n within leaves = omega arith
string_size (Some s) rest n within leaves = omega arith

byte_size : (m : Mode) (c : Class) (x : ℕ) (xs : List ℕ) (k : Mode → List Lexeme) (n : ℕ) → ((next : Mode) → lexemes_size (k next) ≤ n) → Leaves (lexemes_size (k in_string)) n (content plain xs)
    → lexemes_size (lex_byte m c x xs k) ≤ suc n
byte_size between quote x xs k n rest leaves = string_size (content plain xs) _ n (rest in_string) leaves
byte_size between backslash x xs k n rest leaves = omega (arith, rest in_word)
byte_size between operator x xs k n rest leaves = omega (arith, rest between, operator_one x)
byte_size between space x xs k n rest leaves = omega (arith, rest between)
byte_size between other x xs k n rest leaves = omega (arith, rest in_word, word_one (x ∷ xs))
byte_size in_word quote x xs k n rest leaves = omega (arith, rest in_word)
byte_size in_word backslash x xs k n rest leaves = omega (arith, rest in_word)
byte_size in_word operator x xs k n rest leaves = omega (arith, rest between, operator_one x)
byte_size in_word space x xs k n rest leaves = omega (arith, rest between)
byte_size in_word other x xs k n rest leaves = omega (arith, rest in_word)
byte_size in_string quote x xs k n rest leaves = omega (arith, rest between)
byte_size in_string backslash x xs k n rest leaves = omega (arith, rest in_escape)
byte_size in_string operator x xs k n rest leaves = omega (arith, rest in_string)
byte_size in_string space x xs k n rest leaves = omega (arith, rest in_string)
byte_size in_string other x xs k n rest leaves = omega (arith, rest in_string)
byte_size in_escape c x xs k n rest leaves = omega (arith, rest in_string)

-- where the lexer is, inside of a string
abbrev mode : Within → Mode
mode plain = in_string
mode after_backslash = in_escape
mode after_u = in_string
mode (after_high h) = in_string

mutual
  unfolding lex content

  pub lex_size : (m : Mode) (xs : List ℕ) → lexemes_size (lex m xs) ≤ length xs
  lex_size m [] = omega arith
  lex_size m (x ∷ xs) = byte_size m (class x) x xs (λ next. lex next xs) (length xs) (λ next. lex_size next xs) (leaves plain xs)

  leaves : (w : Within) (xs : List ℕ) → Leaves (lexemes_size (lex (mode w) xs)) (length xs) (content w xs)
  leaves plain [] = tt
  leaves plain (x ∷ xs) =
      plain_byte (x == ascii.quote) (x == ascii.backslash) (nat_lt x ascii.space) (is_operator x) (is_space x) x xs (λ next. lex next xs) (length xs) (content after_backslash xs) (content plain xs)
      (lex_size between xs) (leaves after_backslash xs) (leaves plain xs)
  leaves after_backslash [] = tt
  leaves after_backslash (x ∷ xs) =
      escaped_byte (lexemes_size (lex in_string xs)) (length xs) x (x == ascii.lower_u) (short_escape x) (content after_u xs) (content plain xs) (leaves after_u xs) (leaves plain xs)
  leaves after_u [] = tt
  leaves after_u (a ∷ []) = tt
  leaves after_u (a ∷ b ∷ []) = tt
  leaves after_u (a ∷ b ∷ c ∷ []) = tt
  leaves after_u (a ∷ b ∷ c ∷ d ∷ xs) =
      let n = length (a ∷ b ∷ c ∷ d ∷ xs) in
      found _ n _ (code_unit a b c d)
      (λ u is. subst (λ ls. Leaves (lexemes_size ls) n (cond (is_high_surrogate u) (content (after_high u) xs) (cond (is_low_surrogate u) None (prepend (encode_utf8 u) (content plain xs))))) (sym (unit_passes a b c d u xs is))
      (either _ n (is_high_surrogate u) _ _ (wider _ (length xs) n _ (leaves (after_high u) xs) (omega arith))
      (either _ n (is_low_surrogate u) None _ tt (put_before _ (length xs) n (encode_utf8 u) _ (leaves plain xs) (omega (arith, character_size u))))))
  leaves (after_high h) [] = tt
  leaves (after_high h) (s ∷ []) = tt
  leaves (after_high h) (s ∷ u ∷ []) = tt
  leaves (after_high h) (s ∷ u ∷ a ∷ []) = tt
  leaves (after_high h) (s ∷ u ∷ a ∷ b ∷ []) = tt
  leaves (after_high h) (s ∷ u ∷ a ∷ b ∷ c ∷ []) = tt
  leaves (after_high h) (s ∷ u ∷ a ∷ b ∷ c ∷ d ∷ xs) =
      let n = length (s ∷ u ∷ a ∷ b ∷ c ∷ d ∷ xs) in
      if_so _ n ((s == ascii.backslash) && (u == ascii.lower_u)) _
      (λ both. found _ n _ (code_unit a b c d)
      (λ l is. subst (λ ls. Leaves (lexemes_size ls) n (cond (is_low_surrogate l) (prepend (encode_utf8 (surrogate_pair h l)) (content plain xs)) None))
      (sym (escape_passes s (u ∷ a ∷ b ∷ c ∷ d ∷ xs) (and_parts _ _ both).0 ∙ escaped_passes u (a ∷ b ∷ c ∷ d ∷ xs) ∙ unit_passes a b c d l xs is))
      (either _ n (is_low_surrogate l) _ None (put_before _ (length xs) n (encode_utf8 (surrogate_pair h l)) _ (leaves plain xs) (omega (arith, character_size (surrogate_pair h l)))) tt)))
