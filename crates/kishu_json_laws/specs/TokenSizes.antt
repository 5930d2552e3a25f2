-- The tokens of a text of JSON are no larger than the text.
use Rattle.std.proofs.Common.{◌≡◌, ℕ, ◌+◌, ◌≤◌, Bool, true, false, List, [], ◌∷◌, ◌++◌, length, refl, arith}
use Rattle.std.proofs.lemmas.Bool.{false≢true}
use Rattle.json.specs.Lex.{Lexeme, token, comma, colon, between, lex, Place, fresh, after_value, after_comma, after_key, begins_colon, may_begin, may_close, if_allowed, place_token, punctuate, tokens}
use Rattle.json.specs.Token.{Token, begin_object, end_object, begin_array, end_array, key, string, number, boolean, null, bad}
use Rattle.kishu_json_laws.specs.Contents.{token_size, lexemes_size, lex_size}

abbrev pub tokens_size : List Token → ℕ
tokens_size [] = 0
tokens_size (t ∷ ts) = token_size t + tokens_size ts

pub tokens_size-append : (ts us : List Token) → tokens_size (ts ++ us) ≡ tokens_size ts + tokens_size us
tokens_size-append [] us = omega arith
tokens_size-append (t ∷ ts) us = omega (arith, tokens_size-append ts us)

-- ---- a lexeme gives at most one token, of its size

allowed_size : (b : Bool) (t : Token) (k : Place → List Token) (next : Place) (n : ℕ) → 1 ≤ token_size t → tokens_size (k next) ≤ n → tokens_size (if_allowed b t k next) ≤ token_size t + n
allowed_size true t k next n some rest = omega arith
allowed_size false t k next n some rest = omega arith

placed_token : (p : Place) (t : Token) (b : Bool) (k : Place → List Token) (n : ℕ) → tokens_size (k fresh) ≤ n → tokens_size (k after_value) ≤ n → (b ≡ true → tokens_size (k after_key) ≤ n)
    → tokens_size (place_token p t b k) ≤ token_size t + n
placed_token p begin_object b k n opened valued keyed = allowed_size (may_begin p) begin_object k fresh n (omega arith) opened
placed_token p end_object b k n opened valued keyed = allowed_size (may_close p) end_object k after_value n (omega arith) valued
placed_token p begin_array b k n opened valued keyed = allowed_size (may_begin p) begin_array k fresh n (omega arith) opened
placed_token p end_array b k n opened valued keyed = allowed_size (may_close p) end_array k after_value n (omega arith) valued
placed_token p (key s) b k n opened valued keyed = omega arith
placed_token p (string s) true k n opened valued keyed = allowed_size (may_begin p) (key s) k after_key n (omega arith) (keyed refl)
placed_token p (string s) false k n opened valued keyed = allowed_size (may_begin p) (string s) k after_value n (omega arith) valued
placed_token p (number s) b k n opened valued keyed = allowed_size (may_begin p) (number s) k after_value n (omega arith) valued
placed_token p (boolean x) b k n opened valued keyed = allowed_size (may_begin p) (boolean x) k after_value n (omega arith) valued
placed_token p null b k n opened valued keyed = allowed_size (may_begin p) null k after_value n (omega arith) valued
placed_token p bad b k n opened valued keyed = omega arith

-- a comma or a colon at the end gave no token, and the end gives one
abbrev owed : Place → ℕ
owed fresh = 0
owed after_value = 0
owed after_comma = 1
owed after_key = 1

mutual
  unfolding punctuate

  placed_size : (p : Place) (ls : List Lexeme) → tokens_size (punctuate p ls) ≤ lexemes_size ls + owed p
  placed_size fresh [] = omega arith
  placed_size after_value [] = omega arith
  placed_size after_comma [] = omega arith
  placed_size after_key [] = omega arith
  placed_size fresh (token t ∷ ls) = omega (arith, placed_token fresh t (begins_colon ls) (λ next. punctuate next ls) (lexemes_size ls) (omega (arith, placed_size fresh ls)) (omega (arith, placed_size after_value ls)) (keyed_size ls))
  placed_size after_value (token t ∷ ls) = omega (arith, placed_token after_value t (begins_colon ls) (λ next. punctuate next ls) (lexemes_size ls) (omega (arith, placed_size fresh ls)) (omega (arith, placed_size after_value ls)) (keyed_size ls))
  placed_size after_comma (token t ∷ ls) = omega (arith, placed_token after_comma t (begins_colon ls) (λ next. punctuate next ls) (lexemes_size ls) (omega (arith, placed_size fresh ls)) (omega (arith, placed_size after_value ls)) (keyed_size ls))
  placed_size after_key (token t ∷ ls) = omega (arith, placed_token after_key t (begins_colon ls) (λ next. punctuate next ls) (lexemes_size ls) (omega (arith, placed_size fresh ls)) (omega (arith, placed_size after_value ls)) (keyed_size ls))
  placed_size fresh (comma ∷ ls) = omega arith
  placed_size after_value (comma ∷ ls) = omega (arith, placed_size after_comma ls)
  placed_size after_comma (comma ∷ ls) = omega arith
  placed_size after_key (comma ∷ ls) = omega arith
  placed_size fresh (colon ∷ ls) = omega arith
  placed_size after_value (colon ∷ ls) = omega arith
  placed_size after_comma (colon ∷ ls) = omega arith
  placed_size after_key (colon ∷ ls) = omega (arith, placed_size fresh ls)

  -- a key has its colon
  keyed_size : (ls : List Lexeme) → begins_colon ls ≡ true → tokens_size (punctuate after_key ls) ≤ lexemes_size ls
  keyed_size [] next = absurd (false≢true next)
  keyed_size (token t ∷ ls) next = absurd (false≢true next)
  keyed_size (comma ∷ ls) next = absurd (false≢true next)
  keyed_size (colon ∷ ls) next = omega (arith, placed_size fresh ls)

pub tokens_within : (text : List ℕ) → tokens_size (tokens text) ≤ length text
tokens_within text = omega (arith, placed_size fresh (lex between text), lex_size between text)
