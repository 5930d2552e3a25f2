-- What the reading from the front does with one piece of a line.
use Rattle.std.proofs.Common.{◌≡◌, ℕ, Bool, true, false, cond, ◌&&◌, ◌||◌, List, [], ◌∷◌, ◌++◌, Some, None, refl, ap, ◌∙◌, ◌⊎◌, inl, inr, ⊎_elim}
use Rattle.std.specs.Prelude.{Ok, Err}
use denote.Enum.Bare.{same_true}
use Rattle.kishu_language.specs.contracts.token.Mark.{the_type}
use Rattle.kishu_language.specs.declared.token.Mark.{Mark}
use Rattle.kishu_language.specs.declared.token.Mark.TheVariants as m
use Rattle.kishu_language.specs.tokens.Lexemes.{Lexeme, blank, comment, bad_comment, joined, feed, word, number, string, sign, bad}
use Rattle.kishu_language.specs.tokens.Layout as y
use Rattle.kishu_language.specs.tokens.Layout.{◌>>=◌, Outcome, State, Start, fresh, inside, Kind, Token, Item, token, newline, mark, begin, bracket, is_opening, is_closing, closes, step, steps, finish, End}
use Rattle.kishu_language.specs.rules.LineRules.{value, begins, token_at}

-- A state: how far the line is, the tokens so far, the open brackets with their lines, and the indentations.
abbrev pub St : Start → List Token → List (Mark × ℕ) → List (List ℕ) → State
St b out bs vs = record { out = out; brackets = bs; indents = vs; begun = b }

abbrev pub done : State → Outcome State
done s = Ok s

abbrev pub listed : List Token → Outcome (List Token)
listed ts = Ok ts

abbrev pub last_of : End → State → Outcome (List Token)
last_of at t = finish t.brackets at t

-- one piece, and then the rest
abbrev pub after : End → List Item → Outcome State → Outcome (List Token)
after at is o = (o >>= steps is) >>= last_of at

abbrev pub run : End → List Item → State → Outcome (List Token)
run at is s = steps is s >>= last_of at

some_is : {x y : Kind} → Some x ≡ Some y → x ≡ y
some_is q = cc

pub feed_in_brackets : (l : Lexeme) (n a e : ℕ) (out : List Token) (b : Mark × ℕ) (bs : List (Mark × ℕ)) (vs : List (List ℕ)) → l ≡ feed → step l n a e (St inside out (b ∷ bs) vs) ≡ done (St inside out (b ∷ bs) vs)
unfolding step
feed_in_brackets l n a e out b bs vs h = ap (λ x. step x n a e (St inside out (b ∷ bs) vs)) h

pub feed_at_end : (l : Lexeme) (n a e : ℕ) (out : List Token) (vs : List (List ℕ)) → l ≡ feed → step l n a e (St inside out [] vs) ≡ done (St fresh (out ++ token newline n a e ∷ []) [] vs)
unfolding step
feed_at_end l n a e out vs h = ap (λ x. step x n a e (St inside out [] vs)) h

bracket_plain : (k : Mark) (n : ℕ) (s : State) → is_opening k ≡ false → is_closing k ≡ false → bracket k n s ≡ Ok s
unfolding bracket
bracket_plain k n s h j = rw (h, j) refl

bracket_opens : (k : Mark) (n : ℕ) (s : State) → is_opening k ≡ true → bracket k n s ≡ Ok (y.opened k n s)
unfolding bracket
bracket_opens k n s h = rw h refl

bracket_closes : (o c : Mark) (n l : ℕ) (out : List Token) (bs : List (Mark × ℕ)) (vs : List (List ℕ)) → closes o c ≡ true → is_opening c ≡ false → is_closing c ≡ true
    → bracket c l (St inside out ((o, n) ∷ bs) vs) ≡ Ok (St inside out bs vs)
unfolding bracket
bracket_closes o c n l out bs vs h a b = rw (a, b, h) refl

second_of : (a b p q : Bool) → ((a && b) || (p && q)) ≡ true → (b ≡ true) ⊎ (q ≡ true)
second_of true true p q h = inl refl
second_of true false true q h = inr h
second_of true false false q h = absurd cc
second_of false b true q h = inr h
second_of false b false q h = absurd cc

third_of : (a b c d e f : Bool) → ((a && b) || ((c && d) || (e && f))) ≡ true → (b ≡ true) ⊎ ((d ≡ true) ⊎ (f ≡ true))
third_of true true c d e f h = inl refl
third_of true false c d e f h = inr (second_of c d e f h)
third_of false b c d e f h = inr (second_of c d e f h)

pub closing_mark : (o c : Mark) → closes o c ≡ true → (is_opening c ≡ false) × (is_closing c ≡ true)
closing_mark o c h = ⊎_elim
    (λ k. (let e : c ≡ m.RightParenthesis = same_true the_type tt c m.RightParenthesis k in (ap is_opening e, ap is_closing e)))
    (λ j. ⊎_elim
    (λ k. (let e : c ≡ m.RightBracket = same_true the_type tt c m.RightBracket k in (ap is_opening e, ap is_closing e)))
    (λ k. (let e : c ≡ m.RightBrace = same_true the_type tt c m.RightBrace k in (ap is_opening e, ap is_closing e))) j)
    (third_of _ _ _ _ _ _ h)

sign_step : (l : Lexeme) (k : Mark) (n a e : ℕ) (s t : State) → l ≡ sign k → s.begun ≡ inside → bracket k n s ≡ Ok t → step l n a e s ≡ done (y.emit (token (mark k) n a e) t)
unfolding step begin
sign_step l k n a e s t q b h =
    ap (λ x. step x n a e s) q ∙ ap (λ v. y.begin_at v n a s >>= (λ c. bracket k n c >>= (λ d. done (y.emit (token (mark k) n a e) d)))) b
    ∙ ap (λ v. v >>= (λ d. done (y.emit (token (mark k) n a e) d))) h

no_bracket : (s : Mark) (k : Kind) (a b : Bool) → cond a None (cond b None (Some (mark s))) ≡ Some k → (a ≡ false) × (b ≡ false) × (mark s ≡ k)
no_bracket s k true b h = absurd cc
no_bracket s k false true h = absurd cc
no_bracket s k false false h = (refl, refl, some_is h)

-- a mark that gives a token as it stands is no bracket
pub plain_sign : (s : Mark) (k : Kind) → value (sign s) ≡ Some k → (is_opening s ≡ false) × (is_closing s ≡ false) × (mark s ≡ k)
plain_sign s k h = no_bracket s k (is_opening s) (is_closing s) h

pub value_step : (l : Lexeme) (k : Kind) (n a e : ℕ) (out : List Token) (bs : List (Mark × ℕ)) (vs : List (List ℕ)) → value l ≡ Some k → step l n a e (St inside out bs vs) ≡ done (St inside (out ++ token k n a e ∷ []) bs vs)
unfolding step begin bracket
value_step (word w) k n a e out bs vs h = ap (λ v. done (St inside (out ++ token v n a e ∷ []) bs vs)) (some_is h)
value_step (number z) k n a e out bs vs h = ap (λ v. done (St inside (out ++ token v n a e ∷ []) bs vs)) (some_is h)
value_step (string t) k n a e out bs vs h = ap (λ v. done (St inside (out ++ token v n a e ∷ []) bs vs)) (some_is h)
value_step (sign s) k n a e out bs vs h =
    let p = plain_sign s k h in
    sign_step (sign s) s n a e (St inside out bs vs) (St inside out bs vs) refl refl (bracket_plain s n (St inside out bs vs) p.0 p.1)
    ∙ ap (λ v. done (St inside (out ++ token v n a e ∷ []) bs vs)) p.2
value_step (blank w) k n a e out bs vs h = absurd cc
value_step comment k n a e out bs vs h = absurd cc
value_step joined k n a e out bs vs h = absurd cc
value_step feed k n a e out bs vs h = absurd cc
value_step bad_comment k n a e out bs vs h = absurd cc
value_step (bad b) k n a e out bs vs h = absurd cc

pub open_step : (i : Item) (o : Mark) (out : List Token) (bs : List (Mark × ℕ)) (vs : List (List ℕ)) → i.what ≡ sign o → is_opening o ≡ true
    → step i.what i.line i.start i.end (St inside out bs vs) ≡ done (St inside (out ++ token_at (mark o) i ∷ []) ((o, i.line) ∷ bs) vs)
open_step i o out bs vs q h = sign_step i.what o i.line i.start i.end (St inside out bs vs) (St inside out ((o, i.line) ∷ bs) vs) q refl (bracket_opens o i.line (St inside out bs vs) h)

pub close_step : (i : Item) (o c : Mark) (n : ℕ) (out : List Token) (bs : List (Mark × ℕ)) (vs : List (List ℕ)) → i.what ≡ sign c → closes o c ≡ true
    → step i.what i.line i.start i.end (St inside out ((o, n) ∷ bs) vs) ≡ done (St inside (out ++ token_at (mark c) i ∷ []) bs vs)
close_step i o c n out bs vs q h = let k = closing_mark o c h in
    sign_step i.what c i.line i.start i.end (St inside out ((o, n) ∷ bs) vs) (St inside out bs vs) q refl (bracket_closes o c n i.line out bs vs h k.0 k.1)

-- the first token of a line
pub first_step : (l : Lexeme) (n a e : ℕ) (s t : State) → begins l ≡ true → begin n a s ≡ begin n a t → step l n a e s ≡ step l n a e t
unfolding step
first_step (word w) n a e s t h q = ap (λ o. o >>= (λ b. done (y.emit (token (y.word_kind w) n a e) b))) q
first_step (number z) n a e s t h q = ap (λ o. o >>= (λ b. done (y.emit (token (y.integer z) n a e) b))) q
first_step (string u) n a e s t h q = ap (λ o. o >>= (λ b. done (y.emit (token (y.quoted u) n a e) b))) q
first_step (sign k) n a e s t h q = ap (λ o. o >>= (λ b. bracket k n b >>= (λ c. done (y.emit (token (mark k) n a e) c)))) q
first_step (blank w) n a e s t h q = absurd cc
first_step comment n a e s t h q = absurd cc
first_step joined n a e s t h q = absurd cc
first_step feed n a e s t h q = absurd cc
first_step bad_comment n a e s t h q = absurd cc
first_step (bad b) n a e s t h q = absurd cc

-- ---- back, from what a step gave

bind_ok : (o : Outcome State) (f : State → Outcome State) (t : State) → o >>= f ≡ done t → (b : State) × ((o ≡ done b) × (f b ≡ done t))
bind_ok (Ok b) f t e = (b, (refl, e))
bind_ok (Err l) f t e = absurd cc

-- the first piece of a line begins it
pub from_begin : (l : Lexeme) (n a e : ℕ) (s t : State) → begins l ≡ true → step l n a e s ≡ done t → (b : State) × (begin n a s ≡ done b)
unfolding step
from_begin (word w) n a e s t h q = let p = bind_ok (begin n a s) (λ b. done (y.emit (token (y.word_kind w) n a e) b)) t q in (p.0, p.1.0)
from_begin (number z) n a e s t h q = let p = bind_ok (begin n a s) (λ b. done (y.emit (token (y.integer z) n a e) b)) t q in (p.0, p.1.0)
from_begin (string u) n a e s t h q = let p = bind_ok (begin n a s) (λ b. done (y.emit (token (y.quoted u) n a e) b)) t q in (p.0, p.1.0)
from_begin (sign k) n a e s t h q = let p = bind_ok (begin n a s) (λ b. bracket k n b >>= (λ c. done (y.emit (token (mark k) n a e) c))) t q in (p.0, p.1.0)
from_begin (blank w) n a e s t h q = absurd cc
from_begin comment n a e s t h q = absurd cc
from_begin joined n a e s t h q = absurd cc
from_begin feed n a e s t h q = absurd cc
from_begin bad_comment n a e s t h q = absurd cc
from_begin (bad b) n a e s t h q = absurd cc
