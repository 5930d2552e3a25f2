-- What the rules of lines say of a text's pieces is what the reading from the front gives.
use Rattle.std.proofs.Common.{◌≡◌, ℕ, Bool, true, false, List, [], ◌∷◌, ◌++◌, length, replicate, refl, sym, ap, ◌∙◌, append_assoc}
use Rattle.std.proofs.lemmas.List.{append-nil}
use Rattle.std.specs.Prelude.{Result, Ok, Err, MatchResult}
use Rattle.kishu_language.specs.declared.token.Token as rust
use Rattle.kishu_lexer.specs.declared.fault.SyntaxFault.{SyntaxFault}
use Rattle.kishu_lexer.specs.declared.fault.SyntaxFault.TheVariants as fault
use Rattle.kishu_lexer.specs.Machine.{Answers, tokens_of}
use Rattle.kishu_language.specs.declared.token.Mark.{Mark}
use Rattle.kishu_language.specs.tokens.Lexemes.{Lexeme, blank, comment, bad_comment, joined, feed, word, number, string, sign, bad}
use Rattle.kishu_language.specs.tokens.Layout as y
use Rattle.kishu_language.specs.tokens.Layout.{◌>>=◌, Outcome, State, Start, fresh, led, inside, Kind, Token, Item, token, newline, indent, dedent, mark, top, dedents, dedented, indented, begin, bracket, is_opening, is_closing, closes, step, steps, finish, End, end_of, cut, layout, empty}
use Rattle.kishu_language.specs.rules.LineRules as r
use Rattle.kishu_token_laws.specs.LineSteps.{St, done, last_of, run, listed, after, feed_in_brackets, feed_at_end, value_step, open_step, close_step, first_step}
use Rattle.kishu_token_laws.specs.Indents.{indentation_takes}
use Rattle.kishu_language.specs.rules.LineRules.{is_quiet, value, begins, token_at, Quiet, Inside, Line, Lead, Back, Indentation, Lines, HasTokens}

-- ---- inside a line

pub quiet_step : (l : Lexeme) (n a e : ℕ) (out : List Token) (bs : List (Mark × ℕ)) (vs : List (List ℕ)) → is_quiet l ≡ true → step l n a e (St inside out bs vs) ≡ done (St inside out bs vs)
unfolding step
quiet_step (blank w) n a e out bs vs h = refl
quiet_step comment n a e out bs vs h = refl
quiet_step joined n a e out bs vs h = refl
quiet_step feed n a e out bs vs h = absurd cc
quiet_step (word w) n a e out bs vs h = absurd cc
quiet_step (number z) n a e out bs vs h = absurd cc
quiet_step (string t) n a e out bs vs h = absurd cc
quiet_step (sign k) n a e out bs vs h = absurd cc
quiet_step bad_comment n a e out bs vs h = absurd cc
quiet_step (bad b) n a e out bs vs h = absurd cc

regroup : (out ts us : List Token) (a b : Token) → (((out ++ a ∷ []) ++ ts) ++ b ∷ []) ++ us ≡ out ++ (a ∷ (ts ++ b ∷ us))
regroup out ts us a b = simp append_assoc

-- what stands inside a bracket
pub inside_takes : {is js : List Item} {ts : List Token} (out : List Token) (b : Mark × ℕ) (bs : List (Mark × ℕ)) (vs : List (List ℕ)) → Inside is js ts → steps is (St inside out (b ∷ bs) vs) ≡ steps js (St inside (out ++ ts) (b ∷ bs) vs)
inside_takes {js = js} out b bs vs r.nothing = ap (λ v. steps js (St inside v (b ∷ bs) vs)) (sym (append-nil out))
inside_takes out b bs vs (r.skip {i = i} {is = is} h t) = ap (λ o. o >>= steps is) (quiet_step i.what i.line i.start i.end out (b ∷ bs) vs h) ∙ inside_takes out b bs vs t
inside_takes out b bs vs (r.new_line {i = i} {is = is} h t) = ap (λ o. o >>= steps is) (feed_in_brackets i.what i.line i.start i.end out b bs vs h) ∙ inside_takes out b bs vs t
inside_takes out b bs vs (r.one {i = i} {is = is} {js = js} {ts = ts} {k = k} h t) =
    ap (λ o. o >>= steps is) (value_step i.what k i.line i.start i.end out (b ∷ bs) vs h) ∙ inside_takes (out ++ token_at k i ∷ []) b bs vs t
    ∙ ap (λ v. steps js (St inside v (b ∷ bs) vs)) (append_assoc out (token_at k i ∷ []) ts)
inside_takes out b bs vs (r.group {i = i} {j = j} {o = o} {c = c} {is = is} {js = js} {ks = ks} {ts = ts} {us = us} p q h k inner outer) =
    let opened = out ++ token_at (mark o) i ∷ [] in
    let shut = (opened ++ ts) ++ token_at (mark c) j ∷ [] in
    ap (λ v. v >>= steps is) (open_step i o out (b ∷ bs) vs p h) ∙ inside_takes opened (o, i.line) (b ∷ bs) vs inner
    ∙ ap (λ v. v >>= steps js) (close_step j o c i.line (opened ++ ts) (b ∷ bs) vs q k) ∙ inside_takes shut b bs vs outer
    ∙ ap (λ v. steps ks (St inside v (b ∷ bs) vs)) (regroup out ts us (token_at (mark o) i) (token_at (mark c) j))

-- a line from a token on
pub line_takes : {at : End} {is js : List Item} {ts : List Token} (out : List Token) (vs : List (List ℕ)) → Line at is js ts → run at is (St inside out [] vs) ≡ run at js (St fresh (out ++ ts) [] vs)
line_takes out vs r.last = refl
line_takes {at = at} out vs (r.ends {i = i} {is = is} h) = ap (after at is) (feed_at_end i.what i.line i.start i.end out vs h)
line_takes {at = at} out vs (r.skip_in {i = i} {is = is} h t) = ap (after at is) (quiet_step i.what i.line i.start i.end out [] vs h) ∙ line_takes out vs t
line_takes {at = at} out vs (r.one_in {i = i} {is = is} {js = js} {ts = ts} {k = k} h t) =
    ap (after at is) (value_step i.what k i.line i.start i.end out [] vs h) ∙ line_takes (out ++ token_at k i ∷ []) vs t
    ∙ ap (λ v. run at js (St fresh v [] vs)) (append_assoc out (token_at k i ∷ []) ts)
line_takes {at = at} out vs (r.group_in {i = i} {j = j} {o = o} {c = c} {is = is} {js = js} {ks = ks} {ts = ts} {us = us} p q h k inner outer) =
    let opened = out ++ token_at (mark o) i ∷ [] in
    let shut = (opened ++ ts) ++ token_at (mark c) j ∷ [] in
    ap (after at is) (open_step i o out [] vs p h) ∙ ap (λ v. v >>= last_of at) (inside_takes opened (o, i.line) [] vs inner)
    ∙ ap (after at js) (close_step j o c i.line (opened ++ ts) [] vs q k) ∙ line_takes shut vs outer
    ∙ ap (λ v. run at ks (St fresh v [] vs)) (regroup out ts us (token_at (mark o) i) (token_at (mark c) j))

-- ---- indentation

pub begin_is : (v : Start) (n a : ℕ) (out before : List Token) (vs us : List (List ℕ)) → y.begin_at v n a (St v out [] vs) ≡ done (St inside (out ++ before) [] us)
    → begin n a (St v out [] vs) ≡ begin n a (St inside (out ++ before) [] us)
unfolding begin
begin_is v n a out before vs us h = h

line_from : {at : End} {i : Item} {js ks : List Item} {ts : List Token} (v : Start) (out before : List Token) (vs us : List (List ℕ)) → begins i.what ≡ true
    → y.begin_at v i.line i.start (St v out [] vs) ≡ done (St inside (out ++ before) [] us) → Line at (i ∷ js) ks ts
    → run at (i ∷ js) (St v out [] vs) ≡ run at ks (St fresh ((out ++ before) ++ ts) [] us)
line_from {at = at} {i = i} {js = js} v out before vs us h q t =
    ap (after at js) (first_step i.what i.line i.start i.end (St v out [] vs) (St inside (out ++ before) [] us) h (begin_is v i.line i.start out before vs us q))
    ∙ line_takes (out ++ before) us t

pub led_step : (l : Lexeme) (n a e : ℕ) (w : List ℕ) (row from to : ℕ) (out : List Token) (vs : List (List ℕ)) → is_quiet l ≡ true → step l n a e (St (led w row from to) out [] vs) ≡ done (St (led w row from to) out [] vs)
unfolding step
led_step (blank x) n a e w row from to out vs h = refl
led_step comment n a e w row from to out vs h = refl
led_step joined n a e w row from to out vs h = refl
led_step feed n a e w row from to out vs h = absurd cc
led_step (word x) n a e w row from to out vs h = absurd cc
led_step (number z) n a e w row from to out vs h = absurd cc
led_step (string t) n a e w row from to out vs h = absurd cc
led_step (sign k) n a e w row from to out vs h = absurd cc
led_step bad_comment n a e w row from to out vs h = absurd cc
led_step (bad b) n a e w row from to out vs h = absurd cc

pub quiet_led : {is js : List Item} (at : End) (w : List ℕ) (row from to : ℕ) (out : List Token) (vs : List (List ℕ)) → Quiet is js → run at is (St (led w row from to) out [] vs) ≡ run at js (St (led w row from to) out [] vs)
quiet_led at w row from to out vs r.here = refl
quiet_led at w row from to out vs (r.over {i = i} {is = is} h t) = ap (after at is) (led_step i.what i.line i.start i.end w row from to out vs h) ∙ quiet_led at w row from to out vs t

pub blank_first : (l : Lexeme) (n a e : ℕ) (w : List ℕ) (out : List Token) (vs : List (List ℕ)) → l ≡ blank w → step l n a e (St fresh out [] vs) ≡ done (St (led w n a e) out [] vs)
unfolding step
blank_first l n a e w out vs h = ap (λ x. step x n a e (St fresh out [] vs)) h

pub joined_first : (l : Lexeme) (n a e : ℕ) (out : List Token) (vs : List (List ℕ)) → l ≡ joined → step l n a e (St fresh out [] vs) ≡ done (St (led [] n a a) out [] vs)
unfolding step
joined_first l n a e out vs h = ap (λ x. step x n a e (St fresh out [] vs)) h

pub comment_first : (n a e : ℕ) (out : List Token) (vs : List (List ℕ)) → step comment n a e (St fresh out [] vs) ≡ done (St fresh out [] vs)
unfolding step
comment_first n a e out vs = refl

logical_line : {at : End} {i : Item} {is js ks : List Item} {w : List ℕ} {row from to : ℕ} {vs us : List (List ℕ)} {before ts : List Token} (out : List Token) → Lead is (i ∷ js) w row from to
    → Indentation w row from to vs us before → Line at (i ∷ js) ks ts → run at is (St fresh out [] vs) ≡ run at ks (St fresh ((out ++ before) ++ ts) [] us)
logical_line {at = at} {vs = vs} out (r.past {i = i} {is = is} e l) n t = ap (after at is) (ap (λ x. step x i.line i.start i.end (St fresh out [] vs)) e ∙ comment_first i.line i.start i.end out vs) ∙ logical_line out l n t
logical_line {vs = vs} {us = us} {before = before} out (r.bare h) n t = line_from fresh out before vs us h (indentation_takes out [] n) t
logical_line {at = at} {vs = vs} {us = us} {before = before} out (r.blanks {i = i} {is = is} {w = w} e q h) n t =
    ap (after at is) (blank_first i.what i.line i.start i.end w out vs e) ∙ quiet_led at w i.line i.start i.end out vs q ∙ line_from (led w i.line i.start i.end) out before vs us h (indentation_takes out [] n) t
logical_line {at = at} {vs = vs} {us = us} {before = before} out (r.joint {i = i} {is = is} e q h) n t =
    ap (after at is) (joined_first i.what i.line i.start i.end out vs e) ∙ quiet_led at [] i.line i.start i.start out vs q ∙ line_from (led [] i.line i.start i.start) out before vs us h (indentation_takes out [] n) t

-- ---- lines without a token

is_early : Start → Bool
is_early fresh = true
is_early (led w row from to) = true
is_early inside = false

-- the state before a line's first token, with the rest
abbrev Early : End → List Item → State → List Item → List Token → List (List ℕ) → Type 0
Early at is s js out vs = (v : Start) × ((is_early v ≡ true) × (run at is s ≡ run at js (St v out [] vs)))

early_led : {is js : List Item} (at : End) (w : List ℕ) (row from to : ℕ) (out : List Token) (vs : List (List ℕ)) → Quiet is js → Early at is (St (led w row from to) out [] vs) js out vs
unfolding is_early
early_led at w row from to out vs q = (led w row from to, (refl, quiet_led at w row from to out vs q))

-- from the start of a line, by the first piece
early_by : {is js : List Item} (at : End) (i : Item) (l : Lexeme) (out : List Token) (vs : List (List ℕ)) → i.what ≡ l → is_quiet l ≡ true → Quiet is js
    → Early at is (St fresh out [] vs) js out vs → Early at (i ∷ is) (St fresh out [] vs) js out vs
early_by {is = is} at i (blank w) out vs e h q t = let p = early_led at w i.line i.start i.end out vs q in (p.0, (p.1.0, ap (after at is) (blank_first i.what i.line i.start i.end w out vs e) ∙ p.1.1))
early_by {is = is} at i comment out vs e h q t = (t.0, (t.1.0, ap (after at is) (ap (λ x. step x i.line i.start i.end (St fresh out [] vs)) e ∙ comment_first i.line i.start i.end out vs) ∙ t.1.1))
early_by {is = is} at i joined out vs e h q t = let p = early_led at [] i.line i.start i.start out vs q in (p.0, (p.1.0, ap (after at is) (joined_first i.what i.line i.start i.end out vs e) ∙ p.1.1))
early_by at i feed out vs e h q t = absurd cc
early_by at i (word w) out vs e h q t = absurd cc
early_by at i (number z) out vs e h q t = absurd cc
early_by at i (string u) out vs e h q t = absurd cc
early_by at i (sign k) out vs e h q t = absurd cc
early_by at i bad_comment out vs e h q t = absurd cc
early_by at i (bad b) out vs e h q t = absurd cc

quiet_early : {is js : List Item} (at : End) (out : List Token) (vs : List (List ℕ)) → Quiet is js → Early at is (St fresh out [] vs) js out vs
unfolding is_early
quiet_early at out vs r.here = (fresh, (refl, refl))
quiet_early at out vs (r.over {i = i} h t) = early_by at i i.what out vs refl h t (quiet_early at out vs t)

feed_early : (v : Start) (l : Lexeme) (n a e : ℕ) (out : List Token) (vs : List (List ℕ)) → is_early v ≡ true → l ≡ feed → step l n a e (St v out [] vs) ≡ done (St fresh out [] vs)
unfolding step is_early
feed_early fresh l n a e out vs h q = ap (λ x. step x n a e (St fresh out [] vs)) q
feed_early (led w row from to) l n a e out vs h q = ap (λ x. step x n a e (St (led w row from to) out [] vs)) q
feed_early inside l n a e out vs h q = absurd cc

end_early : (v : Start) (at : End) (out : List Token) (vs : List (List ℕ)) → is_early v ≡ true → run at [] (St v out [] vs) ≡ Ok (out ++ replicate (length vs) (token dedent at.0 at.1 at.1))
unfolding is_early
end_early fresh at out vs h = refl
end_early (led w row from to) at out vs h = refl
end_early inside at out vs h = absurd cc

-- ---- all lines

pub lines_take : {at : End} {is : List Item} {vs : List (List ℕ)} {ts : List Token} (out : List Token) → Lines at vs is ts → run at is (St fresh out [] vs) ≡ Ok (out ++ ts)
lines_take {at = at} {vs = vs} out (r.over_all q) = let p = quiet_early at out vs q in p.1.1 ∙ end_early p.0 at out vs p.1.0
lines_take {at = at} {vs = vs} out (r.blank_line {i = i} {js = js} q e t) =
    let p = quiet_early at out vs q in p.1.1 ∙ ap (after at js) (feed_early p.0 i.what i.line i.start i.end out vs p.1.0 e) ∙ lines_take out t
lines_take out (r.line {ts = ts} {before = before} {after = rest} l n t more_lines) =
    logical_line out l n t ∙ lines_take ((out ++ before) ++ ts) more_lines ∙ ap (λ v. Ok v) (regroup_lines out before ts rest)
  where
    regroup_lines : (a b c d : List Token) → ((a ++ b) ++ c) ++ d ≡ a ++ (b ++ (c ++ d))
    regroup_lines a b c d = simp append_assoc

-- the tokens that the rules give a text are those that reading from the front gives
pub has_tokens : (cs : List ℕ) (ts : List Token) → HasTokens cs ts → layout cs ≡ Ok ts
unfolding layout
has_tokens cs ts h = lines_take [] h

-- what a call answers over a text to which the rules give tokens
pub by_rules : {Z : Type 0} (cs chars : List ℕ) (ts : List Token) (r : Result Z SyntaxFault) (items : Z → List rust.Token) → cs ≡ chars → Answers (layout cs) r items → HasTokens chars ts
    → MatchResult r (λ v. tokens_of (items v) ≡ ts) (λ e. e ≡ fault.NoMemory)
by_rules cs chars ts (Ok v) items e h t = same (tokens_of (items v)) ts (sym h ∙ ap layout e ∙ has_tokens chars ts t)
  where
    same : (us ts : List Token) → listed us ≡ listed ts → us ≡ ts
    same us ts q = cc
by_rules cs chars ts (Err (fault.Syntax line)) items e h t = absurd (apart line ts (sym h ∙ ap layout e ∙ has_tokens chars ts t))
  where
    apart : (line : ℕ) (ts : List Token) → Err line ≡ listed ts → ⊥
    apart line ts q = cc
by_rules cs chars ts (Err fault.NoMemory) items e h t = refl
