-- What reading from the front takes, the rules of lines allow: brackets.
use Rattle.std.proofs.Common.{◌≡◌, ℕ, zero, suc, ◌+◌, ◌-◌, ◌<◌, ◌≤◌, Bool, true, false, List, [], ◌∷◌, ◌++◌, length, replicate, Some, refl, sym, ap, subst, ◌∙◌, arith}
use Rattle.std.specs.Prelude.{Result, Ok, Err, IfOk}
use Rattle.kishu_language.specs.declared.token.Token as rust
use Rattle.kishu_lexer.specs.declared.fault.SyntaxFault.{SyntaxFault}
use Rattle.kishu_lexer.specs.Machine.{Answers, tokens_of}
use Rattle.kishu_language.specs.declared.token.Mark.{Mark}
use Rattle.kishu_language.specs.tokens.Lexemes.{Lexeme, blank, comment, bad_comment, joined, feed, word, number, string, sign, bad}
use Rattle.kishu_language.specs.tokens.Layout as y
use Rattle.kishu_language.specs.tokens.Layout.{◌>>=◌, Outcome, State, Start, fresh, led, inside, Kind, Token, Item, End, newline, indent, dedent, token, mark, top, dedents, dedented, indented, finish, begin, bracket, is_opening, is_closing, closes, step, steps, cut, end_of, layout}
use Rattle.kishu_language.specs.rules.LineRules as r
use Rattle.kishu_language.specs.rules.LineRules.{is_quiet, value, begins, token_at, Quiet, Inside, Line, Lead, Back, Indentation, Lines, HasTokens}
use Rattle.kishu_token_laws.specs.LineSteps.{St, done, listed, last_of, run, after, feed_in_brackets, value_step, open_step, close_step, first_step, from_begin}
use Rattle.kishu_token_laws.specs.Indents.{indentation_takes, indentation_met}
use Rattle.kishu_lexer.proofs.Rules.{quiet_step, inside_takes, line_takes, begin_is, comment_first, led_step, blank_first, joined_first, lines_take}

-- the bracket that closes b, and what stands before it
pub record Closes (is : List Item) (b : Mark × ℕ) : Type 0 where
  closer : Item
  others : List Item
  found : List Token
  kind : Mark
  inner : Inside is (closer ∷ others) found
  what : closer.what ≡ sign kind
  closed : closes b.0 kind ≡ true
  shorter : length others < length is

abbrev pub Closing : ℕ → Type 0
Closing n = (is : List Item) (out : List Token) (b : Mark × ℕ) (bs : List (Mark × ℕ)) (vs : List (List ℕ)) (t : State) → length is ≤ n → steps is (St inside out (b ∷ bs) vs) ≡ done t → t.brackets ≡ [] → Closes is b

-- from what one step gives to what the rest does
along : (is : List Item) (o : Outcome State) (s t : State) → o ≡ done s → o >>= steps is ≡ done t → steps is s ≡ done t
along is o s t e h = sym (ap (λ v. v >>= steps is) e) ∙ h

skipped : (i : Item) (is : List Item) (b : Mark × ℕ) → is_quiet i.what ≡ true → Closes is b → Closes (i ∷ is) b
skipped i is b h c = record { closer = c.closer; others = c.others; found = c.found; kind = c.kind; inner = r.skip h c.inner; what = c.what; closed = c.closed; shorter = omega (arith, c.shorter) }

lined : (i : Item) (is : List Item) (b : Mark × ℕ) → i.what ≡ feed → Closes is b → Closes (i ∷ is) b
lined i is b h c = record { closer = c.closer; others = c.others; found = c.found; kind = c.kind; inner = r.new_line h c.inner; what = c.what; closed = c.closed; shorter = omega (arith, c.shorter) }

valued : (i : Item) (k : Kind) (is : List Item) (b : Mark × ℕ) → value i.what ≡ Some k → Closes is b → Closes (i ∷ is) b
valued i k is b h c = record { closer = c.closer; others = c.others; found = token_at k i ∷ c.found; kind = c.kind; inner = r.one h c.inner; what = c.what; closed = c.closed; shorter = omega (arith, c.shorter) }

-- a whole step, from a piece and the rest
abbrev whole : Item → List Item → State → Outcome State
whole i is s = step i.what i.line i.start i.end s >>= steps is

quiet_case : (n : ℕ) → Closing n → (i : Item) (is : List Item) (out : List Token) (b : Mark × ℕ) (bs : List (Mark × ℕ)) (vs : List (List ℕ)) (t : State) → length is ≤ n
    → whole i is (St inside out (b ∷ bs) vs) ≡ done t → t.brackets ≡ [] → is_quiet i.what ≡ true → Closes (i ∷ is) b
quiet_case n hyp i is out b bs vs t small h none q =
    skipped i is b q (hyp is out b bs vs t small (along is _ (St inside out (b ∷ bs) vs) t (quiet_step i.what i.line i.start i.end out (b ∷ bs) vs q) h) none)

value_case : (n : ℕ) → Closing n → (i : Item) (k : Kind) (is : List Item) (out : List Token) (b : Mark × ℕ) (bs : List (Mark × ℕ)) (vs : List (List ℕ)) (t : State) → length is ≤ n
    → whole i is (St inside out (b ∷ bs) vs) ≡ done t → t.brackets ≡ [] → value i.what ≡ Some k → Closes (i ∷ is) b
value_case n hyp i k is out b bs vs t small h none q =
    valued i k is b q (hyp is (out ++ token_at k i ∷ []) b bs vs t small (along is _ (St inside (out ++ token_at k i ∷ []) (b ∷ bs) vs) t (value_step i.what k i.line i.start i.end out (b ∷ bs) vs q) h) none)

open_case : (n : ℕ) → Closing n → (i : Item) (o : Mark) (is : List Item) (out : List Token) (b : Mark × ℕ) (bs : List (Mark × ℕ)) (vs : List (List ℕ)) (t : State) → length is ≤ n
    → whole i is (St inside out (b ∷ bs) vs) ≡ done t → t.brackets ≡ [] → i.what ≡ sign o → is_opening o ≡ true → Closes (i ∷ is) b
open_case n hyp i o is out b bs vs t small h none q op =
    let opened = out ++ token_at (mark o) i ∷ [] in
    let here : steps is (St inside opened ((o, i.line) ∷ b ∷ bs) vs) ≡ done t = along is _ (St inside opened ((o, i.line) ∷ b ∷ bs) vs) t (open_step i o out (b ∷ bs) vs q op) h in
    let c = hyp is opened (o, i.line) (b ∷ bs) vs t small here none in
    let shut = (opened ++ c.found) ++ token_at (mark c.kind) c.closer ∷ [] in
    let next : steps c.others (St inside shut (b ∷ bs) vs) ≡ done t =
    along c.others _ (St inside shut (b ∷ bs) vs) t (close_step c.closer o c.kind i.line (opened ++ c.found) (b ∷ bs) vs c.what c.closed) (sym (inside_takes opened (o, i.line) (b ∷ bs) vs c.inner) ∙ here) in
    let d = hyp c.others shut b bs vs t (omega (arith, c.shorter)) next none in
    record { closer = d.closer; others = d.others; found = token_at (mark o) i ∷ (c.found ++ token_at (mark c.kind) c.closer ∷ d.found); kind = d.kind; inner = r.group q c.what op c.closed c.inner d.inner; what = d.what; closed = d.closed; shorter = omega (arith, c.shorter, d.shorter) }

wrong_close : (k : Mark) (n a e : ℕ) (out : List Token) (b : Mark × ℕ) (bs : List (Mark × ℕ)) (vs : List (List ℕ)) → is_opening k ≡ false → is_closing k ≡ true → closes b.0 k ≡ false → step (sign k) n a e (St inside out (b ∷ bs) vs) ≡ Err n
unfolding step begin bracket
wrong_close k n a e out b bs vs h j q = rw (h, j, q) refl

close_case : (i : Item) (k : Mark) (is : List Item) (out : List Token) (b : Mark × ℕ) (bs : List (Mark × ℕ)) (vs : List (List ℕ)) (t : State) → whole i is (St inside out (b ∷ bs) vs) ≡ done t
    → i.what ≡ sign k → is_opening k ≡ false → is_closing k ≡ true → Closes (i ∷ is) b
close_case i k is out b bs vs t h q apart cl = go (closes b.0 k) refl
  where
    stuck : Err i.line >>= steps is ≡ done t → ⊥
    stuck e = cc

    go : (p : Bool) → closes b.0 k ≡ p → Closes (i ∷ is) b
    go true e = record { closer = i; others = is; found = []; kind = k; inner = r.nothing; what = q; closed = e; shorter = omega arith }
    go false e = absurd (stuck (sym (ap (λ v. v >>= steps is) (ap (λ l. step l i.line i.start i.end (St inside out (b ∷ bs) vs)) q ∙ wrong_close k i.line i.start i.end out b bs vs apart cl e)) ∙ h))

plain_value : (k : Mark) → is_opening k ≡ false → is_closing k ≡ false → value (sign k) ≡ Some (mark k)
plain_value k h j = rw (h, j) refl

sign_case : (n : ℕ) → Closing n → (i : Item) (k : Mark) (is : List Item) (out : List Token) (b : Mark × ℕ) (bs : List (Mark × ℕ)) (vs : List (List ℕ)) (t : State) → length is ≤ n
    → whole i is (St inside out (b ∷ bs) vs) ≡ done t → t.brackets ≡ [] → i.what ≡ sign k → Closes (i ∷ is) b
sign_case n hyp i k is out b bs vs t small h none q = go (is_opening k) (is_closing k) refl refl
  where
    go : (p c : Bool) → is_opening k ≡ p → is_closing k ≡ c → Closes (i ∷ is) b
    go true c e f = open_case n hyp i k is out b bs vs t small h none q e
    go false true e f = close_case i k is out b bs vs t h q e f
    go false false e f = value_case n hyp i (mark k) is out b bs vs t small h none (ap value q ∙ plain_value k e f)

abbrev stop : ℕ → Outcome State
stop fault = Err fault

-- a fault is one in each state
record Refused (l : Lexeme) (n a e : ℕ) (s : State) : Type 0 where
  line : ℕ
  is : step l n a e s ≡ Err line

wrong_refused : (o : Outcome State) (fault : ℕ) → (line : ℕ) × (o >>= (λ (b : State). stop fault) ≡ stop line)
wrong_refused (Ok b) fault = (fault, refl)
wrong_refused (Err l) fault = (l, refl)

bad_refused : (below n a e : ℕ) (s : State) → Refused (bad below) n a e s
unfolding step
bad_refused below n a e s = let p = wrong_refused (begin n a s) (n + below) in record { line = p.0; is = p.1 }

comment_refused : (n a e : ℕ) (s : State) → Refused bad_comment n a e s
unfolding step
comment_refused n a e s = record { line = n; is = refl }

refused_never : (i : Item) (l : Lexeme) (is : List Item) (s t : State) → i.what ≡ l → Refused l i.line i.start i.end s → whole i is s ≡ done t → ⊥
refused_never i l is s t q r h = stuck r.line (sym (ap (λ v. v >>= steps is) (ap (λ x. step x i.line i.start i.end s) q ∙ r.is)) ∙ h)
  where
    stuck : (line : ℕ) → Err line >>= steps is ≡ done t → ⊥
    stuck line e = cc

piece_case : (n : ℕ) → Closing n → (i : Item) (l : Lexeme) (is : List Item) (out : List Token) (b : Mark × ℕ) (bs : List (Mark × ℕ)) (vs : List (List ℕ)) (t : State) → length is ≤ n
    → whole i is (St inside out (b ∷ bs) vs) ≡ done t → t.brackets ≡ [] → i.what ≡ l → Closes (i ∷ is) b
piece_case n hyp i (blank w) is out b bs vs t small h none q = quiet_case n hyp i is out b bs vs t small h none (ap is_quiet q)
piece_case n hyp i comment is out b bs vs t small h none q = quiet_case n hyp i is out b bs vs t small h none (ap is_quiet q)
piece_case n hyp i joined is out b bs vs t small h none q = quiet_case n hyp i is out b bs vs t small h none (ap is_quiet q)
piece_case n hyp i feed is out b bs vs t small h none q =
    lined i is b q (hyp is out b bs vs t small (along is _ (St inside out (b ∷ bs) vs) t (feed_in_brackets i.what i.line i.start i.end out b bs vs q) h) none)
piece_case n hyp i (word w) is out b bs vs t small h none q = value_case n hyp i (y.word_kind w) is out b bs vs t small h none (ap value q)
piece_case n hyp i (number z) is out b bs vs t small h none q = value_case n hyp i (y.integer z) is out b bs vs t small h none (ap value q)
piece_case n hyp i (string u) is out b bs vs t small h none q = value_case n hyp i (y.quoted u) is out b bs vs t small h none (ap value q)
piece_case n hyp i (sign k) is out b bs vs t small h none q = sign_case n hyp i k is out b bs vs t small h none q
piece_case n hyp i bad_comment is out b bs vs t small h none q = absurd (refused_never i bad_comment is (St inside out (b ∷ bs) vs) t q (comment_refused i.line i.start i.end (St inside out (b ∷ bs) vs)) h)
piece_case n hyp i (bad below) is out b bs vs t small h none q = absurd (refused_never i (bad below) is (St inside out (b ∷ bs) vs) t q (bad_refused below i.line i.start i.end (St inside out (b ∷ bs) vs)) h)

-- What reads to an end inside a bracket meets the bracket that closes it, and what stands before that one is allowed.
pub closing_met : (n : ℕ) → Closing n
closing_met n [] out b bs vs t small h none = absurd (stuck h none)
  where
    stuck : done (St inside out (b ∷ bs) vs) ≡ done t → t.brackets ≡ [] → ⊥
    stuck e f = cc
closing_met zero (i ∷ is) out b bs vs t small h none = absurd (omega arith)
closing_met (suc n) (i ∷ is) out b bs vs t small h none = piece_case n (closing_met n) i i.what is out b bs vs t (omega arith) h none refl

-- ---- a line

abbrev After : Type 0
After = State → Outcome (List Token)

bind_list : (o : Outcome State) (f : After) (us : List Token) → o >>= f ≡ listed us → (t : State) × ((o ≡ done t) × (f t ≡ listed us))
bind_list (Ok t) f us e = (t, (refl, e))
bind_list (Err l) f us e = absurd cc

bind_ok_list : (o : Outcome State) (is : List Item) (at : End) (us : List Token) → after at is o ≡ listed us → (t : State) × (o ≡ done t)
bind_ok_list (Ok t) is at us e = (t, refl)
bind_ok_list (Err l) is at us e = absurd cc

finish_none : (bs : List (Mark × ℕ)) (at : End) (t : State) (us : List Token) → finish bs at t ≡ listed us → bs ≡ []
finish_none [] at t us e = refl
finish_none (b ∷ bs) at t us e = absurd cc

-- the end of the logical line, and what stands before it
record Ended (at : End) (is : List Item) : Type 0 where
  others : List Item
  found : List Token
  read : Line at is others found
  shorter : length others ≤ length is - 1

abbrev Ending : ℕ → Type 0
Ending n = (at : End) (is : List Item) (out : List Token) (vs : List (List ℕ)) (us : List Token) → length is ≤ n → run at is (St inside out [] vs) ≡ listed us → Ended at is

line_quiet : (n : ℕ) → Ending n → (at : End) (i : Item) (is : List Item) (out : List Token) (vs : List (List ℕ)) (us : List Token) → length is ≤ n → run at (i ∷ is) (St inside out [] vs) ≡ listed us → is_quiet i.what ≡ true → Ended at (i ∷ is)
line_quiet n hyp at i is out vs us small h q =
    let c = hyp at is out vs us small (sym (ap (after at is) (quiet_step i.what i.line i.start i.end out [] vs q)) ∙ h) in
    record { others = c.others; found = c.found; read = r.skip_in q c.read; shorter = omega (arith, c.shorter) }

line_value : (n : ℕ) → Ending n → (at : End) (i : Item) (k : Kind) (is : List Item) (out : List Token) (vs : List (List ℕ)) (us : List Token) → length is ≤ n → run at (i ∷ is) (St inside out [] vs) ≡ listed us → value i.what ≡ Some k → Ended at (i ∷ is)
line_value n hyp at i k is out vs us small h q =
    let c = hyp at is (out ++ token_at k i ∷ []) vs us small (sym (ap (after at is) (value_step i.what k i.line i.start i.end out [] vs q)) ∙ h) in
    record { others = c.others; found = token_at k i ∷ c.found; read = r.one_in q c.read; shorter = omega (arith, c.shorter) }

line_open : (n : ℕ) → Ending n → (at : End) (i : Item) (o : Mark) (is : List Item) (out : List Token) (vs : List (List ℕ)) (us : List Token) → length is ≤ n → run at (i ∷ is) (St inside out [] vs) ≡ listed us → i.what ≡ sign o → is_opening o ≡ true → Ended at (i ∷ is)
line_open n hyp at i o is out vs us small h q op =
    let opened = out ++ token_at (mark o) i ∷ [] in
    let here : run at is (St inside opened ((o, i.line) ∷ []) vs) ≡ listed us = sym (ap (after at is) (open_step i o out [] vs q op)) ∙ h in
    let p = bind_list (steps is (St inside opened ((o, i.line) ∷ []) vs)) (last_of at) us here in
    let c = closing_met n is opened (o, i.line) [] vs p.0 small p.1.0 (finish_none p.0.brackets at p.0 us p.1.1) in
    let shut = (opened ++ c.found) ++ token_at (mark c.kind) c.closer ∷ [] in
    let next : run at c.others (St inside shut [] vs) ≡ listed us =
    sym (ap (after at c.others) (close_step c.closer o c.kind i.line (opened ++ c.found) [] vs c.what c.closed)) ∙ sym (ap (λ v. v >>= last_of at) (inside_takes opened (o, i.line) [] vs c.inner)) ∙ here in
    let d = hyp at c.others shut vs us (omega (arith, c.shorter)) next in
    record { others = d.others; found = token_at (mark o) i ∷ (c.found ++ token_at (mark c.kind) c.closer ∷ d.found); read = r.group_in q c.what op c.closed c.inner d.read; shorter = omega (arith, c.shorter, d.shorter) }

never : (at : End) (is : List Item) (line : ℕ) (us : List Token) → after at is (Err line) ≡ listed us → ⊥
never at is line us e = cc

refused_line : (at : End) (i : Item) (l : Lexeme) (is : List Item) (s : State) (us : List Token) → i.what ≡ l → Refused l i.line i.start i.end s → run at (i ∷ is) s ≡ listed us → ⊥
refused_line at i l is s us q r h = never at is r.line us (sym (ap (after at is) (ap (λ x. step x i.line i.start i.end s) q ∙ r.is)) ∙ h)

no_bracket_to_close : (k : Mark) (n a e : ℕ) (out : List Token) (vs : List (List ℕ)) → is_opening k ≡ false → is_closing k ≡ true → step (sign k) n a e (St inside out [] vs) ≡ Err n
unfolding step begin bracket
no_bracket_to_close k n a e out vs h j = rw (h, j) refl

line_sign : (n : ℕ) → Ending n → (at : End) (i : Item) (k : Mark) (is : List Item) (out : List Token) (vs : List (List ℕ)) (us : List Token) → length is ≤ n → run at (i ∷ is) (St inside out [] vs) ≡ listed us → i.what ≡ sign k → Ended at (i ∷ is)
line_sign n hyp at i k is out vs us small h q = go (is_opening k) (is_closing k) refl refl
  where
    go : (p c : Bool) → is_opening k ≡ p → is_closing k ≡ c → Ended at (i ∷ is)
    go true c e f = line_open n hyp at i k is out vs us small h q e
    go false true e f = absurd (never at is i.line us (sym (ap (after at is) (ap (λ l. step l i.line i.start i.end (St inside out [] vs)) q ∙ no_bracket_to_close k i.line i.start i.end out vs e f)) ∙ h))
    go false false e f = line_value n hyp at i (mark k) is out vs us small h (ap value q ∙ plain_value k e f)

line_piece : (n : ℕ) → Ending n → (at : End) (i : Item) (l : Lexeme) (is : List Item) (out : List Token) (vs : List (List ℕ)) (us : List Token) → length is ≤ n → run at (i ∷ is) (St inside out [] vs) ≡ listed us → i.what ≡ l → Ended at (i ∷ is)
line_piece n hyp at i (blank w) is out vs us small h q = line_quiet n hyp at i is out vs us small h (ap is_quiet q)
line_piece n hyp at i comment is out vs us small h q = line_quiet n hyp at i is out vs us small h (ap is_quiet q)
line_piece n hyp at i joined is out vs us small h q = line_quiet n hyp at i is out vs us small h (ap is_quiet q)
line_piece n hyp at i feed is out vs us small h q = record { others = is; found = token_at newline i ∷ []; read = r.ends q; shorter = omega arith }
line_piece n hyp at i (word w) is out vs us small h q = line_value n hyp at i (y.word_kind w) is out vs us small h (ap value q)
line_piece n hyp at i (number z) is out vs us small h q = line_value n hyp at i (y.integer z) is out vs us small h (ap value q)
line_piece n hyp at i (string u) is out vs us small h q = line_value n hyp at i (y.quoted u) is out vs us small h (ap value q)
line_piece n hyp at i (sign k) is out vs us small h q = line_sign n hyp at i k is out vs us small h q
line_piece n hyp at i bad_comment is out vs us small h q = absurd (refused_line at i bad_comment is (St inside out [] vs) us q (comment_refused i.line i.start i.end (St inside out [] vs)) h)
line_piece n hyp at i (bad below) is out vs us small h q = absurd (refused_line at i (bad below) is (St inside out [] vs) us q (bad_refused below i.line i.start i.end (St inside out [] vs)) h)

line_met : (n : ℕ) → Ending n
line_met n at [] out vs us small h = record { others = []; found = token newline at.0 at.1 at.1 ∷ []; read = r.last; shorter = omega arith }
line_met zero at (i ∷ is) out vs us small h = absurd (omega arith)
line_met (suc n) at (i ∷ is) out vs us small h = line_piece n (line_met n) at i i.what is out vs us (omega arith) h refl

begin_by : (v : Start) (n a : ℕ) (out : List Token) (vs : List (List ℕ)) (b : State) → begin n a (St v out [] vs) ≡ done b → y.begin_at v n a (St v out [] vs) ≡ done b
unfolding begin
begin_by v n a out vs b h = h

-- ---- lines

Readable : End → List (List ℕ) → List Item → Type 0
Readable at vs is = (ts : List Token) × Lines at vs is ts

abbrev Reading : ℕ → Type 0
Reading n = (at : End) (is : List Item) (out : List Token) (vs : List (List ℕ)) (us : List Token) → length is ≤ n → run at is (St fresh out [] vs) ≡ listed us → Readable at vs is

logical : (n : ℕ) → Reading n → (at : End) (before : List Item) (i : Item) (is : List Item) (v : Start) (w : List ℕ) (row from to : ℕ) (out : List Token) (vs : List (List ℕ)) (us : List Token) → length is ≤ n
    → Lead before (i ∷ is) w row from to → begins i.what ≡ true → y.begin_at v i.line i.start (St v out [] vs) ≡ indented w row from to (St inside out [] vs)
    → run at (i ∷ is) (St v out [] vs) ≡ listed us → Readable at vs before
unfolding Readable
logical n hyp at before i is v w row from to out vs us small lead b begun h =
    let p = bind_ok_list (step i.what i.line i.start i.end (St v out [] vs)) is at us h in
    let q = from_begin i.what i.line i.start i.end (St v out [] vs) p.0 b p.1 in
    let d = indentation_met w row from to vs out [] q.0 (sym begun ∙ begin_by v i.line i.start out vs q.0 q.1) in
    let same : y.begin_at v i.line i.start (St v out [] vs) ≡ done (St inside (out ++ d.1.0) [] d.0) = begun ∙ indentation_takes out [] d.1.1 in
    let here : run at (i ∷ is) (St inside (out ++ d.1.0) [] d.0) ≡ listed us =
    sym (ap (after at is) (first_step i.what i.line i.start i.end (St v out [] vs) (St inside (out ++ d.1.0) [] d.0) b (begin_is v i.line i.start out d.1.0 vs d.0 same))) ∙ h in
    let c = line_met (suc n) at (i ∷ is) (out ++ d.1.0) d.0 us (omega arith) here in
    let rest = hyp at c.others ((out ++ d.1.0) ++ c.found) d.0 us (omega (arith, c.shorter)) (sym (line_takes (out ++ d.1.0) d.0 c.read) ∙ here) in
    (d.1.0 ++ (c.found ++ rest.0), r.line lead d.1.1 c.read rest.1)

led_feed : (l : Lexeme) (n a e : ℕ) (w : List ℕ) (row from to : ℕ) (out : List Token) (vs : List (List ℕ)) → l ≡ feed → step l n a e (St (led w row from to) out [] vs) ≡ done (St fresh out [] vs)
unfolding step
led_feed l n a e w row from to out vs h = ap (λ x. step x n a e (St (led w row from to) out [] vs)) h

fresh_feed : (l : Lexeme) (n a e : ℕ) (out : List Token) (vs : List (List ℕ)) → l ≡ feed → step l n a e (St fresh out [] vs) ≡ done (St fresh out [] vs)
unfolding step
fresh_feed l n a e out vs h = ap (λ x. step x n a e (St fresh out [] vs)) h

-- after the leading blanks of a line
led_piece : (n : ℕ) → Reading n → (at : End) (before : List Item) (i : Item) (l : Lexeme) (is : List Item) (w : List ℕ) (row from to : ℕ) (out : List Token) (vs : List (List ℕ)) (us : List Token) → length is ≤ n
    → ((js : List Item) → Quiet (i ∷ is) js → Quiet before js) → (begins i.what ≡ true → Lead before (i ∷ is) w row from to)
    → (is_quiet i.what ≡ true → run at is (St (led w row from to) out [] vs) ≡ listed us → Readable at vs before)
    → run at (i ∷ is) (St (led w row from to) out [] vs) ≡ listed us → i.what ≡ l → Readable at vs before
unfolding Readable
led_piece n hyp at before i (blank x) is w row from to out vs us small quiet lead next h q =
    next (ap is_quiet q) (sym (ap (after at is) (led_step i.what i.line i.start i.end w row from to out vs (ap is_quiet q))) ∙ h)
led_piece n hyp at before i comment is w row from to out vs us small quiet lead next h q =
    next (ap is_quiet q) (sym (ap (after at is) (led_step i.what i.line i.start i.end w row from to out vs (ap is_quiet q))) ∙ h)
led_piece n hyp at before i joined is w row from to out vs us small quiet lead next h q =
    next (ap is_quiet q) (sym (ap (after at is) (led_step i.what i.line i.start i.end w row from to out vs (ap is_quiet q))) ∙ h)
led_piece n hyp at before i feed is w row from to out vs us small quiet lead next h q =
    let rest = hyp at is out vs us small (sym (ap (after at is) (led_feed i.what i.line i.start i.end w row from to out vs q)) ∙ h) in
    (rest.0, r.blank_line (quiet (i ∷ is) r.here) q rest.1)
led_piece n hyp at before i (word x) is w row from to out vs us small quiet lead next h q = logical n hyp at before i is (led w row from to) w row from to out vs us small (lead (ap begins q)) (ap begins q) refl h
led_piece n hyp at before i (number z) is w row from to out vs us small quiet lead next h q = logical n hyp at before i is (led w row from to) w row from to out vs us small (lead (ap begins q)) (ap begins q) refl h
led_piece n hyp at before i (string u) is w row from to out vs us small quiet lead next h q = logical n hyp at before i is (led w row from to) w row from to out vs us small (lead (ap begins q)) (ap begins q) refl h
led_piece n hyp at before i (sign k) is w row from to out vs us small quiet lead next h q = logical n hyp at before i is (led w row from to) w row from to out vs us small (lead (ap begins q)) (ap begins q) refl h
led_piece n hyp at before i bad_comment is w row from to out vs us small quiet lead next h q =
    absurd (refused_line at i bad_comment is (St (led w row from to) out [] vs) us q (comment_refused i.line i.start i.end (St (led w row from to) out [] vs)) h)
led_piece n hyp at before i (bad b) is w row from to out vs us small quiet lead next h q =
    absurd (refused_line at i (bad b) is (St (led w row from to) out [] vs) us q (bad_refused b i.line i.start i.end (St (led w row from to) out [] vs)) h)

led_met : (n : ℕ) → Reading n → (at : End) (before is : List Item) (w : List ℕ) (row from to : ℕ) (out : List Token) (vs : List (List ℕ)) (us : List Token) → length is ≤ n
    → ((js : List Item) → Quiet is js → Quiet before js) → ((j : Item) (js : List Item) → Quiet is (j ∷ js) → begins j.what ≡ true → Lead before (j ∷ js) w row from to)
    → run at is (St (led w row from to) out [] vs) ≡ listed us → Readable at vs before
unfolding Readable
led_met n hyp at before [] w row from to out vs us small quiet lead h = (replicate (length vs) (token dedent at.0 at.1 at.1), r.over_all (quiet [] r.here))
led_met n hyp at before (i ∷ is) w row from to out vs us small quiet lead h =
    led_piece n hyp at before i i.what is w row from to out vs us (omega arith) quiet (λ b. lead i is r.here b)
    (λ q k. led_met n hyp at before is w row from to out vs us (omega arith) (λ js t. quiet js (r.over q t)) (λ j js t b. lead j js (r.over q t) b) k) h refl

comment_before : {at : End} {vs : List (List ℕ)} {is : List Item} {ts : List Token} (i : Item) → i.what ≡ comment → Lines at vs is ts → Lines at vs (i ∷ is) ts
comment_before i e (r.over_all q) = r.over_all (r.over (ap is_quiet e) q)
comment_before i e (r.blank_line q f t) = r.blank_line (r.over (ap is_quiet e) q) f t
comment_before i e (r.line l n b t) = r.line (r.past e l) n b t

fresh_piece : (n : ℕ) → Reading n → (at : End) (i : Item) (l : Lexeme) (is : List Item) (out : List Token) (vs : List (List ℕ)) (us : List Token) → length is ≤ n
    → run at (i ∷ is) (St fresh out [] vs) ≡ listed us → i.what ≡ l → Readable at vs (i ∷ is)
unfolding Readable
fresh_piece n hyp at i (blank w) is out vs us small h q =
    led_met n hyp at (i ∷ is) is w i.line i.start i.end out vs us small (λ js t. r.over (ap is_quiet q) t) (λ j js t b. r.blanks q t b) (sym (ap (after at is) (blank_first i.what i.line i.start i.end w out vs q)) ∙ h)
fresh_piece n hyp at i joined is out vs us small h q =
    led_met n hyp at (i ∷ is) is [] i.line i.start i.start out vs us small (λ js t. r.over (ap is_quiet q) t) (λ j js t b. r.joint q t b) (sym (ap (after at is) (joined_first i.what i.line i.start i.end out vs q)) ∙ h)
fresh_piece n hyp at i comment is out vs us small h q =
    let rest = hyp at is out vs us small (sym (ap (after at is) (ap (λ x. step x i.line i.start i.end (St fresh out [] vs)) q ∙ comment_first i.line i.start i.end out vs)) ∙ h) in
    (rest.0, comment_before i q rest.1)
fresh_piece n hyp at i feed is out vs us small h q =
    let rest = hyp at is out vs us small (sym (ap (after at is) (fresh_feed i.what i.line i.start i.end out vs q)) ∙ h) in
    (rest.0, r.blank_line r.here q rest.1)
fresh_piece n hyp at i (word x) is out vs us small h q = logical n hyp at (i ∷ is) i is fresh [] i.line i.start i.start out vs us small (r.bare (ap begins q)) (ap begins q) refl h
fresh_piece n hyp at i (number z) is out vs us small h q = logical n hyp at (i ∷ is) i is fresh [] i.line i.start i.start out vs us small (r.bare (ap begins q)) (ap begins q) refl h
fresh_piece n hyp at i (string u) is out vs us small h q = logical n hyp at (i ∷ is) i is fresh [] i.line i.start i.start out vs us small (r.bare (ap begins q)) (ap begins q) refl h
fresh_piece n hyp at i (sign k) is out vs us small h q = logical n hyp at (i ∷ is) i is fresh [] i.line i.start i.start out vs us small (r.bare (ap begins q)) (ap begins q) refl h
fresh_piece n hyp at i bad_comment is out vs us small h q = absurd (refused_line at i bad_comment is (St fresh out [] vs) us q (comment_refused i.line i.start i.end (St fresh out [] vs)) h)
fresh_piece n hyp at i (bad b) is out vs us small h q = absurd (refused_line at i (bad b) is (St fresh out [] vs) us q (bad_refused b i.line i.start i.end (St fresh out [] vs)) h)

lines_met : (n : ℕ) → Reading n
unfolding Readable
lines_met n at [] out vs us small h = (replicate (length vs) (token dedent at.0 at.1 at.1), r.over_all r.here)
lines_met zero at (i ∷ is) out vs us small h = absurd (omega arith)
lines_met (suc n) at (i ∷ is) out vs us small h = fresh_piece n (lines_met n) at i i.what is out vs us (omega arith) h refl

same_list : (us ts : List Token) → listed us ≡ listed ts → us ≡ ts
same_list us ts q = cc

-- the tokens that reading from the front gives are those that the rules give
pub read_tokens : (cs : List ℕ) (ts : List Token) → layout cs ≡ Ok ts → HasTokens cs ts
unfolding layout Readable
read_tokens cs ts e =
    let p = lines_met (length (cut 1 0 cs)) (end_of 1 0 cs) (cut 1 0 cs) [] [] ts (omega arith) e in
    subst (λ v. HasTokens cs v) (same_list p.0 ts (sym (lines_take [] p.1) ∙ e)) p.1

-- the same of what a call answers
pub by_reading : {Z : Type 0} (cs chars : List ℕ) (r : Result Z SyntaxFault) (items : Z → List rust.Token) → cs ≡ chars → Answers (layout cs) r items → IfOk r (λ v. HasTokens chars (tokens_of (items v)))
by_reading cs chars (Ok v) items e h = read_tokens chars (tokens_of (items v)) (ap layout (sym e) ∙ h)
by_reading cs chars (Err l) items e h = tt
