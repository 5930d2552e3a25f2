-- The places of a text's tokens lie in order.
use Rattle.std.proofs.Common.{◌≡◌, ℕ, zero, suc, ◌+◌, ◌-◌, ◌≤◌, Bool, true, false, cond, List, [], ◌∷◌, ◌++◌, length, take, drop, replicate, refl, sym, ap, subst, ◌∙◌, arith}
use Rattle.std.specs.Prelude.{Result, Ok, Err, nat_eq}
use Rattle.std.specs.Str.{bytes_eq}
use Rattle.std.specs.List.{starts_with}
use Rattle.kishu_language.specs.declared.token.Mark.{Mark}
use Rattle.kishu_language.specs.tokens.Lexemes.{Lexeme, blank, comment, bad_comment, joined, feed, word, number, string, sign, bad, lexeme, feeds}
use Rattle.kishu_language.specs.tokens.Layout as y
use Rattle.kishu_language.specs.tokens.Layout.{◌>>=◌, Outcome, State, Start, fresh, led, inside, Kind, Token, Item, token, emit, newline, indent, dedent, mark, top, dedents, dedented, deeper, indented, begin, bracket, step, steps, cut, cut_from, width, end_of, finish, layout, empty}
use Rattle.kishu_language.specs.tokens.Places.{InOrder}
use Rattle.std.specs.Prelude.{IfOk}
use Rattle.std.specs.Char.{len_utf8, encode_utf8}
use Rattle.std.specs.Str.{encode_utf8_all}
use Rattle.std.proofs.Common.{length-append}
use Rattle.std.proofs.lemmas.Bool.Decides.{nat_tests}
use Rattle.kishu_language.specs.declared.token.Token as rust
use Rattle.kishu_lexer.specs.declared.fault.SyntaxFault.{SyntaxFault}
use Rattle.kishu_lexer.specs.Machine.{Answers, tokens_of}
use Rattle.std.proofs.lemmas.List.Sums.{sum_by-cons}
use Rattle.kishu_lexer.proofs.Sums.{width_split}

later : (low mid high : ℕ) (ts : List Token) → InOrder low ts mid → mid ≤ high → InOrder low ts high
later low mid high [] h k = omega arith
later low mid high (t ∷ ts) h k = (h.0, (h.1.0, later t.end mid high ts h.1.1 k))

push : (low mid high : ℕ) (ts : List Token) (t : Token) → InOrder low ts mid → mid ≤ t.start → t.start ≤ t.end → t.end ≤ high → InOrder low (ts ++ t ∷ []) high
push low mid high [] t h a b c = (omega arith, (b, c))
push low mid high (u ∷ ts) t h a b c = (h.0, (h.1.0, push u.end mid high ts t h.1.1 a b c))

copies : (low at : ℕ) (ts : List Token) (k : Kind) (line n : ℕ) → InOrder low ts at → InOrder low (ts ++ replicate n (token k line at at)) at
copies low at ts k line n h = go ts low h
  where
    all : (n : ℕ) (low : ℕ) → low ≤ at → InOrder low (replicate n (token k line at at)) at
    all zero low h = h
    all (suc n) low h = (h, (omega arith, all n at (omega arith)))

    go : (ts : List Token) (low : ℕ) → InOrder low ts at → InOrder low (ts ++ replicate n (token k line at at)) at
    go [] low h = all n low h
    go (t ∷ ts) low h = (h.0, (h.1.0, go ts t.end h.1.1))

-- what is known of a state where the next piece begins at a place
abbrev Ordered : Start → List Token → ℕ → Type 0
Ordered fresh out at = InOrder 0 out at
Ordered inside out at = InOrder 0 out at
Ordered (led w row from to) out at = InOrder 0 out from × ((from ≤ to) × (to ≤ at))

record Stands (s : State) (at : ℕ) : Type 0 where
  is : Ordered s.begun s.out at

plainly : (s : State) (at : ℕ) → Stands s at → InOrder 0 s.out at
plainly s at h = go s.begun h.is
  where
    go : (b : Start) → Ordered b s.out at → InOrder 0 s.out at
    go fresh k = k
    go inside k = k
    go (led w row from to) k = later 0 from at s.out k.0 (omega arith)

pub bind_ok : {A B : Type 0} (o : Outcome A) (f : A → Outcome B) (t : B) → o >>= f ≡ Ok t → (b : A) × ((o ≡ Ok b) × (f b ≡ Ok t))
bind_ok (Ok b) f t e = (b, (refl, e))
bind_ok (Err l) f t e = absurd cc

abbrev pub done : State → Outcome State
done s = Ok s

pub ok_is : (a b : State) → done a ≡ done b → a ≡ b
ok_is a b e = cc

-- the tokens before a line's first one
record Began (b : State) (at : ℕ) : Type 0 where
  places : InOrder 0 b.out at
  begun : b.begun ≡ inside

began : (b c : State) (at : ℕ) → done b ≡ done c → Began b at → Began c at
began b c at e h = subst (λ v. Began v at) (ok_is b c e) h

dedents_ok : (w : List ℕ) (line at : ℕ) (vs : List (List ℕ)) (out : List Token) (s c : State) → s.begun ≡ inside → InOrder 0 out at → dedented s (dedents w line at vs out) ≡ Ok c → Began c at
dedents_ok w line at [] out s c h k e = go (bytes_eq w []) e
  where
    go : (b : Bool) → dedented s (cond b (Ok ([], out)) (Err line)) ≡ Ok c → Began c at
    go true e = began (record s { indents = []; out = out }) c at e (record { places = k; begun = h })
    go false e = absurd cc
dedents_ok w line at (v ∷ vs) out s c h k e = go (bytes_eq w v) e (λ e. dedents_ok w line at vs (out ++ token dedent line at at ∷ []) s c h (push 0 at at out (token dedent line at at) k (omega arith) (omega arith) (omega arith)) e)
  where
    go : (b : Bool) → dedented s (cond b (Ok (v ∷ vs, out)) (dedents w line at vs (out ++ token dedent line at at ∷ []))) ≡ Ok c
        → (dedented s (dedents w line at vs (out ++ token dedent line at at ∷ [])) ≡ Ok c → Began c at) → Began c at
    go true e next = began (record s { indents = v ∷ vs; out = out }) c at e (record { places = k; begun = h })
    go false e next = next e

indented_ok : (w : List ℕ) (line from to : ℕ) (s c : State) → s.begun ≡ inside → InOrder 0 s.out from → from ≤ to → indented w line from to s ≡ Ok c → Began c to
unfolding indented
indented_ok w line from to s c h k a e = go (bytes_eq w (top s.indents)) (starts_with nat_eq w (top s.indents)) e
  where
    go : (p q : Bool) → cond p (Ok s) (cond q (Ok (deeper w line from to s)) (dedented s (dedents w line to s.indents s.out))) ≡ Ok c → Began c to
    go true q e = began s c to e (record { places = later 0 from to s.out k a; begun = h })
    go false true e = began (deeper w line from to s) c to e (record { places = push 0 from to s.out (token indent line from to) k (omega arith) a (omega arith); begun = h })
    go false false e = dedents_ok w line to s.indents s.out s c h (later 0 from to s.out k a) e

begun_later : (c : State) (to at : ℕ) → Began c to → to ≤ at → Began c at
begun_later c to at h le = record { places = later 0 to at c.out h.places le; begun = h.begun }

begin_ok : (line at : ℕ) (s c : State) → Stands s at → begin line at s ≡ Ok c → Began c at
unfolding begin
begin_ok line at s c h e = go s.begun refl h.is e
  where
    go : (b : Start) → s.begun ≡ b → Ordered b s.out at → y.begin_at b line at s ≡ Ok c → Began c at
    go inside q k e = began s c at e (record { places = k; begun = q })
    go fresh q k e = indented_ok [] line at at (record s { begun = inside }) c refl k (omega arith) e
    go (led w row from to) q k e = begun_later c to at (indented_ok w row from to (record s { begun = inside }) c refl k.0 k.1.0 e) k.1.1

-- a token that is put out inside a line
put : (b : State) (k : Kind) (line start end : ℕ) → Began b start → start ≤ end → Stands (emit (token k line start end) b) end
put b k line start end h le = record { is = subst (λ v. Ordered v (b.out ++ token k line start end ∷ []) end) (sym h.begun) (push 0 start end b.out (token k line start end) h.places (omega arith) le (omega arith)) }

stand : (s : State) (b : Start) (at : ℕ) → s.begun ≡ b → Ordered b s.out at → Stands s at
stand s b at q k = record { is = subst (λ v. Ordered v s.out at) (sym q) k }

-- a state in which nothing changed
moved : (s : State) (start end : ℕ) → Stands s start → start ≤ end → Stands s end
moved s start end h le = go s.begun refl h.is
  where
    go : (b : Start) → s.begun ≡ b → Ordered b s.out start → Stands s end
    go fresh q k = stand s fresh end q (later 0 start end s.out k le)
    go inside q k = stand s inside end q (later 0 start end s.out k le)
    go (led w row from to) q k = stand s (led w row from to) end q (k.0, (k.1.0, omega arith))

stands : (b c : State) (at : ℕ) → done b ≡ done c → Stands b at → Stands c at
stands b c at e h = subst (λ v. Stands v at) (ok_is b c e) h

blank_ok : (w : List ℕ) (line start stop end : ℕ) (s t : State) → Stands s start → start ≤ stop → stop ≤ end → done (y.blank_at s.begun w line start stop s) ≡ done t → Stands t end
blank_ok w line start stop end s t h a b e = go s.begun refl h.is e
  where
    go : (v : Start) → s.begun ≡ v → Ordered v s.out start → done (y.blank_at v w line start stop s) ≡ done t → Stands t end
    go fresh q k e = stands (record s { begun = led w line start stop }) t end e (record { is = (k, (a, b)) })
    go inside q k e = stands s t end e (moved s start end h (omega arith))
    go (led v row from to) q k e = stands s t end e (moved s start end h (omega arith))

feed_ok : (line start end : ℕ) (s t : State) → Stands s start → start ≤ end → done (y.feed_at s.begun line start end s) ≡ done t → Stands t end
feed_ok line start end s t h le e = go s.begun refl h.is e
  where
    choose : (p : Bool) → InOrder 0 s.out start → done (cond p (emit (token newline line start end) (record s { begun = fresh })) s) ≡ done t → Stands t end
    choose true k e = stands (emit (token newline line start end) (record s { begun = fresh })) t end e (record { is = push 0 start end s.out (token newline line start end) k (omega arith) le (omega arith) })
    choose false k e = stands s t end e (moved s start end h le)

    go : (v : Start) → s.begun ≡ v → Ordered v s.out start → done (y.feed_at v line start end s) ≡ done t → Stands t end
    go fresh q k e = stands s t end e (moved s start end h le)
    go inside q k e = choose (y.is_none s.brackets) k e
    go (led w row from to) q k e = stands (record s { begun = fresh }) t end e (record { is = later 0 from end s.out k.0 (omega arith) })

close_ok : (k : Mark) (line at : ℕ) (bs : List (Mark × ℕ)) (b c : State) → Began b at → y.close k line bs b ≡ Ok c → Began c at
close_ok k line at [] b c h e = absurd cc
close_ok k line at (x ∷ xs) b c h e = go (y.closes x.0 k) e
  where
    go : (p : Bool) → cond p (done (record b { brackets = xs })) (Err line) ≡ Ok c → Began c at
    go true e = began (record b { brackets = xs }) c at e (record { places = h.places; begun = h.begun })
    go false e = absurd cc

bracket_ok : (k : Mark) (line at : ℕ) (b c : State) → Began b at → bracket k line b ≡ Ok c → Began c at
unfolding bracket
bracket_ok k line at b c h e = go (y.is_opening k) (y.is_closing k) e
  where
    go : (p q : Bool) → cond p (done (y.opened k line b)) (cond q (y.close k line b.brackets b) (done b)) ≡ Ok c → Began c at
    go true q e = began (y.opened k line b) c at e (record { places = h.places; begun = h.begun })
    go false true e = close_ok k line at b.brackets b c h e
    go false false e = began b c at e h

plain_ok : (k : Kind) (line start end : ℕ) (s t : State) → Stands s start → start ≤ end → y.plain k line start end s ≡ Ok t → Stands t end
plain_ok k line start end s t h le e =
    let p = bind_ok (begin line start s) (λ b. done (emit (token k line start end) b)) t e in
    stands (emit (token k line start end) p.0) t end p.1.1 (put p.0 k line start end (begin_ok line start s p.0 h p.1.0) le)

marked_ok : (k : Mark) (line start end : ℕ) (s t : State) → Stands s start → start ≤ end → y.marked k line start end s ≡ Ok t → Stands t end
marked_ok k line start end s t h le e =
    let p = bind_ok (begin line start s) (λ b. bracket k line b >>= (λ c. done (emit (token (mark k) line start end) c))) t e in
    let q = bind_ok (bracket k line p.0) (λ c. done (emit (token (mark k) line start end) c)) t p.1.1 in
    stands (emit (token (mark k) line start end) q.0) t end q.1.1 (put q.0 (mark k) line start end (bracket_ok k line start p.0 q.0 (begin_ok line start s p.0 h p.1.0) q.1.0) le)

pub wrong_never : (o : Outcome State) (fault : ℕ) (t : State) → o >>= (λ b. Err fault) ≡ done t → ⊥
wrong_never (Ok b) fault t e = cc
wrong_never (Err l) fault t e = cc

step_ok : (l : Lexeme) (line start end : ℕ) (s t : State) → Stands s start → start ≤ end → step l line start end s ≡ Ok t → Stands t end
unfolding step
step_ok (blank w) line start end s t h le e = blank_ok w line start end end s t h le (omega arith) e
step_ok comment line start end s t h le e = stands s t end e (moved s start end h le)
step_ok bad_comment line start end s t h le e = absurd cc
step_ok joined line start end s t h le e = blank_ok [] line start start end s t h (omega arith) le e
step_ok feed line start end s t h le e = feed_ok line start end s t h le e
step_ok (word w) line start end s t h le e = plain_ok (y.word_kind w) line start end s t h le e
step_ok (number z) line start end s t h le e = plain_ok (y.integer z) line start end s t h le e
step_ok (string u) line start end s t h le e = plain_ok (y.quoted u) line start end s t h le e
step_ok (sign k) line start end s t h le e = marked_ok k line start end s t h le e
step_ok (bad below) line start end s t h le e = absurd (wrong_never (begin line start s) (line + below) t e)

rest_width : (n c : ℕ) (cs : List ℕ) → width (take n (c ∷ cs)) + width (drop (n - 1) cs) ≤ width (c ∷ cs)
rest_width zero c cs = omega (arith, sum_by-cons len_utf8 c cs)
rest_width (suc n) c cs = let e : suc n - 1 ≡ n = omega arith in rw e (omega (arith, width_split (suc n) (c ∷ cs)))

steps_ok : (left line start high : ℕ) (cs : List ℕ) (s t : State) → Stands s start → start + width (drop left cs) ≤ high → steps (cut_from left line start cs) s ≡ Ok t → Stands t high
steps_ok left line start high [] s t h le e = stands s t high e (moved s start high h (omega arith))
steps_ok (suc left) line start high (c ∷ cs) s t h le e = steps_ok left line start high cs s t h le e
steps_ok zero line start high (c ∷ cs) s t h le e =
    let n = (lexeme (c ∷ cs)).1 in
    let taken = take n (c ∷ cs) in
    let p = bind_ok (step (lexeme (c ∷ cs)).0 line start (start + width taken) s) (steps (cut_from (n - 1) (line + feeds taken) (start + width taken) cs)) t e in
    steps_ok (n - 1) (line + feeds taken) (start + width taken) high cs p.0 t (step_ok (lexeme (c ∷ cs)).0 line start (start + width taken) s p.0 h (omega arith) p.1.0) (omega (arith, rest_width n c cs)) p.1.1

abbrev pub listed : List Token → Outcome (List Token)
listed ts = Ok ts

pub list_is : (us ts : List Token) → listed us ≡ listed ts → us ≡ ts
list_is us ts e = cc

finish_ok : (bs : List (Mark × ℕ)) (line at : ℕ) (s : State) (ts : List Token) → Stands s at → finish bs (line, at) s ≡ Ok ts → InOrder 0 ts at
finish_ok (b ∷ bs) line at s ts h e = absurd cc
finish_ok [] line at s ts h e = go s.begun refl e
  where
    last : (x : State) → InOrder 0 x.out at → listed (x.out ++ replicate (length x.indents) (token dedent line at at)) ≡ Ok ts → InOrder 0 ts at
    last x k e = subst (λ v. InOrder 0 v at) (list_is _ ts e) (copies 0 at x.out dedent line (length x.indents) k)

    go : (v : Start) → s.begun ≡ v → listed ((y.ended v (line, at) s).out ++ replicate (length (y.ended v (line, at) s).indents) (token dedent line at at)) ≡ Ok ts → InOrder 0 ts at
    go fresh q e = last s (plainly s at h) e
    go inside q e = last (emit (token newline line at at) s) (push 0 at at s.out (token newline line at at) (plainly s at h) (omega arith) (omega arith) (omega arith)) e
    go (led w row from to) q e = last s (plainly s at h) e

-- the places of a text's tokens
pub in_order : (cs : List ℕ) (ts : List Token) → layout cs ≡ Ok ts → InOrder 0 ts (width cs)
unfolding layout cut
in_order cs ts e =
    let p = bind_ok (steps (cut_from 0 1 0 cs) empty) (λ s. finish s.brackets (end_of 1 0 cs) s) ts e in
    let none : 0 + width cs ≡ width cs = omega arith in
    subst (λ n. InOrder 0 ts n) none (finish_ok p.0.brackets (1 + feeds cs) (0 + width cs) p.0 ts (steps_ok 0 1 0 (0 + width cs) cs empty p.0 (record { is = omega arith }) (omega arith) p.1.0) p.1.1)

encoded_width : (c : ℕ) → length (encode_utf8 c) ≡ len_utf8 c
unfolding encode_utf8
encoded_width c = grind (arith, nat_tests)

pub bytes_width : (cs : List ℕ) → length (encode_utf8_all cs) ≡ width cs
bytes_width [] = refl
bytes_width (c ∷ cs) = omega (arith, length-append (encode_utf8 c) (encode_utf8_all cs), encoded_width c, bytes_width cs, sum_by-cons len_utf8 c cs)

-- the same of what the code answers, over the text's bytes
pub placed : {Z : Type 0} (cs chars : List ℕ) (r : Result Z SyntaxFault) (items : Z → List rust.Token) → cs ≡ chars → Answers (layout cs) r items → IfOk r (λ v. InOrder 0 (tokens_of (items v)) (length (encode_utf8_all chars)))
placed cs chars (Ok v) items e h = subst (λ n. InOrder 0 (tokens_of (items v)) n) (sym (bytes_width cs) ∙ ap (λ l. length (encode_utf8_all l)) e) (in_order cs (tokens_of (items v)) h)
placed cs chars (Err l) items e h = tt
