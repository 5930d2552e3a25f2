-- The places of a text's tokens lie at the edges of its characters.
use Rattle.std.proofs.Common.{◌≡◌, ℕ, zero, suc, ◌+◌, ◌-◌, ◌<◌, Bool, true, false, cond, List, [], ◌∷◌, ◌++◌, length, take, drop, replicate, refl, sym, ap, subst, ◌∙◌, arith}
use Rattle.std.proofs.lemmas.List.{take-append-drop}
use Rattle.std.proofs.lemmas.List.Sums.{sum_by-cons}
use Rattle.std.proofs.lemmas.Str.{encodes-append, IsCharBoundary-at_seam}
use Rattle.std.specs.Prelude.{◌&&◌, ◌==◌, slice_index, Result, Ok, Err, IfOk, nat_eq}
use Rattle.std.specs.Char.{len_utf8}
use Rattle.std.specs.Str.{bytes_eq, encode_utf8_all, all_scalars, IsCharBoundary}
use Rattle.std.specs.List.{starts_with}
use Rattle.kishu_language.specs.declared.token.Mark.{Mark}
use Rattle.kishu_language.specs.declared.token.Token as rust
use Rattle.kishu_language.specs.tokens.PlainLines.{plain_lines}
use Rattle.kishu_language.specs.tokens.Lexemes.{Lexeme, blank, comment, bad_comment, joined, feed, word, number, string, sign, bad, lexeme, feeds}
use Rattle.kishu_language.specs.tokens.Layout as y
use Rattle.kishu_language.specs.tokens.Layout.{◌>>=◌, Outcome, State, Start, fresh, led, inside, Kind, Token, token, emit, newline, indent, dedent, mark, top, dedents, dedented, deeper, indented, begin, bracket, step, steps, cut, cut_from, width, end_of, finish, layout, empty}
use Rattle.kishu_lexer.specs.declared.fault.SyntaxFault.{SyntaxFault}
use Rattle.kishu_lexer.specs.Edges.{Placed}
use Rattle.kishu_lexer.specs.Machine.{Answers, tokens_of}
use Rattle.kishu_token_laws.specs.PieceLengths.{some_taken}
use Rattle.kishu_lexer.proofs.Order.{bind_ok, done, ok_is, listed, list_is, wrong_never, bytes_width}

-- Each token begins and ends at a place that has the property.
abbrev Places : (ℕ → Type 0) → List Token → Type 0
Places P [] = Unit {0}
Places P (t ∷ ts) = P t.start × (P t.end × Places P ts)

-- some characters, and then more
none_wide : (k : ℕ) → width (take k []) ≡ 0
none_wide zero = refl
none_wide (suc k) = refl

more_wide : (n k : ℕ) (xs : List ℕ) → width (take (n + k) xs) ≡ width (take n xs) + width (take k (drop n xs))
more_wide zero k xs = let e : zero + k ≡ k = omega arith in rw e (omega arith)
more_wide (suc n) k [] = omega (arith, none_wide (suc n + k), none_wide k)
more_wide (suc n) k (c ∷ cs) =
    let e : suc n + k ≡ suc (n + k) = omega arith in
    rw e (omega (arith, sum_by-cons len_utf8 c (take (n + k) cs), sum_by-cons len_utf8 c (take n cs), more_wide n k cs))

rest_wide : (n k c : ℕ) (cs : List ℕ) → 0 < n → width (take (n + k) (c ∷ cs)) ≡ width (take n (c ∷ cs)) + width (take k (drop (n - 1) cs))
rest_wide zero k c cs h = absurd (omega arith)
rest_wide (suc n) k c cs h = let e : suc n - 1 ≡ n = omega arith in rw e (more_wide (suc n) k (c ∷ cs))

module _ (P : ℕ → Type 0) where
  push : (ts : List Token) (t : Token) → Places P ts → P t.start → P t.end → Places P (ts ++ t ∷ [])
  push [] t h a b = (a, (b, tt))
  push (u ∷ ts) t h a b = (h.0, (h.1.0, push ts t h.1.1 a b))

  copies : (at : ℕ) (ts : List Token) (k : Kind) (line n : ℕ) → Places P ts → P at → Places P (ts ++ replicate n (token k line at at))
  copies at ts k line n h a = go ts h
    where
      all : (n : ℕ) → Places P (replicate n (token k line at at))
      all zero = tt
      all (suc n) = (a, (a, all n))

      go : (ts : List Token) → Places P ts → Places P (ts ++ replicate n (token k line at at))
      go [] h = all n
      go (t ∷ ts) h = (h.0, (h.1.0, go ts h.1.1))

  -- what is known of a state
  abbrev Kept : Start → List Token → Type 0
  Kept fresh out = Places P out
  Kept inside out = Places P out
  Kept (led w row from to) out = Places P out × (P from × P to)

  record Keeps (s : State) : Type 0 where
    is : Kept s.begun s.out

  plainly : (s : State) → Keeps s → Places P s.out
  plainly s h = go s.begun h.is
    where
      go : (b : Start) → Kept b s.out → Places P s.out
      go fresh k = k
      go inside k = k
      go (led w row from to) k = k.0

  record Began (b : State) : Type 0 where
    places : Places P b.out
    begun : b.begun ≡ inside

  began : (b c : State) → done b ≡ done c → Began b → Began c
  began b c e h = subst (λ v. Began v) (ok_is b c e) h

  dedents_ok : (w : List ℕ) (line at : ℕ) (vs : List (List ℕ)) (out : List Token) (s c : State) → s.begun ≡ inside → Places P out → P at → dedented s (dedents w line at vs out) ≡ Ok c → Began c
  dedents_ok w line at [] out s c h k a e = go (bytes_eq w []) e
    where
      go : (b : Bool) → dedented s (cond b (Ok ([], out)) (Err line)) ≡ Ok c → Began c
      go true e = began (record s { indents = []; out = out }) c e (record { places = k; begun = h })
      go false e = absurd cc
  dedents_ok w line at (v ∷ vs) out s c h k a e = go (bytes_eq w v) e (λ e. dedents_ok w line at vs (out ++ token dedent line at at ∷ []) s c h (push out (token dedent line at at) k a a) a e)
    where
      go : (b : Bool) → dedented s (cond b (Ok (v ∷ vs, out)) (dedents w line at vs (out ++ token dedent line at at ∷ []))) ≡ Ok c
          → (dedented s (dedents w line at vs (out ++ token dedent line at at ∷ [])) ≡ Ok c → Began c) → Began c
      go true e next = began (record s { indents = v ∷ vs; out = out }) c e (record { places = k; begun = h })
      go false e next = next e

  indented_ok : (w : List ℕ) (line from to : ℕ) (s c : State) → s.begun ≡ inside → Places P s.out → P from → P to → indented w line from to s ≡ Ok c → Began c
  unfolding indented
  indented_ok w line from to s c h k a b e = go (bytes_eq w (top s.indents)) (starts_with nat_eq w (top s.indents)) e
    where
      go : (p q : Bool) → cond p (Ok s) (cond q (Ok (deeper w line from to s)) (dedented s (dedents w line to s.indents s.out))) ≡ Ok c → Began c
      go true q e = began s c e (record { places = k; begun = h })
      go false true e = began (deeper w line from to s) c e (record { places = push s.out (token indent line from to) k a b; begun = h })
      go false false e = dedents_ok w line to s.indents s.out s c h k b e

  begin_ok : (line at : ℕ) (s c : State) → Keeps s → P at → begin line at s ≡ Ok c → Began c
  unfolding begin
  begin_ok line at s c h a e = go s.begun refl h.is e
    where
      go : (b : Start) → s.begun ≡ b → Kept b s.out → y.begin_at b line at s ≡ Ok c → Began c
      go inside q k e = began s c e (record { places = k; begun = q })
      go fresh q k e = indented_ok [] line at at (record s { begun = inside }) c refl k a a e
      go (led w row from to) q k e = indented_ok w row from to (record s { begun = inside }) c refl k.0 k.1.0 k.1.1 e

  put : (b : State) (k : Kind) (line start end : ℕ) → Began b → P start → P end → Keeps (emit (token k line start end) b)
  put b k line start end h a c = record { is = subst (λ v. Kept v (b.out ++ token k line start end ∷ [])) (sym h.begun) (push b.out (token k line start end) h.places a c) }

  keeps : (b c : State) → done b ≡ done c → Keeps b → Keeps c
  keeps b c e h = subst (λ v. Keeps v) (ok_is b c e) h

  blank_ok : (w : List ℕ) (line start stop : ℕ) (s t : State) → Keeps s → P start → P stop → done (y.blank_at s.begun w line start stop s) ≡ done t → Keeps t
  blank_ok w line start stop s t h a b e = go s.begun h.is e
    where
      go : (v : Start) → Kept v s.out → done (y.blank_at v w line start stop s) ≡ done t → Keeps t
      go fresh k e = keeps (record s { begun = led w line start stop }) t e (record { is = (k, (a, b)) })
      go inside k e = keeps s t e h
      go (led v row from to) k e = keeps s t e h

  feed_ok : (line start end : ℕ) (s t : State) → Keeps s → P start → P end → done (y.feed_at s.begun line start end s) ≡ done t → Keeps t
  feed_ok line start end s t h a b e = go s.begun h.is e
    where
      choose : (p : Bool) → Places P s.out → done (cond p (emit (token newline line start end) (record s { begun = fresh })) s) ≡ done t → Keeps t
      choose true k e = keeps (emit (token newline line start end) (record s { begun = fresh })) t e (record { is = push s.out (token newline line start end) k a b })
      choose false k e = keeps s t e h

      go : (v : Start) → Kept v s.out → done (y.feed_at v line start end s) ≡ done t → Keeps t
      go fresh k e = keeps s t e h
      go inside k e = choose (y.is_none s.brackets) k e
      go (led w row from to) k e = keeps (record s { begun = fresh }) t e (record { is = k.0 })

  close_ok : (k : Mark) (line : ℕ) (bs : List (Mark × ℕ)) (b c : State) → Began b → y.close k line bs b ≡ Ok c → Began c
  close_ok k line [] b c h e = absurd cc
  close_ok k line (x ∷ xs) b c h e = go (y.closes x.0 k) e
    where
      go : (p : Bool) → cond p (done (record b { brackets = xs })) (Err line) ≡ Ok c → Began c
      go true e = began (record b { brackets = xs }) c e (record { places = h.places; begun = h.begun })
      go false e = absurd cc

  bracket_ok : (k : Mark) (line : ℕ) (b c : State) → Began b → bracket k line b ≡ Ok c → Began c
  unfolding bracket
  bracket_ok k line b c h e = go (y.is_opening k) (y.is_closing k) e
    where
      go : (p q : Bool) → cond p (done (y.opened k line b)) (cond q (y.close k line b.brackets b) (done b)) ≡ Ok c → Began c
      go true q e = began (y.opened k line b) c e (record { places = h.places; begun = h.begun })
      go false true e = close_ok k line b.brackets b c h e
      go false false e = began b c e h

  plain_ok : (k : Kind) (line start end : ℕ) (s t : State) → Keeps s → P start → P end → y.plain k line start end s ≡ Ok t → Keeps t
  plain_ok k line start end s t h a b e =
      let p = bind_ok (begin line start s) (λ c. done (emit (token k line start end) c)) t e in
      keeps (emit (token k line start end) p.0) t p.1.1 (put p.0 k line start end (begin_ok line start s p.0 h a p.1.0) a b)

  marked_ok : (k : Mark) (line start end : ℕ) (s t : State) → Keeps s → P start → P end → y.marked k line start end s ≡ Ok t → Keeps t
  marked_ok k line start end s t h a b e =
      let p = bind_ok (begin line start s) (λ c. bracket k line c >>= (λ d. done (emit (token (mark k) line start end) d))) t e in
      let q = bind_ok (bracket k line p.0) (λ d. done (emit (token (mark k) line start end) d)) t p.1.1 in
      keeps (emit (token (mark k) line start end) q.0) t q.1.1 (put q.0 (mark k) line start end (bracket_ok k line p.0 q.0 (begin_ok line start s p.0 h a p.1.0) q.1.0) a b)

  step_ok : (l : Lexeme) (line start end : ℕ) (s t : State) → Keeps s → P start → P end → step l line start end s ≡ Ok t → Keeps t
  unfolding step
  step_ok (blank w) line start end s t h a b e = blank_ok w line start end s t h a b e
  step_ok comment line start end s t h a b e = keeps s t e h
  step_ok bad_comment line start end s t h a b e = absurd cc
  step_ok joined line start end s t h a b e = blank_ok [] line start start s t h a a e
  step_ok feed line start end s t h a b e = feed_ok line start end s t h a b e
  step_ok (word w) line start end s t h a b e = plain_ok (y.word_kind w) line start end s t h a b e
  step_ok (number z) line start end s t h a b e = plain_ok (y.integer z) line start end s t h a b e
  step_ok (string u) line start end s t h a b e = plain_ok (y.quoted u) line start end s t h a b e
  step_ok (sign k) line start end s t h a b e = marked_ok k line start end s t h a b e
  step_ok (bad below) line start end s t h a b e = absurd (wrong_never (begin line start s) (line + below) t e)

  -- Each place behind some of the characters that are left has the property.
  steps_ok : (left line start : ℕ) (cs : List ℕ) (s t : State) → Keeps s → ((k : ℕ) → P (start + width (take k (drop left cs)))) → steps (cut_from left line start cs) s ≡ Ok t → Keeps t
  steps_ok left line start [] s t h all e = keeps s t e h
  steps_ok (suc left) line start (c ∷ cs) s t h all e = steps_ok left line start cs s t h all e
  steps_ok zero line start (c ∷ cs) s t h all e =
      let n = (lexeme (c ∷ cs)).1 in
      let taken = take n (c ∷ cs) in
      let p = bind_ok (step (lexeme (c ∷ cs)).0 line start (start + width taken) s) (steps (cut_from (n - 1) (line + feeds taken) (start + width taken) cs)) t e in
      let none : start + width (take 0 (c ∷ cs)) ≡ start = omega arith in
      let here : P start = subst P none (all 0) in
      steps_ok (n - 1) (line + feeds taken) (start + width taken) cs p.0 t (step_ok (lexeme (c ∷ cs)).0 line start (start + width taken) s p.0 h here (all n) p.1.0)
      (λ k. (let behind : start + width (take (n + k) (c ∷ cs)) ≡ start + width taken + width (take k (drop (n - 1) cs)) = omega (arith, rest_wide n k c cs (some_taken c cs)) in subst P behind (all (n + k)))) p.1.1

  finish_ok : (bs : List (Mark × ℕ)) (line at : ℕ) (s : State) (ts : List Token) → Keeps s → P at → finish bs (line, at) s ≡ Ok ts → Places P ts
  finish_ok (b ∷ bs) line at s ts h a e = absurd cc
  finish_ok [] line at s ts h a e = go s.begun e
    where
      last : (x : State) → Places P x.out → listed (x.out ++ replicate (length x.indents) (token dedent line at at)) ≡ Ok ts → Places P ts
      last x k e = subst (λ v. Places P v) (list_is _ ts e) (copies at x.out dedent line (length x.indents) k a)

      go : (v : Start) → listed ((y.ended v (line, at) s).out ++ replicate (length (y.ended v (line, at) s).indents) (token dedent line at at)) ≡ Ok ts → Places P ts
      go fresh e = last s (plainly s h) e
      go inside e = last (emit (token newline line at at) s) (push s.out (token newline line at at) (plainly s h) a a) e
      go (led w row from to) e = last s (plainly s h) e

  all_wide : (cs : List ℕ) → take (length cs) cs ≡ cs
  all_wide [] = refl
  all_wide (c ∷ cs) = ap (λ l. c ∷ l) (all_wide cs)

  layout_ok : (cs : List ℕ) (ts : List Token) → ((k : ℕ) → P (0 + width (take k cs))) → layout cs ≡ Ok ts → Places P ts
  unfolding layout cut
  layout_ok cs ts all e =
      let p = bind_ok (steps (cut_from 0 1 0 cs) empty) (λ s. finish s.brackets (end_of 1 0 cs) s) ts e in
      finish_ok p.0.brackets (1 + feeds cs) (0 + width cs) p.0 ts (steps_ok 0 1 0 cs empty p.0 (record { is = tt }) all p.1.0) (subst (λ l. P (0 + width l)) (all_wide cs) (all (length cs))) p.1.1

-- ---- the edges of a text's characters

both : (a b : Bool) → (a && b) ≡ true → (a ≡ true) × (b ≡ true)
both true b h = (refl, h)
both false b h = absurd cc

scalars_behind : (k : ℕ) (cs : List ℕ) → all_scalars cs ≡ true → all_scalars (drop k cs) ≡ true
scalars_behind zero cs h = h
scalars_behind (suc k) [] h = h
scalars_behind (suc k) (c ∷ cs) h = scalars_behind k cs (both _ _ h).1

first_scalar : (a b : Bool) (c : ℕ) (cs rest : List ℕ) → all_scalars (c ∷ cs) ≡ true → all_scalars rest ≡ true → all_scalars (cond a (cond b rest (10 ∷ rest)) (c ∷ rest)) ≡ true
first_scalar true true c cs rest h k = k
first_scalar true false c cs rest h k = k
first_scalar false b c cs rest h k = ap (λ v. v && all_scalars rest) (both _ _ h).0 ∙ k

plain_scalars : (cs : List ℕ) → all_scalars cs ≡ true → all_scalars (plain_lines cs) ≡ true
plain_scalars [] h = h
plain_scalars (c ∷ cs) h = first_scalar (c == 13) (slice_index cs 0 == 10) c cs (plain_lines cs) h (plain_scalars cs (both _ _ h).1)

edge : (cs : List ℕ) (k : ℕ) → all_scalars cs ≡ true → IsCharBoundary (encode_utf8_all cs) (width (take k cs))
edge cs k h =
    let front = encode_utf8_all (take k cs) in
    let behind = encode_utf8_all (drop k cs) in
    let split : encode_utf8_all cs ≡ front ++ behind = ap encode_utf8_all (sym (take-append-drop k cs)) ∙ encodes-append (take k cs) (drop k cs) in
    subst (λ n. IsCharBoundary (encode_utf8_all cs) n) (bytes_width (take k cs)) (IsCharBoundary-at_seam (encode_utf8_all cs) front behind split (drop k cs, (scalars_behind k cs h, refl)))

at_edges : (cs : List ℕ) (ts : List Token) → all_scalars cs ≡ true → layout cs ≡ Ok ts → Places (IsCharBoundary (encode_utf8_all cs)) ts
at_edges cs ts h e = layout_ok (IsCharBoundary (encode_utf8_all cs)) cs ts (λ k. (let whole : width (take k cs) ≡ 0 + width (take k cs) = omega arith in subst (λ n. IsCharBoundary (encode_utf8_all cs) n) whole (edge cs k h))) e

of_code : (source : List ℕ) (ts : List rust.Token) → Places (IsCharBoundary source) (tokens_of ts) → Placed source ts
of_code source [] h = tt
of_code source (t ∷ ts) h = (h.0, (h.1.0, of_code source ts h.1.1))

-- the same of what the code answers, over the text's bytes
pub placed_at_edges : {Z : Type 0} (cs all : List ℕ) (r : Result Z SyntaxFault) (items : Z → List rust.Token) → cs ≡ plain_lines all → all_scalars all ≡ true → Answers (layout cs) r items
    → IfOk r (λ v. Placed (encode_utf8_all (plain_lines all)) (items v))
placed_at_edges cs all (Ok v) items e s h =
    of_code (encode_utf8_all (plain_lines all)) (items v) (at_edges (plain_lines all) (tokens_of (items v)) (plain_scalars all s) (ap layout (sym e) ∙ h))
placed_at_edges cs all (Err l) items e s h = tt
