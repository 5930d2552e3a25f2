-- What is read of a text from some place on is what the pieces give that are left there.
use Rattle.std.proofs.Common.{◌≡◌, ℕ, ◌+◌, Bool, true, false, List, [], ◌∷◌, ◌++◌, length, map, replicate, Some, refl, sym, ap, subst, ◌∙◌, append_assoc}
use Rattle.std.specs.Prelude.{Ok, Err}
use Rattle.kishu_language.specs.declared.token.Mark.{Mark}
use Rattle.kishu_language.specs.tokens.Lexemes.{Lexeme, blank, comment, bad_comment, joined, feed, word, number, string, sign, bad}
use Rattle.kishu_language.specs.tokens.Layout as y
use Rattle.kishu_language.specs.tokens.Layout.{◌>>=◌, Outcome, State, Start, fresh, led, inside, Kind, Token, Item, token, newline, indent, dedent, mark, top, dedents, dedented, indented, begin, bracket, is_opening, is_closing, closes, step, steps, finish, End, end_of, cut, layout, empty}
use Rattle.kishu_language.specs.rules.LineRules.{is_quiet, value, begins, token_at, Indentation}
use Rattle.kishu_token_laws.specs.LineSteps.{St, done, listed, after, run, feed_in_brackets, feed_at_end, value_step, open_step, close_step, first_step, from_begin}
use Rattle.kishu_token_laws.specs.Indents.{indentation_takes, indentation_met}
use Rattle.kishu_language_laws.specs.codes.Emits.{is_early, first_onward, onward, blanks_of, row_of, from_of, to_of, Emits}
use Rattle.kishu_language_laws.specs.codes.Emits as e

-- the brackets without their lines
abbrev marks : List (Mark × ℕ) → List Mark
marks bs = map (λ b. b.0) bs

same_list : (us ts : List Token) → listed us ≡ listed ts → us ≡ ts
same_list us ts q = cc

-- ---- single pieces

quiet_step : (l : Lexeme) (b : Start) (n a e : ℕ) (out : List Token) (bs : List (Mark × ℕ)) (vs : List (List ℕ)) → is_quiet l ≡ true → step l n a e (St b out bs vs) ≡ done (St (onward l n a e b) out bs vs)
unfolding step
quiet_step (blank w) fresh n a e out bs vs h = refl
quiet_step (blank w) (led v row from to) n a e out bs vs h = refl
quiet_step (blank w) inside n a e out bs vs h = refl
quiet_step comment fresh n a e out bs vs h = refl
quiet_step comment (led v row from to) n a e out bs vs h = refl
quiet_step comment inside n a e out bs vs h = refl
quiet_step joined fresh n a e out bs vs h = refl
quiet_step joined (led v row from to) n a e out bs vs h = refl
quiet_step joined inside n a e out bs vs h = refl
quiet_step feed b n a e out bs vs h = absurd cc
quiet_step (word w) b n a e out bs vs h = absurd cc
quiet_step (number z) b n a e out bs vs h = absurd cc
quiet_step (string t) b n a e out bs vs h = absurd cc
quiet_step (sign k) b n a e out bs vs h = absurd cc
quiet_step bad_comment b n a e out bs vs h = absurd cc
quiet_step (bad below) b n a e out bs vs h = absurd cc

early_feed : (v : Start) (l : Lexeme) (n a e : ℕ) (out : List Token) (bs : List (Mark × ℕ)) (vs : List (List ℕ)) → is_early v ≡ true → l ≡ feed → step l n a e (St v out bs vs) ≡ done (St fresh out bs vs)
unfolding step
early_feed fresh l n a e out bs vs h q = ap (λ x. step x n a e (St fresh out bs vs)) q
early_feed (led w row from to) l n a e out bs vs h q = ap (λ x. step x n a e (St (led w row from to) out bs vs)) q
early_feed inside l n a e out bs vs h q = absurd cc

-- ---- indentation

begin_is : (v : Start) (n a : ℕ) (out : List Token) (bs : List (Mark × ℕ)) (vs : List (List ℕ)) → is_early v ≡ true
    → begin n a (St v out bs vs) ≡ indented (blanks_of v) (row_of v n) (from_of v a) (to_of v a) (St inside out bs vs)
unfolding begin
begin_is fresh n a out bs vs h = refl
begin_is (led w row from to) n a out bs vs h = refl
begin_is inside n a out bs vs h = absurd cc

begun_is : (n a : ℕ) (out : List Token) (bs : List (Mark × ℕ)) (vs : List (List ℕ)) → begin n a (St inside out bs vs) ≡ done (St inside out bs vs)
unfolding begin
begun_is n a out bs vs = refl

-- a line's first piece, behind its indentation
start_step : (v : Start) (l : Lexeme) (n a e : ℕ) (out before : List Token) (bs : List (Mark × ℕ)) (vs us : List (List ℕ)) → is_early v ≡ true → begins l ≡ true
    → Indentation (blanks_of v) (row_of v n) (from_of v a) (to_of v a) vs us before → step l n a e (St v out bs vs) ≡ step l n a e (St inside (out ++ before) bs us)
start_step v l n a e out before bs vs us h b d =
    first_step l n a e (St v out bs vs) (St inside (out ++ before) bs us) b (begin_is v n a out bs vs h ∙ indentation_takes out bs d ∙ sym (begun_is n a (out ++ before) bs us))

-- ---- from the rules to what is read

marked_first : (o : Mark) (ms : List Mark) (bs : List (Mark × ℕ)) → marks bs ≡ o ∷ ms → (n : ℕ) × (rest : List (Mark × ℕ)) × (bs ≡ (o, n) ∷ rest) × (marks rest ≡ ms)
marked_first o ms [] h = absurd cc
marked_first o ms (b ∷ bs) h = (b.1, bs, (λ i. (first h i, b.1) ∷ bs), second h)
  where
    head : List Mark → Mark
    head [] = o
    head (x ∷ xs) = x

    tail : List Mark → List Mark
    tail [] = []
    tail (x ∷ xs) = xs

    first : b.0 ∷ marks bs ≡ o ∷ ms → b.0 ≡ o
    first h = ap head h

    second : b.0 ∷ marks bs ≡ o ∷ ms → marks bs ≡ ms
    second h = ap tail h

marked_none : (bs : List (Mark × ℕ)) → marks bs ≡ [] → bs ≡ []
marked_none [] h = refl
marked_none (b ∷ bs) h = absurd cc

end_early : (v : Start) (at : End) (out : List Token) (vs : List (List ℕ)) → is_early v ≡ true → run at [] (St v out [] vs) ≡ Ok (out ++ replicate (length vs) (token dedent at.0 at.1 at.1))
end_early fresh at out vs h = refl
end_early (led w row from to) at out vs h = refl
end_early inside at out vs h = absurd cc

one_more : (out ts : List Token) (t : Token) → listed ((out ++ t ∷ []) ++ ts) ≡ listed (out ++ (t ∷ ts))
one_more out ts t = ap listed (append_assoc out (t ∷ []) ts)

pub reads : {at : End} {b : Start} {ms : List Mark} {vs : List (List ℕ)} {is : List Item} {ts : List Token} → Emits at b ms vs is ts
    → (out : List Token) (bs : List (Mark × ℕ)) → marks bs ≡ ms → run at is (St b out bs vs) ≡ listed (out ++ ts)
reads {at = at} (e.stop {b = b} {vs = vs} h) out bs q = ap (λ x. run at [] (St b out x vs)) (marked_none bs q) ∙ end_early b at out vs h
reads {at = at} (e.stop_inside {vs = vs}) out bs q =
    ap (λ x. run at [] (St inside out x vs)) (marked_none bs q) ∙ one_more out (replicate (length vs) (token dedent at.0 at.1 at.1)) (token newline at.0 at.1 at.1)
reads {at = at} (e.quiet {b = b} {vs = vs} {i = i} {is = is} h t) out bs q =
    ap (after at is) (quiet_step i.what b i.line i.start i.end out bs vs h) ∙ reads t out bs q
reads {at = at} (e.empty_line {b = b} {vs = vs} {i = i} {is = is} h f t) out bs q =
    ap (after at is) (early_feed b i.what i.line i.start i.end out bs vs h f) ∙ reads t out bs q
reads {at = at} (e.ends {vs = vs} {i = i} {is = is} {ts = ts} f t) out bs q =
    ap (λ x. run at (i ∷ is) (St inside out x vs)) (marked_none bs q) ∙ ap (after at is) (feed_at_end i.what i.line i.start i.end out vs f)
    ∙ reads t (out ++ token_at newline i ∷ []) [] refl ∙ one_more out ts (token_at newline i)
reads {at = at} (e.new_line {o = o} {bs = ms} {vs = vs} {i = i} {is = is} f t) out bs q =
    let p = marked_first o ms bs q in
    ap (λ x. run at (i ∷ is) (St inside out x vs)) p.2 ∙ ap (after at is) (feed_in_brackets i.what i.line i.start i.end out (o, p.0) p.1 vs f)
    ∙ reads t out ((o, p.0) ∷ p.1) (ap (λ x. o ∷ x) p.3)
reads {at = at} (e.one {k = k} {vs = vs} {i = i} {is = is} {ts = ts} h t) out bs q =
    ap (after at is) (value_step i.what k i.line i.start i.end out bs vs h) ∙ reads t (out ++ token_at k i ∷ []) bs q ∙ one_more out ts (token_at k i)
reads {at = at} (e.opening {o = o} {vs = vs} {i = i} {is = is} {ts = ts} w h t) out bs q =
    ap (after at is) (open_step i o out bs vs w h) ∙ reads t (out ++ token_at (mark o) i ∷ []) ((o, i.line) ∷ bs) (ap (λ x. o ∷ x) q) ∙ one_more out ts (token_at (mark o) i)
reads {at = at} (e.closing {o = o} {c = c} {bs = ms} {vs = vs} {i = i} {is = is} {ts = ts} w h t) out bs q =
    let p = marked_first o ms bs q in
    ap (λ x. run at (i ∷ is) (St inside out x vs)) p.2 ∙ ap (after at is) (close_step i o c p.0 out p.1 vs w h)
    ∙ reads t (out ++ token_at (mark c) i ∷ []) p.1 p.3 ∙ one_more out ts (token_at (mark c) i)
reads {at = at} (e.starts {b = b} {vs = vs} {us = us} {i = i} {is = is} {before = before} {ts = ts} h g d t) out bs q =
    ap (after at is) (start_step b i.what i.line i.start i.end out before bs vs us h g d) ∙ reads t (out ++ before) bs q ∙ ap listed (append_assoc out before ts)

-- ---- from what is read to the rules

-- what is read from here on, behind what was read so far
pub record Left (at : End) (b : Start) (out : List Token) (bs : List (Mark × ℕ)) (vs : List (List ℕ)) (is : List Item) (ts : List Token) : Type 0 where
  pub rest : List Token
  pub whole : ts ≡ out ++ rest
  pub emits : Emits at b (marks bs) vs is rest

abbrev Reads : End → List Item → Type 0
Reads at is = (b : Start) (out : List Token) (bs : List (Mark × ℕ)) (vs : List (List ℕ)) (ts : List Token) → run at is (St b out bs vs) ≡ listed ts → Left at b out bs vs is ts

ended : (at : End) → Reads at []
ended at fresh out [] vs ts h = record { rest = replicate (length vs) (token dedent at.0 at.1 at.1); whole = sym (same_list _ ts h); emits = e.stop refl }
ended at (led w row from to) out [] vs ts h = record { rest = replicate (length vs) (token dedent at.0 at.1 at.1); whole = sym (same_list _ ts h); emits = e.stop refl }
ended at inside out [] vs ts h = record {
  rest = token newline at.0 at.1 at.1 ∷ replicate (length vs) (token dedent at.0 at.1 at.1);
  whole = sym (same_list _ ts h) ∙ append_assoc out (token newline at.0 at.1 at.1 ∷ []) (replicate (length vs) (token dedent at.0 at.1 at.1));
  emits = e.stop_inside;
}
ended at b out (x ∷ bs) vs ts h = absurd (stuck b h)
  where
    stuck : (b : Start) → run at [] (St b out (x ∷ bs) vs) ≡ listed ts → ⊥
    stuck b h = cc

module _ (at : End) (i : Item) (is : List Item) (next : Reads at is) where
  quiet_piece : (b : Start) (out : List Token) (bs : List (Mark × ℕ)) (vs : List (List ℕ)) (ts : List Token) → is_quiet i.what ≡ true → run at (i ∷ is) (St b out bs vs) ≡ listed ts → Left at b out bs vs (i ∷ is) ts
  quiet_piece b out bs vs ts q h =
      let c = next (onward i.what i.line i.start i.end b) out bs vs ts (sym (ap (after at is) (quiet_step i.what b i.line i.start i.end out bs vs q)) ∙ h) in
      record { rest = c.rest; whole = c.whole; emits = e.quiet q c.emits }

  early_line : (b : Start) (out : List Token) (bs : List (Mark × ℕ)) (vs : List (List ℕ)) (ts : List Token) → is_early b ≡ true → i.what ≡ feed → run at (i ∷ is) (St b out bs vs) ≡ listed ts → Left at b out bs vs (i ∷ is) ts
  early_line b out bs vs ts q f h =
      let c = next fresh out bs vs ts (sym (ap (after at is) (early_feed b i.what i.line i.start i.end out bs vs q f)) ∙ h) in
      record { rest = c.rest; whole = c.whole; emits = e.empty_line q f c.emits }

  feed_piece : (b : Start) (out : List Token) (bs : List (Mark × ℕ)) (vs : List (List ℕ)) (ts : List Token) → i.what ≡ feed → run at (i ∷ is) (St b out bs vs) ≡ listed ts → Left at b out bs vs (i ∷ is) ts
  feed_piece fresh out bs vs ts f h = early_line fresh out bs vs ts refl f h
  feed_piece (led w row from to) out bs vs ts f h = early_line (led w row from to) out bs vs ts refl f h
  feed_piece inside out [] vs ts f h =
      let c = next fresh (out ++ token_at newline i ∷ []) [] vs ts (sym (ap (after at is) (feed_at_end i.what i.line i.start i.end out vs f)) ∙ h) in
      record { rest = token_at newline i ∷ c.rest; whole = c.whole ∙ append_assoc out (token_at newline i ∷ []) c.rest; emits = e.ends f c.emits }
  feed_piece inside out (x ∷ bs) vs ts f h =
      let c = next inside out (x ∷ bs) vs ts (sym (ap (after at is) (feed_in_brackets i.what i.line i.start i.end out x bs vs f)) ∙ h) in
      record { rest = c.rest; whole = c.whole; emits = e.new_line f c.emits }

  value_piece : (k : Kind) (out : List Token) (bs : List (Mark × ℕ)) (vs : List (List ℕ)) (ts : List Token) → value i.what ≡ Some k → run at (i ∷ is) (St inside out bs vs) ≡ listed ts → Left at inside out bs vs (i ∷ is) ts
  value_piece k out bs vs ts q h =
      let c = next inside (out ++ token_at k i ∷ []) bs vs ts (sym (ap (after at is) (value_step i.what k i.line i.start i.end out bs vs q)) ∙ h) in
      record { rest = token_at k i ∷ c.rest; whole = c.whole ∙ append_assoc out (token_at k i ∷ []) c.rest; emits = e.one q c.emits }

  open_piece : (o : Mark) (out : List Token) (bs : List (Mark × ℕ)) (vs : List (List ℕ)) (ts : List Token) → i.what ≡ sign o → is_opening o ≡ true → run at (i ∷ is) (St inside out bs vs) ≡ listed ts → Left at inside out bs vs (i ∷ is) ts
  open_piece o out bs vs ts w q h =
      let c = next inside (out ++ token_at (mark o) i ∷ []) ((o, i.line) ∷ bs) vs ts (sym (ap (after at is) (open_step i o out bs vs w q)) ∙ h) in
      record { rest = token_at (mark o) i ∷ c.rest; whole = c.whole ∙ append_assoc out (token_at (mark o) i ∷ []) c.rest; emits = e.opening w q c.emits }

  refused : (s : State) (l : Lexeme) (line : ℕ) (ts : List Token) → i.what ≡ l → step l i.line i.start i.end s ≡ Err line → run at (i ∷ is) s ≡ listed ts → ⊥
  refused s l line ts w q h = stuck (sym (ap (after at is) (ap (λ l. step l i.line i.start i.end s) w ∙ q)) ∙ h)
    where
      stuck : after at is (Err line) ≡ listed ts → ⊥
      stuck q = cc

  close_none : (k : Mark) (n a e : ℕ) (out : List Token) (vs : List (List ℕ)) → is_opening k ≡ false → is_closing k ≡ true → step (sign k) n a e (St inside out [] vs) ≡ Err n
  unfolding step begin bracket
  close_none k n a e out vs h j = rw (h, j) refl

  close_wrong : (k : Mark) (n a e : ℕ) (out : List Token) (b : Mark × ℕ) (bs : List (Mark × ℕ)) (vs : List (List ℕ)) → is_opening k ≡ false → is_closing k ≡ true → closes b.0 k ≡ false
      → step (sign k) n a e (St inside out (b ∷ bs) vs) ≡ Err n
  unfolding step begin bracket
  close_wrong k n a e out b bs vs h j q = rw (h, j, q) refl

  close_piece : (k : Mark) (out : List Token) (bs : List (Mark × ℕ)) (vs : List (List ℕ)) (ts : List Token) → i.what ≡ sign k → is_opening k ≡ false → is_closing k ≡ true
      → run at (i ∷ is) (St inside out bs vs) ≡ listed ts → Left at inside out bs vs (i ∷ is) ts
  close_piece k out [] vs ts w q c h = absurd (refused (St inside out [] vs) (sign k) i.line ts w (close_none k i.line i.start i.end out vs q c) h)
  close_piece k out (b ∷ bs) vs ts w q c h = go (closes b.0 k) refl
    where
      go : (p : Bool) → closes b.0 k ≡ p → Left at inside out (b ∷ bs) vs (i ∷ is) ts
      go true p =
          let c = next inside (out ++ token_at (mark k) i ∷ []) bs vs ts (sym (ap (after at is) (close_step i b.0 k b.1 out bs vs w p)) ∙ h) in
          record { rest = token_at (mark k) i ∷ c.rest; whole = c.whole ∙ append_assoc out (token_at (mark k) i ∷ []) c.rest; emits = e.closing w p c.emits }
      go false p = absurd (refused (St inside out (b ∷ bs) vs) (sign k) i.line ts w (close_wrong k i.line i.start i.end out b bs vs q c p) h)

  plain_value : (k : Mark) → is_opening k ≡ false → is_closing k ≡ false → value (sign k) ≡ Some (mark k)
  plain_value k h j = rw (h, j) refl

  sign_piece : (k : Mark) (out : List Token) (bs : List (Mark × ℕ)) (vs : List (List ℕ)) (ts : List Token) → i.what ≡ sign k → run at (i ∷ is) (St inside out bs vs) ≡ listed ts → Left at inside out bs vs (i ∷ is) ts
  sign_piece k out bs vs ts w h = go (is_opening k) (is_closing k) refl refl
    where
      go : (p c : Bool) → is_opening k ≡ p → is_closing k ≡ c → Left at inside out bs vs (i ∷ is) ts
      go true c p q = open_piece k out bs vs ts w p h
      go false true p q = close_piece k out bs vs ts w p q h
      go false false p q = value_piece (mark k) out bs vs ts (ap value w ∙ plain_value k p q) h

  -- a piece that gives a token, inside a line
  token_piece : (l : Lexeme) (out : List Token) (bs : List (Mark × ℕ)) (vs : List (List ℕ)) (ts : List Token) → i.what ≡ l → begins l ≡ true → run at (i ∷ is) (St inside out bs vs) ≡ listed ts → Left at inside out bs vs (i ∷ is) ts
  token_piece (word w) out bs vs ts q b h = value_piece (y.word_kind w) out bs vs ts (ap value q) h
  token_piece (number z) out bs vs ts q b h = value_piece (y.integer z) out bs vs ts (ap value q) h
  token_piece (string u) out bs vs ts q b h = value_piece (y.quoted u) out bs vs ts (ap value q) h
  token_piece (sign k) out bs vs ts q b h = sign_piece k out bs vs ts q h
  token_piece (blank w) out bs vs ts q b h = absurd cc
  token_piece comment out bs vs ts q b h = absurd cc
  token_piece joined out bs vs ts q b h = absurd cc
  token_piece feed out bs vs ts q b h = absurd cc
  token_piece bad_comment out bs vs ts q b h = absurd cc
  token_piece (bad below) out bs vs ts q b h = absurd cc

stepped : (o : Outcome State) (is : List Item) (at : End) (us : List Token) → after at is o ≡ listed us → (t : State) × (o ≡ done t)
stepped (Ok t) is at us e = (t, refl)
stepped (Err l) is at us e = absurd cc

-- ---- the whole

module _ (at : End) (i : Item) (is : List Item) (next : Reads at is) where
  first_token : (b : Start) (l : Lexeme) (out : List Token) (bs : List (Mark × ℕ)) (vs : List (List ℕ)) (ts : List Token) → is_early b ≡ true → i.what ≡ l → begins l ≡ true
      → run at (i ∷ is) (St b out bs vs) ≡ listed ts → Left at b out bs vs (i ∷ is) ts
  first_token b l out bs vs ts early q g h =
      let p = stepped (step i.what i.line i.start i.end (St b out bs vs)) is at ts h in
      let c = from_begin i.what i.line i.start i.end (St b out bs vs) p.0 (ap begins q ∙ g) p.1 in
      let d = indentation_met (blanks_of b) (row_of b i.line) (from_of b i.start) (to_of b i.start) vs out bs c.0 (sym (begin_is b i.line i.start out bs vs early) ∙ c.1) in
      let rest = token_piece at i is next l (out ++ d.1.0) bs d.0 ts q g (sym (ap (after at is) (start_step b i.what i.line i.start i.end out d.1.0 bs vs d.0 early (ap begins q ∙ g) d.1.1)) ∙ h) in
      record { rest = d.1.0 ++ rest.rest; whole = rest.whole ∙ append_assoc out d.1.0 rest.rest; emits = e.starts early (ap begins q ∙ g) d.1.1 rest.emits }

  beginning : (b : Start) (l : Lexeme) (out : List Token) (bs : List (Mark × ℕ)) (vs : List (List ℕ)) (ts : List Token) → i.what ≡ l → begins l ≡ true
      → run at (i ∷ is) (St b out bs vs) ≡ listed ts → Left at b out bs vs (i ∷ is) ts
  beginning fresh l out bs vs ts q g h = first_token fresh l out bs vs ts refl q g h
  beginning (led w row from to) l out bs vs ts q g h = first_token (led w row from to) l out bs vs ts refl q g h
  beginning inside l out bs vs ts q g h = token_piece at i is next l out bs vs ts q g h

  abbrev bad_end : ℕ → Outcome State
  bad_end fault = Err fault

  wrong_refused : (o : Outcome State) (fault : ℕ) → (line : ℕ) × (o >>= (λ (b : State). bad_end fault) ≡ bad_end line)
  wrong_refused (Ok b) fault = (fault, refl)
  wrong_refused (Err l) fault = (l, refl)

  bad_step : (below n a e : ℕ) (s : State) → (line : ℕ) × (step (bad below) n a e s ≡ Err line)
  unfolding step
  bad_step below n a e s = wrong_refused (begin n a s) (n + below)

  remark_step : (n a e : ℕ) (s : State) → step bad_comment n a e s ≡ Err n
  unfolding step
  remark_step n a e s = refl

  piece : (l : Lexeme) (b : Start) (out : List Token) (bs : List (Mark × ℕ)) (vs : List (List ℕ)) (ts : List Token) → i.what ≡ l → run at (i ∷ is) (St b out bs vs) ≡ listed ts → Left at b out bs vs (i ∷ is) ts
  piece (blank w) b out bs vs ts q h = quiet_piece at i is next b out bs vs ts (ap is_quiet q) h
  piece comment b out bs vs ts q h = quiet_piece at i is next b out bs vs ts (ap is_quiet q) h
  piece joined b out bs vs ts q h = quiet_piece at i is next b out bs vs ts (ap is_quiet q) h
  piece feed b out bs vs ts q h = feed_piece at i is next b out bs vs ts q h
  piece (word w) b out bs vs ts q h = beginning b (word w) out bs vs ts q refl h
  piece (number z) b out bs vs ts q h = beginning b (number z) out bs vs ts q refl h
  piece (string u) b out bs vs ts q h = beginning b (string u) out bs vs ts q refl h
  piece (sign k) b out bs vs ts q h = beginning b (sign k) out bs vs ts q refl h
  piece bad_comment b out bs vs ts q h = absurd (refused at i is next (St b out bs vs) bad_comment i.line ts q (remark_step i.line i.start i.end (St b out bs vs)) h)
  piece (bad below) b out bs vs ts q h =
      let r = bad_step below i.line i.start i.end (St b out bs vs) in absurd (refused at i is next (St b out bs vs) (bad below) r.0 ts q r.1 h)

emitted : (at : End) (is : List Item) → Reads at is
emitted at [] = ended at
emitted at (i ∷ is) = λ b out bs vs ts h. piece at i is (emitted at is) i.what b out bs vs ts refl h

-- ---- a text

-- what the whole of a text gives
pub emits_of : (cs : List ℕ) (ts : List Token) → layout cs ≡ Ok ts → Emits (end_of 1 0 cs) fresh [] [] (cut 1 0 cs) ts
unfolding layout
emits_of cs ts h = let c = emitted (end_of 1 0 cs) (cut 1 0 cs) fresh [] [] [] ts h in subst (λ v. Emits (end_of 1 0 cs) fresh [] [] (cut 1 0 cs) v) (sym c.whole) c.emits

pub layout_of : (cs : List ℕ) (ts : List Token) → Emits (end_of 1 0 cs) fresh [] [] (cut 1 0 cs) ts → layout cs ≡ Ok ts
unfolding layout
layout_of cs ts h = reads h [] [] refl
