-- One word more: where the walk of `clap` stands then, and that the word passes.
use Rattle.std.proofs.Common.{◌≡◌, ◌∙◌, ap, ap₂, sym, refl, ℕ, Bool, true, false, List, [], ◌∷◌, append-nil, Some, None, true≢false}
use Rattle.std.specs.Prelude.{◌==◌, ◌&&◌, codes, not, if◌then◌else◌, option_and_then}
use Rattle.std.specs.Option.{option_map_or}
use Rattle.std.specs.Str.{bytes_eq}
use Rattle.clap.specs.Lexer.{long_of, long_of_rest, short_of, short_of_rest, strip_byte}
use Rattle.clap.specs.Walk.{Held, Row, Text, Waiting, after_step, arg_by_index, idle, long_or_other, option, plain_word, positional, reacted, settled, short_or_plain, subcommand_or_other, to_positional, trailing, used, value, walked, word_met}
use Rattle.clap.specs.Kinds.{Kinds, or_else}
use Rattle.clap.specs.Faults.{bundle_fault, flag_word_fault, other_fault, settle_fault, step_fault, turn_fault, use_fault, word_fault}
use Rattle.clap.specs.declared.error.kind.ErrorKind.TheVariants.{ArgumentConflict}
use Rattle.clap.proofs.OnLiterals.{clap_on_literals}
use Rattle.kishu_words.specs.Words.{is_plain}
use Rattle.kishu_words.proofs.Walks.{Place, Stage, after, bare, first, fresh, held_after, held_at, held_fresh, later, met_at, next_place, number, place_at, place_of, place-plus, plain_rows, plus, rows_at, rows-plus, rule_at, rules, second, settle-at, settled-at, shape, split, split_rows, together_built, waiting_after, waiting_at, walk_at, walk_with}

abbrev pub flag : Text
flag = codes "--together"

-- no option waits for a value
abbrev IsFree : Waiting → Type 0
IsFree idle = Unit {0}
IsFree (option id) = ⊥
IsFree positional = Unit {0}

free-after : (n : Place) → IsFree (waiting_after n)
free-after first = tt
free-after second = tt
free-after later = tt

free-at : (st : Stage) → IsFree (waiting_at st)
free-at (fresh m) = tt
free-at (after m p) = free-after (place_at m)

pub not-dash : (b : Bool) → not b ≡ true → b ≡ false
not-dash true e = absurd (true≢false (sym e))
not-dash false e = refl

-- ---- a positional

-- A plain word is no `--`, no long flag and no short one.
no-dashes : (p : Text) → is_plain p ≡ true → bytes_eq p (45 ∷ 45 ∷ []) ≡ false
no-dashes [] plain = refl
no-dashes (x ∷ xs) plain = ap (λ b. b && bytes_eq xs (45 ∷ [])) (not-dash (x == 45) plain)

no-strip : (x : ℕ) (xs : Text) → is_plain (x ∷ xs) ≡ true → strip_byte 45 (x ∷ xs) ≡ None
no-strip x xs plain = ap (λ b. if b then Some xs else None) (not-dash (x == 45) plain)

no-long : (p : Text) → is_plain p ≡ true → long_of p ≡ None
no-long [] plain = refl
no-long (x ∷ xs) plain = ap (λ o. option_and_then long_of_rest (option_and_then (strip_byte 45) o)) (no-strip x xs plain)

no-short : (p : Text) → is_plain p ≡ true → short_of p ≡ None
no-short [] plain = refl
no-short (x ∷ xs) plain = ap (option_and_then short_of_rest) (no-strip x xs plain)

other-met : (w : Waiting) (position : ℕ) (p : Text) (h : Held) → is_plain p ≡ true → subcommand_or_other rules None w position p h ≡ plain_word rules w p h
other-met w position p h plain =
    ap (λ b. if b then (h, trailing position) else long_or_other rules w p (long_of p) h) (no-dashes p plain)
    ∙ ap (λ o. long_or_other rules w p o h) (no-long p plain) ∙ ap (λ o. short_or_plain rules w p o h) (no-short p plain)

plain-met : (w : Waiting) (position : ℕ) (p : Text) (h : Held) → IsFree w → is_plain p ≡ true → word_met rules [] false w position p h ≡ (h, value)
plain-met idle position p h free plain = other-met idle position p h plain
plain-met (option id) position p h free plain = absurd free
plain-met positional position p h free plain = other-met positional position p h plain

other-passes : (p : Text) (h : Held) → is_plain p ≡ true → other_fault shape None p h ≡ []
other-passes p h plain =
    ap (λ b. if b then [] else flag_word_fault rules false (long_of p) p h) (no-dashes p plain)
    ∙ ap (λ o. flag_word_fault rules false o p h) (no-long p plain) ∙ ap (λ o. option_map_or (λ flags. bundle_fault rules false flags h) o []) (no-short p plain)

plain-fault : (w : Waiting) (p : Text) (h : Held) → IsFree w → is_plain p ≡ true → word_fault shape [] false w p h ≡ []
plain-fault idle p h free plain = other-passes p h plain
plain-fault (option id) p h free plain = absurd free
plain-fault positional p h free plain = other-passes p h plain

fresh-next : (n : Place) (rows : List Row) (p : Text)
    → to_positional rules (arg_by_index rules (number n)) p (walk_with (held_fresh rows) idle n) (held_fresh rows) ≡ walk_with (held_after n rows p) (waiting_after n) (next_place n)
fresh-next first rows p = refl
fresh-next second rows p = refl
fresh-next later rows p = refl

after-next : (n : Place) (rows : List Row) (q p : Text)
    → to_positional rules (arg_by_index rules (number (next_place n))) p (walk_with (held_after n rows q) (waiting_after n) (next_place n)) (held_after n rows q)
    ≡ walk_with (held_after (next_place n) (used (rule_at n) (q ∷ []) rows) p) (waiting_after (next_place n)) (next_place (next_place n))
after-next first rows q p = refl
after-next second rows q p = refl
after-next later rows q p = refl

to-next : (st : Stage) (p : Text) → to_positional rules (arg_by_index rules (number (place_at (met_at st)))) p (walk_at st) (held_at st) ≡ walk_at (after (met_at st) p)
to-next (fresh m) p = fresh-next (place_at m) (rows_at m) p
    ∙ ap (λ k. walk_with (held_after (place_at m) (rows_at m) p) (waiting_after (place_at m)) k) (sym (place-plus m p))
to-next (after m q) p =
    let n = place_at m in
    let there = place_at (plus m q) in
    ap (λ k. to_positional rules (arg_by_index rules (number k)) p (walk_with (held_after n (rows_at m) q) (waiting_after n) k) (held_after n (rows_at m) q)) (place-plus m q)
    ∙ after-next n (rows_at m) q p
    ∙ ap (λ rows. walk_with (held_after (next_place n) rows p) (waiting_after (next_place n)) (next_place (next_place n))) (rows-plus m q)
    ∙ ap (λ k. walk_with (held_after k (rows_at (plus m q)) p) (waiting_after k) (next_place k)) (sym (place-plus m q))
    ∙ ap (λ k. walk_with (held_after there (rows_at (plus m q)) p) (waiting_after there) k) (sym (place-plus (plus m q) p))

pub plain-step : (st : Stage) (p : Text) → is_plain p ≡ true → walked rules [] (walk_at st) p ≡ walk_at (after (met_at st) p)
unfolding walked
plain-step st p plain =
    ap (λ met. after_step rules p (walk_at st) met.0 met.1) (plain-met (waiting_at st) (number (place_at (met_at st))) p (held_at st) (free-at st) plain) ∙ to-next st p

step-fresh : (n : Place) (rows : List Row) → step_fault shape (number n) (held_fresh rows) value ≡ []
step-fresh first rows = refl
step-fresh second rows = refl
step-fresh later rows = refl

step-after : (n : Place) (rows : List Row) (q : Text) → step_fault shape (number (next_place n)) (held_after n rows q) value ≡ settle_fault rules false (held_after n rows q)
step-after first rows q = refl
step-after second rows q = refl
step-after later rows q = refl

step-at : (st : Stage) → step_fault shape (number (place_at (met_at st))) (held_at st) value ≡ []
step-at (fresh m) = step-fresh (place_at m) (rows_at m)
step-at (after m q) =
    ap (λ k. step_fault shape (number k) (held_after (place_at m) (rows_at m) q) value) (place-plus m q)
    ∙ step-after (place_at m) (rows_at m) q ∙ settle-at (after m q)

pub plain-turn : (st : Stage) (p : Text) → is_plain p ≡ true → turn_fault shape [] (walk_at st) p ≡ []
plain-turn st p plain =
    let n = number (place_at (met_at st)) in
    ap₂ or_else (plain-fault (waiting_at st) p (held_at st) (free-at st) plain)
    (ap (λ met. step_fault shape n met.0 met.1) (plain-met (waiting_at st) n p (held_at st) (free-at st) plain) ∙ step-at st)

-- ---- the flag

flag-walked : (w : Waiting) (h : Held) (n : Place) → walked rules [] (walk_with h w n) flag ≡ walk_with (reacted rules together_built [] h) idle n
unfolding clap_on_literals
flag-walked idle h n = refl
flag-walked (option id) h n = refl
flag-walked positional h n = refl

flag-held : (st : Stage) → reacted rules together_built [] (held_at st) ≡ held_fresh (used together_built [] (rows_at (met_at st)))
flag-held (fresh m) = refl
flag-held (after m p) = ap (λ (h : Held). held_fresh (used together_built [] h.rows)) (settled-at (after m p))

flag-more : (xs : List Text) → used together_built [] (plain_rows xs) ≡ split_rows xs []
flag-more [] = refl
flag-more (s ∷ []) = refl
flag-more (s ∷ c ∷ []) = refl
flag-more (s ∷ c ∷ a ∷ us) = ap (λ vs. used together_built [] (plain_rows (s ∷ c ∷ a ∷ vs))) (sym (append-nil us))

pub flag-step : (st : Stage) (xs : List Text) → met_at st ≡ bare xs → walked rules [] (walk_at st) flag ≡ walk_at (fresh (split xs []))
flag-step st xs e =
    flag-walked (waiting_at st) (held_at st) (place_at (met_at st))
    ∙ ap (λ h. walk_with h idle (place_at (met_at st))) (flag-held st)
    ∙ ap (λ m. walk_with (held_fresh (used together_built [] (rows_at m))) idle (place_at m)) e
    ∙ ap₂ (λ rows ys. walk_with (held_fresh rows) idle (place_of ys)) (flag-more xs) (sym (append-nil xs))

word-flag : (w : Waiting) (h : Held) → word_fault shape [] false w flag h ≡ or_else (settle_fault rules false h) (use_fault false together_built [] (settled rules h).rows)
word-flag idle h = refl
word-flag (option id) h = refl
word-flag positional h = refl

step-flag : (w : Waiting) (n : ℕ) (h : Held) → step_fault shape n (word_met rules [] false w n flag h).0 (word_met rules [] false w n flag h).1 ≡ []
step-flag idle n h = refl
step-flag (option id) n h = refl
step-flag positional n h = refl

or_else-nil : (ks : Kinds) → or_else ks [] ≡ ks
or_else-nil [] = refl
or_else-nil (k ∷ ks) = refl

pub flag-turn : (st : Stage) → turn_fault shape [] (walk_at st) flag ≡ use_fault false together_built [] (rows_at (met_at st))
flag-turn st =
    ap₂ or_else (word-flag (waiting_at st) (held_at st)) (step-flag (waiting_at st) (number (place_at (met_at st))) (held_at st))
    ∙ or_else-nil _
    ∙ ap₂ (λ ks (h : Held). or_else ks (use_fault false together_built [] h.rows)) (settle-at st) (settled-at st)

pub flag-first : (xs : List Text) → use_fault false together_built [] (plain_rows xs) ≡ []
flag-first [] = refl
flag-first (s ∷ []) = refl
flag-first (s ∷ c ∷ []) = refl
flag-first (s ∷ c ∷ a ∷ us) = refl

pub flag-again : (bs xs : List Text) → use_fault false together_built [] (split_rows bs xs) ≡ ArgumentConflict ∷ []
flag-again [] xs = refl
flag-again (s ∷ []) [] = refl
flag-again (s ∷ []) (c ∷ []) = refl
flag-again (s ∷ []) (c ∷ a ∷ us) = refl
flag-again (s ∷ c ∷ []) [] = refl
flag-again (s ∷ c ∷ []) (a ∷ us) = refl
flag-again (s ∷ c ∷ a ∷ us) xs = refl
