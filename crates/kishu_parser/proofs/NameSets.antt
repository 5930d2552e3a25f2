-- Sets of names, and the tests that go over lists with one.
use Rattle.std.proofs.Common.{◌≡◌, ℕ, suc, arith, length, Bool, true, false, List, [], ◌∷◌, ◌++◌, map, Option, Some, None, refl, sym, ap, ◌∙◌, subst, cond, if◌then◌else◌, true≢false}
use Rattle.std.specs.Prelude.{not, ◌&&◌, ◌||◌, is_some, ◌==◌}
use Rattle.std.specs.List.{list_any}
use Rattle.std.proofs.lemmas.Bool.{ne_eqb}
use Rattle.std.specs.Str.{bytes_eq}
use Rattle.std.specs.Rc.{rc_str_bytes}
use Rattle.std.specs.Cmp.Lexicographic.{bytes_decides}
use Rattle.std.specs.declared.alloc.Global.{Global}
use Rattle.std.specs.declared.rc.RcStr.{RcStr}
use Rattle.kishu_language.specs.tokens.Names.{is_among}
use Rattle.kishu_language.specs.trees.Tree.{Text, Expression, Argument, plain, keyword}
use Rattle.kishu_language.specs.grammar.Grammar.{fits_after}
use Rattle.kishu_language.specs.grammar.Refusals.{Mention, variable, declared, globals_fit_after, all_differ}
use Rattle.kishu_parser.specs.Sets.{with_name, with_names, note}
use Rattle.kishu_parser.proofs.Parts.{map_append}

-- ---- the code's sets

pub among_keys : (x : Text) (ks : List (RcStr Global)) → list_any (λ k. bytes_eq x (rc_str_bytes k)) ks ≡ is_among x (map rc_str_bytes ks)
among_keys x [] = refl
among_keys x (k ∷ ks) = ap (λ b. bytes_eq x (rc_str_bytes k) || b) (among_keys x ks)

-- `name` is `held` again
pub inserted : (ks ns : List (RcStr Global)) (held name : RcStr Global) → rc_str_bytes held ≡ rc_str_bytes name
    → ns ≡ (if list_any (λ k. bytes_eq (rc_str_bytes held) (rc_str_bytes k)) ks then ks else ks ++ held ∷ [])
    → map rc_str_bytes ns ≡ with_name (map rc_str_bytes ks) (rc_str_bytes name)
unfolding with_name
inserted ks ns held name same e =
    ap (map rc_str_bytes) e
    ∙ by (list_any (λ k. bytes_eq (rc_str_bytes held) (rc_str_bytes k)) ks)
    ∙ ap (λ b. if b then map rc_str_bytes ks else map rc_str_bytes ks ++ rc_str_bytes held ∷ []) (among_keys (rc_str_bytes held) ks)
    ∙ ap (λ x. if is_among x (map rc_str_bytes ks) then map rc_str_bytes ks else map rc_str_bytes ks ++ x ∷ []) same
  where
    by : (b : Bool) → map rc_str_bytes (if b then ks else ks ++ held ∷ []) ≡ (if b then map rc_str_bytes ks else map rc_str_bytes ks ++ rc_str_bytes held ∷ [])
    by true = refl
    by false = map_append rc_str_bytes ks (held ∷ [])

-- ---- members

pub same_texts : (x y : Text) → bytes_eq x y ≡ true → x ≡ y
same_texts x y e = (bytes_decides x y).0 e

pub text_is_itself : (x : Text) → bytes_eq x x ≡ true
text_is_itself x = (bytes_decides x x).1 refl

-- the same whichever comes first
pub either_way : (x y : Text) → bytes_eq x y ≡ bytes_eq y x
either_way x y = by (bytes_eq x y) refl (bytes_eq y x) refl
  where
    by : (a : Bool) → bytes_eq x y ≡ a → (b : Bool) → bytes_eq y x ≡ b → bytes_eq x y ≡ bytes_eq y x
    by true e b f = e ∙ sym (ap (λ z. bytes_eq z x) (sym (same_texts x y e)) ∙ text_is_itself x)
    by false e true f = ap (λ z. bytes_eq x z) (same_texts y x f) ∙ text_is_itself x ∙ sym f
    by false e false f = e ∙ sym f

pub among_append : (x : Text) (xs ys : List Text) → is_among x (xs ++ ys) ≡ (is_among x xs || is_among x ys)
among_append x [] ys = refl
among_append x (y ∷ xs) ys = ap (λ b. bytes_eq x y || b) (among_append x xs ys) ∙ or_assoc (bytes_eq x y) (is_among x xs) (is_among x ys)
  where
    or_assoc : (a b c : Bool) → (a || (b || c)) ≡ ((a || b) || c)
    or_assoc true b c = refl
    or_assoc false b c = refl

or_false : (a : Bool) → (a || false) ≡ a
or_false true = refl
or_false false = refl

or_true : (a : Bool) → (a || true) ≡ true
or_true true = refl
or_true false = refl

or_swap : (a b : Bool) → (a || b) ≡ (b || a)
or_swap true true = refl
or_swap true false = refl
or_swap false true = refl
or_swap false false = refl

pub among_with : (x : Text) (seen : List Text) (y : Text) → is_among x (with_name seen y) ≡ (is_among x seen || bytes_eq x y)
unfolding with_name
among_with x seen y = by (is_among y seen) refl
  where
    by : (b : Bool) → is_among y seen ≡ b → is_among x (if is_among y seen then seen else seen ++ y ∷ []) ≡ (is_among x seen || bytes_eq x y)
    by false e = ap (λ b. is_among x (if b then seen else seen ++ y ∷ [])) e ∙ among_append x seen (y ∷ []) ∙ ap (λ b. is_among x seen || b) (or_false (bytes_eq x y))
    by true e = ap (λ b. is_among x (if b then seen else seen ++ y ∷ [])) e ∙ here (bytes_eq x y) refl
      where
        here : (b : Bool) → bytes_eq x y ≡ b → is_among x seen ≡ (is_among x seen || bytes_eq x y)
        here true f = ap (λ z. is_among z seen) (same_texts x y f) ∙ e ∙ sym (ap (λ b. is_among x seen || b) f ∙ or_true (is_among x seen))
        here false f = sym (ap (λ b. is_among x seen || b) f ∙ or_false (is_among x seen))

-- the same members
pub record Same (xs ys : List Text) : Type 0 where
  pub at : (x : Text) → is_among x xs ≡ is_among x ys

pub same_with : (xs ys : List Text) (x : Text) → Same xs ys → Same (with_name xs x) (x ∷ ys)
same_with xs ys x s = record { at = λ y. among_with y xs x ∙ ap (λ b. b || bytes_eq y x) (s.at y) ∙ or_swap (is_among y ys) (bytes_eq y x) }

-- ---- names that differ

-- each is new where it is met
abbrev pub fresh : List Text → List Text → Bool
fresh seen [] = true
fresh seen (x ∷ xs) = not (is_among x seen) && fresh (with_name seen x) xs

abbrev none_of : List Text → List Text → Bool
none_of seen [] = true
none_of seen (x ∷ xs) = not (is_among x seen) && none_of seen xs

none_of_nothing : (xs : List Text) → none_of [] xs ≡ true
none_of_nothing [] = refl
none_of_nothing (x ∷ xs) = none_of_nothing xs

none_of_with : (seen : List Text) (x : Text) (xs : List Text) → none_of (with_name seen x) xs ≡ (not (is_among x xs) && none_of seen xs)
none_of_with seen x [] = refl
none_of_with seen x (y ∷ xs) =
    ap (λ b. not b && none_of (with_name seen x) xs) (among_with y seen x ∙ ap (λ b. is_among y seen || b) (either_way y x))
    ∙ ap (λ b. not (is_among y seen || bytes_eq x y) && b) (none_of_with seen x xs)
    ∙ by (is_among y seen) (bytes_eq x y) (is_among x xs) (none_of seen xs)
  where
    by : (a b c d : Bool) → (not (a || b) && (not c && d)) ≡ (not (b || c) && (not a && d))
    by true true c d = refl
    by true false true d = refl
    by true false false d = refl
    by false true c d = refl
    by false false c d = refl

fresh_is : (seen xs : List Text) → fresh seen xs ≡ (all_differ xs && none_of seen xs)
fresh_is seen [] = refl
fresh_is seen (x ∷ xs) =
    ap (λ b. not (is_among x seen) && b) (fresh_is (with_name seen x) xs ∙ ap (λ b. all_differ xs && b) (none_of_with seen x xs))
    ∙ by (is_among x seen) (is_among x xs) (all_differ xs) (none_of seen xs)
  where
    by : (a b c d : Bool) → (not a && (c && (not b && d))) ≡ ((not b && c) && (not a && d))
    by true true c d = refl
    by true false true d = refl
    by true false false d = refl
    by false true true d = refl
    by false true false d = refl
    by false false c d = refl

pub fresh_differ : (xs : List Text) → fresh [] xs ≡ all_differ xs
fresh_differ xs = fresh_is [] xs ∙ ap (λ b. all_differ xs && b) (none_of_nothing xs) ∙ and_true (all_differ xs)
  where
    and_true : (a : Bool) → (a && true) ≡ a
    and_true true = refl
    and_true false = refl

-- ---- arguments

same_keyword : (xs ys : List Text) (x : Text) → Same xs ys → Same (x ∷ xs) (x ∷ ys)
same_keyword xs ys x s = record { at = λ y. ap (λ b. bytes_eq y x || b) (s.at y) }

nothing_among : (y : Text) (ys : List Text) → Same [] (y ∷ ys) → ⊥
nothing_among y ys s = true≢false (sym (s.at y ∙ ap (λ b. b || is_among y ys) (text_is_itself y)))

pub fits_same : (xs ys : List Text) (as' : List Argument) → Same xs ys → fits_after xs as' ≡ fits_after ys as'
fits_same xs ys [] s = refl
fits_same [] [] (plain e ∷ as') s = refl
fits_same [] (y ∷ ys) (plain e ∷ as') s = absurd (nothing_among y ys s)
fits_same (x ∷ xs) [] (plain e ∷ as') s = absurd (nothing_among x xs (record { at = λ z. sym (s.at z) }))
fits_same (x ∷ xs) (y ∷ ys) (plain e ∷ as') s = refl
fits_same [] ys (keyword z e ∷ as') s =
    ap (λ b. not b && fits_after (z ∷ []) as') (s.at z) ∙ ap (λ b. not (is_among z ys) && b) (fits_same (z ∷ []) (z ∷ ys) as' (same_keyword [] ys z s))
fits_same (x ∷ xs) ys (keyword z e ∷ as') s =
    ap (λ b. not b && fits_after (z ∷ x ∷ xs) as') (s.at z) ∙ ap (λ b. not (is_among z ys) && b) (fits_same (z ∷ x ∷ xs) (z ∷ ys) as' (same_keyword (x ∷ xs) ys z s))

-- a set keeps the keywords so far
pub keyword_more : (seen : List Text) (x : Text) (as' : List Argument) → fits_after (x ∷ seen) as' ≡ fits_after (with_name seen x) as'
keyword_more seen x as' = sym (fits_same (with_name seen x) (x ∷ seen) as' (same_with seen seen x (record { at = λ y. refl })))

-- ---- a walk over the names of a body

-- what is seen behind more of a body
abbrev pub continued : Option (List Text) → List Mention → Option (List Text)
continued None ms = None
continued (Some seen) ms = note seen ms

pub note_append : (seen : List Text) (xs ys : List Mention) → note seen (xs ++ ys) ≡ continued (note seen xs) ys
note_append seen [] ys = refl
note_append seen (variable x ∷ xs) ys = note_append (with_name seen x) xs ys
note_append seen (declared x ∷ xs) ys = by (is_among x seen) (note_append seen xs ys)
  where
    by : (b : Bool) → note seen (xs ++ ys) ≡ continued (note seen xs) ys → (if b then None else note seen (xs ++ ys)) ≡ continued (if b then None else note seen xs) ys
    by true e = refl
    by false e = e

pub note_fits : (seen before : List Text) (ms : List Mention) → Same seen before → is_some (note seen ms) ≡ globals_fit_after before ms
note_fits seen before [] s = refl
note_fits seen before (variable x ∷ ms) s = note_fits (with_name seen x) (x ∷ before) ms (same_with seen before x s)
note_fits seen before (declared x ∷ ms) s = by (is_among x seen) (note_fits seen before ms s) ∙ ap (λ b. not b && globals_fit_after before ms) (s.at x)
  where
    by : (b : Bool) → is_some (note seen ms) ≡ globals_fit_after before ms → is_some (if b then None else note seen ms) ≡ (not b && globals_fit_after before ms)
    by true e = refl
    by false e = e

among_with_names : (x : Text) (seen xs : List Text) → is_among x (with_names seen xs) ≡ (is_among x seen || is_among x xs)
among_with_names x seen [] = sym (or_false (is_among x seen))
among_with_names x seen (y ∷ xs) =
    among_with_names x (with_name seen y) xs
    ∙ ap (λ b. b || is_among x xs) (among_with x seen y)
    ∙ or_assoc (is_among x seen) (bytes_eq x y) (is_among x xs)
  where
    or_assoc : (a b c : Bool) → ((a || b) || c) ≡ (a || (b || c))
    or_assoc true b c = refl
    or_assoc false b c = refl

pub parameters_seen : (xs : List Text) → Same (with_names [] xs) xs
parameters_seen xs = record { at = λ x. among_with_names x [] xs }

pub plain_fits : (seen : List Text) (e : Expression) (as' : List Argument) → fits_after seen (plain e ∷ as') ≡ ((length seen == 0) && fits_after seen as')
plain_fits [] e as' = refl
plain_fits (x ∷ xs) e as' = ap (λ b. b && fits_after (x ∷ xs) as') (sym (ne_eqb (suc (length xs)) 0 (λ h. omega (arith, h))))

keyword_first : (seen : List Text) (x : Text) (e : Expression) (as' : List Argument) → fits_after seen (keyword x e ∷ as') ≡ (not (is_among x seen) && fits_after (x ∷ seen) as')
keyword_first [] x e as' = refl
keyword_first (y ∷ ys) x e as' = refl

pub keyword_fits : (seen : List Text) (x : Text) (e : Expression) (as' : List Argument) → fits_after seen (keyword x e ∷ as') ≡ (not (is_among x seen) && fits_after (with_name seen x) as')
keyword_fits seen x e as' = keyword_first seen x e as' ∙ ap (λ b. not (is_among x seen) && b) (keyword_more seen x as')
