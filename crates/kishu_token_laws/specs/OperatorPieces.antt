-- The rules of operators and the reading of them agree.
use Rattle.std.proofs.Common.{◌≡◌, ℕ, ◌<◌, ◌≤◌, Bool, true, false, cond, List, [], ◌∷◌, ◌++◌, length, take, Option, Some, None, refl, sym, ap, subst, ◌∙◌, arith}
use Rattle.std.proofs.lemmas.Bool.{eqb-true}
use Rattle.std.proofs.lemmas.Slice.Eq.{bytes_eq-Decides}
use Rattle.std.specs.Prelude.{◌==◌, slice_index, nat_eq}
use Rattle.std.specs.Str.{bytes_eq}
use Rattle.kishu_language.specs.declared.token.Mark.{Mark}
use Rattle.kishu_language.specs.declared.token.Mark.TheVariants as m
use Rattle.kishu_language.specs.tokens.Marks.{Spelled, taken, mark_among, with_equals, doubled, delimiter, operator}
use Rattle.kishu_language.specs.tokens.Lexemes.{lexeme, token_piece, sign_or_bad, sign}
use Rattle.kishu_token_laws.specs.TextItems.{split}
use Rattle.kishu_token_laws.specs.TextBodies.{same_either}
use Rattle.kishu_language.specs.rules.PieceRules.{operators, has_longer}

-- ---- what the rules say is read

-- Before each rest before which it is the longest one, this operator is cut.
record IsCut (cs : List ℕ) (k : Mark) : Type 0 where
  is : (rest : List ℕ) → has_longer (length cs) (cs ++ rest) ≡ false → lexeme (cs ++ rest) ≡ (sign k, length cs)

abbrev Each : (List ℕ → Mark → Type 0) → List Spelled → Type 0
Each P [] = Unit {0}
Each P (s ∷ ss) = P s.0 s.1 × Each P ss

some_is : (a b : Mark) → Some a ≡ Some b → a ≡ b
some_is a b e = cc

among : (P : List ℕ → Mark → Type 0) (table : List Spelled) (cs : List ℕ) (k : Mark) → Each P table → mark_among table cs ≡ Some k → P cs k
among P [] cs k all h = absurd cc
among P (s ∷ ss) cs k all h = go (bytes_eq cs s.0) refl h (among P ss cs k all.1)
  where
    go : (b : Bool) → bytes_eq cs s.0 ≡ b → cond b (Some s.1) (mark_among ss cs) ≡ Some k → (mark_among ss cs ≡ Some k → P cs k) → P cs k
    go true e h next = subst (λ l. P l k) (sym ((bytes_eq-Decides cs s.0).0 e)) (subst (λ v. P s.0 v) (some_is s.1 k h) all.0)
    go false e h next = next h

never : (b : Bool) → b ≡ true → b ≡ false → ⊥
never b e f = cc

-- where a character would make a test true, and the test is false, it doesn't come next
not_next : (test : List ℕ → Bool) (k : ℕ) → ((cs : List ℕ) → test (k ∷ cs) ≡ true) → (0 == k) ≡ false → (rest : List ℕ) → test rest ≡ false → (slice_index rest 0 == k) ≡ false
not_next test k clash some [] h = some
not_next test k clash some (c ∷ cs) h = go (c == k) refl
  where
    go : (b : Bool) → (c == k) ≡ b → (c == k) ≡ false
    go true e = absurd (never (test (c ∷ cs)) (ap (λ v. test (v ∷ cs)) (eqb-true c k e) ∙ clash cs) h)
    go false e = e

plus_cut : IsCut (43 ∷ []) m.Plus
unfolding lexeme token_piece operator operators
plus_cut = record { is = λ rest h. ap (λ b. sign_or_bad (cond b (taken m.PlusAssign 2) (taken m.Plus 1))) (not_next (λ l. has_longer 1 (43 ∷ l)) 61 (λ cs. refl) refl rest h) }

minus_cut : IsCut (45 ∷ []) m.Minus
unfolding lexeme token_piece operator operators
minus_cut = record { is = λ rest h. ap (λ b. sign_or_bad (cond b (taken m.MinusAssign 2) (taken m.Minus 1))) (not_next (λ l. has_longer 1 (45 ∷ l)) 61 (λ cs. refl) refl rest h) }

star_cut : IsCut (42 ∷ []) m.Star
unfolding lexeme token_piece operator operators
star_cut = record {
  is = λ rest h.
      let a = not_next (λ l. has_longer 1 (42 ∷ l)) 42 (λ cs. refl) refl rest h in
      let b = not_next (λ l. has_longer 1 (42 ∷ l)) 61 (λ cs. refl) refl rest h in
      λ i. sign_or_bad (cond (a i) (doubled (slice_index rest 1) m.PowerAssign m.Power) (cond (b i) (taken m.StarAssign 2) (taken m.Star 1)));
}

floor_divide_cut : IsCut (47 ∷ 47 ∷ []) m.FloorDivide
unfolding lexeme token_piece operator operators
floor_divide_cut = record { is = λ rest h. ap (λ b. sign_or_bad (cond b (taken m.FloorDivideAssign 3) (taken m.FloorDivide 2))) (not_next (λ l. has_longer 2 (47 ∷ 47 ∷ l)) 61 (λ cs. refl) refl rest h) }

percent_cut : IsCut (37 ∷ []) m.Percent
unfolding lexeme token_piece operator operators
percent_cut = record { is = λ rest h. ap (λ b. sign_or_bad (cond b (taken m.PercentAssign 2) (taken m.Percent 1))) (not_next (λ l. has_longer 1 (37 ∷ l)) 61 (λ cs. refl) refl rest h) }

power_cut : IsCut (42 ∷ 42 ∷ []) m.Power
unfolding lexeme token_piece operator operators
power_cut = record { is = λ rest h. ap (λ b. sign_or_bad (cond b (taken m.PowerAssign 3) (taken m.Power 2))) (not_next (λ l. has_longer 2 (42 ∷ 42 ∷ l)) 61 (λ cs. refl) refl rest h) }

equal_cut : IsCut (61 ∷ 61 ∷ []) m.Equal
unfolding lexeme token_piece operator delimiter
equal_cut = record { is = λ rest h. refl }

not_equal_cut : IsCut (33 ∷ 61 ∷ []) m.NotEqual
unfolding lexeme token_piece operator delimiter
not_equal_cut = record { is = λ rest h. refl }

less_cut : IsCut (60 ∷ []) m.Less
unfolding lexeme token_piece operator operators
less_cut = record { is = λ rest h. ap (λ b. sign_or_bad (cond b (taken m.LessEqual 2) (taken m.Less 1))) (not_next (λ l. has_longer 1 (60 ∷ l)) 61 (λ cs. refl) refl rest h) }

less_equal_cut : IsCut (60 ∷ 61 ∷ []) m.LessEqual
unfolding lexeme token_piece operator delimiter
less_equal_cut = record { is = λ rest h. refl }

greater_cut : IsCut (62 ∷ []) m.Greater
unfolding lexeme token_piece operator operators
greater_cut = record { is = λ rest h. ap (λ b. sign_or_bad (cond b (taken m.GreaterEqual 2) (taken m.Greater 1))) (not_next (λ l. has_longer 1 (62 ∷ l)) 61 (λ cs. refl) refl rest h) }

greater_equal_cut : IsCut (62 ∷ 61 ∷ []) m.GreaterEqual
unfolding lexeme token_piece operator delimiter
greater_equal_cut = record { is = λ rest h. refl }

assign_cut : IsCut (61 ∷ []) m.Assign
unfolding lexeme token_piece operator operators
assign_cut = record { is = λ rest h. ap (λ b. sign_or_bad (cond b (taken m.Equal 2) (taken m.Assign 1))) (not_next (λ l. has_longer 1 (61 ∷ l)) 61 (λ cs. refl) refl rest h) }

plus_assign_cut : IsCut (43 ∷ 61 ∷ []) m.PlusAssign
unfolding lexeme token_piece operator delimiter
plus_assign_cut = record { is = λ rest h. refl }

minus_assign_cut : IsCut (45 ∷ 61 ∷ []) m.MinusAssign
unfolding lexeme token_piece operator delimiter
minus_assign_cut = record { is = λ rest h. refl }

star_assign_cut : IsCut (42 ∷ 61 ∷ []) m.StarAssign
unfolding lexeme token_piece operator delimiter
star_assign_cut = record { is = λ rest h. refl }

floor_divide_assign_cut : IsCut (47 ∷ 47 ∷ 61 ∷ []) m.FloorDivideAssign
unfolding lexeme token_piece operator delimiter
floor_divide_assign_cut = record { is = λ rest h. refl }

percent_assign_cut : IsCut (37 ∷ 61 ∷ []) m.PercentAssign
unfolding lexeme token_piece operator delimiter
percent_assign_cut = record { is = λ rest h. refl }

power_assign_cut : IsCut (42 ∷ 42 ∷ 61 ∷ []) m.PowerAssign
unfolding lexeme token_piece operator delimiter
power_assign_cut = record { is = λ rest h. refl }

left_parenthesis_cut : IsCut (40 ∷ []) m.LeftParenthesis
unfolding lexeme token_piece operator delimiter
left_parenthesis_cut = record { is = λ rest h. refl }

right_parenthesis_cut : IsCut (41 ∷ []) m.RightParenthesis
unfolding lexeme token_piece operator delimiter
right_parenthesis_cut = record { is = λ rest h. refl }

left_bracket_cut : IsCut (91 ∷ []) m.LeftBracket
unfolding lexeme token_piece operator delimiter
left_bracket_cut = record { is = λ rest h. refl }

right_bracket_cut : IsCut (93 ∷ []) m.RightBracket
unfolding lexeme token_piece operator delimiter
right_bracket_cut = record { is = λ rest h. refl }

left_brace_cut : IsCut (123 ∷ []) m.LeftBrace
unfolding lexeme token_piece operator delimiter
left_brace_cut = record { is = λ rest h. refl }

right_brace_cut : IsCut (125 ∷ []) m.RightBrace
unfolding lexeme token_piece operator delimiter
right_brace_cut = record { is = λ rest h. refl }

comma_cut : IsCut (44 ∷ []) m.Comma
unfolding lexeme token_piece operator delimiter
comma_cut = record { is = λ rest h. refl }

colon_cut : IsCut (58 ∷ []) m.Colon
unfolding lexeme token_piece operator delimiter
colon_cut = record { is = λ rest h. refl }

dot_cut : IsCut (46 ∷ []) m.Dot
unfolding lexeme token_piece operator delimiter
dot_cut = record { is = λ rest h. refl }

semicolon_cut : IsCut (59 ∷ []) m.Semicolon
unfolding lexeme token_piece operator delimiter
semicolon_cut = record { is = λ rest h. refl }

each_is_cut : Each IsCut operators
unfolding operators
each_is_cut = (plus_cut, (minus_cut, (star_cut, (floor_divide_cut, (percent_cut, (power_cut, (equal_cut, (not_equal_cut, (less_cut, (less_equal_cut, (greater_cut, (greater_equal_cut, (assign_cut, (plus_assign_cut, (minus_assign_cut, (star_assign_cut, (floor_divide_assign_cut, (percent_assign_cut, (power_assign_cut, (left_parenthesis_cut, (right_parenthesis_cut, (left_bracket_cut, (right_bracket_cut, (left_brace_cut, (right_brace_cut, (comma_cut, (colon_cut, (dot_cut, (semicolon_cut, tt)))))))))))))))))))))))))))))

pub operator_is_cut : (cs rest : List ℕ) (k : Mark) → mark_among operators cs ≡ Some k → has_longer (length cs) (cs ++ rest) ≡ false → lexeme (cs ++ rest) ≡ (sign k, length cs)
operator_is_cut cs rest k h longest = (among IsCut operators cs k each_is_cut h).is rest longest

-- an operator isn't empty
record IsSome (cs : List ℕ) (k : Mark) : Type 0 where
  is : 0 < length cs

each_is_some : Each IsSome operators
unfolding operators
each_is_some = (record { is = omega arith }, (record { is = omega arith }, (record { is = omega arith }, (record { is = omega arith }, (record { is = omega arith }, (record { is = omega arith }, (record { is = omega arith }, (record { is = omega arith }, (record { is = omega arith }, (record { is = omega arith }, (record { is = omega arith }, (record { is = omega arith }, (record { is = omega arith }, (record { is = omega arith }, (record { is = omega arith }, (record { is = omega arith }, (record { is = omega arith }, (record { is = omega arith }, (record { is = omega arith }, (record { is = omega arith }, (record { is = omega arith }, (record { is = omega arith }, (record { is = omega arith }, (record { is = omega arith }, (record { is = omega arith }, (record { is = omega arith }, (record { is = omega arith }, (record { is = omega arith }, (record { is = omega arith }, tt)))))))))))))))))))))))))))))

pub operator_is_some : (cs : List ℕ) (k : Mark) → mark_among operators cs ≡ Some k → 0 < length cs
operator_is_some cs k h = (among IsSome operators cs k each_is_some h).is

-- ---- what is read, the rules say

pub record OperatorAt (all : List ℕ) (k : Mark) (n : ℕ) : Type 0 where
  pub spelled : mark_among operators (take n all) ≡ Some k
  pub longest : has_longer n all ≡ false
  pub within : n ≤ length all
  pub some : 0 < n

abbrev pub Good : List ℕ → Option (Mark × ℕ) → Type 0
Good all None = Unit {0}
Good all (Some t) = OperatorAt all t.0 t.1

-- the next character is this one
next_is : (k : ℕ) (P : List ℕ → Type 0) (cs : List ℕ) → (0 == k) ≡ false → (slice_index cs 0 == k) ≡ true → ((ds : List ℕ) → P (k ∷ ds)) → P cs
next_is k P [] none h f = absurd (never (0 == k) h none)
next_is k P (c ∷ cs) none h f = subst (λ v. P (v ∷ cs)) (sym (eqb-true c k h)) (f cs)

equals_good : (x : ℕ) (longer shorter : Mark) → mark_among operators (x ∷ 61 ∷ []) ≡ Some longer → mark_among operators (x ∷ []) ≡ Some shorter → ((cs : List ℕ) → has_longer 2 (x ∷ 61 ∷ cs) ≡ false)
    → ((cs : List ℕ) → (slice_index cs 0 == 61) ≡ false → has_longer 1 (x ∷ cs) ≡ false) → (cs : List ℕ) → Good (x ∷ cs) (with_equals (slice_index cs 0) longer shorter)
equals_good x longer shorter two one top alone cs = split (Good (x ∷ cs)) (slice_index cs 0 == 61) (taken longer 2) (taken shorter 1)
    (λ h. next_is 61 (λ l. OperatorAt (x ∷ l) longer 2) cs refl h (λ ds. record { spelled = two; longest = top ds; within = omega arith; some = omega arith }))
    (λ h. record { spelled = one; longest = alone cs h; within = omega arith; some = omega arith })

doubled_good : (x : ℕ) (longer shorter : Mark) → mark_among operators (x ∷ x ∷ 61 ∷ []) ≡ Some longer → mark_among operators (x ∷ x ∷ []) ≡ Some shorter → ((cs : List ℕ) → has_longer 3 (x ∷ x ∷ 61 ∷ cs) ≡ false)
    → ((cs : List ℕ) → (slice_index cs 0 == 61) ≡ false → has_longer 2 (x ∷ x ∷ cs) ≡ false) → (cs : List ℕ) → Good (x ∷ x ∷ cs) (doubled (slice_index cs 0) longer shorter)
doubled_good x longer shorter two one top alone cs = split (Good (x ∷ x ∷ cs)) (slice_index cs 0 == 61) (taken longer 3) (taken shorter 2)
    (λ h. next_is 61 (λ l. OperatorAt (x ∷ x ∷ l) longer 3) cs refl h (λ ds. record { spelled = two; longest = top ds; within = omega arith; some = omega arith }))
    (λ h. record { spelled = one; longest = alone cs h; within = omega arith; some = omega arith })

eq_other : (k c : ℕ) → (c == k) ≡ false → nat_eq k c ≡ false
eq_other k c h = same_either k c ∙ h

plus_alone : (cs : List ℕ) → (slice_index cs 0 == 61) ≡ false → has_longer 1 (43 ∷ cs) ≡ false
unfolding operators
plus_alone [] h = refl
plus_alone (c ∷ cs) h = rw (eq_other 61 c h) refl

plus_good : (cs : List ℕ) → Good (43 ∷ cs) (with_equals (slice_index cs 0) m.PlusAssign m.Plus)
unfolding operators
plus_good cs = equals_good 43 m.PlusAssign m.Plus refl refl (λ ds. refl) plus_alone cs

minus_alone : (cs : List ℕ) → (slice_index cs 0 == 61) ≡ false → has_longer 1 (45 ∷ cs) ≡ false
unfolding operators
minus_alone [] h = refl
minus_alone (c ∷ cs) h = rw (eq_other 61 c h) refl

minus_good : (cs : List ℕ) → Good (45 ∷ cs) (with_equals (slice_index cs 0) m.MinusAssign m.Minus)
unfolding operators
minus_good cs = equals_good 45 m.MinusAssign m.Minus refl refl (λ ds. refl) minus_alone cs

percent_alone : (cs : List ℕ) → (slice_index cs 0 == 61) ≡ false → has_longer 1 (37 ∷ cs) ≡ false
unfolding operators
percent_alone [] h = refl
percent_alone (c ∷ cs) h = rw (eq_other 61 c h) refl

percent_good : (cs : List ℕ) → Good (37 ∷ cs) (with_equals (slice_index cs 0) m.PercentAssign m.Percent)
unfolding operators
percent_good cs = equals_good 37 m.PercentAssign m.Percent refl refl (λ ds. refl) percent_alone cs

assign_alone : (cs : List ℕ) → (slice_index cs 0 == 61) ≡ false → has_longer 1 (61 ∷ cs) ≡ false
unfolding operators
assign_alone [] h = refl
assign_alone (c ∷ cs) h = rw (eq_other 61 c h) refl

assign_good : (cs : List ℕ) → Good (61 ∷ cs) (with_equals (slice_index cs 0) m.Equal m.Assign)
unfolding operators
assign_good cs = equals_good 61 m.Equal m.Assign refl refl (λ ds. refl) assign_alone cs

less_alone : (cs : List ℕ) → (slice_index cs 0 == 61) ≡ false → has_longer 1 (60 ∷ cs) ≡ false
unfolding operators
less_alone [] h = refl
less_alone (c ∷ cs) h = rw (eq_other 61 c h) refl

less_good : (cs : List ℕ) → Good (60 ∷ cs) (with_equals (slice_index cs 0) m.LessEqual m.Less)
unfolding operators
less_good cs = equals_good 60 m.LessEqual m.Less refl refl (λ ds. refl) less_alone cs

greater_alone : (cs : List ℕ) → (slice_index cs 0 == 61) ≡ false → has_longer 1 (62 ∷ cs) ≡ false
unfolding operators
greater_alone [] h = refl
greater_alone (c ∷ cs) h = rw (eq_other 61 c h) refl

greater_good : (cs : List ℕ) → Good (62 ∷ cs) (with_equals (slice_index cs 0) m.GreaterEqual m.Greater)
unfolding operators
greater_good cs = equals_good 62 m.GreaterEqual m.Greater refl refl (λ ds. refl) greater_alone cs

power_alone : (cs : List ℕ) → (slice_index cs 0 == 61) ≡ false → has_longer 2 (42 ∷ 42 ∷ cs) ≡ false
unfolding operators
power_alone [] h = refl
power_alone (c ∷ cs) h = rw (eq_other 61 c h) refl

power_good : (cs : List ℕ) → Good (42 ∷ 42 ∷ cs) (doubled (slice_index cs 0) m.PowerAssign m.Power)
unfolding operators
power_good cs = doubled_good 42 m.PowerAssign m.Power refl refl (λ ds. refl) power_alone cs

floor_divide_alone : (cs : List ℕ) → (slice_index cs 0 == 61) ≡ false → has_longer 2 (47 ∷ 47 ∷ cs) ≡ false
unfolding operators
floor_divide_alone [] h = refl
floor_divide_alone (c ∷ cs) h = rw (eq_other 61 c h) refl

floor_divide_good : (cs : List ℕ) → Good (47 ∷ 47 ∷ cs) (doubled (slice_index cs 0) m.FloorDivideAssign m.FloorDivide)
unfolding operators
floor_divide_good cs = doubled_good 47 m.FloorDivideAssign m.FloorDivide refl refl (λ ds. refl) floor_divide_alone cs

star_alone : (cs : List ℕ) → (slice_index cs 0 == 42) ≡ false → (slice_index cs 0 == 61) ≡ false → has_longer 1 (42 ∷ cs) ≡ false
unfolding operators
star_alone [] g h = refl
star_alone (c ∷ cs) g h = rw (eq_other 61 c h, eq_other 42 c g) refl

star_good : (cs : List ℕ) → Good (42 ∷ cs) (cond (slice_index cs 0 == 42) (doubled (slice_index cs 1) m.PowerAssign m.Power) (with_equals (slice_index cs 0) m.StarAssign m.Star))
unfolding operators
star_good cs = split (Good (42 ∷ cs)) (slice_index cs 0 == 42) (doubled (slice_index cs 1) m.PowerAssign m.Power) (with_equals (slice_index cs 0) m.StarAssign m.Star)
    (λ h. next_is 42 (λ l. Good (42 ∷ l) (doubled (slice_index l 1) m.PowerAssign m.Power)) cs refl h power_good)
    (λ g. split (Good (42 ∷ cs)) (slice_index cs 0 == 61) (taken m.StarAssign 2) (taken m.Star 1)
    (λ h. next_is 61 (λ l. OperatorAt (42 ∷ l) m.StarAssign 2) cs refl h (λ ds. record { spelled = refl; longest = refl; within = omega arith; some = omega arith }))
    (λ h. record { spelled = refl; longest = star_alone cs g h; within = omega arith; some = omega arith }))

slash_good : (cs : List ℕ) → Good (47 ∷ cs) (cond (slice_index cs 0 == 47) (doubled (slice_index cs 1) m.FloorDivideAssign m.FloorDivide) None)
slash_good cs = split (Good (47 ∷ cs)) (slice_index cs 0 == 47) (doubled (slice_index cs 1) m.FloorDivideAssign m.FloorDivide) None
    (λ h. next_is 47 (λ l. Good (47 ∷ l) (doubled (slice_index l 1) m.FloorDivideAssign m.FloorDivide)) cs refl h floor_divide_good)
    (λ h. tt)

not_equal_good : (cs : List ℕ) → Good (33 ∷ cs) (cond (slice_index cs 0 == 61) (taken m.NotEqual 2) None)
unfolding operators
not_equal_good cs = split (Good (33 ∷ cs)) (slice_index cs 0 == 61) (taken m.NotEqual 2) None
    (λ h. next_is 61 (λ l. OperatorAt (33 ∷ l) m.NotEqual 2) cs refl h (λ ds. record { spelled = refl; longest = refl; within = omega arith; some = omega arith }))
    (λ h. tt)

-- the first character is this one
at_first : (c k : ℕ) (cs : List ℕ) (f : ℕ → Option (Mark × ℕ)) → (c == k) ≡ true → Good (k ∷ cs) (f k) → Good (c ∷ cs) (f c)
at_first c k cs f h g = subst (λ v. Good (v ∷ cs) (f v)) (sym (eqb-true c k h)) g

delimiter_good : (c : ℕ) (cs : List ℕ) → Good (c ∷ cs) (delimiter c)
unfolding delimiter operators
delimiter_good c cs =
    split (Good (c ∷ cs)) (c == 40) (taken m.LeftParenthesis 1) _ (λ h. at_first c 40 cs (λ v. taken m.LeftParenthesis 1) h (record { spelled = refl; longest = refl; within = omega arith; some = omega arith })) (λ h0.
    split (Good (c ∷ cs)) (c == 41) (taken m.RightParenthesis 1) _ (λ h. at_first c 41 cs (λ v. taken m.RightParenthesis 1) h (record { spelled = refl; longest = refl; within = omega arith; some = omega arith })) (λ h1.
    split (Good (c ∷ cs)) (c == 91) (taken m.LeftBracket 1) _ (λ h. at_first c 91 cs (λ v. taken m.LeftBracket 1) h (record { spelled = refl; longest = refl; within = omega arith; some = omega arith })) (λ h2.
    split (Good (c ∷ cs)) (c == 93) (taken m.RightBracket 1) _ (λ h. at_first c 93 cs (λ v. taken m.RightBracket 1) h (record { spelled = refl; longest = refl; within = omega arith; some = omega arith })) (λ h3.
    split (Good (c ∷ cs)) (c == 123) (taken m.LeftBrace 1) _ (λ h. at_first c 123 cs (λ v. taken m.LeftBrace 1) h (record { spelled = refl; longest = refl; within = omega arith; some = omega arith })) (λ h4.
    split (Good (c ∷ cs)) (c == 125) (taken m.RightBrace 1) _ (λ h. at_first c 125 cs (λ v. taken m.RightBrace 1) h (record { spelled = refl; longest = refl; within = omega arith; some = omega arith })) (λ h5.
    split (Good (c ∷ cs)) (c == 44) (taken m.Comma 1) _ (λ h. at_first c 44 cs (λ v. taken m.Comma 1) h (record { spelled = refl; longest = refl; within = omega arith; some = omega arith })) (λ h6.
    split (Good (c ∷ cs)) (c == 58) (taken m.Colon 1) _ (λ h. at_first c 58 cs (λ v. taken m.Colon 1) h (record { spelled = refl; longest = refl; within = omega arith; some = omega arith })) (λ h7.
    split (Good (c ∷ cs)) (c == 46) (taken m.Dot 1) _ (λ h. at_first c 46 cs (λ v. taken m.Dot 1) h (record { spelled = refl; longest = refl; within = omega arith; some = omega arith })) (λ h8.
    split (Good (c ∷ cs)) (c == 59) (taken m.Semicolon 1) _ (λ h. at_first c 59 cs (λ v. taken m.Semicolon 1) h (record { spelled = refl; longest = refl; within = omega arith; some = omega arith })) (λ h9.
    tt))))))))))

pub operator_good : (c : ℕ) (cs : List ℕ) → Good (c ∷ cs) (operator c (slice_index cs 0) (slice_index cs 1))
unfolding operator
operator_good c cs =
    let next = slice_index cs 0 in
    split (Good (c ∷ cs)) (c == 43) (with_equals next m.PlusAssign m.Plus) _ (λ h. at_first c 43 cs (λ v. with_equals next m.PlusAssign m.Plus) h (plus_good cs)) (λ h0.
    split (Good (c ∷ cs)) (c == 45) (with_equals next m.MinusAssign m.Minus) _ (λ h. at_first c 45 cs (λ v. with_equals next m.MinusAssign m.Minus) h (minus_good cs)) (λ h1.
    split (Good (c ∷ cs)) (c == 42) (cond (next == 42) (doubled (slice_index cs 1) m.PowerAssign m.Power) (with_equals next m.StarAssign m.Star)) _ (λ h. at_first c 42 cs (λ v. cond (next == 42) (doubled (slice_index cs 1) m.PowerAssign m.Power) (with_equals next m.StarAssign m.Star)) h (star_good cs)) (λ h2.
    split (Good (c ∷ cs)) (c == 47) (cond (next == 47) (doubled (slice_index cs 1) m.FloorDivideAssign m.FloorDivide) None) _ (λ h. at_first c 47 cs (λ v. cond (next == 47) (doubled (slice_index cs 1) m.FloorDivideAssign m.FloorDivide) None) h (slash_good cs)) (λ h3.
    split (Good (c ∷ cs)) (c == 37) (with_equals next m.PercentAssign m.Percent) _ (λ h. at_first c 37 cs (λ v. with_equals next m.PercentAssign m.Percent) h (percent_good cs)) (λ h4.
    split (Good (c ∷ cs)) (c == 61) (with_equals next m.Equal m.Assign) _ (λ h. at_first c 61 cs (λ v. with_equals next m.Equal m.Assign) h (assign_good cs)) (λ h5.
    split (Good (c ∷ cs)) (c == 33) (cond (next == 61) (taken m.NotEqual 2) None) _ (λ h. at_first c 33 cs (λ v. cond (next == 61) (taken m.NotEqual 2) None) h (not_equal_good cs)) (λ h6.
    split (Good (c ∷ cs)) (c == 60) (with_equals next m.LessEqual m.Less) _ (λ h. at_first c 60 cs (λ v. with_equals next m.LessEqual m.Less) h (less_good cs)) (λ h7.
    split (Good (c ∷ cs)) (c == 62) (with_equals next m.GreaterEqual m.Greater) _ (λ h. at_first c 62 cs (λ v. with_equals next m.GreaterEqual m.Greater) h (greater_good cs)) (λ h8.
    delimiter_good c cs)))))))))
