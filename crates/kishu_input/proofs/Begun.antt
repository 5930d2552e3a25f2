-- With an empty line begun, byte by byte, there are the lines to come that a reader's contract names.
use Rattle.std.specs.Prelude.{◌≡◌, ℕ, suc, ◌-◌, ◌≤◌, ◌==◌, nat_le, Bool, true, false, if◌then◌else◌, List, [], ◌∷◌, ◌++◌, length, take, Option, Some, None, IfSome, refl}
use Rattle.std.proofs.Common.{sym, ◌∙◌, ap, arith}
use Rattle.kishu_language.specs.tokens.Lines.{line_feed}
use Rattle.kishu_model.specs.Task.{limit_from, ended_from, rest_from, last_line, session_limits}
use Rattle.kishu_input.specs.Begun.{lines_begun, limit_begun}
use Rattle.kishu_input.specs.Lines.{limit_after, lines_until, lines_after}

-- the lines up to a limit, where `line` was begun
abbrev until : (line : List ℕ) (before : ℕ) → Option ℕ → List ℕ → List (List ℕ)
until line before None input = ended_from line input ++ last_line (rest_from line input)
until line before (Some n) input = ended_from line (take (n - before) input)

-- ---- a limit is reached at one of the bytes that are to come

abbrev IsFrom : ℕ → Option ℕ → Type 0
IsFrom before place = IfSome place (λ n. before ≤ n)

from-next : (before : ℕ) (place : Option ℕ) → IsFrom (suc before) place → IsFrom before place
from-next before None h = tt
from-next before (Some n) h = omega (arith, h)

from-either : (full feed long : Bool) (before : ℕ) (next on : Option ℕ) → IsFrom (suc before) next → IsFrom (suc before) on
    → IsFrom before (if full then Some before else if feed then next else if long then Some before else on)
from-either true feed long before next on h k = omega arith
from-either false true long before next on h k = from-next before next h
from-either false false true before next on h k = omega arith
from-either false false false before next on h k = from-next before on k

limit-from : (in_line before : ℕ) (input : List ℕ) → IsFrom before (limit_from session_limits in_line before input)
limit-from in_line before [] = tt
limit-from in_line before (c ∷ cs) =
    from-either (nat_le session_limits.input (suc before)) (c == line_feed) (nat_le session_limits.line (suc in_line)) before
    (limit_from session_limits 0 (suc before) cs) (limit_from session_limits (suc in_line) (suc before) cs)
    (limit-from 0 (suc before) cs) (limit-from (suc in_line) (suc before) cs)

-- ---- one byte

until-here : (line : List ℕ) (before : ℕ) (input : List ℕ) → until line before (Some before) input ≡ []
until-here line before input = let e : before - before ≡ 0 = omega arith in ap (λ k. ended_from line (take k input)) e

-- the bytes before a place are this one and those after it
take-next : (before n c : ℕ) (cs : List ℕ) → suc before ≤ n → take (n - before) (c ∷ cs) ≡ c ∷ take (n - suc before) cs
take-next before n c cs h = let e : n - before ≡ suc (n - suc before) = omega (arith, h) in ap (λ k. take k (c ∷ cs)) e

until-feed : (line : List ℕ) (before c : ℕ) (cs : List ℕ) (place : Option ℕ) → (c == line_feed) ≡ true → IsFrom (suc before) place
    → until line before place (c ∷ cs) ≡ line ∷ until [] (suc before) place cs
until-feed line before c cs None e h =
    ap (λ (b : Bool). (if b then line ∷ ended_from [] cs else ended_from (line ++ c ∷ []) cs) ++ last_line (if b then rest_from [] cs else rest_from (line ++ c ∷ []) cs)) e
until-feed line before c cs (Some n) e h =
    ap (ended_from line) (take-next before n c cs h)
    ∙ ap (λ (b : Bool). if b then line ∷ ended_from [] (take (n - suc before) cs) else ended_from (line ++ c ∷ []) (take (n - suc before) cs)) e

until-byte : (line : List ℕ) (before c : ℕ) (cs : List ℕ) (place : Option ℕ) → (c == line_feed) ≡ false → IsFrom (suc before) place
    → until line before place (c ∷ cs) ≡ until (line ++ c ∷ []) (suc before) place cs
until-byte line before c cs None e h =
    ap (λ (b : Bool). (if b then line ∷ ended_from [] cs else ended_from (line ++ c ∷ []) cs) ++ last_line (if b then rest_from [] cs else rest_from (line ++ c ∷ []) cs)) e
until-byte line before c cs (Some n) e h =
    ap (ended_from line) (take-next before n c cs h)
    ∙ ap (λ (b : Bool). if b then line ∷ ended_from [] (take (n - suc before) cs) else ended_from (line ++ c ∷ []) (take (n - suc before) cs)) e

either-until : (full feed long : Bool) (line : List ℕ) (before c : ℕ) (cs : List ℕ) (next on : Option ℕ) → (c == line_feed) ≡ feed
    → IsFrom (suc before) next → IsFrom (suc before) on
    → until line before (if full then Some before else if feed then next else if long then Some before else on) (c ∷ cs)
    ≡ (if full then [] else if feed then line ∷ until [] (suc before) next cs else if long then [] else until (line ++ c ∷ []) (suc before) on cs)
either-until true feed long line before c cs next on e h k = until-here line before (c ∷ cs)
either-until false true long line before c cs next on e h k = until-feed line before c cs next e h
either-until false false true line before c cs next on e h k = until-here line before (c ∷ cs)
either-until false false false line before c cs next on e h k = until-byte line before c cs on e k

-- ---- all bytes

length-push : (line : List ℕ) (c : ℕ) → length (line ++ c ∷ []) ≡ suc (length line)
length-push [] c = refl
length-push (x ∷ xs) c = ap suc (length-push xs c)

until-begun : (line : List ℕ) (before : ℕ) (input : List ℕ) → until line before (limit_begun line before input) input ≡ lines_begun line before input
until-begun line before [] = refl
until-begun line before (c ∷ cs) =
    let full = nat_le session_limits.input (suc before) in
    let long = nat_le session_limits.line (suc (length line)) in
    let on = limit_from session_limits (suc (length line)) (suc before) cs in
    let longer : until (line ++ c ∷ []) (suc before) on cs ≡ lines_begun (line ++ c ∷ []) (suc before) cs =
    ap (λ k. until (line ++ c ∷ []) (suc before) (limit_from session_limits k (suc before) cs) cs) (sym (length-push line c)) ∙ until-begun (line ++ c ∷ []) (suc before) cs in
    either-until full (c == line_feed) long line before c cs (limit_from session_limits 0 (suc before) cs) on refl
    (limit-from 0 (suc before) cs) (limit-from (suc (length line)) (suc before) cs)
    ∙ ap (λ (ls : List (List ℕ)). if full then [] else if c == line_feed then line ∷ ls else if long then [] else until (line ++ c ∷ []) (suc before) on cs) (until-begun [] (suc before) cs)
    ∙ ap (λ (ls : List (List ℕ)). if full then [] else if c == line_feed then line ∷ lines_begun [] (suc before) cs else if long then [] else ls) longer

until-none : (before : ℕ) (place : Option ℕ) (input : List ℕ) → lines_until before place input ≡ until [] before place input
until-none before None input = refl
until-none before (Some n) input = refl

pub lines-begun : (before : ℕ) (input : List ℕ) → lines_after before input ≡ lines_begun [] before input
lines-begun before input = until-none before (limit_after before input) input ∙ until-begun [] before input
