-- Lists of texts that grow at their end.
use Rattle.std.proofs.Common.{◌≡◌, ◌≤◌, ◌+◌, ℕ, List, [], ◌∷◌, ◌++◌, Bool, true, false, length, drop, refl, sym, ◌∙◌, ap, arith, append_assoc, leb-true}
use Rattle.std.specs.Prelude.{IsTrue, nat_le, ◌&&◌}
use Rattle.std.proofs.lemmas.Bool.{false≢true}
use Rattle.std.proofs.lemmas.Bool.Decides.{nat_tests}
use Rattle.std.proofs.lemmas.List.{map-append, append-nil}
use Rattle.std.specs.Rc.{rc_str_bytes}
use Rattle.std.specs.Str.{IsUtf8}
use Rattle.std.proofs.lemmas.Str.{IsUtf8-had}
use Rattle.std.specs.declared.alloc.Global.{Global}
use Rattle.std.specs.declared.rc.RcStr.{RcStr}
use Rattle.kishu_language.specs.Limits.{longest_text}
use Rattle.kishu_store.specs.Rules.{AreCells}
use Rattle.kishu_session.specs.TextLists.{texts_of, are_short}

first : (a b : Bool) → (a && b) ≡ true → a ≡ true
first true b e = refl
first false b e = absurd (false≢true e)

second : (a b : Bool) → (a && b) ≡ true → b ≡ true
second true b e = e
second false b e = absurd (false≢true e)

-- ---- growing

-- one text more of a list that is put behind others
pub push-step : (all whole : List (List ℕ)) (i : ℕ) (old new : List (RcStr Global)) (x y : RcStr Global) → new ≡ old ++ (x ∷ []) → rc_str_bytes x ≡ rc_str_bytes y
    → drop i all ≡ rc_str_bytes y ∷ drop (i + 1) all → texts_of old ++ drop i all ≡ whole → texts_of new ++ drop (i + 1) all ≡ whole
push-step all whole i old new x y is same here before =
    ap (λ (l : List (RcStr Global)). texts_of l ++ drop (i + 1) all) is
    ∙ ap (λ (l : List (List ℕ)). l ++ drop (i + 1) all) (map-append rc_str_bytes old (x ∷ []))
    ∙ append_assoc (texts_of old) (rc_str_bytes x ∷ []) (drop (i + 1) all)
    ∙ ap (λ (t : List ℕ). texts_of old ++ (t ∷ drop (i + 1) all)) same
    ∙ ap (λ (l : List (List ℕ)). texts_of old ++ l) (sym here)
    ∙ before

-- nothing is left of it
pub push-end : (all whole : List (List ℕ)) (i : ℕ) (now : List (RcStr Global)) → drop i all ≡ [] → texts_of now ++ drop i all ≡ whole → texts_of now ≡ whole
push-end all whole i now none before = sym (append-nil (texts_of now)) ∙ ap (λ (l : List (List ℕ)). texts_of now ++ l) (sym none) ∙ before

-- ---- texts that are no longer than a cell may be

pub short-first : (t : List ℕ) (ts : List (List ℕ)) → IsTrue (are_short (t ∷ ts)) → length t ≤ longest_text
short-first t ts all = leb-true (length t) longest_text (first (nat_le (length t) longest_text) (are_short ts) all)

pub short-rest : (t : List ℕ) (ts : List (List ℕ)) → IsTrue (are_short (t ∷ ts)) → IsTrue (are_short ts)
short-rest t ts all = second (nat_le (length t) longest_text) (are_short ts) all

pub short-more : (t : List ℕ) (ts : List (List ℕ)) → length t ≤ longest_text → IsTrue (are_short ts) → IsTrue (are_short (t ∷ ts))
short-more t ts le all =
    let e : nat_le (length t) longest_text ≡ true = grind (arith, nat_tests) in
    ap (λ (b : Bool). b && are_short ts) e ∙ all

pub short-append : (a b : List (List ℕ)) → IsTrue (are_short a) → IsTrue (are_short b) → IsTrue (are_short (a ++ b))
short-append [] b all more = more
short-append (t ∷ a) b all more = short-more t (a ++ b) (short-first t a all) (short-append a b (short-rest t a all) more)

pub short-cells : (ts : List (List ℕ)) → AreCells ts → IsTrue (are_short ts)
short-cells [] all = refl
short-cells (t ∷ ts) all = short-more t ts all.0.short (short-cells ts all.1)

-- a text of the program is one in UTF-8
pub text-utf8 : (t : RcStr Global) → IsUtf8 (rc_str_bytes t)
text-utf8 t = IsUtf8-had (rc_str_bytes t) t.text.value.ok
