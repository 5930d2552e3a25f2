-- Whether a text is too long to be a cell.
use Rattle.std.proofs.Common.{◌≡◌, ◌<◌, ◌≤◌, ◌*◌, ℕ, zero, suc, Bool, true, false, List, [], ◌∷◌, length, take, refl, sym, ap, subst, arith}
use Rattle.std.specs.List.{list_any}
use Rattle.std.specs.Prelude.{IsTrue, ◌||◌}
use Rattle.std.proofs.lemmas.Bool.Decides.{nat_tests}
use Rattle.std.proofs.lemmas.Bool.{false≢true}
use Rattle.std.proofs.lemmas.List.{length-map}
use Rattle.std.specs.Rc.{rc_str_bytes}
use Rattle.std.specs.declared.alloc.Global.{Global}
use Rattle.std.specs.declared.rc.RcStr.{RcStr}
use Rattle.kishu_language.specs.Limits.{longest_text}
use Rattle.kishu_model.specs.requests.Cells.{is_too_long, texts_size, largest_texts}
use Rattle.kishu_store.specs.Rules.{AreCells}
use Rattle.kishu_commit.specs.Told.{MayBeCommitted}
use Rattle.kishu_session.specs.TextLists.{texts_of, are_short, AreShort}
use Rattle.kishu_session.proofs.TextFacts.{short-first, short-rest, short-more, text-utf8}

pub long-rest : (t : List ℕ) (ts : List (List ℕ)) → length t ≤ longest_text → list_any is_too_long (t ∷ ts) ≡ list_any is_too_long ts
long-rest t ts short =
    let no : is_too_long t ≡ false = grind (arith, nat_tests) in
    ap (λ (b : Bool). b || list_any is_too_long ts) no

pub long-here : (t : List ℕ) (ts : List (List ℕ)) → longest_text < length t → list_any is_too_long (t ∷ ts) ≡ true
long-here t ts long =
    let yes : is_too_long t ≡ true = grind (arith, nat_tests) in
    ap (λ (b : Bool). b || list_any is_too_long ts) yes

either : (t : List ℕ) (ts : List (List ℕ)) (b : Bool) → is_too_long t ≡ b → (b || list_any is_too_long ts) ≡ false → (length t ≤ longest_text) × (list_any is_too_long ts ≡ false)
either t ts true is none = absurd (false≢true (sym none))
either t ts false is none = (grind (arith, nat_tests, is), none)

-- Where none is too long, all are short.
pub none-long : (ts : List (List ℕ)) → list_any is_too_long ts ≡ false → IsTrue (are_short ts)
none-long [] none = refl
none-long (t ∷ ts) none =
    let both = either t ts (is_too_long t) refl none in
    short-more t ts both.0 (none-long ts both.1)

-- ---- the first of some texts

pub short-take : (ts : List (RcStr Global)) (n : ℕ) → AreShort ts → AreShort (take n ts)
short-take [] zero short = refl
short-take [] (suc n) short = refl
short-take (t ∷ ts) zero short = refl
short-take (t ∷ ts) (suc n) short =
    short-more (rc_str_bytes t) (texts_of (take n ts)) (short-first (rc_str_bytes t) (texts_of ts) short) (short-take ts n (short-rest (rc_str_bytes t) (texts_of ts) short))

pub size-take : (ts : List (RcStr Global)) (n : ℕ) → texts_size (texts_of (take n ts)) ≤ texts_size (texts_of ts)
size-take [] zero = omega arith
size-take [] (suc n) = omega arith
size-take (t ∷ ts) zero = omega arith
size-take (t ∷ ts) (suc n) = omega (arith, size-take ts n)

pub size-few : (ts : List (List ℕ)) → 4 * length ts ≤ texts_size ts
size-few [] = omega arith
size-few (t ∷ ts) = omega (arith, size-few ts)

-- ---- cells of a commit

-- Texts of the program that are short are cells.
are-cells : (cells : List (RcStr Global)) → AreShort cells → AreCells (texts_of cells)
are-cells [] short = tt
are-cells (t ∷ ts) short = (
  record { short = short-first (rc_str_bytes t) (texts_of ts) short; utf8 = text-utf8 t },
  are-cells ts (short-rest (rc_str_bytes t) (texts_of ts) short),
)

pub may-commit : (cells : List (RcStr Global)) → 0 < length cells → AreShort cells → texts_size (texts_of cells) ≤ largest_texts → MayBeCommitted (texts_of cells)
may-commit cells some short size = record { some = omega (arith, some, length-map cells rc_str_bytes); cells = are-cells cells short; size = size }

pub may-commit-one : (cells : List (RcStr Global)) (t : RcStr Global) → cells ≡ t ∷ [] → length (rc_str_bytes t) ≤ longest_text → MayBeCommitted (texts_of cells)
may-commit-one cells t is short =
    subst (λ (ts : List (RcStr Global)). MayBeCommitted (texts_of ts)) (sym is)
    (may-commit (t ∷ []) (omega arith) (short-more (rc_str_bytes t) [] short refl) (omega (arith, short)))
