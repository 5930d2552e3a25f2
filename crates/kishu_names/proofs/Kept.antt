-- The names stay names, and their values exist.
use Rattle.std.proofs.Common.{◌≡◌, ◌∙◌, sym, refl, subst, ℕ, Bool, true, false, ◌&&◌, IsTrue, List, [], ◌∷◌, Option, Some, None}
use Rattle.std.proofs.lemmas.Bool.{false≢true}
use Rattle.std.specs.Prelude.{if◌then◌else◌, IfSome, IfOk, OnOk, OnErr, IsOk, is_ok, MatchResult, option_map, Result, Ok, Err}
use Rattle.std.specs.Rc.{rc_str_bytes}
use Rattle.std.specs.declared.alloc.Global.{Global}
use Rattle.std.specs.declared.rc.RcStr.{RcStr}
use Rattle.kishu_meaning.specs.declared.value.Value as rust
use Rattle.kishu_names.specs.Namespace.{names_of}
use Rattle.std.specs.Cmp.Lexicographic.{slice_cmp}
use Rattle.std.specs.List.{list_all}
use Rattle.std.specs.Ordering.{nat_cmp, match_ordering}
use Rattle.std.specs.Str.{bytes_eq}
use Rattle.std.specs.declared.cmp.Ordering.{Ordering}
use Rattle.std.specs.declared.cmp.Ordering.TheVariants.{Less, Equal, Greater}
use Rattle.kishu_language.specs.tokens.Names.{is_name}
use Rattle.kishu_meaning.specs.values.Values.{Value, Names, value_of, find, bind}
use Rattle.kishu_meaning.specs.moments.Accesses.{unbind}
use Rattle.kishu_meaning.specs.values.Sound.{is_valid}

abbrev Bound : Type 0
Bound = List ℕ × Value

abbrev pub good : Bound → Bool
good b = is_name b.0 && is_valid b.1

both : (a b : Bool) → IsTrue a → IsTrue b → IsTrue (a && b)
both true b p q = q
both false b p q = p

first : (a b : Bool) → IsTrue (a && b) → IsTrue a
first true b p = refl
first false b p = p

second : (a b : Bool) → IsTrue (a && b) → IsTrue b
second true b p = p
second false b p = absurd (false≢true p)

bound_at : (b c : Bound) (bs new : Names) (o : Ordering) → IsTrue (good b) → IsTrue (good c) → IsTrue (list_all good bs) → IsTrue (list_all good new) → IsTrue (list_all good (match_ordering o (b ∷ c ∷ bs) (b ∷ bs) (c ∷ new)))
bound_at b c bs new Less p q a r = both (good b) _ p (both (good c) _ q a)
bound_at b c bs new Equal p q a r = both (good b) _ p a
bound_at b c bs new Greater p q a r = both (good c) _ q r

pub stay_bound : (name : List ℕ) (v : Value) (bs : Names) → IsTrue (is_name name) → IsTrue (is_valid v) → IsTrue (list_all good bs) → IsTrue (list_all good (bind name v bs))
stay_bound name v [] p q a = both (good (name, v)) true (both (is_name name) (is_valid v) p q) refl
stay_bound name v (b ∷ bs) p q a =
    bound_at (name, v) b bs (bind name v bs) (slice_cmp nat_cmp name b.0) (both (is_name name) (is_valid v) p q) (first (good b) _ a) (second (good b) _ a)
    (stay_bound name v bs p q (second (good b) _ a))

unbound_at : (b : Bound) (bs new : Names) (t : Bool) → IsTrue (good b) → IsTrue (list_all good bs) → IsTrue (list_all good new) → IsTrue (list_all good (if t then bs else b ∷ new))
unbound_at b bs new true p a r = a
unbound_at b bs new false p a r = both (good b) _ p r

pub stay_unbound : (name : List ℕ) (bs : Names) → IsTrue (list_all good bs) → IsTrue (list_all good (unbind name bs))
stay_unbound name [] a = a
stay_unbound name (b ∷ bs) a = unbound_at b bs (unbind name bs) (bytes_eq name b.0) (first (good b) _ a) (second (good b) _ a) (stay_unbound name bs (second (good b) _ a))

found_in : (v : Value) (rest : Option Value) (t : Bool) → IsTrue (is_valid v) → IfSome rest (λ w. IsTrue (is_valid w)) → IfSome (if t then Some v else rest) (λ w. IsTrue (is_valid w))
found_in v rest true p q = p
found_in v rest false p q = q

pub finds_valid : (name : List ℕ) (bs : Names) → IsTrue (list_all good bs) → IfSome (find name bs) (λ w. IsTrue (is_valid w))
finds_valid name [] a = tt
finds_valid name (b ∷ bs) a = found_in b.1 (find name bs) (bytes_eq name b.0) (second (is_name b.0) (is_valid b.1) (first (good b) _ a)) (finds_valid name bs (second (good b) _ a))

pub valid_through : (o : Option rust.Value) (p : Option Value) → option_map value_of o ≡ p → IfSome p (λ w. IsTrue (is_valid w)) → IfSome o (λ v. IsTrue (is_valid (value_of v)))
valid_through None p h x = tt
valid_through (Some v) p h x = subst (λ q. IfSome q (λ w. IsTrue (is_valid w))) (sym h) x

pub kept_set : {T E : Type 0} (r : Result T E) (name : List ℕ) (v : Value) (old new : List (RcStr Global × rust.Value)) → OnOk r (names_of new ≡ bind name v (names_of old)) → OnErr r (new ≡ old)
    → IsTrue (is_name name) → IsTrue (is_valid v) → IsTrue (list_all good (names_of old)) → IsTrue (list_all good (names_of new))
kept_set (Ok t) name v old new h k p q a = subst (λ ns. IsTrue (list_all good ns)) (sym h) (stay_bound name v (names_of old) p q a)
kept_set (Err e) name v old new h k p q a = subst (λ es. IsTrue (list_all good (names_of es))) (sym k) a

pub ok_text : {E : Type 0} (Q : E → Type 0) (r : Result (RcStr Global) E) (a b : List ℕ) → a ≡ b → MatchResult r (λ t. rc_str_bytes t ≡ b) Q → IfOk r (λ t. rc_str_bytes t ≡ a)
ok_text Q (Ok t) a b h k = k ∙ sym h
ok_text Q (Err e) a b h k = tt

pub inserted : {T E X : Type 0} (r : Result T E) (new a b : List X) → IsOk r → new ≡ (if is_ok r then a else b) → new ≡ a
inserted (Ok t) new a b p h = h
inserted (Err e) new a b p h = absurd (false≢true p)
