-- What `print` gives and raises.
use Rattle.std.proofs.Common.{refl, subst, ℕ, ◌+◌, ◌*◌, ◌-◌, Bool, true, false, IsTrue, List, [], ◌∷◌, ◌++◌, length, Result, Ok, Err}
use Rattle.std.specs.Prelude.{codes, if◌then◌else◌}
use Rattle.std.specs.Str.{bytes_eq}
use Rattle.kishu_meaning.specs.calls.Callees.{print, print_by}
use Rattle.kishu_meaning.specs.values.Kinds.{bad_arguments}
use Rattle.kishu_language.specs.tokens.Lines.{line_feed}
use Rattle.kishu_meaning.specs.moments.Moment.{Moment, Ends, fine, raised, stopped, M, and_then, ◌>>◌, give, put_out, spend}
use Rattle.kishu_meaning.specs.comparing.Show.{show_all}
use Rattle.kishu_meaning.specs.values.Sound.{is_sound}
use Rattle.kishu_meaning.specs.values.Texts.{joined}
use Rattle.kishu_meaning.specs.values.Values.{Value, none, bool, integer, text, range, builtin, class, node, Names, value_of}
use Rattle.kishu_meaning.specs.declared.value.Value as rust
use Rattle.kishu_machine.specs.declared.fault.Fault.{Fault}
use Rattle.kishu_machine.specs.declared.fault.Fault.TheVariants as faults
use Rattle.kishu_machine.specs.Machine.{Gives, IsSound}
use Rattle.kishu_machine.specs.Raising.{RaisesSound, is_sound_end, then_raises, both_raise, give_raises, spend_raises}
use Rattle.kishu_calls.specs.Calls.{PrintsBy}

-- ---- it gives None

abbrev pub is_none_end : Ends Value → Bool
is_none_end (fine none s) = true
is_none_end (fine v s) = false
is_none_end (raised x s) = true
is_none_end (stopped s) = true

none_after : {A : Type 0} (e : Ends A) (f : A → M Value) → ((a : A) (s : Moment) → IsTrue (is_none_end (f a s))) → IsTrue (is_none_end (and_then e f))
none_after (fine a s) f h = h a s
none_after (raised x s) f h = refl
none_after (stopped s) f h = refl

none_in_either : (c : Bool) (m o : M Value) (s : Moment) → IsTrue (is_none_end (m s)) → IsTrue (is_none_end (o s)) → IsTrue (is_none_end ((if c then m else o) s))
none_in_either true m o s h k = h
none_in_either false m o s h k = k

print_none : (a b : List ℕ) (vs : List Value) (s : Moment) → IsTrue (is_none_end (print a b vs s))
print_none a b vs s = none_after (show_all vs s) _ (λ texts t. none_after (spend (length a * (length texts - 1) + length b) t) _ (λ u w. refl))

pub print_by_none : (ks : Names) (a b : List ℕ) (vs : List Value) (s : Moment) → IsTrue (is_none_end (print_by ks a b vs s))
print_by_none [] a b vs s = print_none a b vs s
print_by_none ((x, text cs) ∷ ks) a b vs s =
    none_in_either (bytes_eq x (codes "sep")) (print_by ks cs b vs) _ s (print_by_none ks cs b vs s)
    (none_in_either (bytes_eq x (codes "end")) (print_by ks a cs vs) (bad_arguments (codes "print")) s (print_by_none ks a cs vs s) refl)
print_by_none ((x, none) ∷ ks) a b vs s = refl
print_by_none ((x, bool c) ∷ ks) a b vs s = refl
print_by_none ((x, integer z) ∷ ks) a b vs s = refl
print_by_none ((x, range u v w) ∷ ks) a b vs s = refl
print_by_none ((x, builtin n) ∷ ks) a b vs s = refl
print_by_none ((x, class n) ∷ ks) a b vs s = refl
print_by_none ((x, node i) ∷ ks) a b vs s = refl

none_sound : (n : ℕ) (v : Value) (s : Moment) → IsTrue (is_none_end (fine v s)) → IsTrue (is_sound n v)
none_sound n none s h = refl
none_sound n (bool c) s h = absurd (cc)
none_sound n (integer z) s h = absurd (cc)
none_sound n (text cs) s h = absurd (cc)
none_sound n (range u v w) s h = absurd (cc)
none_sound n (builtin k) s h = absurd (cc)
none_sound n (class k) s h = absurd (cc)
none_sound n (node i) s h = absurd (cc)

pub printed_sound : (n : ℕ) (r : Result rust.Value Fault) (t : Moment) (e : Ends Value) → Gives value_of r t e → IsTrue (is_none_end e) → IsSound (λ (v : rust.Value). true) n r → IsSound (λ (v : rust.Value). is_sound n (value_of v)) n r
printed_sound n (Ok v) t e g h k = none_sound n (value_of v) t (subst (λ (end : Ends Value). IsTrue (is_none_end end)) g h)
printed_sound n (Err (faults.Raised x)) t e g h k = k
printed_sound n (Err faults.Stopped) t e g h k = tt
printed_sound n (Err faults.NoMemory) t e g h k = tt

-- ---- what it raises for its keywords

module _ (n : ℕ) where
  either_raises : (c : Bool) (m o : M Value) → RaisesSound n m → RaisesSound n o → RaisesSound n (if c then m else o)
  either_raises true m o h k = h
  either_raises false m o h k = k

  bad : RaisesSound n (bad_arguments {A = Value} (codes "print"))
  bad = record { raises = λ s. refl }

  put : (cs : List ℕ) → RaisesSound n (put_out cs)
  put cs = record { raises = λ s. refl }

  nothing_raises : (a b : List ℕ) → RaisesSound n (print a b [])
  nothing_raises a b =
      then_raises n (show_all []) (λ texts. spend (length a * (length texts - 1) + length b) >> (put_out (joined a texts ++ b) >> give none)) (give_raises n [])
      (λ texts. both_raise n (spend (length a * (length texts - 1) + length b)) (put_out (joined a texts ++ b) >> give none) (spend_raises n _)
      (both_raise n (put_out (joined a texts ++ b)) (give none) (put (joined a texts ++ b)) (give_raises n none)))

  marks_raise : (ks : Names) (a b : List ℕ) → RaisesSound n (print_by ks a b [])
  marks_raise [] a b = nothing_raises a b
  marks_raise ((x, text cs) ∷ ks) a b =
      either_raises (bytes_eq x (codes "sep")) (print_by ks cs b []) _ (marks_raise ks cs b)
      (either_raises (bytes_eq x (codes "end")) (print_by ks a cs []) (bad_arguments (codes "print")) (marks_raise ks a cs) bad)
  marks_raise ((x, none) ∷ ks) a b = bad
  marks_raise ((x, bool c) ∷ ks) a b = bad
  marks_raise ((x, integer z) ∷ ks) a b = bad
  marks_raise ((x, range u v w) ∷ ks) a b = bad
  marks_raise ((x, builtin k) ∷ ks) a b = bad
  marks_raise ((x, class k) ∷ ks) a b = bad
  marks_raise ((x, node i) ∷ ks) a b = bad

  pub marks_sound : {Y : Type 0} (p : Y → Bool) (f : Fault) (ks : Names) (s : Moment) → PrintsBy (Err f) ks [] s → IsSound {X = Y} p n (Err f)
  marks_sound p (faults.Raised x) ks s h = subst (λ (e : Ends Value). IsTrue (is_sound_end n e)) h ((marks_raise ks (codes " ") (line_feed ∷ [])).raises s)
  marks_sound p faults.Stopped ks s h = tt
  marks_sound p faults.NoMemory ks s h = tt

pub marks_fail : (f : Fault) (ks : Names) (vs : List Value) (s : Moment) → PrintsBy (Err f) ks vs s → Gives {X = rust.Value} value_of (Err f) s (print_by ks (codes " ") (line_feed ∷ []) vs s)
marks_fail (faults.Raised x) ks vs s h = h
marks_fail faults.Stopped ks vs s h = absurd h
marks_fail faults.NoMemory ks vs s h = tt
