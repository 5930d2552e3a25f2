-- What is promised of a run, from what holds of the work that its form asks for.
use Rattle.std.proofs.Common.{◌≡◌, ◌≤◌, ◌<◌, ℕ, true, false, List, length, Option, Some, None, refl, sym, subst, arith}
use Rattle.std.specs.Prelude.{IsSome}
use Rattle.kishu_host.specs.Source.{SourceState}
use Rattle.kishu_model.specs.Task.{Form, one_cell, session, notebook, one_request, generated, limit_place, session_limits}
use Rattle.kishu_model.specs.notebooks.Notebook.{Fault}
use Rattle.kishu_input.specs.Sources.{TakesMoreThan, TakesAtMost}
use Rattle.kishu_serve.specs.Headline.{ReadsWhole, longest_input, most_taken, IsTooLong, HasFault}
use Rattle.kishu_serve.specs.Promise.{PassesLimit, StaysWithin}
use Rattle.kishu_serve.specs.Work.{is_session}

-- ---- the forms

pub session-form : (f : Form) → is_session f ≡ true → f ≡ session
session-form one_cell e = absurd (cc e)
session-form session e = refl
session-form (notebook together) e = absurd (cc e)
session-form (one_request q) e = absurd (cc e)
session-form (generated start many) e = absurd (cc e)

pub whole-not-session : (f : Form) → ReadsWhole (Some f) → is_session f ≡ true → ⊥
whole-not-session one_cell whole e = cc e
whole-not-session session whole e = whole
whole-not-session (notebook together) whole e = cc e
whole-not-session (one_request q) whole e = whole
whole-not-session (generated start many) whole e = whole

pub session-not-whole : (f : Form) → f ≡ session → ReadsWhole (Some f) → ⊥
session-not-whole f e whole = subst (λ (x : Form). ReadsWhole (Some x)) e whole

pub form-is : (f : Form) (o : Option Form) (x : Form) → Some f ≡ o → o ≡ Some x → f ≡ x
form-is f o x is e = cc (is, e)

-- ---- the limits of an input

-- An input that is read whole and is longer than it may be.
pub long-whole : (f : Form) (left : List ℕ) → ReadsWhole (Some f) → longest_input (Some f) < length left → IsTooLong (Some f) left
long-whole one_cell left whole lt = lt
long-whole session left whole lt = absurd whole
long-whole (notebook together) left whole lt = omega (arith, lt)
long-whole (one_request q) left whole lt = absurd whole
long-whole (generated start many) left whole lt = absurd whole

pub passes-whole : (f : Form) (from to : SourceState) → ReadsWhole (Some f) → TakesMoreThan (longest_input (Some f)) from to → PassesLimit (Some f) from
passes-whole f from to whole taken told = long-whole f from.left whole (omega (arith, taken told))

pub passes-session : (f : Form) (from : SourceState) → is_session f ≡ true → (from.tells ≡ true → IsSome (limit_place session_limits from.left)) → PassesLimit (Some f) from
passes-session one_cell from e limited told = absurd (cc e)
passes-session session from e limited told = limited told
passes-session (notebook together) from e limited told = absurd (cc e)
passes-session (one_request q) from e limited told = absurd (cc e)
passes-session (generated start many) from e limited told = absurd (cc e)

pub stays-within : (f : Form) (from : SourceState) → (ReadsWhole (Some f) → from.tells ≡ true → length from.left ≤ longest_input (Some f))
    → (f ≡ session → from.tells ≡ true → IsSome (limit_place session_limits from.left) → ⊥) → StaysWithin (Some f) from
stays-within one_cell from whole limited told long = absurd (omega (arith, whole tt told, long))
stays-within session from whole limited told long = limited refl told long
stays-within (notebook together) from whole limited told long = absurd (omega (arith, whole tt told, long))
stays-within (one_request q) from whole limited told long = long
stays-within (generated start many) from whole limited told long = long

-- ---- the bytes that are taken

-- Where nothing is taken of an input, the form reads neither lines nor a whole input.
pub none-taken : (f : Form) → most_taken (Some f) ≡ 0 → (ReadsWhole (Some f) → ⊥) × (is_session f ≡ false)
none-taken one_cell none = absurd (omega (arith, none))
none-taken session none = absurd (omega (arith, none))
none-taken (notebook together) none = absurd (omega (arith, none))
none-taken (one_request q) none = (λ whole. whole, refl)
none-taken (generated start many) none = (λ whole. whole, refl)

-- ---- the faults of a notebook

-- It has one at most that is told.
pub one-fault : (o : Option Form) (s : SourceState) (a b : Fault) → s.tells ≡ true → HasFault o s a → HasFault o s b → a ≡ b
one-fault None s a b told x y = absurd x
one-fault (Some one_cell) s a b told x y = absurd x
one-fault (Some session) s a b told x y = absurd x
one-fault (Some (notebook together)) s a b told x y = cc (x told, y told)
one-fault (Some (one_request q)) s a b told x y = absurd x
one-fault (Some (generated start many)) s a b told x y = absurd x

-- ---- from the making of the work to its end

pub taken-form : (f : Form) (old mid new : SourceState) → TakesAtMost (most_taken (Some f)) old mid → (is_session f ≡ false → new ≡ mid)
    → ((ReadsWhole (Some f) → ⊥) → mid ≡ old) → TakesAtMost (most_taken (Some session)) mid new → TakesAtMost (most_taken (Some f)) old new
taken-form one_cell old mid new first alone unread last = subst (λ (s : SourceState). TakesAtMost (most_taken (Some one_cell)) old s) (sym (alone refl)) first
taken-form session old mid new first alone unread last = subst (λ (s : SourceState). TakesAtMost (most_taken (Some session)) s new) (unread (λ whole. whole)) last
taken-form (notebook together) old mid new first alone unread last =
    subst (λ (s : SourceState). TakesAtMost (most_taken (Some (notebook together))) old s) (sym (alone refl)) first
taken-form (one_request q) old mid new first alone unread last = subst (λ (s : SourceState). TakesAtMost (most_taken (Some (one_request q))) old s) (sym (alone refl)) first
taken-form (generated start many) old mid new first alone unread last =
    subst (λ (s : SourceState). TakesAtMost (most_taken (Some (generated start many))) old s) (sym (alone refl)) first
