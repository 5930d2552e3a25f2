-- The separator and the end of a `print`, keyword by keyword.
use Rattle.std.proofs.Common.{◌≡◌, ◌∙◌, refl, ap, sym, subst, false, ℕ, ◌<◌, ◌+◌, List, [], ◌∷◌, ◌++◌, length, drop, Result, Ok, Err}
use Rattle.std.specs.Prelude.{codes, get_or}
use Rattle.std.specs.Rc.{rc_str_bytes}
use Rattle.std.specs.declared.alloc.Global.{Global}
use Rattle.std.specs.declared.rc.RcStr.{RcStr}
use Rattle.std.proofs.lemmas.List.{drop_more}
use Rattle.std.specs.Str.{bytes_eq, chars}
use Rattle.kishu_items.specs.Messages.{chars-plain}
use Rattle.kishu_meaning.specs.calls.Callees.{print_by}
use Rattle.kishu_meaning.specs.values.Kinds.{bad_arguments}
use Rattle.kishu_language.specs.tokens.Lines.{line_feed}
use Rattle.kishu_meaning.specs.moments.Moment.{Moment, raised}
use Rattle.kishu_meaning.specs.values.Values.{Value, text, Names, value_of}
use Rattle.kishu_meaning.specs.declared.value.Value as rust
use Rattle.kishu_meaning.specs.declared.value.Value.TheVariants as variants
use Rattle.kishu_meaning.specs.values.Classes.{type_error_class}
use Rattle.kishu_machine.specs.declared.fault.Fault.{Fault}
use Rattle.kishu_machine.specs.declared.fault.Fault.TheVariants as faults
use Rattle.kishu_machine.specs.Machine.{IsRaised}
use Rattle.kishu_calls.specs.declared.calls.Marks as rust_marks
use Rattle.kishu_calls.specs.Calls.{PrintsBy, named_of}

raises : (r : Result rust_marks.Marks Fault) (ks : Names) (vs : List Value) (s : Moment) → IsRaised r type_error_class (codes "print" ++ codes "() got bad arguments") → print_by ks (codes " ") (line_feed ∷ []) vs s ≡ bad_arguments {A = Value} (codes "print") s → PrintsBy r ks vs s
raises (Ok m) ks vs s h e = absurd h
raises (Err (faults.Raised x)) ks vs s h e = e ∙ ap (λ t. raised t s) (sym h)
raises (Err faults.Stopped) ks vs s h e = absurd h
raises (Err faults.NoMemory) ks vs s h e = tt

pub refused : (r : Result rust_marks.Marks Fault) (ks : Names) (vs : List Value) (s : Moment) → IsRaised r type_error_class (chars (codes "print") ++ codes "() got bad arguments") → print_by ks (codes " ") (line_feed ∷ []) vs s ≡ bad_arguments {A = Value} (codes "print") s → PrintsBy r ks vs s
refused r ks vs s h = raises r ks vs s (subst (λ (y : List ℕ). IsRaised r type_error_class (y ++ codes "() got bad arguments")) (chars-plain (codes "print") refl) h)

module _ (x cs : List ℕ) (ks : Names) (separator end : List ℕ) (vs : List Value) (s : Moment) where
  by_other : bytes_eq x (codes "sep") ≡ false → bytes_eq x (codes "end") ≡ false → print_by ((x, text cs) ∷ ks) separator end vs s ≡ bad_arguments {A = Value} (codes "print") s
  by_other h k = rw (h, k) refl

-- before the first keyword
pub marks_begin : (ks : Names) (vs : List Value) (s : Moment) (a b : List ℕ) → a ≡ codes " " → b ≡ line_feed ∷ [] → print_by ks (codes " ") (line_feed ∷ []) vs s ≡ print_by ks (chars a) (chars b) vs s
marks_begin ks vs s a b ea eb =
    ap (λ x. print_by ks x (line_feed ∷ []) vs s) (sym (ap chars ea ∙ chars-plain (codes " ") refl))
    ∙ ap (λ y. print_by ks (chars a) y vs s) (sym (ap chars eb ∙ chars-plain (line_feed ∷ []) refl))

module _ (x : List ℕ) (ks : Names) (separator end : List ℕ) (vs : List Value) (s : Moment) where
  no_text : (v : rust.Value) → ((t : RcStr Global) → v ≡ variants.Text t → ⊥) → print_by ((x, value_of v) ∷ ks) separator end vs s ≡ bad_arguments {A = Value} (codes "print") s
  no_text (variants.Text t) h = absurd (h t refl)
  no_text variants.None h = refl
  no_text (variants.Bool b) h = refl
  no_text (variants.Int z) h = refl
  no_text (variants.Range a b c) h = refl
  no_text (variants.Builtin n) h = refl
  no_text (variants.Class n) h = refl
  no_text (variants.Node id) h = refl

-- at a keyword that ends it
module _ (named : List (RcStr Global × rust.Value)) (i : ℕ) (e : RcStr Global × rust.Value) (separator end : List ℕ) (vs : List Value) (s : Moment) (below : i < length named) (is : e ≡ get_or named i e) where
  here : named_of (drop i named) ≡ (rc_str_bytes e.0, value_of e.1) ∷ named_of (drop (i + 1) named)
  here = ap named_of (drop_more named i e below ∙ ap (λ y. y ∷ drop (i + 1) named) (sym is))

  at_keyword : print_by (named_of (drop i named)) separator end vs s ≡ print_by ((rc_str_bytes e.0, value_of e.1) ∷ named_of (drop (i + 1) named)) separator end vs s
  at_keyword = ap (λ (ks : Names). print_by ks separator end vs s) here

  pub no_text_next : ((t : RcStr Global) → e.1 ≡ variants.Text t → ⊥) → print_by (named_of (drop i named)) separator end vs s ≡ bad_arguments {A = Value} (codes "print") s
  no_text_next h = at_keyword ∙ no_text (rc_str_bytes e.0) (named_of (drop (i + 1) named)) separator end vs s e.1 h

  pub other_next : (t : RcStr Global) → e.1 ≡ variants.Text t → bytes_eq (rc_str_bytes e.0) (codes "sep") ≡ false → bytes_eq (rc_str_bytes e.0) (codes "end") ≡ false → print_by (named_of (drop i named)) separator end vs s ≡ bad_arguments {A = Value} (codes "print") s
  other_next t h k l =
      at_keyword ∙ ap (λ v. print_by ((rc_str_bytes e.0, value_of v) ∷ named_of (drop (i + 1) named)) separator end vs s) h
      ∙ by_other (rc_str_bytes e.0) (chars (rc_str_bytes t)) (named_of (drop (i + 1) named)) separator end vs s k l
