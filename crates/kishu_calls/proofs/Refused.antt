-- Calls with another number of arguments than they take.
use Rattle.std.proofs.Common.{◌≡◌, ◌∙◌, refl, ap, subst, sym, arith, ℕ, zero, suc, ◌<◌, ◌≢◌, Bool, false, IsTrue, List, [], ◌∷◌, ◌++◌, length, map, Result}
use Rattle.std.specs.Prelude.{codes, slice_get, ◌==◌}
use Rattle.std.specs.List.{list_all}
use Rattle.std.proofs.lemmas.Bool.Decides.{nat_tests}
use Rattle.std.proofs.lemmas.List.{length-map}
use Rattle.std.specs.Str.{chars}
use Rattle.std.proofs.lemmas.Str.{chars-nil}
use Rattle.kishu_items.specs.Messages.{chars-plain, is_plain}
use Rattle.kishu_meaning.specs.calls.Builtins.{of_none_or_one, of_one}
use Rattle.kishu_meaning.specs.calls.Callees.{Given, call_builtin, construct, new_object}
use Rattle.kishu_meaning.specs.values.Kinds.{bad_arguments}
use Rattle.kishu_meaning.specs.values.BuiltinNames.{builtin_names, builtin_number, class_names}
use Rattle.kishu_meaning.specs.values.BuiltinNames as functions
use Rattle.kishu_meaning.specs.comparing.Show.{builtin_name, class_name, or_empty}
use Rattle.kishu_items.specs.Holding.{first, second}
use Rattle.kishu_calls.proofs.Called.{some_named}
use Rattle.kishu_meaning.specs.moments.Moment.{Moment, Ends, fine, M, give}
use Rattle.kishu_meaning.specs.values.Values.{Value, text, value_of}
use Rattle.kishu_meaning.specs.declared.value.Value as rust
use Rattle.kishu_meaning.specs.values.Classes.{namespace_class, type_error_class}
use Rattle.kishu_machine.specs.declared.fault.Fault.{Fault}
use Rattle.kishu_machine.specs.Machine.{Gives, IsRaised}
use Rattle.kishu_machine.specs.Raising.{raises_text}

not_one : (name : List ℕ) (f : Value → M Value) (vs : List rust.Value) (s : Moment) → (length vs ≡ 1 → ⊥) → of_one name f (map value_of vs) s ≡ bad_arguments {A = Value} name s
not_one name f [] s h = refl
not_one name f (v ∷ []) s h = absurd (h refl)
not_one name f (v ∷ (w ∷ vs)) s h = refl

not_few : (name : List ℕ) (empty : M Value) (f : Value → M Value) (vs : List rust.Value) (s : Moment) → (length vs ≡ 0 → ⊥) → (length vs ≡ 1 → ⊥) → of_none_or_one name empty f (map value_of vs) s ≡ bad_arguments {A = Value} name s
not_few name empty f [] s h k = absurd (h refl)
not_few name empty f (v ∷ []) s h k = absurd (k refl)
not_few name empty f (v ∷ (w ∷ vs)) s h k = refl

module _ (name : List ℕ) (p : IsTrue (is_plain name)) (r : Result rust.Value Fault) (s : Moment) (told : IsRaised r type_error_class (chars name ++ codes "() got bad arguments")) where
  refused : Gives value_of r s (bad_arguments {A = Value} name s)
  refused = raises_text value_of type_error_class (name ++ codes "() got bad arguments") r s (subst (λ (y : List ℕ). IsRaised r type_error_class (y ++ codes "() got bad arguments")) (chars-plain name p) told)

  pub refused_one : (f : Value → M Value) (vs : List rust.Value) → (length vs ≡ 1 → ⊥) → Gives value_of r s (of_one name f (map value_of vs) s)
  refused_one f vs h = subst (λ (e : Ends Value). Gives value_of r s e) (sym (not_one name f vs s h)) refused

  pub refused_few : (empty : M Value) (f : Value → M Value) (vs : List rust.Value) → (length vs ≡ 0 → ⊥) → (length vs ≡ 1 → ⊥) → Gives value_of r s (of_none_or_one name empty f (map value_of vs) s)
  refused_few empty f vs h k = subst (λ (e : Ends Value). Gives value_of r s e) (sym (not_few name empty f vs s h k)) refused

pub none_given : (name : List ℕ) (f : Value → M Value) (vs : List rust.Value) (s : Moment) (bs : List ℕ) → length vs < 1 → bs ≡ [] → of_none_or_one name (give (text [])) f (map value_of vs) s ≡ fine (text (chars bs)) s
none_given name f [] s bs h e = ap (λ cs. fine (text cs) s) (sym (ap chars e ∙ chars-nil))
none_given name f (v ∷ vs) s bs h e = absurd (omega (arith, h))

-- ---- keywords that aren't taken

not_same : (a b : ℕ) → a ≢ b → (a == b) ≡ false
not_same a b h = grind (arith, nat_tests)

plain_names : (names : List (List ℕ)) (n : ℕ) → IsTrue (list_all is_plain names) → IsTrue (is_plain (or_empty (slice_get names n)))
plain_names [] n h = refl
plain_names (x ∷ names) zero h = first (is_plain x) _ h
plain_names (x ∷ names) (suc n) h = plain_names names n (second (is_plain x) _ h)

pub plain_there : (items : List rust.Value) (many : ℕ) (b : Bool) → many ≡ length items → b ≡ (many == 0) → b ≡ false → length (map value_of items) ≡ 0 → ⊥
plain_there items many b l e h z = (let m : many ≡ 0 = omega (arith, l, z, length-map items value_of) in grind (arith, nat_tests))

module _ (r : Result rust.Value Fault) (s : Moment) where
  pub refused_builtin : (n : ℕ) (given : Given) (x : List ℕ) → n ≢ builtin_number functions.print → (length given.named ≡ 0 → ⊥) → x ≡ builtin_name n → IsRaised r type_error_class (chars x ++ codes "() got bad arguments") → Gives value_of r s (call_builtin n given s)
  unfolding builtin_names
  refused_builtin n given x h k e told =
      subst (λ (end : Ends Value). Gives value_of r s end) (sym (rw (not_same n (builtin_number functions.print) h) (some_named (builtin_name n) given.named _ s k)))
      (refused (builtin_name n) (plain_names builtin_names n refl) r s (subst (λ (y : List ℕ). IsRaised r type_error_class (chars y ++ codes "() got bad arguments")) e told))

  pub refused_construct : (n : ℕ) (given : Given) (x : List ℕ) → n ≢ namespace_class → (length given.named ≡ 0 → ⊥) → x ≡ class_name n → IsRaised r type_error_class (chars x ++ codes "() got bad arguments") → Gives value_of r s (construct n given s)
  unfolding class_names
  refused_construct n given x h k e told =
      subst (λ (end : Ends Value). Gives value_of r s end) (sym (rw (not_same n namespace_class h) (some_named (class_name n) given.named _ s k)))
      (refused (class_name n) (plain_names class_names n refl) r s (subst (λ (y : List ℕ). IsRaised r type_error_class (chars y ++ codes "() got bad arguments")) e told))

  pub refused_object : (given : Given) → (length given.plain ≡ 0 → ⊥) → IsRaised r type_error_class (chars (codes "SimpleNamespace") ++ codes "() got bad arguments") → Gives value_of r s (new_object given s)
  unfolding class_names
  refused_object given h told = rw (not_same (length given.plain) 0 h) (refused (codes "SimpleNamespace") refl r s told)
