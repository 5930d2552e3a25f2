-- Names that are bound one after another.
use Rattle.std.specs.Prelude.{◌≡◌, ℕ, IsTrue, List, [], ◌∷◌, map}
use Rattle.std.specs.Rc.{rc_str_bytes}
use Rattle.std.specs.declared.alloc.Global.{Global}
use Rattle.std.specs.declared.rc.RcStr.{RcStr}
use Rattle.std.proofs.Common.{refl, sym, ap, subst, ◌∙◌, inl, inr}
use Rattle.std.proofs.lemmas.Bool.{and_parts}
use Rattle.kishu_language.specs.tokens.Names.{is_name}
use Rattle.kishu_meaning.specs.declared.value.Value as rust
use Rattle.kishu_meaning.specs.values.Sound.{is_valid, is_below, is_sound, are_sound_names}
use Rattle.kishu_meaning.specs.values.Values.{Value, Names, value_of, find, bind}
use Rattle.kishu_names.specs.Namespace.{names_of}
use Rattle.kishu_objects.specs.Lists.{In}
use Rattle.kishu_objects.specs.Loading.{bind_all}
use Rattle.kishu_objects_laws.specs.NameLaws.{find_bind_other}
use Rattle.kishu_loading.proofs.SoundNames.{is_bound, bind_sound}

abbrev pub Pairs : Type 0
Pairs = List (RcStr Global × rust.Value)

-- the names alone
abbrev pub titles : Pairs → List (List ℕ)
titles items = map (λ (b : List ℕ × Value). b.0) (names_of items)

-- Each name leads to a value among n nodes.
abbrev pub LeadAmong : ℕ → Pairs → Type 0
LeadAmong n items = IsTrue (are_sound_names n (names_of items))

-- Of all these the items are left, and the others are bound.
pub record Bound (all items : Pairs) (start here : Names) : Type 0 where
  pub told : bind_all (names_of all) start ≡ bind_all (names_of items) here
  pub left : (n : ℕ) → LeadAmong n all → LeadAmong n items
  pub kept : (n : ℕ) → LeadAmong n all → IsTrue (are_sound_names n start) → IsTrue (are_sound_names n here)
  pub inside : (x : List ℕ) → In x (titles items) → In x (titles all)
  pub others : (x : List ℕ) → (In x (titles all) → ⊥) → find x here ≡ find x start

pub bound_begin : (all : Pairs) (start : Names) → Bound all all start start
bound_begin all start = record { told = refl; left = λ n h. h; kept = λ n h k. k; inside = λ x h. h; others = λ x h. refl }

module _ (all items rest : Pairs) (start here : Names) (h : Bound all items start here) (name : RcStr Global) (value : rust.Value)
    (next : items ≡ (name, value) ∷ rest) where
  module _ (n : ℕ) (sound : LeadAmong n all) where
    parts : IsTrue (is_bound n (rc_str_bytes name, value_of value)) × LeadAmong n rest
    parts = and_parts (is_bound n (rc_str_bytes name, value_of value)) (are_sound_names n (names_of rest))
        (ap (λ is. are_sound_names n (names_of is)) (sym next) ∙ h.left n sound)

    pub first_named : IsTrue (is_name (rc_str_bytes name))
    first_named = (and_parts (is_name (rc_str_bytes name)) (is_sound n (value_of value)) parts.0).0

    pub first_valid : IsTrue (is_valid (value_of value))
    first_valid = (and_parts (is_valid (value_of value)) (is_below n (value_of value))
        (and_parts (is_name (rc_str_bytes name)) (is_sound n (value_of value)) parts.0).1).0

  pub bound_on : (new : Names) → new ≡ bind (rc_str_bytes name) (value_of value) here → Bound all rest start new
  bound_on new e = record {
    told = h.told ∙ ap (λ is. bind_all (names_of is) here) next ∙ ap (bind_all (names_of rest)) (sym e);
    left = λ n k. (parts n k).1;
    kept = λ n k l. ap (are_sound_names n) e ∙ bind_sound n (rc_str_bytes name) (value_of value) (parts n k).0 here (h.kept n k l);
    inside = λ x k. h.inside x (subst (λ is. In x (titles is)) (sym next) (inr k));
    others = λ x k.
        ap (find x) e
        ∙ find_bind_other x (rc_str_bytes name) (value_of value) here (λ same. k (h.inside x (subst (λ is. In x (titles is)) (sym next) (inl same))))
        ∙ h.others x k;
  }

pub bound_end : (all items : Pairs) (start here : Names) → Bound all items start here → items ≡ [] → here ≡ bind_all (names_of all) start
bound_end all items start here h none = sym (h.told ∙ ap (λ is. bind_all (names_of is) here) none)
