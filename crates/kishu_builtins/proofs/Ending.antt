-- What a call leaves that has ended, by the laws of the definition.
use Rattle.std.proofs.Common.{◌≡◌, ◌∙◌, ap, sym, refl, arith, ℕ, ◌+◌, ◌-◌, IsTrue, List, [], ◌∷◌, length, length-append, Result, Ok, Err, IfOk}
use Rattle.kishu_meaning.specs.declared.budget.Budget.{Budget}
use Rattle.kishu_meaning.specs.declared.value.Value as rust
use Rattle.kishu_meaning.specs.moments.Moment.{Moment, Ends, fresh}
use Rattle.kishu_meaning_laws.specs.MakingLaws.{end_of}
use Rattle.kishu_meaning.specs.values.Sound.{is_exception_class, is_sound}
use Rattle.kishu_meaning.specs.values.Values.{Value, value_of, none, bool, integer, text, range, builtin, class, node, Node}
use Rattle.kishu_heap.specs.declared.fault.CallFault.{CallFault}
use Rattle.kishu_heap.specs.declared.fault.CallFault.TheVariants as faults
use Rattle.kishu_heap.specs.Costs.{GrowsPaid}
use Rattle.kishu_items.specs.Contents.{IsGrown}
use Rattle.kishu_builtins.specs.Called.{moment_of, Gives, Unlimited, ThrowsSound}
use Rattle.kishu_builtins.specs.CallLaws.{Kept, is_text_thrown}
use Rattle.kishu_builtins.specs.SoundCalls.{is_sound_end}

module _ (ns ms : List Node) (b c : Budget) (e : Ends Value) (k : Kept (moment_of ns b) e) (g : GrowsPaid 1 ns b ms c) where
  ended : end_of e ≡ moment_of ms c → IsGrown (b.left - c.left + 1) ns ms
  ended p = record {
    more = k.more;
    is = sym (ap (λ s. s.nodes) p) ∙ k.is;
    few = omega (arith, ap (λ s. length s.nodes) p, ap (λ s. s.left) p, ap length k.is, length-append ns k.more, k.falls, g.1);
  }

  pub grown : (r : Result rust.Value CallFault) → Gives value_of r (moment_of ms c) e → Unlimited r (IsGrown (b.left - c.left + 1) ns ms)
  grown (Ok x) h = ended (ap end_of h)
  grown (Err (faults.Raise kind t)) h = ended (ap end_of h)
  grown (Err (faults.RaiseWith kind v)) h = ended (ap end_of h)
  grown (Err faults.Spent) h = ended (ap end_of h)
  grown (Err faults.NoMemory) h = tt

text_sound : (n kind : ℕ) (v : Value) → IsTrue (is_text_thrown (fresh kind (v ∷ []))) → IsTrue (is_exception_class kind) × IsTrue (is_sound n v)
text_sound n kind (text cs) h = (h, refl)
text_sound n kind none h = absurd cc
text_sound n kind (bool b) h = absurd cc
text_sound n kind (integer z) h = absurd cc
text_sound n kind (range x y z) h = absurd cc
text_sound n kind (builtin i) h = absurd cc
text_sound n kind (class i) h = absurd cc
text_sound n kind (node i) h = absurd cc

pub thrown : (n : ℕ) (s t : Moment) (e : Ends Value) (r : Result rust.Value CallFault) → Gives value_of r t e → Kept s e → ThrowsSound n r
thrown n s t e (Ok x) h k = tt
thrown n s t e (Err (faults.Raise kind m)) h k = rw h at k.texts
thrown n s t e (Err (faults.RaiseWith kind v)) h k = text_sound n kind.0 (value_of v) (rw h at k.texts)
thrown n s t e (Err faults.Spent) h k = tt
thrown n s t e (Err faults.NoMemory) h k = tt

pub sound : (ms : List Node) (c : Budget) (e : Ends Value) (r : Result rust.Value CallFault) → Gives value_of r (moment_of ms c) e → IsTrue (is_sound_end e) → IfOk r (λ v. IsTrue (is_sound (length ms) (value_of v)))
sound ms c e (Ok x) h k = rw h at k
sound ms c e (Err f) h k = tt
