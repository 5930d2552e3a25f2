-- The rows of texts, where the arguments are no texts or are too many.
use Rattle.std.proofs.Common.{◌≡◌, refl, ℕ, List, [], ◌∷◌, None, subst, sym, Result, length, map, ◌≤◌, arith}
use Rattle.kishu_meaning.specs.declared.value.Value as rust_value
use Rattle.kishu_meaning.specs.values.Values.{Value, text, value_of}
use Rattle.kishu_meaning.specs.moments.Moment.{M, Moment}
use Rattle.kishu_meaning.specs.values.Kinds.{bad_arguments}
use Rattle.kishu_meaning.specs.calls.Methods as m
use Rattle.kishu_meaning.specs.calls.Methods.{Method, method_name, text_row}
use Rattle.kishu_heap.specs.declared.fault.CallFault.{CallFault}
use Rattle.kishu_methods.specs.declared.method.TextMethod as rust
use Rattle.kishu_methods.specs.declared.method.TextMethod.TheVariants as methods
use Rattle.kishu_methods.specs.Called.{Gives, text_method_of}
use Rattle.kishu_methods.specs.TextValues.{text_in}

pub startswith_other : (cs : List ℕ) (v : Value) → text_in v ≡ None → text_row m.startswith cs (v ∷ []) ≡ bad_arguments (method_name m.startswith)
startswith_other cs (text t) e = absurd (cc e)
startswith_other cs v e = refl

pub endswith_other : (cs : List ℕ) (v : Value) → text_in v ≡ None → text_row m.endswith cs (v ∷ []) ≡ bad_arguments (method_name m.endswith)
endswith_other cs (text t) e = absurd (cc e)
endswith_other cs v e = refl

pub find_other : (cs : List ℕ) (v : Value) → text_in v ≡ None → text_row m.find cs (v ∷ []) ≡ bad_arguments (method_name m.find)
find_other cs (text t) e = absurd (cc e)
find_other cs v e = refl

pub count_other : (cs : List ℕ) (v : Value) → text_in v ≡ None → text_row m.count cs (v ∷ []) ≡ bad_arguments (method_name m.count)
count_other cs (text t) e = absurd (cc e)
count_other cs v e = refl

pub split_other : (cs : List ℕ) (v : Value) → text_in v ≡ None → text_row m.split cs (v ∷ []) ≡ bad_arguments (method_name m.split)
split_other cs (text t) e = absurd (cc e)
split_other cs v e = refl

pub replace_first : (cs : List ℕ) (v w : Value) → text_in v ≡ None → text_row m.replace cs (v ∷ w ∷ []) ≡ bad_arguments (method_name m.replace)
replace_first cs (text t) w e = absurd (cc e)
replace_first cs v w e = refl

pub replace_second : (cs : List ℕ) (v w : Value) → text_in w ≡ None → text_row m.replace cs (v ∷ w ∷ []) ≡ bad_arguments (method_name m.replace)
replace_second cs (text t) (text u) e = absurd (cc e)
replace_second cs v w e = refl

-- no method of a text takes three arguments
pub too_many : (method : Method) (cs : List ℕ) (v w x : Value) (vs : List Value) → text_row method cs (v ∷ w ∷ x ∷ vs) ≡ bad_arguments (method_name method)
too_many m.startswith cs (text t) w x vs = refl
too_many m.endswith cs (text t) w x vs = refl
too_many m.find cs (text t) w x vs = refl
too_many m.count cs (text t) w x vs = refl
too_many m.split cs (text t) w x vs = refl
too_many m.replace cs (text t) (text u) x vs = refl
too_many method cs v w x vs = refl

-- ---- which methods take how many arguments

pub none_refused : (x : rust.TextMethod) (cs : List ℕ) → (x ≡ methods.Strip → ⊥) → (x ≡ methods.IsDigit → ⊥) → (x ≡ methods.Split → ⊥)
    → text_row (text_method_of x) cs [] ≡ bad_arguments (method_name (text_method_of x))
none_refused methods.Strip cs h i j = absurd (h refl)
none_refused methods.IsDigit cs h i j = absurd (i refl)
none_refused methods.Split cs h i j = absurd (j refl)
none_refused x cs h i j = refl

pub one_refused : (x : rust.TextMethod) (cs : List ℕ) (v : Value) → (x ≡ methods.StartsWith → ⊥) → (x ≡ methods.EndsWith → ⊥) → (x ≡ methods.Find → ⊥) → (x ≡ methods.Count → ⊥) → (x ≡ methods.Split → ⊥) → (x ≡ methods.Join → ⊥)
    → text_row (text_method_of x) cs (v ∷ []) ≡ bad_arguments (method_name (text_method_of x))
one_refused methods.StartsWith cs v h i j k l n = absurd (h refl)
one_refused methods.EndsWith cs v h i j k l n = absurd (i refl)
one_refused methods.Find cs v h i j k l n = absurd (j refl)
one_refused methods.Count cs v h i j k l n = absurd (k refl)
one_refused methods.Split cs v h i j k l n = absurd (l refl)
one_refused methods.Join cs v h i j k l n = absurd (n refl)
one_refused methods.Replace cs (text t) h i j k l n = refl
one_refused x cs v h i j k l n = refl

pub two_refused : (x : rust.TextMethod) (cs : List ℕ) (v w : Value) → (x ≡ methods.Replace → ⊥) → text_row (text_method_of x) cs (v ∷ w ∷ []) ≡ bad_arguments (method_name (text_method_of x))
two_refused methods.Replace cs v w h = absurd (h refl)
two_refused methods.StartsWith cs (text t) w h = refl
two_refused methods.EndsWith cs (text t) w h = refl
two_refused methods.Find cs (text t) w h = refl
two_refused methods.Count cs (text t) w h = refl
two_refused methods.Split cs (text t) w h = refl
two_refused x cs v w h = refl

-- a refused call gives what the row says
pub refused : (r : Result rust_value.Value CallFault) (row other : M Value) (s : Moment) → row ≡ other → Gives value_of r s (other s) → Gives value_of r s (row s)
refused r row other s e h = subst (λ (m : M Value). Gives value_of r s (m s)) (sym e) h

pub many_refused : (x : rust.TextMethod) (cs : List ℕ) (vs : List rust_value.Value) → 3 ≤ length vs → text_row (text_method_of x) cs (map value_of vs) ≡ bad_arguments (method_name (text_method_of x))
many_refused x cs [] l = absurd (omega arith)
many_refused x cs (a ∷ []) l = absurd (omega arith)
many_refused x cs (a ∷ b ∷ []) l = absurd (omega arith)
many_refused x cs (a ∷ b ∷ d ∷ vs) l = too_many (text_method_of x) cs (value_of a) (value_of b) (value_of d) (map value_of vs)
