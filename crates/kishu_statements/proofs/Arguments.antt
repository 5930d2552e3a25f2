-- Arguments one after the other, and the nodes of trailers.
use Rattle.std.proofs.Common.{◌≡◌, ◌∙◌, refl, ap, sym, subst, ℕ, ◌+◌, ◌<◌, ◌≤◌, ◌&&◌, IsTrue, List, [], ◌∷◌, ◌++◌, map, length, drop, get_or, append_assoc}
use Rattle.std.proofs.lemmas.List.{append-nil, map-append}
use Rattle.std.specs.List.{list_all}
use Rattle.std.specs.Rc.{rc_str_bytes}
use Rattle.std.specs.declared.alloc.Global.{Global}
use Rattle.std.specs.declared.rc.RcStr.{RcStr}
use Rattle.kishu_language.specs.declared.tree.Expr.{Expr}
use Rattle.kishu_language.specs.declared.tree.Trailer as rust_trailer
use Rattle.kishu_language.specs.declared.tree.Argument as rust_argument
use Rattle.kishu_language.specs.declared.tree.Argument.TheVariants as ar
use Rattle.kishu_meaning.specs.calls.Callees.{Given, nothing_given, and_plain, and_named, Callee}
use Rattle.kishu_meaning.specs.calls.Callees as c
use Rattle.kishu_statements.proofs.Differing.{front_differs}
use Rattle.kishu_meaning.specs.cells.Meaning.{Calls, expr, arguments, nodes}
use Rattle.kishu_meaning.specs.moments.Moment.{Moment, Ends, fine, raised, stopped, give, and_then, deeper, tick}
use Rattle.kishu_language.specs.tokens.Names.{is_name}
use Rattle.kishu_language.specs.grammar.Refusals.{all_differ}
use Rattle.kishu_meaning.specs.values.Sound.{is_sound, are_sound}
use Rattle.kishu_language.specs.trees.Tree.{Text, Expression, Trailers, more_trailers, Arguments, Argument, more_arguments, expression_of}
use Rattle.kishu_language.specs.trees.Tree as t
use Rattle.kishu_meaning.specs.values.Values.{Value, Names, node}
use Rattle.kishu_calls.specs.Calls.{is_sound_given, is_sound_callee}
use Rattle.kishu_language.specs.trees.Rows.{plain_is, keyword_is}
use Rattle.kishu_language.specs.trees.Parts.{arguments_of, argument_of, trailers_of, trailer_of}
use Rattle.kishu_items.specs.Gathering.{dropped}
use Rattle.kishu_items.specs.Messages.{is_plain}
use Rattle.kishu_items.specs.Holding.{both, first, second}
use Rattle.kishu_machine.specs.declared.fault.Fault.{Fault}
use Rattle.kishu_machine.specs.Composing.{fails_on}
use Rattle.kishu_machine.specs.Machine.{Fails}
use Rattle.kishu_machine.specs.SoundMore.{sound_more, sound_more_all, sound_more_names}
use Rattle.kishu_statements.proofs.Joined.{joined}

-- ---- nodes

pub trailers_first : (ts : List rust_trailer.Trailer) (i : ℕ) (x : rust_trailer.Trailer) → i < length ts → x ≡ get_or ts i x → trailers_of (drop i ts) ≡ more_trailers (trailer_of x) (trailers_of (drop (i + 1) ts))
trailers_first ts i x h p = ap trailers_of (dropped ts i x h p)

pub nodes_on : (first : t.Trailer) (ts : Trailers) (u : Unit {0}) (s s1 : Moment) → tick s ≡ fine u s1 → nodes (more_trailers first ts) s ≡ nodes ts s1
nodes_on first ts u s s1 h = ap (λ (x : Ends (Unit {0})). and_then x (λ _. nodes ts)) h

pub nodes_fail : (first : t.Trailer) (ts : Trailers) (f : Fault) (s u : Moment) → Fails {A = Unit {0}} f u (tick s) → Fails {A = Unit {0}} f u (nodes (more_trailers first ts) s)
nodes_fail first ts f s u h = fails_on (λ _. nodes ts) f u (tick s) h

-- ---- the first of the arguments that are left

module _ (xs : List rust_argument.Argument) (i : ℕ) (x : rust_argument.Argument) (h : i < length xs) (p : x ≡ get_or xs i x) where
  pub plain_here : (e : Expr) → x ≡ ar.Plain e → arguments_of (drop i xs) ≡ more_arguments (t.plain (expression_of e)) (arguments_of (drop (i + 1) xs))
  plain_here e q = ap arguments_of (dropped xs i x h p) ∙ ap (λ (a : Argument). more_arguments a (arguments_of (drop (i + 1) xs))) (ap argument_of q ∙ plain_is e)

  pub keyword_here : (name : RcStr Global) (e : Expr) → x ≡ ar.Keyword name e → arguments_of (drop i xs) ≡ more_arguments (t.keyword (rc_str_bytes name) (expression_of e)) (arguments_of (drop (i + 1) xs))
  keyword_here name e q = ap arguments_of (dropped xs i x h p) ∙ ap (λ (a : Argument). more_arguments a (arguments_of (drop (i + 1) xs))) (ap argument_of q ∙ keyword_is name e)

-- ---- what is given grows at its ends

abbrev pub with_plain : Given → Value → Given
with_plain g v = record { plain = g.plain ++ v ∷ []; named = g.named }

abbrev pub with_named : Given → Text → Value → Given
with_named g x v = record { plain = g.plain; named = g.named ++ (x, v) ∷ [] }

pub given_as : {vs ws : List Value} {ks ls : Names} → vs ≡ ws → ks ≡ ls → ◌≡◌ {A = Given} (record { plain = vs; named = ks }) (record { plain = ws; named = ls })
given_as p q = λ i. record { plain = p i; named = q i }

module _ (calls : Calls) (before : Given) (e : Expression) (es : Arguments) (s : Moment) where
  abbrev plain_from : Ends Value → Ends Given
  plain_from x = and_then (and_then x (λ w s1. and_then (arguments calls es s1) (λ g. give (and_plain w g)))) (λ g. give (joined before g))

  abbrev keyword_from : Text → Ends Value → Ends Given
  keyword_from name x = and_then (and_then x (λ w s1. and_then (arguments calls es s1) (λ g. give (and_named name w g)))) (λ g. give (joined before g))

  behind_plain : (v : Value) (x : Ends Given) → and_then (and_then x (λ g. give (and_plain v g))) (λ g. give (joined before g)) ≡ and_then x (λ g. give (joined (with_plain before v) g))
  behind_plain v (fine g u) = ap (λ (ys : List Value). fine (record { plain = ys; named = before.named ++ g.named }) u) (sym (append_assoc before.plain (v ∷ []) g.plain))
  behind_plain v (raised x u) = refl
  behind_plain v (stopped u) = refl

  behind_named : (name : Text) (v : Value) (x : Ends Given) → and_then (and_then x (λ g. give (and_named name v g))) (λ g. give (joined before g)) ≡ and_then x (λ g. give (joined (with_named before name v) g))
  behind_named name v (fine g u) = ap (λ (ys : Names). fine (record { plain = before.plain ++ g.plain; named = ys }) u) (sym (append_assoc before.named ((name, v) ∷ []) g.named))
  behind_named name v (raised x u) = refl
  behind_named name v (stopped u) = refl

  pub plain_on : (v : Value) (u : Moment) → deeper (expr calls e) s ≡ fine v u → and_then (arguments calls (more_arguments (t.plain e) es) s) (λ g. give (joined before g)) ≡ and_then (arguments calls es u) (λ g. give (joined (with_plain before v) g))
  plain_on v u h = ap plain_from h ∙ behind_plain v (arguments calls es u)

  pub keyword_on : (name : Text) (v : Value) (u : Moment) → deeper (expr calls e) s ≡ fine v u
      → and_then (arguments calls (more_arguments (t.keyword name e) es) s) (λ g. give (joined before g)) ≡ and_then (arguments calls es u) (λ g. give (joined (with_named before name v) g))
  keyword_on name v u h = ap (keyword_from name) h ∙ behind_named name v (arguments calls es u)

  pub plain_fails : (f : Fault) (u : Moment) → Fails {A = Value} f u (deeper (expr calls e) s) → Fails {A = Given} f u (and_then (arguments calls (more_arguments (t.plain e) es) s) (λ g. give (joined before g)))
  plain_fails f u h =
      fails_on (λ g. give (joined before g)) f u (arguments calls (more_arguments (t.plain e) es) s)
      (fails_on (λ w s1. and_then (arguments calls es s1) (λ g. give (and_plain w g))) f u (deeper (expr calls e) s) h)

  pub keyword_fails : (name : Text) (f : Fault) (u : Moment) → Fails {A = Value} f u (deeper (expr calls e) s) → Fails {A = Given} f u (and_then (arguments calls (more_arguments (t.keyword name e) es) s) (λ g. give (joined before g)))
  keyword_fails name f u h =
      fails_on (λ g. give (joined before g)) f u (arguments calls (more_arguments (t.keyword name e) es) s)
      (fails_on (λ w s1. and_then (arguments calls es s1) (λ g. give (and_named name w g))) f u (deeper (expr calls e) s) h)

-- ---- what is sound

module _ (n : ℕ) where
  values_pushed : (vs : List Value) (v : Value) → IsTrue (are_sound n vs) → IsTrue (is_sound n v) → IsTrue (are_sound n (vs ++ v ∷ []))
  values_pushed [] v h k = both (is_sound n v) _ k refl
  values_pushed (w ∷ vs) v h k = both (is_sound n w) _ (first (is_sound n w) _ h) (values_pushed vs v (second (is_sound n w) _ h) k)

  names_pushed : (ks : Names) (x : Text) (v : Value) → IsTrue (list_all (λ k. is_name k.0 && is_sound n k.1) ks) → IsTrue (is_name x) → IsTrue (is_sound n v) → IsTrue (list_all (λ k. is_name k.0 && is_sound n k.1) (ks ++ (x, v) ∷ []))
  names_pushed [] x v h k l = both (is_name x && is_sound n v) _ (both (is_name x) _ k l) refl
  names_pushed (y ∷ ks) x v h k l =
      both (is_name y.0 && is_sound n y.1) _ (first (is_name y.0 && is_sound n y.1) _ h) (names_pushed ks x v (second (is_name y.0 && is_sound n y.1) _ h) k l)

module _ (n m : ℕ) (le : n ≤ m) (g : Given) (h : IsTrue (is_sound_given n g)) where
  plain_more : IsTrue (are_sound m g.plain)
  plain_more = sound_more_all n m le g.plain (first (are_sound n g.plain) _ h)

  named_more : IsTrue (list_all (λ k. is_name k.0 && is_sound m k.1) g.named)
  named_more = sound_more_names n m le g.named (first (list_all (λ k. is_name k.0 && is_sound n k.1) g.named) _ (second (are_sound n g.plain) _ h))

  differ : IsTrue (all_differ (map (λ k. k.0) g.named))
  differ = second (list_all (λ k. is_name k.0 && is_sound n k.1) g.named) _ (second (are_sound n g.plain) _ h)

  pub plain_pushed : (v : Value) → IsTrue (is_sound m v) → IsTrue (is_sound_given m (with_plain g v))
  plain_pushed v k =
      both (are_sound m (g.plain ++ v ∷ [])) _ (values_pushed m g.plain v plain_more k)
      (both (list_all (λ k. is_name k.0 && is_sound m k.1) g.named) _ named_more differ)

  pub named_pushed : (x : Text) (v : Value) → IsTrue (is_name x) → IsTrue (is_sound m v) → IsTrue (all_differ (map (λ k. k.0) (g.named ++ (x, v) ∷ []))) → IsTrue (is_sound_given m (with_named g x v))
  named_pushed x v k l d =
      both (are_sound m g.plain) _ plain_more
      (both (list_all (λ k. is_name k.0 && is_sound m k.1) (g.named ++ (x, v) ∷ [])) _ (names_pushed m g.named x v named_more k l) d)

-- ---- keywords that differ

module _ (ks : Names) (x : Text) (v : Value) (rest : List Text) where
  keywords_moved : map (λ (k : Text × Value). k.0) ks ++ (x ∷ rest) ≡ map (λ (k : Text × Value). k.0) (ks ++ (x, v) ∷ []) ++ rest
  keywords_moved = sym (append_assoc (map (λ (k : Text × Value). k.0) ks) (x ∷ []) rest) ∙ ap (λ (xs : List Text). xs ++ rest) (sym (map-append (λ (k : Text × Value). k.0) ks ((x, v) ∷ [])))

  pub differ_on : IsTrue (all_differ (map (λ (k : Text × Value). k.0) ks ++ (x ∷ rest))) → IsTrue (all_differ (map (λ (k : Text × Value). k.0) (ks ++ (x, v) ∷ []) ++ rest))
  differ_on h = subst (λ (xs : List Text). IsTrue (all_differ xs)) keywords_moved h

  pub differ_now : IsTrue (all_differ (map (λ (k : Text × Value). k.0) ks ++ (x ∷ rest))) → IsTrue (all_differ (map (λ (k : Text × Value). k.0) (ks ++ (x, v) ∷ [])))
  differ_now h = front_differs (map (λ (k : Text × Value). k.0) (ks ++ (x, v) ∷ [])) rest (differ_on h)
