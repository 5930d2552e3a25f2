-- Calls of functions that go the same way as others, and what is called.
use Rattle.std.specs.Prelude.{ℕ, List, length, Option, Some}
use Rattle.kishu_language.specs.declared.profile.Profile.{Profile}
use Rattle.kishu_meaning.specs.values.Values.{Value, builtin, class, node, Node, function}
use Rattle.kishu_meaning.specs.moments.Moment.{give}
use Rattle.kishu_meaning.specs.calls.Callees.{Given, Part, whole, viewed, Callee, method, view}
use Rattle.kishu_meaning.specs.calls.Callees as c
use Rattle.kishu_meaning.specs.cells.Meaning.{Calls, call_node, call_value, apply}
use Rattle.kishu_objects.specs.State.{IsValue, AreValues, IsNode, IsCode}
use Rattle.kishu_state_laws.specs.Moments.{Maybe}
use Rattle.kishu_state_laws.specs.keeping.Logic.{Safe, node_now_s}
use Rattle.kishu_state_laws.specs.keeping.Texts.{text_title}
use Rattle.kishu_state_laws.specs.keeping.Methods.{call_method_s}
use Rattle.kishu_state_laws.specs.keeping.Callees.{IsGiven, given_later, IsPart, part_s, IsCallee, by_plain_s, call_builtin_s, construct_s, not_callable_s}
use Rattle.kishu_state_laws.specs.keeping.Parts.{CallsSafe}
use Rattle.kishu_state_laws.specs.keeping.Agreeing.{Agree, one, bind_a}

abbrev pub CallsAgree : ℕ → Calls → Calls → Type 0
CallsAgree d calls calls' = (k : ℕ) (profile : Profile) (code : List ℕ) (vs : List Value) (g : Given) → IsCode profile code (length vs) → AreValues k vs → IsGiven k g → Agree d k IsValue (calls profile code vs g) (calls' profile code vs g)

pub one_calls : (calls : Calls) → CallsSafe calls → CallsAgree 0 calls calls
one_calls calls cs k profile code vs g c h e = one (cs k profile code vs g c h e)

module _ (d : ℕ) (calls calls' : Calls) (cs : CallsAgree d calls calls') where
  call_node_a : {k : ℕ} (v : Value) (o : Option Node) (g : Given) → Maybe (IsNode k) o → IsGiven k g → Agree d k IsValue (call_node calls v o g) (call_node calls' v o g)
  call_node_a {k = k} v (Some (function profile code vs)) g h e = cs k profile code vs g h.0 h.1 e
  call_node_a v o g h e = one (not_callable_s v)

  call_value_a : {k : ℕ} (v : Value) (g : Given) → IsGiven k g → Agree d k IsValue (call_value calls v g) (call_value calls' v g)
  call_value_a (builtin m) g h = one (call_builtin_s m g h)
  call_value_a (class m) g h = one (construct_s m g h)
  call_value_a {k = k} (node i) g h = bind_a (one (node_now_s (node i))) (λ l le o q. call_node_a (node i) o g q (given_later k l le g h))
  call_value_a v g h = one (not_callable_s v)

  whole_s : {k : ℕ} (v : Value) → IsValue k v → Safe k IsPart (give (whole v))
  whole_s v h = part_s (whole v) h

  pub apply_a : {k : ℕ} (f : Callee) (g : Given) → IsCallee k f → IsGiven k g → Agree d k IsPart (apply calls f g) (apply calls' f g)
  apply_a (c.function v) g q h = bind_a (call_value_a v g h) (λ l le w q. one (whole_s w q))
  apply_a (method v x) g q h = bind_a (one (by_plain_s x g.named (text_title x q.1) (call_method_s v x g.plain q.1 q.0 h.plain))) (λ l le w q. one (whole_s w q))
  apply_a (view i found) g q h = one (part_s (viewed i found) tt)
