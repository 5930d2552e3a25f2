use Rattle.std.proofs.Common.{◌≡◌, Bool, true, false, Result, Ok, Err, refl, sym, ◌∙◌, OnOk, IsErr, IsErrOf}
use Rattle.kishu_session.specs.Ends.{at-end-history}
use Rattle.kishu_tests.proofs.serve.heaps.next.Goals as goal

not-true : (b : Bool) → (b ≡ true → ⊥) → b ≡ false
not-true true never = absurd (never refl)
not-true false never = refl

fails : {T E : Type 0} (r : Result T E) (e : E) → IsErrOf r e → IsErr r
fails (Ok x) e is = absurd (cc is)
fails (Err f) e is = refl

unless-fails : {T E P : Type 0} (r : Result T E) → OnOk r P → (IsErr r → ⊥) → P
unless-fails (Ok x) p never = p
unless-fails (Err f) p never = absurd (never refl)

pub returns : goal.returns
returns g c = record {
  ready = λ going told.
      let session = c.args.session.now in
      let never : IsErr c.apply.result → ⊥ = λ err. cc (going, c.apply.ensures.halted.1 err) in
      let before = sym c.apply.ensures.tells ∙ told in
      let stands = c.requires.ready (not-true session.halted (λ closed. never (fails c.apply.result _ (c.apply.ensures.closed.1 closed)))) before in
      let h = at-end-history session (g.H.Host.state c.args.host.now) stands.0 stands.1 in
      (_, unless-fails c.apply.result c.apply.ensures.at_end never before stands.0 h.history.changes stands.1 h.gives);
}
