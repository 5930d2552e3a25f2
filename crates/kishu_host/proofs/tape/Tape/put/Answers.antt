use Rattle.std.proofs.Common.{[], List, ◌≡◌, ◌∷◌, ◌∙◌, ap, arith}
use Rattle.kishu_host.specs.Story.{Event, Story, Put, with_event}
use Rattle.kishu_host.specs.Tape.{history}
use Rattle.kishu_host.proofs.History.{tape-put, history-put}
use Rattle.kishu_host.proofs.tape.Tape.put.Goals as goal

pub invariant_of-self : goal.invariant_of-self
invariant_of-self c = (
  rw (c.add_entry.ensures.items, c.add_bytes.ensures.items) (tape-put _ _ _ _ _ c.self.invariant.0 c.args.bytes.now),
  c.self.invariant.1,
  record { used = omega arith; memory = omega arith },
  c.self.invariant.3,
  record { used = omega arith; memory = omega arith },
)

pub returns-clause-yes : goal.returns-clause-yes
returns-clause-yes c _ =
    let s = c.self.inside in
    let story : List Event → Story = λ es. record { first = s.first.items; events = es; room = s.room } in
    let e : history c.add_entry.new.to.items s.written.items c.add_bytes.new.to.items [] ≡ Put c.args.bytes.now ∷ history s.entries.items s.written.items s.out.items [] =
    rw (c.add_entry.ensures.items, c.add_bytes.ensures.items) (history-put s.entries.items s.written.items s.out.items [] c.args.bytes.now c.self.invariant.0.puts) in
    ap story e ∙ ap (with_event (Put c.args.bytes.now)) c.self.view_is
