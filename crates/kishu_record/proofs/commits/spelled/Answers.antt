use Rattle.std.proofs.Common.{◌≡◌, ◌++◌, ◌∷◌, [], length, Ok, ap, arith, length-append}
use Rattle.kishu_bytes.specs.Numbers.{four, profile_number}
use Rattle.kishu_store.specs.Entries.{commit}
use Rattle.kishu_store.specs.EntryBytes.{many, group_bytes, stored_bytes}
use Rattle.kishu_store.specs.Groups.{AreGroups, AreStored}
use Rattle.kishu_record.specs.Entries.{groups_of, all_stored_of}
use Rattle.kishu_record.proofs.Heads.{commit_head, commit_found, behind_parent, lists_is, cells_are, dropped_are, nothing_left, lists_bytes}
use Rattle.kishu_record.proofs.commits.spelled.Goals as goal

pub returns-in_default-clause-none : goal.returns-in_default-clause-none
returns-in_default-clause-none c same p f0 cs ds ss k is =
    let h = commit_head c.args.rest.now (commit p f0 cs ds ss) k is in
    omega (arith, c.number.ensures.none c.in_default.is, ap length h.is, length-append (four h.p) (profile_number h.f ∷ lists_bytes h.cs h.ds h.ss))

pub returns-in_default-profile-clause-none : goal.returns-in_default-profile-clause-none
returns-in_default-profile-clause-none c same p f0 cs ds ss k is =
    let h = commit_head c.args.rest.now (commit p f0 cs ds ss) k is in
    let e1 : c.args.rest.now ≡ four c.in-Some.parent ++ c.number.new.self.rest.now = c.in-Some.ensures.found in
    c.profile.ensures.none c.in_default-profile.is (lists_bytes h.cs h.ds h.ss) (behind_parent c.args.rest.now c.number.new.self.rest.now c.in-Some.parent h (omega arith) e1)

pub returns-in_default-cells-clause-none : goal.returns-in_default-cells-clause-none
returns-in_default-cells-clause-none c same p f0 cs ds ss k is =
    let h = commit_head c.args.rest.now (commit p f0 cs ds ss) k is in
    let x = c.number.new.self.rest.now in
    let y = c.profile.new.cursor.rest.now in
    let n = c.in-Some.parent in
    let f = c.in-Some-profile.profile in
    let short = c.requires in
    let e1 : c.args.rest.now ≡ four n ++ x = c.in-Some.ensures.found in
    let e2 : x ≡ profile_number f ∷ y = c.in-Some-profile.ensures.found in
    c.cells.ensures.none c.in_default-cells.is (record { item = h.cs; rest = many group_bytes h.ds ++ many stored_bytes h.ss; is_fit = record { some = h.keeps.some; each = h.keeps.cells }; is = lists_is c.args.rest.now x y n f short (omega arith) e1 e2 h })

pub returns-in_default-2-clause-none : goal.returns-in_default-2-clause-none
returns-in_default-2-clause-none c same p f0 cs ds ss k is =
    let h = commit_head c.args.rest.now (commit p f0 cs ds ss) k is in
    let x = c.number.new.self.rest.now in
    let y = c.profile.new.cursor.rest.now in
    let n = c.in-Some.parent in
    let f = c.in-Some-profile.profile in
    let short = c.requires in
    let e1 : c.args.rest.now ≡ four n ++ x = c.in-Some.ensures.found in
    let e2 : x ≡ profile_number f ∷ y = c.in-Some-profile.ensures.found in
    let t = c.in-Some-cells.ensures.found in
    let cells = c.in-Some-cells.cells.first.now ∷ t.others in
    let z = c.cells.new.self.rest.now in
    c.in_ok-dropped.ensures.none (ap (λ o. Ok o) c.in_default-2.is) (record { item = h.ds; rest = many stored_bytes h.ss; is_fit = h.keeps.dropped; is = (cells_are c.args.rest.now x y n f short (omega arith) e1 e2 h cells z t.fit t.took).1 })

pub returns-in_default-3-clause-none : goal.returns-in_default-3-clause-none
returns-in_default-3-clause-none c same p f0 cs ds ss k is =
    let h = commit_head c.args.rest.now (commit p f0 cs ds ss) k is in
    let x = c.number.new.self.rest.now in
    let y = c.profile.new.cursor.rest.now in
    let n = c.in-Some.parent in
    let f = c.in-Some-profile.profile in
    let short = c.requires in
    let e1 : c.args.rest.now ≡ four n ++ x = c.in-Some.ensures.found in
    let e2 : x ≡ profile_number f ∷ y = c.in-Some-profile.ensures.found in
    let t = c.in-Some-cells.ensures.found in
    let cells = c.in-Some-cells.cells.first.now ∷ t.others in
    let z = c.cells.new.self.rest.now in
    let dropped = groups_of c.in-Some-2.dropped in
    let v = c.dropped.new.self.rest.now in
    let e4 : z ≡ many group_bytes dropped ++ v = rw c.in-Some-2.is at c.in_ok-dropped.ensures.found in
    let fd : AreGroups dropped = rw c.in-Some-2.is at c.in_ok-dropped.ensures.fit in
    c.in_ok-stored.ensures.none (ap (λ o. Ok o) c.in_default-3.is) (record { item = h.ss; rest = []; is_fit = h.keeps.stored; is = dropped_are c.args.rest.now x y n f short (omega arith) e1 e2 h cells z t.fit t.took dropped v fd e4 })

pub returns-then-not-is_at_end-clause-none : goal.returns-then-not-is_at_end-clause-none
returns-then-not-is_at_end-clause-none c same p f0 cs ds ss k is =
    let h = commit_head c.args.rest.now (commit p f0 cs ds ss) k is in
    let x = c.number.new.self.rest.now in
    let y = c.profile.new.cursor.rest.now in
    let n = c.in-Some.parent in
    let f = c.in-Some-profile.profile in
    let short = c.requires in
    let e1 : c.args.rest.now ≡ four n ++ x = c.in-Some.ensures.found in
    let e2 : x ≡ profile_number f ∷ y = c.in-Some-profile.ensures.found in
    let t = c.in-Some-cells.ensures.found in
    let cells = c.in-Some-cells.cells.first.now ∷ t.others in
    let z = c.cells.new.self.rest.now in
    let dropped = groups_of c.in-Some-2.dropped in
    let v = c.dropped.new.self.rest.now in
    let e4 : z ≡ many group_bytes dropped ++ v = rw c.in-Some-2.is at c.in_ok-dropped.ensures.found in
    let fd : AreGroups dropped = rw c.in-Some-2.is at c.in_ok-dropped.ensures.fit in
    let stored = all_stored_of c.in-Some-3.stored in
    let u = c.stored.new.self.rest.now in
    let e5 : v ≡ many stored_bytes stored ++ u = rw c.in-Some-3.is at c.in_ok-stored.ensures.found in
    let fs : AreStored stored = rw c.in-Some-3.is at c.in_ok-stored.ensures.fit in
    c.is_at_end.ensures.no c.if-not-is_at_end.true (nothing_left c.args.rest.now x y n f short (omega arith) e1 e2 h cells z t.fit t.took dropped v fd e4 stored u fs e5)

pub returns-clause-found : goal.returns-clause-found
returns-clause-found c =
    let x = c.number.new.self.rest.now in
    let y = c.profile.new.cursor.rest.now in
    let n = c.in-Some.parent in
    let f = c.in-Some-profile.profile in
    let e1 : c.args.rest.now ≡ four n ++ x = c.in-Some.ensures.found in
    let e2 : x ≡ profile_number f ∷ y = c.in-Some-profile.ensures.found in
    let t = c.in-Some-cells.ensures.found in
    let cells = c.in-Some-cells.cells.first.now ∷ t.others in
    let z = c.cells.new.self.rest.now in
    let dropped = groups_of c.in-Some-2.dropped in
    let v = c.dropped.new.self.rest.now in
    let e4 : z ≡ many group_bytes dropped ++ v = rw c.in-Some-2.is at c.in_ok-dropped.ensures.found in
    let fd : AreGroups dropped = rw c.in-Some-2.is at c.in_ok-dropped.ensures.fit in
    let stored = all_stored_of c.in-Some-3.stored in
    let u = c.stored.new.self.rest.now in
    let e5 : v ≡ many stored_bytes stored ++ u = rw c.in-Some-3.is at c.in_ok-stored.ensures.found in
    let fs : AreStored stored = rw c.in-Some-3.is at c.in_ok-stored.ensures.fit in
    record {
      others = t.others;
      count = t.count;
      rules = record { parent = omega arith; profile = c.in-Some-profile.ensures.known; some = omega arith; cells = t.fit; dropped = fd; stored = fs };
      is = commit_found c.args.rest.now x y z v u n f cells dropped stored e1 e2 t.took e4 e5 (c.is_at_end.ensures.yes c.if-not-is_at_end.false);
    }
