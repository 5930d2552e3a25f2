use Rattle.std.proofs.Common.{◌≡◌, ◌≤◌, ◌+◌, ◌∙◌, [], List, Bool, true, false, map, refl, ap, sym, arith}
use Rattle.std.proofs.lemmas.Result.{IfOk-weaker}
use Rattle.std.specs.List.{list_all}
use Rattle.std.specs.Prelude.{◌&&◌}
use Rattle.std.specs.declared.alloc.Global.{Global}
use Rattle.std.specs.declared.rc.RcStr.{RcStr}
use Rattle.kishu_language.specs.tokens.Names.{is_among}
use Rattle.kishu_store.specs.Groups.{first_name}
use Rattle.kishu_store.specs.Limits.{most_pictured}
use Rattle.kishu_store.specs.Tables.{are_apart, bytes_in, names_in}
use Rattle.kishu_store_laws.specs.WalkLaws.{rows_left}
use Rattle.kishu_graph.specs.Fits.{AddsNames, lengths_in, names_of}
use Rattle.kishu_graph.specs.Heads.{StandApart}
use Rattle.kishu_graph.specs.Kept.{texts_of}
use Rattle.kishu_graph.specs.Leaves.{TellsHeld, is_free}
use Rattle.kishu_graph.specs.Walks.{HaveSame, all_texts}
use Rattle.kishu_graph.proofs.HeldFits.{apart-told, left-named, room-enough, room-short}
use Rattle.kishu_graph.proofs.RowsLeft.{left-each}
use Rattle.kishu_graph.proofs.TablesThatFit.{tells-apart, tells-many}
use Rattle.kishu_graph.proofs.heads.HeadRows.fit.Goals as goal

pub returns-then-is_none-clause-fits : goal.returns-then-is_none-clause-fits
returns-then-is_none-clause-fits c t k h =
    let ds = map texts_of c.args.dropped.now in
    let stored = c.args.stored.now in
    let left = rows_left (map first_name ds) t in
    let s : StandApart t = record { rise = k.rise; apart = k.apart } in
    let told = rw c.in-Some.is at (c.in_ok-left.ensures.leaves t s h) in
    let are = left-named t ds k.rise c.requires.dropped.rise told.0 in
    let short = room-short c.in-Some.left.room (lengths_in stored) c.room_behind_groups.result c.is_none.result c.is_none.ensures c.if-is_none.true c.room_behind_groups.ensures in
    tells-many t c.args.dropped.now stored left are (let room = told.1.room in omega (arith, room, short))

pub returns-then-not-are_all_free-clause-fits : goal.returns-then-not-are_all_free-clause-fits
returns-then-not-are_all_free-clause-fits c t k h =
    let ds = map texts_of c.args.dropped.now in
    let stored = c.args.stored.now in
    let left = rows_left (map first_name ds) t in
    let s : StandApart t = record { rise = k.rise; apart = k.apart } in
    let told = rw c.in-Some.is at (c.in_ok-left.ensures.leaves t s h) in
    let are = left-named t ds k.rise c.requires.dropped.rise told.0 in
    let enough = room-enough c.in-Some.left.room (lengths_in stored) c.room_behind_groups.result c.is_none.result c.is_none.ensures c.if-is_none.false c.room_behind_groups.ensures in
    let few : bytes_in left + lengths_in stored ≤ most_pictured = (let room = told.1.room in omega (arith, room, enough)) in
    let free = is_free c.args.self.now.names.keys c.in-Some.left.gone.keys in
    let not_all : list_all free (names_of stored) ≡ false = sym c.are_all_free.ensures ∙ c.if-not-are_all_free.true in
    let apart = apart-told free (names_of stored) (names_in left) (left-each (map first_name ds) t s).apart told.1.names in
    tells-apart t c.args.dropped.now stored left are false few (sym (apart ∙ ap (λ (b : Bool). b && are_apart (names_of stored)) not_all))

pub returns-clause-fits : goal.returns-clause-fits
returns-clause-fits c =
    let ds = map texts_of c.args.dropped.now in
    let stored = c.args.stored.now in
    IfOk-weaker c.add_groups.result (λ apart. AddsNames (names_of stored) c.new.result.keys c.add_groups.new.names.keys apart) (TellsHeld c.args.self.now c.args.dropped.now stored)
    (λ answer adds t k h.
    (let left = rows_left (map first_name ds) t in
    let s : StandApart t = record { rise = k.rise; apart = k.apart } in
    let told = rw c.in-Some.is at (c.in_ok-left.ensures.leaves t s h) in
    let are = left-named t ds k.rise c.requires.dropped.rise told.0 in
    let enough = room-enough c.in-Some.left.room (lengths_in stored) c.room_behind_groups.result c.is_none.result c.is_none.ensures c.if-is_none.false c.room_behind_groups.ensures in
    let few : bytes_in left + lengths_in stored ≤ most_pictured = (let room = told.1.room in omega (arith, room, enough)) in
    let free = is_free c.args.self.now.names.keys c.in-Some.left.gone.keys in
    let all : list_all free (names_of stored) ≡ true = sym c.are_all_free.ensures ∙ c.if-not-are_all_free.false in
    let apart = apart-told free (names_of stored) (names_in left) (left-each (map first_name ds) t s).apart told.1.names in
    let none : HaveSame (all_texts c.new.result.keys) [] = λ x. ap (λ (ks : List (RcStr Global)). is_among x (all_texts ks)) c.new.ensures.empty in
    tells-apart t c.args.dropped.now stored left are answer few ((adds [] none refl).0 ∙ sym (apart ∙ ap (λ (b : Bool). b && are_apart (names_of stored)) all))))
    c.add_groups.ensures
