-- A state that was carried on: by the table of the head before it is the one that the table of the new head tells.
use Rattle.std.proofs.Common.{◌≡◌, ℕ, List, [], ◌∷◌, sym, subst}
use Rattle.std.specs.List.{AllZip}
use Rattle.std.specs.Prelude.{Option, Some, None}
use Rattle.kishu_meaning.specs.values.Values.{State}
use Rattle.kishu_store.specs.Histories.{History, head_table}
use Rattle.kishu_store.specs.Tables.{Table, change_of, groups_in, table_in}
use Rattle.kishu_graph.specs.Tables.{table_of_rows}
use Rattle.kishu_delta.specs.Kept.{KeepsJust}
use Rattle.kishu_history.specs.Checkout.{to_load, to_drop}
use Rattle.kishu_history.specs.Live.{IsLive, IsPictureOf}
use Rattle.kishu_history.specs.Paths.{AreRows}
use Rattle.kishu_history.specs.Stored.{Stored}
use Rattle.kishu_history.specs.Tables.{AreOfOne, IsTable}
use Rattle.kishu_history_laws.specs.checkouts.CheckoutLaws.{carried_live}
use Rattle.kishu_history_laws.specs.stores.StoreLaws.{tables_of_one}
use Rattle.kishu_history_laws.specs.tables.FileLaws.{changes_are_rows, changes_are_tables}
use Rattle.kishu_checkout.specs.Loads.{AreCarried}
use Rattle.kishu_session.specs.Head.{KeepsTable, LivesAt}
use Rattle.kishu_session.specs.Known.{IsHistoryOf}
use Rattle.kishu_session.specs.Lives.{state_of}
use Rattle.kishu_session.specs.declared.head.Head.{Head}
use Rattle.kishu_session.proofs.RecordKinds.{IsMoved, same-table}
use Rattle.kishu_session.proofs.Renewals.{starts-live}

-- ---- where the host tells no file, the lengths of the pictures are known

pub pictures-untold : (file : Option (List ℕ)) (t : Table) (ps : List State) → AllZip (IsPictureOf (Stored file)) t ps → AllZip (IsPictureOf (Stored None)) t ps
pictures-untold None t ps each = each
pictures-untold (Some file) [] [] each = tt
pictures-untold (Some file) (r ∷ t) (p ∷ ps) each = (
  record {
    sound = each.0.sound;
    names = each.0.names;
    rise = each.0.rise;
    own = each.0.own;
    stored = record { len = each.0.stored.len; fits = each.0.stored.fits };
  },
  pictures-untold (Some file) t ps each.1,
)
pictures-untold (Some file) [] (p ∷ ps) each = absurd each
pictures-untold (Some file) (r ∷ t) [] each = absurd each

-- ---- from a history to the one after the move

module _ (file : Option (List ℕ)) (old new : Head) (h n : History) (k : IsMoved file old new h n) (kept : IsHistoryOf new.graph n) where
  abbrev t : Table
  t = head_table h

  abbrev u : Table
  u = head_table n

  abbrev drops : Table → Table → Type 0
  drops a b = AreCarried file (to_drop a b) (to_load a b) k.start (state_of new.live)

  pub carried-there : drops t u
  carried-there = subst (λ (x : Table). drops x u) k.from (subst (drops (table_of_rows old.table)) (k.carries.to n kept) k.carries.state)

  rows : AreRows (change_of n.changes)
  rows = changes_are_rows n.graph n.changes n.place kept.good.changes

  -- The table of before is that of a commit of the history after the move, too.
  was : table_in n.graph.commits (change_of n.changes) h.graph.head.commit ≡ t
  was = same-table h n k.same h.graph.head.commit

  is-table : IsTable u
  is-table = changes_are_tables n.graph n.changes n.place kept.good.changes n.graph.head.commit

  was-table : IsTable t
  was-table = subst IsTable was (changes_are_tables n.graph n.changes n.place kept.good.changes h.graph.head.commit)

  of-one : AreOfOne t u
  of-one = subst (λ (x : Table). AreOfOne x u) was (tables_of_one n.graph.commits (change_of n.changes) rows h.graph.head.commit n.graph.head.commit)

  -- What the table of before told, the new one does.
  lives-by : (at : Option (List ℕ)) → AllZip (IsPictureOf (Stored at)) (to_load t u) carried-there.pictures → LivesAt at old h → LivesAt at new n
  lives-by at each lives =
      subst (λ (s : State). IsLive (Stored at) u s) (sym carried-there.is)
      (carried_live (Stored at) t u k.start carried-there.pictures was-table is-table of-one (starts-live (Stored at) t (state_of old.live) k.start k.starts lives) each)

  pub carried-lives : LivesAt file old h → LivesAt file new n
  carried-lives = lives-by file carried-there.each

  pub carried-untold : LivesAt None old h → LivesAt None new n
  carried-untold = lives-by None (pictures-untold file (to_load t u) carried-there.pictures carried-there.each)

  pub carried-held : KeepsTable new n
  carried-held = record {
    table = k.carries.to n kept;
    pictures = subst (λ (x : Table). KeepsJust new.kept (groups_in x) (state_of new.live)) (k.carries.to n kept) k.carries.pictures;
  }
