-- What kinds of records there are, by what they make of the graph, of the tables and of the live state.
use Rattle.std.proofs.Common.{◌≡◌, ◌⊎◌, inl, inr, ℕ, List, refl, sym, ◌∙◌, ap, subst}
use Rattle.std.specs.Prelude.{Option, Some, None}
use Rattle.kishu_meaning.specs.values.Values as values
use Rattle.kishu_objects.specs.States.{IsSoundState}
use Rattle.kishu_store.specs.Branches.{commit_of}
use Rattle.kishu_store.specs.Entries.{Entry, Record, commit, move, name, MoveTo, to_commit, to_branch}
use Rattle.kishu_store.specs.Fitting.{GoesOn, on_branch}
use Rattle.kishu_store.specs.Graph.{Commit, Graph}
use Rattle.kishu_store.specs.Groups.{Group}
use Rattle.kishu_store.specs.Histories.{History, head_table, led}
use Rattle.kishu_store.specs.Limits.{newest_profile}
use Rattle.kishu_store.specs.Tables.{Change, table_in, change_of}
use Rattle.kishu_graph.specs.Tables.{table_of_rows}
use Rattle.kishu_history.specs.Accessed.{accessed_by}
use Rattle.kishu_history.specs.Live.{IsLive}
use Rattle.kishu_history.specs.Stored.{Stored}
use Rattle.kishu_store_laws.specs.HistoryLaws.{IsHistory, led-history}
use Rattle.kishu_graph.specs.Kept.{Kept, KeepsHistory}
use Rattle.kishu_commit.specs.Told.{next_record, next_record_by, record_by, told_record, CanBeStored}
use Rattle.kishu_session.specs.Committing.{IsTold}
use Rattle.kishu_session.specs.Head.{CarriesFrom, IsLoaded, KeepsTable}
use Rattle.kishu_session.specs.Known.{IsHistoryOf}
use Rattle.kishu_session.specs.Lives.{state_of}
use Rattle.kishu_session.specs.Prepared.{Leads, LeadsTo, led_with, Tells, TellsBy}
use Rattle.kishu_session.specs.Renewing.{IsLeft, Starts}
use Rattle.kishu_session.specs.declared.head.Head.{Head}

-- ---- histories

-- The history with the record has the graph to which it leads, and is kept.
pub led-graph : (h : History) (now : Graph) (r : Option Record) → LeadsTo h r now → (led_with h r).graph ≡ now
led-graph h now None leads = sym leads
led-graph h now (Some r) leads = leads.changed_is

pub led-good : (h : History) (now : Graph) (r : Option Record) → LeadsTo h r now → IsHistory h → IsHistory (led_with h r)
led-good h now None leads good = good
led-good h now (Some r) leads good = led-history h r.entry good leads.rules.rules leads.fits

pub led-kept : (kept : Kept) (h : History) (now : Graph) (r : Option Record) → LeadsTo h r now → KeepsHistory kept (led_with h r) → IsHistory h
    → IsHistoryOf kept (led_with h r)
led-kept kept h now r leads keeps good = record { keeps = keeps; good = led-good h now r leads good }

-- ---- kinds

-- Commits and tables stay.
pub record IsSameStore (h n : History) : Type 0 where
  pub commits : n.graph.commits ≡ h.graph.commits
  pub changes : n.changes ≡ h.changes

-- They do, and so do the head's commit, the live state, and what is kept of the head's table.
pub record IsStill (old new : Head) (h n : History) : Type 0 where
  pub same : IsSameStore h n
  pub head : n.graph.head.commit ≡ h.graph.head.commit
  pub live : state_of new.live ≡ state_of old.live
  pub table : new.table ≡ old.table
  pub kept : new.kept ≡ old.kept

-- They do, and the live state, loaded anew or not, was carried on from the table of the head before.
pub record IsMoved (file : Option (List ℕ)) (old new : Head) (h n : History) : Type 0 where
  pub same : IsSameStore h n
  pub from : table_of_rows old.table ≡ head_table h
  pub start : values.State
  pub starts : Starts (state_of old.live) start
  pub carries : CarriesFrom file start old new

-- There is no record, the graph stays, and so do they; the live state was loaded anew.
pub record IsReloaded (file : Option (List ℕ)) (new : Head) (h : History) (r : Option Record) (n : History) : Type 0 where
  pub none : r ≡ None
  pub same : IsSameStore h n
  pub graph : n.graph ≡ h.graph
  pub loaded : IsLoaded file new

-- The record is the commit of these cells, which left the live state, or one that is the same: as the head's table tells it among the names that they accessed, where the file that the host tells holds the pictures of the old one.
pub record IsCommitted (file : Option (List ℕ)) (old new : Head) (h : History) (r : Option Record) : Type 0 where
  pub cells : List (List ℕ)
  pub dropped : List Group
  pub stored : List Group
  pub is : r ≡ Some (next_record_by h cells dropped stored (state_of new.live))
  pub told : IsTold file (head_table h) (state_of old.live) → r ≡ Some (next_record h cells (state_of old.live) (accessed_by newest_profile cells (state_of old.live)) (state_of new.live))
  pub ran : IsLeft cells (state_of old.live) (state_of new.live)
  pub sound : IsSoundState (state_of new.live)
  pub fits : CanBeStored (head_table h) (state_of old.live) (accessed_by newest_profile cells (state_of old.live)) (state_of new.live)
  pub lives : IsLive (Stored None) (table_of_rows new.table) (state_of new.live)
  pub held : (j : History) → IsHistoryOf new.graph j → KeepsTable new j

abbrev pub Kind : Option (List ℕ) → (old new : Head) → History → Option Record → History → Type 0
Kind file old new h r n = IsStill old new h n ⊎ IsMoved file old new h n ⊎ IsReloaded file new h r n ⊎ IsCommitted file old new h r

same-commits : (title : List ℕ) (o : Option ℕ) (g : Graph) → (on_branch title o g).commits ≡ g.commits
same-commits title None g = refl
same-commits title (Some n) g = refl

moved-same : (h : History) (to : MoveTo) → IsSameStore h (led h (move to))
moved-same h (to_commit n) = record { commits = refl; changes = refl }
moved-same h (to_branch title) = record { commits = same-commits title (commit_of title h.graph.branches) h.graph; changes = refl }

module _ (file : Option (List ℕ)) (old new : Head) (h : History) (now : Graph) (kept : IsHistoryOf old.graph h) where
  by-entry : (r : Record) (e : Entry) → r.entry ≡ e → Leads h r now → TellsBy file old new r e → Kind file old new h (Some r) (led h r.entry)
  by-entry r (commit p f cells ds ss) is leads tells =
      let parent : p ≡ h.graph.head.commit = subst (λ (e : Entry). GoesOn h.graph e) is leads.fits.graph.goes_on in
      let lists = tells.lists h kept in
      inr (inr (inr (record {
        cells = cells;
        dropped = lists.0;
        stored = lists.1;
        is = ap (λ (x : Record). Some x) (lists.2 ∙ ap (λ (n : ℕ). record_by n cells lists.0 lists.1 (state_of new.live)) parent);
        told = λ there. ap (λ (x : Record). Some x)
            (tells.told h kept there
            ∙ ap (λ (n : ℕ). told_record n cells (head_table h) (state_of old.live) (accessed_by newest_profile cells (state_of old.live)) (state_of new.live)) parent);
        ran = tells.ran;
        sound = tells.sound;
        fits = tells.fits h kept;
        lives = tells.lives;
        held = tells.held;
      })))
  by-entry r (move to) is leads tells =
      inr (inl (record { same = subst (λ (e : Entry). IsSameStore h (led h e)) (sym is) (moved-same h to); from = tells.from h kept; start = tells.start; starts = tells.starts; carries = tells.carries }))
  by-entry r (name title n) is leads tells =
      inl (record {
        same = subst (λ (e : Entry). IsSameStore h (led h e)) (sym is) (record { commits = refl; changes = refl });
        head = subst (λ (e : Entry). (led h e).graph.head.commit ≡ h.graph.head.commit) (sym is) refl;
        live = ap state_of tells.live;
        table = tells.table;
        kept = tells.kept;
      })

  pub kind-of : (r : Option Record) → LeadsTo h r now → Tells file old new r → Kind file old new h r (led_with h r)
  kind-of None leads (inl same) =
      inl (record {
        same = record { commits = refl; changes = refl };
        head = refl;
        live = ap (λ (x : Head). state_of x.live) same;
        table = ap (λ (x : Head). x.table) same;
        kept = ap (λ (x : Head). x.kept) same;
      })
  kind-of None leads (inr back) = inr (inr (inl (record { none = refl; same = record { commits = refl; changes = refl }; graph = refl; loaded = back.loaded })))
  kind-of (Some r) leads tells = by-entry r r.entry refl leads tells

-- ---- tables

module _ (h n : History) (same : IsSameStore h n) where
  pub same-table : (c : ℕ) → table_in n.graph.commits (change_of n.changes) c ≡ table_in h.graph.commits (change_of h.changes) c
  same-table c =
      ap (λ (ks : List Commit). table_in ks (change_of n.changes) c) same.commits
      ∙ ap (λ (cs : List Change). table_in h.graph.commits (change_of cs) c) same.changes

  pub same-head-table : n.graph.head.commit ≡ h.graph.head.commit → head_table n ≡ head_table h
  same-head-table head = same-table n.graph.head.commit ∙ ap (λ (c : ℕ). table_in h.graph.commits (change_of h.changes) c) head
