-- What opening gives, from what the file holds: `s` is the host before, `t` the host after.
use Rattle.std.specs.Prelude.{◌≡◌, ◌≤◌, ◌⊎◌, ℕ, List, length}
use Rattle.kishu_host.specs.Host.{State, Told, Now, Only, Keeps, Elapses}
use Rattle.kishu_store.specs.Graph.{Graph}
use Rattle.kishu_store.specs.Holds.{Holds, Gives, IsForeign, IsBroken}
use Rattle.kishu_store.specs.Tables.{Change, change_of, table_at}
use Rattle.kishu_history.specs.Good.{IsGoodFile, IsGoodFileOf}
use Rattle.kishu_checkout.specs.Pictures.{LacksAt}
use Rattle.kishu_live_laws.specs.Made.{opened_nodes}
use Rattle.kishu_session.specs.Attached.{IsAttached}
use Rattle.kishu_session.specs.Lives.{state_of}
use Rattle.kishu_session.specs.Written.{begun, HoldsNone, Stays}
use Rattle.kishu_session.specs.declared.session.Session.{Session}

-- ---- a session

-- It is attached to the graph that a good file holds.
abbrev pub Attaches : Session → (s t : State) → Type 0
Attaches session s t = Told s ((g : Graph) → IsGoodFileOf s.file g → IsAttached session t g)

-- Its live state has no more nodes than the pictures of the head's groups.
abbrev pub OpensNodes : Session → State → Type 0
OpensNodes session s = Told s ((g : Graph) → IsGoodFileOf s.file g → length (state_of session.head.live).nodes ≤ opened_nodes g g.head.commit)

-- ---- what becomes of the file

-- A file that is too short for a record is begun anew, and each other one stays.
abbrev pub IsBegun : (s t : State) → Type 0
IsBegun s t = Told s (t.file ≡ begun s.file)

-- The file holds the graph that it held.
abbrev pub KeepsGraphs : (s t : State) → Type 0
KeepsGraphs s t = Told s ((g : Graph) → Holds s.file g → Holds t.file g)

-- A good file stays one, with that graph.
abbrev pub KeepsGood : (s t : State) → Type 0
KeepsGood s t = Told s ((g : Graph) → IsGoodFileOf s.file g → IsGoodFileOf t.file g)

-- A file that holds no graph stays.
abbrev pub KeepsBad : (s t : State) → Type 0
KeepsBad s t = Told s (HoldsNone s.file → Stays s t)

-- A stop afterwards leaves the graph that the file held; where a call failed, it may leave what it might have left before.
abbrev pub SettlesUnless : (Failed : Type 0) → (s t : State) → Type 0
SettlesUnless Failed s t = Told s ((g : Graph) → Holds s.file g → (Failed × Keeps s t) ⊎ ((c : List ℕ) → t.may_leave c → Holds c g))

-- A stop meanwhile leaves what it might have left before, or the graph, and no output.
abbrev pub LeavesGraph : (s t : State) → Type 0
LeavesGraph s t = Told s ((g : Graph) → Holds s.file g → Elapses s t (λ c o. Now s c o ⊎ (Holds c g × (o ≡ s.out))))

-- The same of a good file: what a stop leaves is good.
abbrev pub SettlesGood : (Failed : Type 0) → (s t : State) → Type 0
SettlesGood Failed s t = Told s ((g : Graph) → IsGoodFileOf s.file g → (Failed × Keeps s t) ⊎ ((c : List ℕ) → t.may_leave c → IsGoodFileOf c g))

abbrev pub LeavesGood : (s t : State) → Type 0
LeavesGood s t = Told s ((g : Graph) → IsGoodFileOf s.file g → Elapses s t (λ c o. Now s c o ⊎ (IsGoodFileOf c g × (o ≡ s.out))))

-- ---- why there is no session

-- The file has another header.
abbrev pub FindsForeign : State → Type 0
FindsForeign s = Told s (IsForeign s.file)

-- At this place stands the first open gate behind which no whole record stands that fits; or the file holds a graph, this is the place of a row of the head's table, and there is no picture of the row's names. On a good file there is no such place.
pub record LacksPicture (s : State) (at : ℕ) : Type 0 where
  pub graph : Graph
  pub changes : List Change
  pub holds : Holds s.file graph
  pub gives : Gives s.file changes
  pub lacks : LacksAt s (table_at graph (change_of changes) graph.head.commit) at
  pub bad : IsGoodFile s.file → ⊥

abbrev pub FindsDamage : State → (at : ℕ) → Type 0
FindsDamage s at = Told s (IsBroken s.file at ⊎ LacksPicture s at)

-- Such a file is as it was, and a stop now leaves it and nothing else. A stop meanwhile left what it might have left before.
pub record StaysDamaged (s t : State) : Type 0 where
  pub file : t.file ≡ s.file
  pub only : Only s.file t.may_leave
  pub time : Elapses s t (Now s)

abbrev pub KeepsDamaged : (s t : State) → Type 0
KeepsDamaged s t = Told s (StaysDamaged s t)
