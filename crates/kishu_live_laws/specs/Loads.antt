-- Of a good file each stored picture may be loaded for its row, and its functions are of the profile that there is.
use Rattle.std.specs.Prelude.{◌≤◌, ℕ, List, [], ◌∷◌}
use Rattle.kishu_language.specs.declared.profile.Profile.TheVariants.{One}
use Rattle.kishu_meaning.specs.values.Values.{Node, list, tuple, dict, object, function, exception}
use Rattle.kishu_objects.specs.Lists.{In}
use Rattle.kishu_objects.specs.Picture.{picture}
use Rattle.kishu_reading.specs.Pictured.{AreKnown}
use Rattle.kishu_reading_laws.specs.OwnLaws.{picture_known}
use Rattle.kishu_store.specs.Graph.{Graph, newest}
use Rattle.kishu_store.specs.Holds.{Holds}
use Rattle.kishu_replay.specs.Replay.{replay}
use Rattle.kishu_state_laws.specs.HeldLaws.{held_texts}
use Rattle.kishu_state_laws.specs.Moments.{AreUnder}
use Rattle.kishu_state_laws.specs.Profiles.{held_replay_under}
use Rattle.kishu_history.specs.Good.{IsGoodStore}
use Rattle.kishu_history.specs.Live.{IsStoredPicture}
use Rattle.kishu_history.specs.Paths.{table_at, AreRows}
use Rattle.kishu_history.specs.Stored.{Held}
use Rattle.kishu_history.specs.Tables.{Row, Change}
use Rattle.kishu_session_laws.specs.StoredLaws.{good_pictures}

-- ---- profiles

known : (ns : List Node) → AreUnder One ns → AreKnown ns
known [] u = tt
known (list vs ∷ ns) u = (tt, known ns u.1)
known (tuple vs ∷ ns) u = (tt, known ns u.1)
known (dict es ∷ ns) u = (tt, known ns u.1)
known (object es ∷ ns) u = (tt, known ns u.1)
known (function profile code vs ∷ ns) u = (u.0, known ns u.1)
known (exception kind vs ∷ ns) u = (tt, known ns u.1)

pub replay_known : (file : List ℕ) (g : Graph) → Holds file g → (c : ℕ) → AreKnown (replay g c).nodes
replay_known file g h c = known (replay g c).nodes (held_replay_under file g h c)

pub replayed_known : (file : List ℕ) (g : Graph) → Holds file g → (c : ℕ) (names : List (List ℕ)) → AreKnown (picture (replay g c) names).nodes
replayed_known file g h c names = picture_known (replay g c) names (replay_known file g h c)

-- ---- the picture of a row

pub good_loads : (file : List ℕ) (g : Graph) (of : ℕ → Change) → AreRows of → IsGoodStore file g.commits of → Holds file g → (c : ℕ) → c ≤ newest g
    → (r : Row) → In r (table_at g of c) → IsStoredPicture (Held file) r (picture (replay g c) r.group) × AreKnown (picture (replay g c) r.group).nodes
good_loads file g of rows good holds c there r m = (good_pictures file g of rows good (held_texts file g holds) c there r m, replayed_known file g holds c r.group)
