-- `new` makes a value of no bytes, in which no call stands.
use Rattle.std.proofs.Common.{[], ◌∷◌, refl}
use Rattle.std.proofs.raw_atomic.Walks.{proved}
use mir.Val.{vstruct, vnil}
use types.Kit.{‵, raw, ◌⊛◌, split, ◌$◌, ◌∵◌, !, qed, keep, move, suffices, done}
use base.Fml.{ftrue}
use types.Run.{no_more, returns, enter}
use types.Part.{agg}
use types.ByLocal.{alloc_all, pass_all, free_all, look_at, sets}
use denote.RattleType.{owns}
use denote.Shadow.{pure_i}
use denote.Triple.Entry.{alive}
use denote.Triple.Walked.{says, Stays, walk_of, ends_at}
use Rattle.kishu_cli.specs.declared.call_log.CallLog.{CallLog}
use Rattle.kishu_cli.specs.contracts.call_log.CallLog as made
use Rattle.kishu_cli.specs.contracts.call_log.CallLog.new as f
use Rattle.kishu_cli.specs.contracts.call_log.CallLog.new.Key.{name as key}
use Rattle.kishu_cli.proofs.call_log.CallLog.new.Statement.{statement}
use Rattle.kishu_cli.proofs.call_log.CallLog.new.Code as code

abbrev stayed : Stays f.ended.signature.params f.ended.kept
stayed = tt

pub new_spec : {M : Type 1} → statement M
new_spec 𝓤 𝓛 𝓜 𝓡 wired =
    let c = f.clauses 𝓛 𝓜.mem 𝓡.returns in
    proved 𝓛 f.ended stayed c 𝓜 𝓡 tt key code.function (code.unfolded 𝓤 𝓛.H 𝓜 𝓡 wired) (λ κs. tt) (λ κs. tt) (λ κs qs bounds a g are.
    let y : (walk_of 𝓛 f.ended stayed c).Ghost = ((κs, qs, bounds, a, tt), g) in let none : CallLog = record { calls = [] } in
    qed 𝓛 ((raw (alive 𝓛 f.signature κs qs) ⊛ ‵ (owns [] tt tt)) ∷ ‵ ftrue ∷ []) ∵ split ! $ keep ! (0 ∷ 1 ∷ []) $
    enter ! _ _ _ _ _ $ alloc_all ! (λ l. pass_all ! refl tt $ sets ! (agg ! (no_more !)) refl (tt, tt) $
    returns ! (look_at ! 0 refl) $ free_all ! refl $
    suffices ! _ (ends_at 𝓛 f.ended stayed c y (vstruct vnil) none tt tt) $ says ! refl $
    pure_i ! (made.the_row.own_val none (vstruct vnil ∷ [])) ((λ vss. (tt, tt)), tt) ((tt, (refl, tt)), tt) $
    move ! (1 ∷ 2 ∷ 0 ∷ []) $ done !))
