-- How an error of the standard library is told.
use Rattle.std.specs.declared.result.Result.{Result}
use Rattle.std.specs.declared.result.Result.TheVariants.{Ok, Err}
use Rattle.std.specs.IoError.{error_kind}
use Rattle.std.specs.declared.io.Error.{Error}
use Rattle.std.specs.declared.io.ErrorKind.{ErrorKind}
use Rattle.std.specs.declared.io.ErrorKind.TheVariants as kinds
use Rattle.std.specs.declared.fs.TryLockError.{TryLockError}
use Rattle.std.specs.declared.fs.TryLockError.TheVariants as refusals
use Rattle.kishu_cli.specs.declared.call.LockAnswer.{LockAnswer}
use Rattle.kishu_cli.specs.declared.call.LockAnswer.TheVariants as locks
use Rattle.kishu_cli.specs.declared.call.Fault.{Fault}
use Rattle.kishu_cli.specs.declared.call.Fault.TheVariants.{Interrupted, Other}

abbrev pub fault_of : ErrorKind → Fault
fault_of kinds.Interrupted = Interrupted
fault_of _ = Other

abbrev pub told : {T : Type 0} → Result T Error → Result T Fault
told (Ok x) = Ok x
told (Err e) = Err (fault_of (error_kind e))

-- What is told of the lock where a call for it failed by an error of this kind.
abbrev pub lock_of : ErrorKind → Result LockAnswer Fault
lock_of kinds.Unsupported = Ok locks.Unsupported
lock_of kind = Err (fault_of kind)

abbrev pub lock_told : {T : Type 0} → Result T TryLockError → Result LockAnswer Fault
lock_told (Ok x) = Ok locks.Taken
lock_told (Err refusals.WouldBlock) = Ok locks.Held
lock_told (Err (refusals.Error e)) = lock_of (error_kind e)
