-- What the desk over a file counts, and whether its file is in doubt. Nothing else of it is told.
use Rattle.std.specs.Prelude.{Bool, false}
use Rattle.pl_desk.specs.Counts.{CallCounts, no_calls, after_device_fault}

-- the counts of a desk over a file, and whether a sync of the file failed
pub record FileState : Type 0 where
  pub counts : CallCounts
  pub is_in_doubt : Bool

-- before the first call
abbrev pub new_file : FileState
new_file = record { counts = no_calls; is_in_doubt = false }

-- after a call of the file that failed, other than a sync
abbrev pub after_failed_access : FileState → FileState
after_failed_access desk = record desk { counts = after_device_fault desk.counts }
