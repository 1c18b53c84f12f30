-- What a quick desk holds, and what a call makes of it.
use Rattle.std.specs.Prelude.{ℕ, List, [], ◌++◌, length}
use Rattle.pl_desk.specs.Counts.{CallCounts, no_calls, after_write, after_device_fault}
use Rattle.pl_desk.specs.Counts.{after_line_fault}
use Rattle.pl_desk.specs.Desk.{overwritten}

-- the bytes of the file, what was said, and what was counted
pub record QuickState : Type 0 where
  pub bytes : List ℕ
  pub said : List ℕ
  pub counts : CallCounts

-- before the first call
abbrev pub empty_desk : QuickState
empty_desk = record { bytes = []; said = []; counts = no_calls }

-- after a write of these bytes at this offset
abbrev pub after_write_at : QuickState → ℕ → List ℕ → QuickState
after_write_at desk at bytes =
    record desk {
      bytes = overwritten 0 at bytes desk.bytes;
      counts = after_write desk.counts (length bytes);
    }

-- after it said these bytes
abbrev pub after_say : QuickState → List ℕ → QuickState
after_say desk bytes = record desk { said = desk.said ++ bytes }

-- after a call of the file that failed
abbrev pub after_failed_call : QuickState → QuickState
after_failed_call desk = record desk { counts = after_device_fault desk.counts }

-- after a call of `say` that failed
abbrev pub after_failed_say : QuickState → QuickState
after_failed_say desk = record desk { counts = after_line_fault desk.counts }
