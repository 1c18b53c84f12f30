-- What a source in memory holds, and what a read makes of it.
use Rattle.std.specs.Prelude.{ℕ, List, drop}
use Rattle.pl_desk.specs.Counts.{next_count}

-- the bytes that are left, the most bytes of a read, the numbers of the reads that are to fail, and
-- how many reads there were and how many of them failed
pub record SourceState : Type 0 where
  pub left : List ℕ
  pub piece : ℕ
  pub fails : List ℕ
  pub calls : ℕ
  pub faults : ℕ

-- a source before its first read
abbrev pub source_over : List ℕ → ℕ → List ℕ → SourceState
source_over bytes piece fails =
    record { left = bytes; piece = piece; fails = fails; calls = 0; faults = 0 }

-- the source after a read of this many bytes
abbrev pub after_read : SourceState → ℕ → SourceState
after_read source len =
    record source { left = drop len source.left; calls = next_count source.calls }

-- the source after a read that failed
abbrev pub after_failed_read : SourceState → SourceState
after_failed_read source =
    record source { calls = next_count source.calls; faults = next_count source.faults }
