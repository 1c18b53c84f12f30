use Rattle.std.specs.Option.{option_map}
use Rattle.std.proofs.Common.{◌≡◌, ◌<◌, ◌-◌, ◌++◌, length}
use Rattle.pl_nbread.specs.BookmarkFile.{file_limit}
use Rattle.places.proofs.intake.read_all.Given as goal

-- the bytes so far are a front of the input, and fewer than the limit
abbrev pub invariant-loop-bytes : goal.invariant-loop-bytes
invariant-loop-bytes g l = let input = g.S.Source in record {
  taken : input.left l.initial.input ≡ option_map (λ rest. l.bytes.items ++ rest) (input.left l.input);
  short : length l.bytes.items < file_limit;
  no_fault : input.faults l.input ≡ input.faults l.initial.input;
}

abbrev pub decreases-loop-bytes : goal.decreases-loop-bytes
decreases-loop-bytes g l = file_limit - length l.bytes.items
