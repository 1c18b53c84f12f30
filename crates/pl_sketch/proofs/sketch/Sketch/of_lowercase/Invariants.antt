use Rattle.std.proofs.Common.{◌≡◌, map, take}
use Rattle.std.specs.Char.{to_ascii_lowercase}
use Rattle.pl_sketch.specs.Pairs.{sketch_of}
use Rattle.pl_sketch.proofs.sketch.Sketch.of_lowercase.Given as goal

abbrev pub invariant-loop-place : goal.invariant-loop-place
invariant-loop-place l = l.sketch ≡ sketch_of (take l.place (map to_ascii_lowercase l.bytes))
