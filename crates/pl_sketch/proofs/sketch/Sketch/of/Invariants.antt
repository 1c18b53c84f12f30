use Rattle.std.proofs.Common.{◌≡◌, take}
use Rattle.pl_sketch.specs.Pairs.{sketch_of}
use Rattle.pl_sketch.proofs.sketch.Sketch.of.Given as goal

abbrev pub invariant-loop-place : goal.invariant-loop-place
invariant-loop-place l = l.sketch ≡ sketch_of (take l.place l.bytes)
