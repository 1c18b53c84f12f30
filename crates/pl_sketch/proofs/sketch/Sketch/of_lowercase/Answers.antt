use Rattle.std.proofs.Common.{◌∙◌, ap, map, sym}
use Rattle.std.specs.Char.{to_ascii_lowercase}
use Rattle.pl_sketch.specs.Pairs.{sketch_of}
use Rattle.pl_sketch.proofs.SketchSteps.{goes_on_lowered, no_pair, whole_lowered}
use Rattle.pl_sketch.proofs.sketch.Sketch.of_lowercase.Goals as goal

pub loop-place-init : goal.loop-place-init
loop-place-init c =
    c.new-sketch.ensures ∙ sym (no_pair (map to_ascii_lowercase c.as_bytes-bytes.result.now))

pub loop-place-preserved : goal.loop-place-preserved
loop-place-preserved c =
    goes_on_lowered c.as_bytes-bytes.result.now c.loop-place.place _ _ c.loop-place.sketch c.with-sketch.result
    c.loop-place.auto.place c.loop-place-test.true c.to_ascii_lowercase-first.ensures.value c.to_ascii_lowercase.ensures.value
    c.loop-place.invariant c.with-sketch.ensures

pub returns : goal.returns
returns c =
    c.loop-place.invariant ∙ whole_lowered c.as_bytes-bytes.result.now c.loop-place.place c.loop-place-test.false
    ∙ ap (λ bytes. sketch_of (map to_ascii_lowercase bytes)) c.as_bytes-bytes.ensures.value
