use Rattle.std.proofs.Common.{◌∙◌, ap, refl, sym}
use Rattle.pl_sketch.specs.Pairs.{sketch_of}
use Rattle.pl_sketch.proofs.SketchSteps.{goes_on, no_pair, whole}
use Rattle.pl_sketch.proofs.sketch.Sketch.of.Goals as goal

pub loop-place-init : goal.loop-place-init
loop-place-init c = c.new-sketch.ensures ∙ sym (no_pair c.as_bytes-bytes.result.now)

pub loop-place-preserved : goal.loop-place-preserved
loop-place-preserved c =
    goes_on c.as_bytes-bytes.result.now c.loop-place.place _ _ c.loop-place.sketch c.with-sketch.result
    c.loop-place.auto.place c.loop-place-test.true refl refl c.loop-place.invariant c.with-sketch.ensures

pub returns : goal.returns
returns c =
    c.loop-place.invariant ∙ whole c.as_bytes-bytes.result.now c.loop-place.place c.loop-place-test.false
    ∙ ap sketch_of c.as_bytes-bytes.ensures.value
