use Rattle.std.proofs.Common.{◌∙◌, ap, arith}
use Rattle.pl_sketch.specs.Pairs.{sketch_of}
use Rattle.pl_sought.proofs.SoughtWords.{word_more}
use Rattle.pl_sought.proofs.words.sketch_of_words.Goals as goal

pub loop-word-preserved : goal.loop-word-preserved
loop-word-preserved c =
    word_more c.args.words.now c.loop-word.word-index c.word-item.result c.loop-word.sketch
    c.of.result c.union-sketch.result (omega arith) c.word-item.is c.loop-word.invariant
    (c.of.ensures ∙ ap sketch_of c.as_str.ensures) c.union-sketch.ensures
