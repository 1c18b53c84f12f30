use Rattle.std.proofs.Common.{◌∙◌, ap, sym}
use Rattle.pl_sketch.specs.Pairs.{sketch_of}
use Rattle.pl_words.proofs.AsciiFolds.{folded_ascii}
use Rattle.pl_follow.proofs.entries.folded_sketch.Goals as goal

pub returns-then-is_ascii : goal.returns-then-is_ascii
returns-then-is_ascii c =
    c.of_lowercase.ensures ∙ ap sketch_of (sym (folded_ascii c.args.text.now c.if-is_ascii.ensures.cases))
