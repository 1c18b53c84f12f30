use Rattle.std.proofs.Common.{◌∙◌, ◌++◌, ap, drop, replicate}
use Rattle.std.proofs.lemmas.List.{length-take-le}
use Rattle.pl_reading.proofs.file.blank_gate.Goals as goal

pub returns : goal.returns
returns c =
    ap (λ front. front ++ drop 1024 c.args.bytes.now)
    (c.fill.ensures.after (λ y is. is)
    ∙ ap (λ n. replicate n 0) (length-take-le 1024 c.args.bytes.now c.requires))
