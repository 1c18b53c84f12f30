use Rattle.std.proofs.Common.{◌∙◌, ap, map, sym}
use Rattle.std.specs.Char.{to_ascii_lowercase}
use Rattle.pl_words.proofs.AsciiFolds.{folded_ascii}
use Rattle.pl_words.proofs.folds.fold.Goals as goal

pub returns-then-is_ascii : goal.returns-then-is_ascii
returns-then-is_ascii c =
    c.from.ensures ∙ c.make_ascii_lowercase.ensures.bytes
    ∙ ap (map to_ascii_lowercase) c.in_ok-lower.ensures.ok
    ∙ sym (folded_ascii c.args.text.now c.if-is_ascii.ensures.cases)
