use Rattle.std.proofs.Common.{bytes_eq, lit<, rules}
use Rattle.std.proofs.lemmas.Iterator.Search.{any_from_yields_List}
use Rattle.std.proofs.lemmas.Iterator.Splits.{YieldsList-from_str_split}
use Rattle.pl_query.proofs.decided.tags.is_part.Goals as goal

pub returns : goal.returns
returns c =
    any_from_yields_List (bytes_eq c.args.fold.now) _ _ _ c.any.ensures.ran
    (YieldsList-from_str_split {s = c.split.result} 44 c.args.text.now (lit< tt)
    c.split.ensures.text c.split.ensures.has_more c.split.ensures.pattern) (λ x b q k. search rules)
