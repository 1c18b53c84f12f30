-- The attribute at the front of a text.
use Rattle.std.proofs.Common.{◌∙◌, List, ℕ, ap}
use Rattle.pl_nbread.specs.Tokens.{ends_name, value_behind}
use Rattle.pl_nbread.proofs.ScanSteps.{name_ends, same_behind}
use Rattle.pl_nbread.proofs.attributes.attribute.Goals as goal

pub returns-clause-value : goal.returns-clause-value
returns-clause-value c =
    c.value_behind.ensures.value
    ∙ ap (λ (text : List ℕ). (value_behind text).what)
    (c.cut.ensures.behind ∙ same_behind _ ends_name name_ends c.args.text.now)

pub returns-clause-behind : goal.returns-clause-behind
returns-clause-behind c =
    c.value_behind.ensures.behind
    ∙ ap (λ (text : List ℕ). (value_behind text).behind)
    (c.cut.ensures.behind ∙ same_behind _ ends_name name_ends c.args.text.now)
