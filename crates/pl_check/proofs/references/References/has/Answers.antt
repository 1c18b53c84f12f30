use Rattle.std.proofs.Common.{◌∙◌, ◌==◌, ap}
use Rattle.std.specs.List.{list_any}
use Rattle.pl_check.proofs.references.References.has.Goals as goal

pub returns : goal.returns
returns c = λ items are.
    c.has.ensures ∙ ap (list_any (λ n. n == c.args.page.0)) c.self.view_is ∙ are c.args.page
