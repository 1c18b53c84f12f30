use Rattle.std.proofs.Common.{◌∙◌, rules, sym}
use Rattle.std.proofs.lemmas.Fn.{filter_same}
use Rattle.pl_known.proofs.InPasses.{all_stay_there}
use Rattle.pl_known.proofs.views.drop_views.Goals as goal

pub returns-then-some_go : goal.returns-then-some_go
returns-then-some_go c = filter_same _ _ _ (λ x b f called. search rules) _ _ c.retain.ensures.filtered

pub returns-else-some_go : goal.returns-else-some_go
returns-else-some_go c =
    sym (all_stay_there c.args.changes.now c.args.views.now.items (sym c.some_go.ensures ∙ c.if-some_go.false))
