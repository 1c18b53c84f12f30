use Rattle.std.proofs.Common.{◌∙◌, refl}
use Rattle.pl_keyed.proofs.TagLookups.{enters_new, text_put}
use Rattle.pl_keyed.proofs.tags.Tags.enter_new.Goals as goal

pub returns-clause-tags : goal.returns-clause-tags
returns-clause-tags c =
    λ rows id name k below is same.
    enters_new c.args.self.now _ rows c.args.folds.now id c.args.page name c.args.next k below c.requires.absent is
    same
    (text_put c.args.self.now.folders c.insert.new.self c.in_ok-name.name c.args.folds.now _
    (c.in_ok-name.ensures.ok ∙ c.as_str.ensures) c.in_ok-insert.ensures.updates)
    refl c.in_ok-insert-2.ensures.updates
