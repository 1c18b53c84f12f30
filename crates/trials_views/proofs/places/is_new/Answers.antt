use Rattle.std.proofs.Common.{◌∙◌, ap, arith, sym}
use Rattle.pl_base.proofs.Truths.{is_none_at}
use Rattle.pl_follow.specs.Urls.{id_of_url}
use Rattle.trials_views.proofs.NewUrls.{none_has}
use Rattle.trials_views.proofs.places.is_new.Goals as goal

pub returns : goal.returns
returns c new views indexes =
    none_has c.args.url.now views
    (ap (λ url. id_of_url url views) (sym c.as_str.ensures) ∙ sym (c.find.ensures views indexes)
    ∙ is_none_at c.find.result (grind (arith, new, c.is_none.ensures)))
