use Rattle.std.proofs.Common.{◌∙◌, ap, sym}
use Rattle.std.specs.Option.{option_and_then}
use Rattle.pl_base.specs.Rows.{store_of}
use Rattle.pl_base.specs.Store.{page_url}
use Rattle.pl_history.proofs.PagesTold.{url_told}
use Rattle.pl_told.proofs.children.page_url.Goals as goal

pub returns : goal.returns
returns g c =
    url_told (g.R.Rows.kept c.args.rows.now) c.in-Some.page c.in_ok-url.field-0 c.in_ok-url.ensures.url
    ∙ sym (ap (option_and_then (page_url (store_of (g.R.Rows.kept c.args.rows.now)))) c.in-Some.is)
