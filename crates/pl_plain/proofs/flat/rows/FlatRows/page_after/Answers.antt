use Rattle.std.proofs.Common.{◌∙◌, ap, map, sym}
use Rattle.pl_plain.specs.Flat.{kept_of}
use Rattle.pl_plain.specs.FlatRows.{page_of}
use Rattle.pl_plain.proofs.Lookups.{page_behind-none, page_behind-some}
use Rattle.pl_plain.proofs.Searches.{pages_ascend}
use Rattle.pl_plain.proofs.flat.rows.FlatRows.page_after.Goals as goal

pub behind-requires-in-None : goal.behind-requires-in-None
behind-requires-in-None g c =
    pages_ascend c.args.self.now.pages.items c.deref-in-None.result.now c.args.self.now.rows.page_ids.ascending
    c.deref-in-None.ensures.value

pub behind-requires : goal.behind-requires
behind-requires g c =
    pages_ascend c.args.self.now.pages.items c.deref.result.now c.args.self.now.rows.page_ids.ascending
    c.deref.ensures.value

pub returns-in-Some-clause-next : goal.returns-in-Some-clause-next
returns-in-Some-clause-next g c =
    c.behind.ensures
    ∙ page_behind-some (kept_of c.args.self.now) c.deref.result.now c.args.page c.in-Some.page
    (ap (map page_of) (sym c.deref.ensures.value)) c.in-Some.is

pub returns-in-None-clause-next : goal.returns-in-None-clause-next
returns-in-None-clause-next g c =
    c.behind-in-None.ensures
    ∙ page_behind-none (kept_of c.args.self.now) c.deref-in-None.result.now c.args.page
    (ap (map page_of) (sym c.deref-in-None.ensures.value)) c.in-None.is
