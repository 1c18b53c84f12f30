use Rattle.std.proofs.Common.{◌==◌}
use Rattle.pl_base.specs.Rows.{KeptPage}
use Rattle.pl_plain.specs.FlatRows.{page_of}
use Rattle.pl_plain.proofs.Lookups.{found-some, found-there}
use Rattle.pl_plain.proofs.Searches.{pages_ascend}
use Rattle.pl_plain.proofs.flat.rows.FlatRows.origin_of.Goals as goal

pub find_page-requires : goal.find_page-requires
find_page-requires g c =
    pages_ascend c.args.self.now.pages.items c.deref.result.now c.args.self.now.rows.page_ids.ascending
    c.deref.ensures.value

pub unwrap-requires : goal.unwrap-requires
unwrap-requires g c =
    found-there (λ (p : KeptPage). p.page.id.0 == c.args.page.0) page_of c.args.self.now.pages.items c.deref.result.now
    c.find_page.result c.find_page.ensures c.deref.ensures.value c.requires

pub returns-clause-origin : goal.returns-clause-origin
returns-clause-origin g c =
    found-some (λ (p : KeptPage). p.page.id.0 == c.args.page.0) page_of (λ (p : KeptPage). p.origin)
    c.args.self.now.pages.items c.deref.result.now c.find_page.result c.unwrap.result c.unwrap.ensures
    c.find_page.ensures c.deref.ensures.value
