use Rattle.std.proofs.Common.{◌≡◌, ◌∙◌, ◌==◌, List, Some, ap, ℕ}
use Rattle.std.proofs.lemmas.Result.{IfOk-weaker}
use Rattle.pl_base.specs.Rows.{KeptPage, title_of}
use Rattle.pl_plain.specs.Flat.{kept_of}
use Rattle.pl_plain.specs.FlatRows.{page_of}
use Rattle.pl_plain.proofs.Lookups.{found-some, found-there}
use Rattle.pl_plain.proofs.Searches.{pages_ascend}
use Rattle.pl_plain.proofs.flat.rows.FlatRows.title.Goals as goal

pub find_page-requires : goal.find_page-requires
find_page-requires g c =
    pages_ascend c.args.self.now.pages.items c.deref.result.now c.args.self.now.rows.page_ids.ascending
    c.deref.ensures.value

pub unwrap-page-requires : goal.unwrap-page-requires
unwrap-page-requires g c =
    found-there (λ (p : KeptPage). p.page.id.0 == c.args.page.0) page_of c.args.self.now.pages.items c.deref.result.now
    c.find_page.result c.find_page.ensures c.deref.ensures.value c.requires

pub returns : goal.returns
returns g c =
    record {
      title =
          IfOk-weaker c.copied.result (λ (t : List ℕ). t ≡ c.as_str.result.now)
          (λ (t : List ℕ). Some t ≡ title_of (kept_of c.args.self.now) c.args.page)
          (λ t is.
          ap (λ (u : List ℕ). Some u) (is ∙ c.as_str.ensures)
          ∙ found-some (λ (p : KeptPage). p.page.id.0 == c.args.page.0) page_of (λ (p : KeptPage). p.page.title)
          c.args.self.now.pages.items c.deref.result.now c.find_page.result c.unwrap-page.result
          c.unwrap-page.ensures c.find_page.ensures c.deref.ensures.value)
          c.copied.ensures;
    }
