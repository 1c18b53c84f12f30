use Rattle.std.proofs.Common.{◌≡◌, ◌∙◌, Some, ap, false, sym}
use Rattle.std.proofs.lemmas.List.Elements.{All-from_recursion}
use Rattle.pl_base.specs.Address.{same_origin}
use Rattle.pl_base.specs.Rows.{Kept, KeptPage}
use Rattle.pl_base.proofs.PagesRun.{first_behind, following, has_page_here, page_names, pages_run}
use Rattle.pl_base.proofs.Walk.{ends, goes_on, nears, stands, starts}
use Rattle.trials_trees.proofs.SearchedPages.{NonePasses, origin_found, search_goes_on}
use Rattle.trials_trees.proofs.target.find_origin.Goals as goal

pub loop-next-init : goal.loop-next-init
loop-next-init g c =
    let kept : Kept = g.R.Rows.kept c.args.rows.now in
    let first = c.page_after-next.ensures.next ∙ first_behind kept (g.met.R.Rows.well_kept c.args.rows.now) in
    record {
      at_a_page = starts page_names kept.pages (λ _. Unit {0}) c.page_after-next.result first tt;
      origins_differ =
          λ url has. starts page_names kept.pages (NonePasses (λ text. same_origin text url)) c.page_after-next.result
          first tt;
    }

pub has_origin-requires : goal.has_origin-requires
has_origin-requires g c =
    let kept : Kept = g.R.Rows.kept c.args.rows.now in
    has_page_here kept (λ _. Unit {0}) c.in-Some.page
    (stands page_names kept.pages (λ _. Unit {0}) c.loop-next.next c.in-Some.page c.loop-next.invariant.at_a_page
    c.in-Some.is)

pub origin_of-requires : goal.origin_of-requires
origin_of-requires g c =
    let kept : Kept = g.R.Rows.kept c.args.rows.now in
    has_page_here kept (λ _. Unit {0}) c.in-Some.page
    (stands page_names kept.pages (λ _. Unit {0}) c.loop-next.next c.in-Some.page c.loop-next.invariant.at_a_page
    c.in-Some.is)

pub returns-then-branch : goal.returns-then-branch
returns-then-branch g c url has =
    let kept : Kept = g.R.Rows.kept c.args.rows.now in
    origin_found kept url c.in-Some.page c.origin_of.result (g.met.R.Rows.well_kept c.args.rows.now)
    (stands page_names kept.pages (NonePasses (λ text. same_origin text url)) c.loop-next.next c.in-Some.page
    (c.loop-next.invariant.origins_differ url has) c.in-Some.is)
    (ap Some (sym c.if-branch.true) ∙ c.in_ok-has_origin.ensures url has) c.origin_of.ensures.origin

pub loop-next-smaller : goal.loop-next-smaller
loop-next-smaller g c =
    let kept : Kept = g.R.Rows.kept c.args.rows.now in
    nears page_names (following kept) kept.pages (λ _. Unit {0}) c.loop-next.next c.page_after-next-in-Some.result
    c.in-Some.page (pages_run kept (g.met.R.Rows.well_kept c.args.rows.now))
    (stands page_names kept.pages (λ _. Unit {0}) c.loop-next.next c.in-Some.page c.loop-next.invariant.at_a_page
    c.in-Some.is)
    c.in-Some.is c.page_after-next-in-Some.ensures.next

pub loop-next-preserved : goal.loop-next-preserved
loop-next-preserved g c =
    let kept : Kept = g.R.Rows.kept c.args.rows.now in
    let h = g.met.R.Rows.well_kept c.args.rows.now in
    record {
      at_a_page =
          goes_on page_names (following kept) kept.pages (λ _. Unit {0}) (λ _. Unit {0}) c.in-Some.page
          c.page_after-next-in-Some.result (pages_run kept h)
          (stands page_names kept.pages (λ _. Unit {0}) c.loop-next.next c.in-Some.page
          c.loop-next.invariant.at_a_page c.in-Some.is)
          c.page_after-next-in-Some.ensures.next tt;
      origins_differ =
          λ url has. search_goes_on (λ text. same_origin text url) kept c.in-Some.page
          c.page_after-next-in-Some.result h
          (stands page_names kept.pages (NonePasses (λ text. same_origin text url)) c.loop-next.next c.in-Some.page
          (c.loop-next.invariant.origins_differ url has) c.in-Some.is)
          (ap Some (sym c.if-branch.false) ∙ c.in_ok-has_origin.ensures url has)
          c.page_after-next-in-Some.ensures.next;
    }

pub returns : goal.returns
returns g c url has =
    let kept : Kept = g.R.Rows.kept c.args.rows.now in
    All-from_recursion (λ (p : KeptPage). same_origin p.page.url url ≡ false) kept.pages
    (ends page_names kept.pages (NonePasses (λ text. same_origin text url)) c.loop-next.next
    (c.loop-next.invariant.origins_differ url has) (λ id some. c.in_default.not-Some id some))
