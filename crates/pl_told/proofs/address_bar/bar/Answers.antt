use Rattle.std.proofs.Common.{◌∙◌, ◌∷◌, List, ap, subst, sym}
use Rattle.std.specs.List.{AllByRecursion, filter_map}
use Rattle.std.proofs.lemmas.List.{map-id}
use Rattle.std.proofs.lemmas.Iterator.Adapters.{YieldsList-from_vec}
use Rattle.std.proofs.lemmas.Iterator.Consumers.{YieldsList-end}
use Rattle.pl_base.specs.declared.id.PageId.{PageId}
use Rattle.pl_base.specs.Rows.{Kept, store_of}
use Rattle.pl_step.specs.declared.reply.Reply.TheVariants.{Bar}
use Rattle.pl_step.specs.Step.{bar_reply}
use Rattle.pl_told.proofs.Offered.{IsThere, offered_there, row_at, row_more, rows_offered}
use Rattle.pl_told.proofs.address_bar.bar.Goals as goal

pub answer-requires-clause-following : goal.answer-requires-clause-following
answer-requires-clause-following g c =
    record {
      views = c.args.known.now.views.items;
      told = c.requires.knows.views;
      ordered = c.requires.knows.followed.ranks;
      kept = c.requires.knows.followed.texts;
    }

pub loop-page-init : goal.loop-page-init
loop-page-init g c =
    let kept : Kept = g.R.Rows.kept c.args.rows.now in
    record {
      there = subst (AllByRecursion (IsThere kept)) (sym c.into_iter-page-iterator.ensures.into_iter_gives.0)
          (offered_there kept c.as_str.result.now c.args.max c.in_ok-pages.pages.items
          (g.met.R.Rows.well_kept c.args.rows.now) c.in_ok-pages.ensures.offered);
      told = c.new-offered.ensures.items;
    }

pub bar_row-requires-clause-page : goal.bar_row-requires-clause-page
bar_row-requires-clause-page g c =
    (subst (AllByRecursion (IsThere (g.R.Rows.kept c.args.rows.now))) c.in-Some.ensures.steps.0
    c.loop-page.invariant.there).0

pub loop-page-preserved : goal.loop-page-preserved
loop-page-preserved g c =
    let kept : Kept = g.R.Rows.kept c.args.rows.now in
    let there : AllByRecursion (IsThere kept) (c.in-Some.page ∷ c.next.new.self.rest.items) =
    subst (AllByRecursion (IsThere kept)) c.in-Some.ensures.steps.0 c.loop-page.invariant.there in
    record {
      there = there.1;
      told = row_more kept c.loop-page.offered.items c.push.new.self.items c.loop-page.yielded c.in-Some.page
          c.in_ok-bar_row.field-0 there.0 c.in_ok-push.ensures.items c.in_ok-bar_row.ensures c.loop-page.invariant.told;
    }

pub returns : goal.returns
returns g c =
    let kept : Kept = g.R.Rows.kept c.args.rows.now in
    let ids : List PageId = c.in_ok-pages.pages.items in
    let gives = c.into_iter-page-iterator.ensures.into_iter_gives in
    let all =
    YieldsList-end (YieldsList-from_vec ids gives.0 (gives.1 ∙ c.in_ok-pages.pages.ok.0)) c.loop-page.yielded
    c.loop-page.page-iterator c.loop-page.yielded_by c.next.result c.next.new.self c.in-None.is c.next.ensures.steps in
    ap Bar (c.from.ensures
    ∙ c.loop-page.invariant.told
    ∙ ap (filter_map (row_at kept)) (sym (map-id c.loop-page.yielded) ∙ all.0)
    ∙ rows_offered kept c.as_str.result.now c.args.max ids (g.met.R.Rows.well_kept c.args.rows.now)
    c.in_ok-pages.ensures.offered)
    ∙ ap (bar_reply (store_of kept) c.args.max) c.as_str.ensures
