use Rattle.std.proofs.Common.{◌≡◌, ◌∙◌, ap, arith, length, refl, subst}
use Rattle.std.proofs.lemmas.Result.{on_ok_weaker}
use Rattle.std.specs.Option.{option_copied, option_map}
use Rattle.pl_base.specs.declared.view.View.{View}
use Rattle.pl_base.specs.Rows.{store_of, with_title}
use Rattle.pl_base.specs.Store.{Store}
use Rattle.pl_base.specs.Title.{cut_title}
use Rattle.pl_base.proofs.TitleCuts.{cut_title-le}
use Rattle.pl_history.specs.declared.find.Target.TheVariants.{Known}
use Rattle.pl_history.specs.Target.{IsTargetOf}
use Rattle.pl_step.specs.declared.reply.Reply.{Reply}
use Rattle.pl_step.specs.Step.{after_title}
use Rattle.pl_done.specs.Performed.{Performs}
use Rattle.pl_done.proofs.FoundPages.{found_id, no_page_found}
use Rattle.pl_visiting.proofs.FoundViews.{found_view}
use Rattle.pl_visiting.proofs.TitleStep.{no_page, same_of, step_of}
use Rattle.pl_visiting.proofs.TitledViews.{page_there, seen, title_there}
use Rattle.pl_visiting.proofs.titles.title.Given.{Over}
use Rattle.pl_visiting.proofs.titles.title.Goals.{After-set_title}
use Rattle.pl_visiting.proofs.titles.title.Goals as goal

pub returns-in_default-clause-performs : goal.returns-in_default-clause-performs
returns-in_default-clause-performs g c = (
  refl,
  no_page c.args.limit (store_of (g.R.Rows.kept c.args.rows.now)) c.args.url.now c.args.text.now
      (no_page_found (store_of (g.R.Rows.kept c.args.rows.now)) c.args.known.now.views.items c.args.url.now
      c.text.result.now (option_copied c.find.result) c.requires.knows.views c.text.ensures.value c.find.ensures
      (ap option_copied c.in_default.is)),
)

pub set_title-requires-clause-page : goal.set_title-requires-clause-page
set_title-requires-clause-page g c =
    page_there (g.R.Rows.kept c.args.rows.now) c.in-Some.view.now
    (seen (g.R.Rows.kept c.args.rows.now) c.args.known.now.views.items c.in-Some.view.now
    (g.met.R.Rows.well_kept c.args.rows.now) c.requires.knows.views
    (found_view _ c.args.known.now.views.items (option_copied c.find.result) c.in-Some.view.now c.find.ensures
    (ap option_copied c.in-Some.is)))

pub set_title-requires-clause-old : goal.set_title-requires-clause-old
set_title-requires-clause-old g c =
    title_there (g.R.Rows.kept c.args.rows.now) c.in-Some.view.now
    (seen (g.R.Rows.kept c.args.rows.now) c.args.known.now.views.items c.in-Some.view.now
    (g.met.R.Rows.well_kept c.args.rows.now) c.requires.knows.views
    (found_view _ c.args.known.now.views.items (option_copied c.find.result) c.in-Some.view.now c.find.ensures
    (ap option_copied c.in-Some.is)))

pub set_title-requires-clause-title : goal.set_title-requires-clause-title
set_title-requires-clause-title g c =
    omega (arith, ap length c.cut_title.ensures, cut_title-le c.as_str.result.now)

-- the page of the view has the URL
the_target : (g : Over) (c : After-set_title g)
    → IsTargetOf (g.R.Rows.kept c.args.rows.now) c.args.url.now (Known c.in-Some.view.now.id)
the_target g c =
    found_id (store_of (g.R.Rows.kept c.args.rows.now)) c.args.known.now.views.items c.args.url.now c.text.result.now
    (option_copied c.find.result) c.requires.knows.views c.text.ensures.value c.find.ensures
    ∙ ap (λ o. option_map (λ (v : View). v.id) (option_copied o)) c.in-Some.is

pub returns-clause-performs : goal.returns-clause-performs
returns-clause-performs g c =
    subst (λ (outcome : Reply × Store). Performs g.R.Rows.kept g.R.Rows.base outcome c.args.rows.now
    c.set_title.new.rows c.args.known.now c.set_title.result)
    (step_of c.args.limit (g.R.Rows.kept c.args.rows.now) c.args.url.now c.args.text.now c.cut_title.result.now
    c.in-Some.view.now.id (g.met.R.Rows.well_kept c.args.rows.now) (the_target g c)
    (c.cut_title.ensures ∙ ap cut_title c.as_str.ensures))
    (c.set_title.ensures.performs c.args.known.now c.requires.knows
    (found_view _ c.args.known.now.views.items (option_copied c.find.result) c.in-Some.view.now c.find.ensures
    (ap option_copied c.in-Some.is)))

pub returns-clause-same : goal.returns-clause-same
returns-clause-same g c =
    let store : Store = store_of (g.R.Rows.kept c.args.rows.now) in
    on_ok_weaker c.set_title.result
    (λ (same : store_of (with_title c.in-Some.view.now.id c.cut_title.result.now (g.R.Rows.kept c.args.rows.now))
    ≡ store → c.set_title.new.rows ≡ c.args.rows.now)
    (stands : after_title store c.args.url.now c.args.text.now ≡ store).
    same (same_of (g.R.Rows.kept c.args.rows.now) c.args.url.now c.args.text.now c.cut_title.result.now
    c.in-Some.view.now.id (g.met.R.Rows.well_kept c.args.rows.now) (the_target g c)
    (c.cut_title.ensures ∙ ap cut_title c.as_str.ensures) stands))
    c.set_title.ensures.same
