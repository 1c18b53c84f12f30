use Rattle.std.proofs.Common.{◌∙◌, Err, ap, refl, sym}
use Rattle.std.proofs.lemmas.Result.{err_from_is_err_and}
use Rattle.pl_base.specs.Address.{record_of}
use Rattle.pl_base.specs.Rows.{store_of}
use Rattle.pl_base.specs.Totals.{scored_pages}
use Rattle.pl_base.specs.Visiting.{find_page}
use Rattle.pl_bar.specs.Filled.{filled}
use Rattle.pl_place.specs.Canonical.{canonical}
use Rattle.pl_step.specs.declared.command.Command.TheVariants.{Bar as BarCommand, Fill as FillCommand}
use Rattle.pl_step.specs.declared.command.Command.TheVariants.{List as ListCommand, Origin as OriginCommand}
use Rattle.pl_step.specs.declared.command.Command.TheVariants.{Page as PageCommand, Place as PlaceCommand}
use Rattle.pl_step.specs.declared.command.Command.TheVariants.{Query as QueryCommand, Stats as StatsCommand}
use Rattle.pl_step.specs.declared.reply.Reply.TheVariants.{Place as PlaceReply}
use Rattle.pl_step.specs.declared.step_error.StepError.{StepError}
use Rattle.pl_step.specs.Refused.{is_refused}
use Rattle.pl_step.specs.Step.{bar_reply, group_reply, list_reply, perform, query_reply, stats_reply, told_origin}
use Rattle.pl_step.specs.Step.{told_page}
use Rattle.pl_tree.specs.Refused.{folder_refusal}
use Rattle.pl_engine.proofs.Reading.{group_said, is_refusal, is_said, store_stays}
use Rattle.pl_engine.proofs.perform.perform.Goals as goal

pub returns-in-Day-clause-performs : goal.returns-in-Day-clause-performs
returns-in-Day-clause-performs g c = rw c.in-Day.is (c.day.ensures.performs c.args.limit)

pub returns-in-Day-clause-reads : goal.returns-in-Day-clause-reads
returns-in-Day-clause-reads g c = rw c.in-Day.is c.day.ensures.cost

pub returns-in-Visit-clause-performs : goal.returns-in-Visit-clause-performs
returns-in-Visit-clause-performs g c = rw c.in-Visit.is c.visit.ensures.performs

pub returns-in-Title-clause-performs : goal.returns-in-Title-clause-performs
returns-in-Title-clause-performs g c = rw c.in-Title.is c.title.ensures.performs

pub returns-in-Title-clause-idle : goal.returns-in-Title-clause-idle
returns-in-Title-clause-idle g c = rw c.in-Title.is c.title.ensures.same

pub returns-in-Unvisit-clause-performs : goal.returns-in-Unvisit-clause-performs
returns-in-Unvisit-clause-performs g c = rw c.in-Unvisit.is (c.unvisit.ensures.performs c.args.limit)

pub returns-in-Forget-clause-performs : goal.returns-in-Forget-clause-performs
returns-in-Forget-clause-performs g c = rw c.in-Forget.is (c.forget.ensures.performs c.args.limit)

pub returns-in-Expire-clause-performs : goal.returns-in-Expire-clause-performs
returns-in-Expire-clause-performs g c = rw c.in-Expire.is (c.expire.ensures.performs c.args.limit)

pub returns-in-Trim-clause-performs : goal.returns-in-Trim-clause-performs
returns-in-Trim-clause-performs g c = rw c.in-Trim.is (c.trim.ensures.performs c.args.limit)

pub returns-in-Folder-clause-performs : goal.returns-in-Folder-clause-performs
returns-in-Folder-clause-performs g c = rw c.in-Folder.is c.folder.ensures.performs

pub returns-in-Bookmark-clause-performs : goal.returns-in-Bookmark-clause-performs
returns-in-Bookmark-clause-performs g c = rw c.in-Bookmark.is c.bookmark.ensures.performs

pub returns-in-Separator-clause-performs : goal.returns-in-Separator-clause-performs
returns-in-Separator-clause-performs g c = rw c.in-Separator.is c.separator.ensures.performs

pub returns-in-Move-clause-performs : goal.returns-in-Move-clause-performs
returns-in-Move-clause-performs g c = rw c.in-Move.is (c.move_item.ensures.performs c.args.limit)

pub returns-in-Retitle-clause-performs : goal.returns-in-Retitle-clause-performs
returns-in-Retitle-clause-performs g c = rw c.in-Retitle.is c.retitle.ensures.performs

pub returns-in-Remove-clause-performs : goal.returns-in-Remove-clause-performs
returns-in-Remove-clause-performs g c = rw c.in-Remove.is (c.remove.ensures.performs c.args.limit)

pub returns-in-Tag-clause-performs : goal.returns-in-Tag-clause-performs
returns-in-Tag-clause-performs g c = rw c.in-Tag.is c.tag.ensures.performs

pub returns-in-Untag-clause-performs : goal.returns-in-Untag-clause-performs
returns-in-Untag-clause-performs g c = rw c.in-Untag.is (c.untag.ensures.performs c.args.limit)

pub returns-in_err-origin-in-Origin-clause-performs : goal.returns-in_err-origin-in-Origin-clause-performs
returns-in_err-origin-in-Origin-clause-performs g c =
    let error =
    err_from_is_err_and c.from_residual-in_err-origin-in-Origin.result
    c.from_residual-in_err-origin-in-Origin.ensures.1 in
    is_refusal g.R.Rows.kept g.R.Rows.base c.args.rows.now c.args.known.now
    (told_origin (scored_pages (store_of (g.R.Rows.kept c.args.rows.now))) (record_of c.in-Origin.url))
    (perform c.args.limit (store_of (g.R.Rows.kept c.args.rows.now)) c.args.command.now)
    c.in_err-origin-in-Origin.field-0.0 c.from_residual-in_err-origin-in-Origin.result
    (error.1 ∙ ap (λ (e : StepError). Err e) error.2)
    (c.in_err-origin-in-Origin.ensures (store_of (g.R.Rows.kept c.args.rows.now)) c.requires.knows)
    (ap (perform c.args.limit (store_of (g.R.Rows.kept c.args.rows.now))) (sym c.in-Origin.is))

pub returns-in_err-list-in-List-clause-performs : goal.returns-in_err-list-in-List-clause-performs
returns-in_err-list-in-List-clause-performs g c =
    let error =
    err_from_is_err_and c.from_residual-in_err-list-in-List.result
    c.from_residual-in_err-list-in-List.ensures.1 in
    is_refusal g.R.Rows.kept g.R.Rows.base c.args.rows.now c.args.known.now
    (perform c.args.limit (store_of (g.R.Rows.kept c.args.rows.now)) (ListCommand c.in-List.item)).0
    (perform c.args.limit (store_of (g.R.Rows.kept c.args.rows.now)) c.args.command.now)
    c.in_err-list-in-List.field-0.0 c.from_residual-in_err-list-in-List.result
    (error.1 ∙ ap (λ (e : StepError). Err e) error.2) (c.in_err-list-in-List.ensures c.args.limit)
    ((store_stays (folder_refusal (g.R.Rows.kept c.args.rows.now).items c.in-List.item)
    (store_of (g.R.Rows.kept c.args.rows.now)) (list_reply (store_of (g.R.Rows.kept c.args.rows.now)) c.in-List.item))
    ∙ ap (perform c.args.limit (store_of (g.R.Rows.kept c.args.rows.now))) (sym c.in-List.is))

pub returns-in_ok-page-in-Page-clause-performs : goal.returns-in_ok-page-in-Page-clause-performs
returns-in_ok-page-in-Page-clause-performs g c =
    rw c.in-Page.is
    (is_said g.R.Rows.kept g.R.Rows.base c.args.rows.now c.args.known.now
    (told_page (store_of (g.R.Rows.kept c.args.rows.now)) (find_page c.in-Page.url ((store_of (g.R.Rows.kept
    c.args.rows.now))).pages))
    (perform c.args.limit (store_of (g.R.Rows.kept c.args.rows.now)) (PageCommand c.in-Page.url))
    c.in_ok-page-in-Page.field-0
    c.told.result c.requires.sound c.requires.knows c.told.ensures.reply c.told.ensures.leads
    (c.in_ok-page-in-Page.ensures (store_of (g.R.Rows.kept c.args.rows.now)) c.requires.knows)
    refl)

pub returns-in_ok-origin-in-Origin-clause-performs : goal.returns-in_ok-origin-in-Origin-clause-performs
returns-in_ok-origin-in-Origin-clause-performs g c =
    rw c.in-Origin.is
    (is_said g.R.Rows.kept g.R.Rows.base c.args.rows.now c.args.known.now
    (told_origin (scored_pages (store_of (g.R.Rows.kept c.args.rows.now))) (record_of c.in-Origin.url))
    (perform c.args.limit (store_of (g.R.Rows.kept c.args.rows.now)) (OriginCommand c.in-Origin.url))
    c.in_ok-origin-in-Origin.field-0
    c.told-in-Origin.result c.requires.sound c.requires.knows c.told-in-Origin.ensures.reply
    c.told-in-Origin.ensures.leads
    (c.in_ok-origin-in-Origin.ensures (store_of (g.R.Rows.kept c.args.rows.now)) c.requires.knows)
    refl)

pub returns-in_ok-list-in-List-clause-performs : goal.returns-in_ok-list-in-List-clause-performs
returns-in_ok-list-in-List-clause-performs g c =
    rw c.in-List.is
    (is_said g.R.Rows.kept g.R.Rows.base c.args.rows.now c.args.known.now
    (perform c.args.limit (store_of (g.R.Rows.kept c.args.rows.now)) (ListCommand c.in-List.item)).0
    (perform c.args.limit (store_of (g.R.Rows.kept c.args.rows.now)) (ListCommand c.in-List.item))
    c.in_ok-list-in-List.field-0
    c.told-in-List.result c.requires.sound c.requires.knows c.told-in-List.ensures.reply c.told-in-List.ensures.leads
    (c.in_ok-list-in-List.ensures c.args.limit)
    (store_stays (folder_refusal (g.R.Rows.kept c.args.rows.now).items c.in-List.item)
    (store_of (g.R.Rows.kept c.args.rows.now)) (list_reply (store_of (g.R.Rows.kept c.args.rows.now)) c.in-List.item)))

pub returns-in_ok-fill-in-Fill-clause-performs : goal.returns-in_ok-fill-in-Fill-clause-performs
returns-in_ok-fill-in-Fill-clause-performs g c =
    rw c.in-Fill.is
    (is_said g.R.Rows.kept g.R.Rows.base c.args.rows.now c.args.known.now
    (group_reply (filled (scored_pages (store_of (g.R.Rows.kept c.args.rows.now))) c.in-Fill.text))
    (perform c.args.limit (store_of (g.R.Rows.kept c.args.rows.now)) (FillCommand c.in-Fill.text))
    c.in_ok-fill-in-Fill.field-0
    c.told-in-Fill.result c.requires.sound c.requires.knows c.told-in-Fill.ensures.reply c.told-in-Fill.ensures.leads (
      (c.in_ok-fill-in-Fill.ensures (store_of (g.R.Rows.kept c.args.rows.now)) c.requires.knows),
      ap is_refused (c.in_ok-fill-in-Fill.ensures (store_of (g.R.Rows.kept c.args.rows.now)) c.requires.knows)
          ∙ group_said (filled (scored_pages (store_of (g.R.Rows.kept c.args.rows.now))) c.in-Fill.text),
    )
    refl)

pub returns-in-Stats-clause-performs : goal.returns-in-Stats-clause-performs
returns-in-Stats-clause-performs g c =
    rw c.in-Stats.is
    (is_said g.R.Rows.kept g.R.Rows.base c.args.rows.now c.args.known.now
    (stats_reply (store_of (g.R.Rows.kept c.args.rows.now)))
    (perform c.args.limit (store_of (g.R.Rows.kept c.args.rows.now)) StatsCommand)
    c.stats.result c.told-in-Stats.result c.requires.sound c.requires.knows c.told-in-Stats.ensures.reply c.told-in-Stats.ensures.leads
    (c.stats.ensures, ap is_refused c.stats.ensures)
    refl)

pub returns-in_ok-query-in-Query-clause-performs : goal.returns-in_ok-query-in-Query-clause-performs
returns-in_ok-query-in-Query-clause-performs g c =
    rw c.in-Query.is
    (is_said g.R.Rows.kept g.R.Rows.base c.args.rows.now c.args.known.now
    (query_reply (store_of (g.R.Rows.kept c.args.rows.now)) c.in-Query.asked)
    (perform c.args.limit (store_of (g.R.Rows.kept c.args.rows.now)) (QueryCommand c.in-Query.asked))
    c.in_ok-query-in-Query.field-0 c.told-in-Query.result c.requires.sound c.requires.knows c.told-in-Query.ensures.reply c.told-in-Query.ensures.leads
    (c.in_ok-query-in-Query.ensures, ap is_refused c.in_ok-query-in-Query.ensures)
    refl)

pub returns-in_ok-place-in-Place-clause-performs : goal.returns-in_ok-place-in-Place-clause-performs
returns-in_ok-place-in-Place-clause-performs g c =
    rw c.in-Place.is
    (is_said g.R.Rows.kept g.R.Rows.base c.args.rows.now c.args.known.now
    (PlaceReply (canonical c.in-Place.query))
    (perform c.args.limit (store_of (g.R.Rows.kept c.args.rows.now)) (PlaceCommand c.in-Place.query))
    c.in_ok-place-in-Place.field-0 c.told-in-Place.result c.requires.sound c.requires.knows c.told-in-Place.ensures.reply c.told-in-Place.ensures.leads
    (c.in_ok-place-in-Place.ensures, ap is_refused c.in_ok-place-in-Place.ensures)
    refl)

pub returns-in_ok-bar-in-Bar-clause-performs : goal.returns-in_ok-bar-in-Bar-clause-performs
returns-in_ok-bar-in-Bar-clause-performs g c =
    rw c.in-Bar.is
    (is_said g.R.Rows.kept g.R.Rows.base c.args.rows.now c.args.known.now
    (bar_reply (store_of (g.R.Rows.kept c.args.rows.now)) c.in-Bar.max c.in-Bar.text)
    (perform c.args.limit (store_of (g.R.Rows.kept c.args.rows.now)) (BarCommand c.in-Bar.max c.in-Bar.text))
    c.in_ok-bar-in-Bar.field-0 c.told-in-Bar.result c.requires.sound c.requires.knows c.told-in-Bar.ensures.reply c.told-in-Bar.ensures.leads
    (c.in_ok-bar-in-Bar.ensures, ap is_refused c.in_ok-bar-in-Bar.ensures)
    refl)
