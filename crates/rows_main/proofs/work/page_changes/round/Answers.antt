use Rattle.std.proofs.Common.{◌∙◌, None, ap, arith, subst, List, ℕ}
use Rattle.pl_base.specs.Rows.{WithPageIn, store_of}
use Rattle.pl_base.specs.Visiting.{find_page}
use Rattle.pl_history.proofs.Targets.{absent}
use Rattle.rows_main.proofs.PageBack.{room_page, still_new}
use Rattle.rows_main.proofs.work.page_changes.round.Goals as goal

pub insert_page-requires-clause-absent : goal.insert_page-requires-clause-absent
insert_page-requires-clause-absent g c =
    absent (g.R.Rows.kept c.args.rows.now) c.text-text.result.now
    (ap (λ (url : List ℕ). find_page url (store_of (g.R.Rows.kept c.args.rows.now)).pages) c.text-text.ensures.value
    ∙ c.requires.new.0)

pub insert_page-requires-clause-live : goal.insert_page-requires-clause-live
insert_page-requires-clause-live g c =
    room_page (g.R.Rows.kept c.args.rows.now) c.text-text.result.now
    (omega (arith, c.in_ok-with_room.ensures, c.chunks.ensures))

pub returns : goal.returns
returns g c =
    record {
      new =
          still_new (g.R.Rows.kept c.args.rows.now) (g.R.Rows.kept c.insert_page.new.self)
          (g.R.Rows.kept c.remove_page.new.self) c.args.url.now c.in_ok-page.page
          (g.met.R.Rows.well_kept c.args.rows.now) c.in_ok-page.ensures.page
          (subst (λ (url : List ℕ).
          WithPageIn url None (g.R.Rows.kept c.args.rows.now) (g.R.Rows.kept c.insert_page.new.self))
          c.text-text.ensures.value c.in_ok-page.ensures.kept)
          c.remove_page.ensures.kept c.requires.new;
    }
