use Rattle.std.proofs.Common.{◌∙◌, ap, sym, refl}
use Rattle.std.specs.Option.{option_copied, option_map}
use Rattle.pl_base.specs.declared.view.View.{View}
use Rattle.pl_base.specs.Rows.{store_of}
use Rattle.pl_base.specs.Visiting.{find_page}
use Rattle.pl_step.specs.Step.{forget_step}
use Rattle.pl_done.proofs.FoundPages.{found_id, no_page_found}
use Rattle.pl_done.proofs.KnownAddresses.{views_told}
use Rattle.pl_visiting.proofs.Removals.{forgets, is_gone}
use Rattle.pl_visiting.proofs.history.forget.Goals as goal

pub returns-in_default : goal.returns-in_default
returns-in_default g c =
    record {
      performs = λ limit. (
        refl,
        ap (forget_step (store_of (g.R.Rows.kept c.args.rows.now)))
            (sym (no_page_found (store_of (g.R.Rows.kept c.args.rows.now)) c.args.known.now.views.items c.args.url.now
            c.text.result.now (option_copied c.find.result) c.requires.knows.views c.text.ensures.value c.find.ensures
            (ap option_copied c.in_default.is))),
      );
    }

pub forget-requires-clause-views : goal.forget-requires-clause-views
forget-requires-clause-views g c =
    views_told (g.R.Rows.kept c.args.rows.now) c.args.known.now c.deref.result.now c.deref.ensures.value
    c.requires.knows (g.met.R.Rows.well_kept c.args.rows.now)

pub returns : goal.returns
returns g c =
    record {
      performs = λ limit.
          is_gone g.R.Rows.kept g.R.Rows.base (forget_step (store_of (g.R.Rows.kept c.args.rows.now))
          (find_page c.args.url.now (store_of (g.R.Rows.kept c.args.rows.now)).pages))
          c.args.rows.now c.forget.new.rows c.args.known.now c.in_ok-removal.removal.went c.in_ok-removed.field-0
          c.in_ok-removed.ensures.reply c.in_ok-removal.ensures.went
          (forgets (g.R.Rows.kept c.args.rows.now) (g.R.Rows.kept c.forget.new.rows) c.args.url.now
          c.in-Some.view.now.id
          (found_id (store_of (g.R.Rows.kept c.args.rows.now)) c.args.known.now.views.items c.args.url.now
          c.text.result.now (option_copied c.find.result) c.requires.knows.views c.text.ensures.value c.find.ensures
          ∙ ap (λ o. option_map (λ (v : View). v.id) (option_copied o)) c.in-Some.is)
          c.in_ok-removal.ensures.store)
          c.in_ok-removal.ensures.sound c.in_ok-removal.ensures.base c.in_ok-removed.ensures.leads;
    }
