use Rattle.std.proofs.Common.{◌∙◌, Err, List, Result, ap, refl, rules, subst, sym}
use Rattle.std.specs.Option.{option_copied}
use Rattle.std.proofs.lemmas.Result.{err_from_is_err_and}
use Rattle.pl_base.specs.declared.view.View.{View}
use Rattle.pl_base.specs.Rows.{Kept, store_of}
use Rattle.pl_step.specs.declared.command.Command.TheVariants.{Untag as UntagCommand}
use Rattle.pl_step.specs.declared.step_error.StepError.{StepError}
use Rattle.pl_step.specs.Step.{perform}
use Rattle.pl_tree.specs.declared.error.TreeError.{TreeError}
use Rattle.pl_tree.specs.Tagged.{untagged_items}
use Rattle.pl_history.specs.Addresses.{HaveAddresses}
use Rattle.pl_history.proofs.GoodRows.{items_of}
use Rattle.pl_history.proofs.KnownPage.{has_known, known}
use Rattle.pl_done.specs.declared.done.Done.{Done}
use Rattle.pl_done.specs.Performed.{Performs}
use Rattle.pl_done.proofs.FoundPages.{known_target, no_page_found}
use Rattle.pl_done.proofs.KnownAddresses.{addresses_with_items}
use Rattle.pl_editing.proofs.ItemChanges.{untagged_came}
use Rattle.pl_editing.proofs.Untagged.{untagged_settled}
use Rattle.pl_editing.proofs.UntagStep.{untag_absent, untag_done, untag_stops}
use Rattle.pl_editing.proofs.tags.untag.Goals as goal

pub returns-in_default : goal.returns-in_default
returns-in_default g c =
    let kept : Kept = g.R.Rows.kept c.args.rows.now in
    record {
      performs = λ limit. (
        refl,
        untag_absent limit (store_of kept) c.args.url.now c.args.name.now
            (no_page_found (store_of kept) c.args.known.now.views.items c.args.url.now c.text.result.now
            (option_copied c.find.result) c.requires.knows.views c.text.ensures.value c.find.ensures
            (ap option_copied c.in_default.is)),
      );
    }

pub returns-in_err-untag : goal.returns-in_err-untag
returns-in_err-untag g c =
    let kept : Kept = g.R.Rows.kept c.args.rows.now in
    let p = err_from_is_err_and c.from_residual.result c.from_residual.ensures.1 in
    record {
      performs = λ limit. subst (λ (r : Result Done StepError). Performs g.R.Rows.kept g.R.Rows.base
          (perform limit (store_of kept) (UntagCommand c.args.url.now c.args.name.now)) c.args.rows.now
          c.untag.new.rows c.args.known.now r)
          (sym (p.1 ∙ ap (λ (e : StepError). Err e) p.2))
          (untag_stops g.R.Rows.kept g.R.Rows.base limit c.args.rows.now c.untag.new.rows c.args.known.now
          c.args.url.now c.args.name.now c.in-Some.view.now.id c.in_err-untag.field-0.0
          (known_target kept c.args.known.now.views.items c.args.url.now c.text.result.now
          (option_copied c.find.result) c.in-Some.view.now c.requires.knows.views c.text.ensures.value
          c.find.ensures (ap option_copied c.in-Some.is))
          (λ refusal same. c.untag.ensures.refused refusal
          (c.in_err-untag.was ∙ ap (λ (e : TreeError). Err e) same)));
    }

pub settle_all-requires-clause-settled : goal.settle_all-requires-clause-settled
settle_all-requires-clause-settled g c =
    let kept : Kept = g.R.Rows.kept c.args.rows.now in
    untagged_settled kept (g.R.Rows.kept c.untag.new.rows) c.in-Some.view.now.id c.args.name.now
    (g.met.R.Rows.well_kept c.args.rows.now) c.requires.sound
    (has_known kept c.args.url.now c.in-Some.view.now.id
    (known kept c.args.url.now c.in-Some.view.now.id
    (known_target kept c.args.known.now.views.items c.args.url.now c.text.result.now
    (option_copied c.find.result) c.in-Some.view.now c.requires.knows.views c.text.ensures.value
    c.find.ensures (ap option_copied c.in-Some.is))))
    c.in_ok-untag.ensures.kept c.in_ok-untag.ensures.good

pub settle_all-requires-clause-views : goal.settle_all-requires-clause-views
settle_all-requires-clause-views g c =
    subst (λ (views : List View). HaveAddresses views (g.R.Rows.kept c.untag.new.rows)) (sym c.deref.ensures.value)
    (addresses_with_items (g.R.Rows.kept c.args.rows.now) (g.R.Rows.kept c.untag.new.rows)
    (untagged_items c.in-Some.view.now.id c.args.name.now (g.R.Rows.kept c.args.rows.now).items) c.args.known.now
    c.requires.knows (g.met.R.Rows.well_kept c.args.rows.now) c.in_ok-untag.ensures.kept)

pub item_changes-requires-clause-came : goal.item_changes-requires-clause-came
item_changes-requires-clause-came g c =
    let old : Kept = g.R.Rows.kept c.args.rows.now in
    untagged_came old (g.R.Rows.kept c.untag.new.rows) (g.R.Rows.kept c.settle_all.new.rows) c.args.known.now
    c.in-Some.view.now.id c.args.name.now (g.met.R.Rows.well_kept c.args.rows.now) c.requires.sound
    c.in_ok-settle_all.ensures.sound (items_of (store_of old) c.requires.sound.good) c.requires.knows
    c.in_ok-untag.ensures.kept c.in_ok-settle_all.ensures.store

pub returns : goal.returns
returns g c =
    let kept : Kept = g.R.Rows.kept c.args.rows.now in
    record {
      performs = λ limit. record {
        step =
            untag_done limit kept (g.R.Rows.kept c.untag.new.rows) (g.R.Rows.kept c.settle_all.new.rows)
            c.args.url.now c.args.name.now c.in-Some.view.now.id
            (known_target kept c.args.known.now.views.items c.args.url.now c.text.result.now
            (option_copied c.find.result) c.in-Some.view.now c.requires.knows.views c.text.ensures.value
            c.find.ensures (ap option_copied c.in-Some.is))
            c.in_ok-untag.ensures.allowed c.in_ok-untag.ensures.kept c.in_ok-settle_all.ensures.store;
        accepted = search rules;
        sound = c.in_ok-settle_all.ensures.sound;
        base = search rules;
        leads = c.in_ok-changes.ensures;
      };
    }
