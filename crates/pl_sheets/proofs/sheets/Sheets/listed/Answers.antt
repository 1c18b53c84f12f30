use Rattle.std.proofs.Common.{◌∙◌, ap, arith, false, get_or, length, subst, sym}
use Rattle.pl_sheets.specs.Marks.{IsFirst}
use Rattle.pl_sheets.specs.Sheets.{Pages}
use Rattle.pl_sheets.proofs.Flags.{true_within}
use Rattle.pl_sheets.proofs.Listing.{all_listed, next_above, next_listed}
use Rattle.pl_sheets.proofs.PagesLaws.{length-image}
use Rattle.pl_sheets.proofs.sheets.Sheets.listed.Goals as goal

pub push-requires-clause-above : goal.push-requires-clause-above
push-requires-clause-above c =
    next_above c.loop-page.from c.in-Some.page c.args.self.now c.loop-page.change c.pages.ensures.kept.gate
    c.loop-page.invariant.listed
    (subst (λ flags. IsFirst (λ n. get_or flags n false) c.loop-page.from c.in-Some.page)
    (ap (λ (pages : Pages). pages.changed) c.self.view_is) c.in-Some.ensures.first)

pub push-requires-clause-whole : goal.push-requires-clause-whole
push-requires-clause-whole c =
    ap length c.image.ensures
    ∙ length-image c.in-Some.page c.args.self.now c.pages.ensures.kept
    (true_within c.args.self.now.changed c.in-Some.page
    (sym (ap (λ (pages : Pages). get_or pages.changed c.in-Some.page false) c.self.view_is)
    ∙ c.in-Some.ensures.first.found))

pub loop-page-preserved : goal.loop-page-preserved
loop-page-preserved c =
    record {
      listed =
          next_listed c.loop-page.from c.in-Some.page c.image.result.now c.args.self.now c.loop-page.change
          c.push.new.self c.loop-page.invariant.listed
          (subst (λ flags. IsFirst (λ n. get_or flags n false) c.loop-page.from c.in-Some.page)
          (ap (λ (pages : Pages). pages.changed) c.self.view_is) c.in-Some.ensures.first)
          c.image.ensures c.in_ok-push.ensures.ok;
      within =
          omega (
            arith,
            true_within c.args.self.now.changed c.in-Some.page
                (sym (ap (λ (pages : Pages). get_or pages.changed c.in-Some.page false) c.self.view_is)
                ∙ c.in-Some.ensures.first.found),
          );
    }

pub returns : goal.returns
returns c =
    all_listed c.loop-page.from c.args.self.now c.loop-page.change c.loop-page.invariant.listed
    c.loop-page.invariant.within
    (λ k above. sym (ap (λ (pages : Pages). get_or pages.changed k false) c.self.view_is)
    ∙ c.in_default.ensures.first k above)
