use Rattle.std.proofs.Common.{◌∙◌, false, refl, sym, true}
use Rattle.std.proofs.lemmas.Bool.{OnFalse_at, not-false, not-true}
use Rattle.pl_keyed.proofs.TagLookups.{enters_known, enters_none, folder_row, text_put, told}
use Rattle.pl_keyed.proofs.tags.Tags.enter_folder.Goals as goal

pub returns-then-not-branch-clause-step : goal.returns-then-not-branch-clause-step
returns-then-not-branch-clause-step c =
    λ rows id k is.
    told c.args.self.now rows c.args.folds.now c.args.folder id c.args.page true k c.requires is
    (not-false _ (sym c.in_ok-insert.ensures.added ∙ c.if-not-branch.true))

pub returns-then-not-branch-clause-tags : goal.returns-then-not-branch-clause-tags
returns-then-not-branch-clause-tags c =
    λ rows id name k below is same.
    enters_none c.args.self.now _ rows c.args.folds.now id name c.args.next k same
    (told c.args.self.now rows c.args.folds.now c.args.folder id c.args.page true k c.requires is
    (not-false _ (sym c.in_ok-insert.ensures.added ∙ c.if-not-branch.true)))
    refl refl (OnFalse_at c.if-not-branch.true c.in_ok-insert.ensures.unchanged)

pub returns-clause-step : goal.returns-clause-step
returns-clause-step c =
    λ rows id k is.
    let r = folder_row c.args.self.now rows c.args.folds.now c.args.folder k c.requires in (
      r.0,
      r.1,
      told c.args.self.now rows c.args.folds.now c.args.folder id c.args.page false k c.requires is
          (not-true _ (sym c.in_ok-insert.ensures.added ∙ c.if-not-branch.false)),
      r.2,
    )

pub returns-clause-tags : goal.returns-clause-tags
returns-clause-tags c =
    λ rows id name k below is same.
    enters_known c.args.self.now _ rows c.args.folds.now c.args.folder id c.args.page name c.args.next k c.requires is
    same
    (told c.args.self.now rows c.args.folds.now c.args.folder id c.args.page false k c.requires is
    (not-true _ (sym c.in_ok-insert.ensures.added ∙ c.if-not-branch.false)))
    (text_put c.args.self.now.folders c.insert-2.new.self c.in_ok-name.name c.args.folds.now _
    (c.in_ok-name.ensures.ok ∙ c.as_str.ensures) c.in_ok-insert-2.ensures.updates)
    refl c.in_ok-insert.ensures.updates
