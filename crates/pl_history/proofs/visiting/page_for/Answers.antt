use Rattle.std.proofs.Common.{[], ◌∷◌, subst, ◌∙◌, ap, List, ℕ}
use Rattle.pl_base.specs.Rows.{store_of}
use Rattle.pl_base.specs.Visiting.{find_page}
use Rattle.pl_history.specs.Target.{IsTargetOf}
use Rattle.pl_history.proofs.Targets.{absent}
use Rattle.pl_history.proofs.VisitBears.{bears_none, made_bears}
use Rattle.pl_history.proofs.visiting.page_for.Goals as goal

pub insert_page-requires-clause-absent : goal.insert_page-requires-clause-absent
insert_page-requires-clause-absent g c =
    absent (g.R.Rows.kept c.args.rows.now) c.text.result.now
    (ap (λ (url : List ℕ). find_page url (store_of (g.R.Rows.kept c.args.rows.now)).pages) c.text.ensures.value
    ∙ (subst (IsTargetOf (g.R.Rows.kept c.args.rows.now) c.args.url.now) c.in-New.is c.requires.target).0)

pub returns-in-Known-clause-borne : goal.returns-in-Known-clause-borne
returns-in-Known-clause-borne g c =
    bears_none (c.in-Known.page ∷ []) (g.R.Rows.kept c.args.rows.now) (g.met.R.Rows.well_kept c.args.rows.now)

pub returns-in-New-clause-borne : goal.returns-in-New-clause-borne
returns-in-New-clause-borne g c =
    made_bears c.insert_page.result (g.R.Rows.kept c.args.rows.now) (g.R.Rows.kept c.insert_page.new.self)
    c.text.result.now c.in-New.origin (g.met.R.Rows.well_kept c.args.rows.now) c.insert_page.ensures.page
    c.insert_page.ensures.kept
