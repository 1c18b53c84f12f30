use Rattle.std.proofs.Common.{sym, ◌∙◌}
use Rattle.pl_base.specs.Rows.{Kept, target_behind}
use Rattle.pl_base.proofs.TargetsRun.{targets_run}
use Rattle.pl_base.proofs.VisitsRun.{visit_names}
use Rattle.pl_base.proofs.Walk.{nears, stands, starts}
use Rattle.pl_history.proofs.RedirectPages.{ArePagesOf, no_pages, pages_end, pages_go_on, pages_stop, told_here}
use Rattle.pl_history.proofs.removal.push_redirect_pages.Goals as goal

pub loop-next-init : goal.loop-next-init
loop-next-init g c =
    starts visit_names (g.R.Rows.targets c.args.rows.now c.args.visit)
    (ArePagesOf c.args.pages.now.items c.args.pages.now.items) c.first_target-next.result
    c.first_target-next.ensures.first (no_pages c.args.pages.now.items)

pub unwrap-row-requires : goal.unwrap-row-requires
unwrap-row-requires g c =
    told_here (g.R.Rows.kept c.args.rows.now) c.args.visit (g.R.Rows.targets c.args.rows.now)
    (g.met.R.Rows.well_kept c.args.rows.now) (g.met.R.Rows.targeted c.args.rows.now c.args.visit)
    c.args.pages.now.items c.loop-next.pages.items c.in-Some.target
    (stands visit_names (g.R.Rows.targets c.args.rows.now c.args.visit)
    (ArePagesOf c.args.pages.now.items c.loop-next.pages.items) c.loop-next.next c.in-Some.target
    c.loop-next.invariant c.in-Some.is)
    c.visit_at.result c.visit_at.ensures.row

pub returns-then-not-is_redirect : goal.returns-then-not-is_redirect
returns-then-not-is_redirect g c =
    pages_stop (g.R.Rows.kept c.args.rows.now) c.args.visit (g.R.Rows.targets c.args.rows.now)
    c.args.pages.now.items c.loop-next.pages.items c.in-Some.target c.unwrap-row.result
    (g.met.R.Rows.well_kept c.args.rows.now) (g.met.R.Rows.targeted c.args.rows.now c.args.visit)
    (stands visit_names (g.R.Rows.targets c.args.rows.now c.args.visit)
    (ArePagesOf c.args.pages.now.items c.loop-next.pages.items) c.loop-next.next c.in-Some.target
    c.loop-next.invariant c.in-Some.is)
    (sym c.unwrap-row.ensures ∙ c.visit_at.ensures.row)
    (sym c.is_redirect.ensures ∙ c.if-not-is_redirect.true)

pub loop-next-smaller : goal.loop-next-smaller
loop-next-smaller g c =
    let kept : Kept = g.R.Rows.kept c.args.rows.now in
    nears visit_names (target_behind (g.R.Rows.targets c.args.rows.now) kept)
    (g.R.Rows.targets c.args.rows.now c.args.visit) (ArePagesOf c.args.pages.now.items c.loop-next.pages.items)
    c.loop-next.next c.next_target-next.result c.in-Some.target
    (targets_run kept c.args.visit (g.R.Rows.targets c.args.rows.now) (g.met.R.Rows.well_kept c.args.rows.now)
    (g.met.R.Rows.targeted c.args.rows.now c.args.visit))
    (stands visit_names (g.R.Rows.targets c.args.rows.now c.args.visit)
    (ArePagesOf c.args.pages.now.items c.loop-next.pages.items) c.loop-next.next c.in-Some.target
    c.loop-next.invariant c.in-Some.is)
    c.in-Some.is c.next_target-next.ensures.next

pub loop-next-preserved : goal.loop-next-preserved
loop-next-preserved g c =
    pages_go_on (g.R.Rows.kept c.args.rows.now) c.args.visit (g.R.Rows.targets c.args.rows.now)
    (g.met.R.Rows.well_kept c.args.rows.now) (g.met.R.Rows.targeted c.args.rows.now c.args.visit)
    c.args.pages.now.items c.loop-next.pages.items c.in-Some.target
    (stands visit_names (g.R.Rows.targets c.args.rows.now c.args.visit)
    (ArePagesOf c.args.pages.now.items c.loop-next.pages.items) c.loop-next.next c.in-Some.target
    c.loop-next.invariant c.in-Some.is)
    c.push.new.self.items c.unwrap-row.result c.next_target-next.result
    (sym c.unwrap-row.ensures ∙ c.visit_at.ensures.row)
    (sym c.is_redirect.ensures ∙ c.if-not-is_redirect.false)
    c.in_ok-push.ensures.items c.next_target-next.ensures.next

pub returns : goal.returns
returns g c =
    pages_end (g.R.Rows.kept c.args.rows.now) c.args.visit (g.R.Rows.targets c.args.rows.now c.args.visit)
    c.args.pages.now.items c.loop-next.pages.items c.loop-next.next (g.met.R.Rows.well_kept c.args.rows.now)
    (g.met.R.Rows.targeted c.args.rows.now c.args.visit) c.loop-next.invariant
    (λ id some. c.in_default.not-Some id some)
