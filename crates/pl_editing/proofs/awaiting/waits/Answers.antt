use Rattle.std.proofs.Common.{◌≡◌, ◌∙◌, Bool, Some, ap}
use Rattle.std.proofs.lemmas.Result.{IfOk-weaker}
use Rattle.pl_base.specs.Rows.{KeptPage, page_at, store_of}
use Rattle.pl_keyed.specs.KnownPages.{names}
use Rattle.pl_editing.specs.Waiting as spec
use Rattle.pl_history.proofs.StandingPages.{visited_by_latest}
use Rattle.pl_editing.proofs.WaitingPages.{waits_not, waits_told}
use Rattle.pl_editing.proofs.awaiting.waits.Goals as goal

pub returns-then-is_some : goal.returns-then-is_some
returns-then-is_some g c =
    let kept = g.R.Rows.kept c.args.rows.now in
    record {
      waits =
          λ p at.
          waits_not kept c.args.page c.args.named.now p c.is_some.result at
          (visited_by_latest kept c.args.page c.latest.result c.is_some.result c.latest.ensures.latest c.is_some.ensures)
          c.if-is_some.true;
    }

pub returns : goal.returns
returns g c =
    let kept = g.R.Rows.kept c.args.rows.now in
    let Waits : Bool → Type 0 =
    λ (waits : Bool). (p : KeptPage) → page_at kept c.args.page ≡ Some p
    → waits ≡ spec.waits c.args.named.now (store_of kept) p.page in
    record {
      waits =
          IfOk-weaker c.has.result (λ has. has ≡ names c.args.named.now c.as_str.result.now) Waits
          (λ has is p at.
          waits_told kept c.args.page c.args.named.now p c.as_str.result.now c.is_some.result has
          (g.met.R.Rows.well_kept c.args.rows.now) at
          (visited_by_latest kept c.args.page c.latest.result c.is_some.result c.latest.ensures.latest c.is_some.ensures)
          c.if-is_some.false (ap Some c.as_str.ensures ∙ c.in_ok-url.ensures.url) is) c.has.ensures.has;
    }
