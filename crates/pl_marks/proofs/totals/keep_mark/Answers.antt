use Rattle.std.proofs.Common.{◌==◌, ◌+◌, ◌-◌, ◌^◌, ◌<◌, ◌≤◌, ◌≡◌, ◌∙◌, ap, arith, rules, subst, sym, true, w64}
use Rattle.std.proofs.lemmas.Int.{to_z-of_z}
use Rattle.pl_base.specs.declared.row.Mark.{Mark}
use Rattle.pl_base.specs.Rows.{Kept, KeptPage, has_origin, mark_of}
use Rattle.pl_base.specs.Totals.{share}
use Rattle.pl_base.proofs.LookUps.{found_where}
use Rattle.pl_base.proofs.OriginSums.{origin_named, sums_fit}
use Rattle.pl_marks.proofs.MovedTotals.{sums_moved}
use Rattle.pl_marks.proofs.totals.keep_mark.Goals as goal

pub unwrap-was-requires : goal.unwrap-was-requires
unwrap-was-requires g c =
    found_where (λ (p : KeptPage). p.page.id.0 == c.args.page.0) mark_of (g.R.Rows.kept c.args.rows.now).pages
    c.page_at.result c.requires.page c.page_at.ensures.mark

pub origin_at-total-requires : goal.origin_at-total-requires
origin_at-total-requires g c =
    origin_named (g.R.Rows.kept c.args.rows.now) c.args.page c.origin_of-origin.result
    (g.met.R.Rows.well_kept c.args.rows.now) c.origin_of-origin.ensures.origin

pub overflow_sub-total : goal.overflow_sub-total
overflow_sub-total g c =
    let old : Kept = g.R.Rows.kept c.args.rows.now in
    let was : Mark = c.unwrap-was.result in
    let fit : (share was.frecency ≤ c.origin_at-total.result.total)
    × ((c.origin_at-total.result.total - share was.frecency) + share c.args.mark.frecency < 2 ^ 64) =
    sums_fit old c.args.page c.args.mark was c.origin_of-origin.result c.origin_at-total.result.total
    (g.met.R.Rows.well_kept c.args.rows.now) c.requires.sums (sym c.unwrap-was.ensures ∙ c.page_at.ensures.mark)
    c.origin_of-origin.ensures.origin c.origin_at-total.ensures.total c.requires.small in
    omega (arith, fit.0, c.share.ensures, ap share (to_z-of_z w64 was.frecency (search rules)))

pub overflow_add-total : goal.overflow_add-total
overflow_add-total g c =
    let old : Kept = g.R.Rows.kept c.args.rows.now in
    let was : Mark = c.unwrap-was.result in
    let fit : (share was.frecency ≤ c.origin_at-total.result.total)
    × ((c.origin_at-total.result.total - share was.frecency) + share c.args.mark.frecency < 2 ^ 64) =
    sums_fit old c.args.page c.args.mark was c.origin_of-origin.result c.origin_at-total.result.total
    (g.met.R.Rows.well_kept c.args.rows.now) c.requires.sums (sym c.unwrap-was.ensures ∙ c.page_at.ensures.mark)
    c.origin_of-origin.ensures.origin c.origin_at-total.ensures.total c.requires.small in
    omega (
      arith,
      fit.1,
      c.share.ensures,
      c.share-2.ensures,
      ap share (to_z-of_z w64 was.frecency (search rules)),
      ap share (to_z-of_z w64 c.args.mark.frecency (search rules)),
    )

pub set_total-requires : goal.set_total-requires
set_total-requires g c =
    subst (λ (k : Kept). has_origin k c.origin_of-origin.result ≡ true) (sym c.set_mark.ensures.kept)
    (origin_named (g.R.Rows.kept c.args.rows.now) c.args.page c.origin_of-origin.result
    (g.met.R.Rows.well_kept c.args.rows.now) c.origin_of-origin.ensures.origin)

pub returns-clause-sums : goal.returns-clause-sums
returns-clause-sums g c =
    let was : Mark = c.unwrap-was.result in
    sums_moved (g.R.Rows.kept c.args.rows.now) (g.R.Rows.kept c.set_mark.new.self) (g.R.Rows.kept c.set_total.new.self)
    c.args.page c.args.mark was c.origin_of-origin.result c.origin_at-total.result.total c.share.result
    c.share-2.result (g.met.R.Rows.well_kept c.args.rows.now) c.requires.sums
    (sym c.unwrap-was.ensures ∙ c.page_at.ensures.mark) c.origin_of-origin.ensures.origin
    c.origin_at-total.ensures.total c.requires.small
    (c.share.ensures ∙ ap share (to_z-of_z w64 was.frecency (search rules)))
    (c.share-2.ensures ∙ ap share (to_z-of_z w64 c.args.mark.frecency (search rules))) c.set_mark.ensures.kept
    c.set_total.ensures.kept
