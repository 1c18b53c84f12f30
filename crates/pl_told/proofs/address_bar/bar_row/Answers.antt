use Rattle.std.proofs.Common.{◌==◌, ◌∙◌, ℤ, ap, rules, sym, w64}
use Rattle.std.proofs.lemmas.Int.{to_z-of_z}
use Rattle.pl_base.specs.Rows.{KeptPage, mark_of}
use Rattle.pl_base.proofs.LookUps.{found_where}
use Rattle.pl_told.proofs.Offered.{bar_row_with, row_told}
use Rattle.pl_told.proofs.address_bar.bar_row.Goals as goal

pub unwrap-mark-requires : goal.unwrap-mark-requires
unwrap-mark-requires g c =
    found_where (λ (p : KeptPage). p.page.id.0 == c.args.page.0) mark_of (g.R.Rows.kept c.args.rows.now).pages
    c.page_at.result c.requires.page c.page_at.ensures.mark

pub returns : goal.returns
returns g c = λ p at.
    ap (λ (z : ℤ). bar_row_with c.args.page z c.in_ok-url.field-0 c.in_ok-title.field-0)
    (to_z-of_z w64 c.unwrap-mark.result.frecency (search rules))
    ∙ row_told (g.R.Rows.kept c.args.rows.now) c.args.page p c.unwrap-mark.result c.in_ok-url.field-0
    c.in_ok-title.field-0 c.requires.sound.right at (sym c.unwrap-mark.ensures ∙ c.page_at.ensures.mark)
    c.in_ok-url.ensures.url c.in_ok-title.ensures.title
