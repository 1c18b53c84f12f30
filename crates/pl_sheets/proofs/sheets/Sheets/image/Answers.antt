use Rattle.std.proofs.Common.{◌≡◌, ◌∙◌, ◌+◌, ◌-◌, ◌*◌, ap, arith, drop, take}
use Rattle.pl_sheets.specs.Sheets.{bytes_at, Pages}
use Rattle.pl_sheets.proofs.sheets.Sheets.image.Goals as goal

pub returns : goal.returns
returns c =
    let size : 1024 * c.args.page + 1024 - 1024 * c.args.page ≡ 1024 = omega arith in
    ap (λ n. take n (drop (1024 * c.args.page) c.deref.result.now)) size
    ∙ ap (bytes_at (1024 * c.args.page) 1024)
    (c.deref.ensures.value ∙ ap (λ (pages : Pages). pages.bytes) c.self.view_is)
