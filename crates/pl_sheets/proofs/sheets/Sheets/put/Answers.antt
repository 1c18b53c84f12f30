use Rattle.std.proofs.Common.{◌≡◌, ◌∙◌, ◌+◌, ◌-◌, ◌*◌, ap, arith, length, ℕ}
use Rattle.pl_sheets.specs.Sheets.{Pages}
use Rattle.pl_sheets.proofs.PagesLaws.{same_put, stand_told}
use Rattle.pl_sheets.proofs.sheets.Sheets.put.Goals as goal

pub returns-then-eq : goal.returns-then-eq
returns-then-eq c =
    let place : ℕ = 1024 * c.args.page + c.args.at in
    let size : 1024 * c.args.page + c.args.at + length c.args.bytes.now - (1024 * c.args.page + c.args.at)
    ≡ length c.args.bytes.now = omega arith in
    same_put c.args.page c.args.at c.args.bytes.now c.args.self.now
    (stand_told place
    (1024 * c.args.page + c.args.at + length c.args.bytes.now - (1024 * c.args.page + c.args.at))
    c.args.bytes.now c.args.self.now.bytes c.deref.result.now c.eq.result size
    (c.deref.ensures.value ∙ ap (λ (pages : Pages). pages.bytes) c.self.view_is) c.eq.ensures c.if-eq.true)
