use Rattle.std.proofs.Common.{◌∙◌, ap}
use Rattle.pl_sheets.specs.Sheets.{page_count}
use Rattle.pl_slot.specs.Header.{Header}
use Rattle.pl_slot.proofs.ArenaLaws.{live_few}
use Rattle.pl_slot.proofs.HeaderLaws.{told_of}
use Rattle.pl_slot.proofs.arena.Arena.pages.Goals as goal

pub returns-clause-count : goal.returns-clause-count
returns-clause-count c =
    told_of (λ (h : Header). h.pages) c.four_at.result c.self.inside.sheets c.self.inside.sheets c.four_at.ensures
    (λ _. c.self.inside.sheets)
    ∙ c.self.invariant.told ∙ ap page_count c.self.view_is

pub returns-clause-header : goal.returns-clause-header
returns-clause-header c =
    told_of (λ (h : Header). h.pages) c.four_at.result c.self.inside.sheets c.args.self.now c.four_at.ensures c.self.view_is

pub returns-clause-few : goal.returns-clause-few
returns-clause-few c = live_few c.args.self.now
