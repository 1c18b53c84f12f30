use Rattle.pl_slot.specs.Header.{Header}
use Rattle.pl_slot.proofs.HeaderLaws.{told_of}
use Rattle.pl_slot.proofs.arena.Arena.day.Goals as goal

pub returns : goal.returns
returns c =
    told_of (λ (h : Header). h.day) (record { 0 = c.four_at.result }) c.self.inside.sheets c.args.self.now
    (λ i. record { 0 = c.four_at.ensures i }) c.self.view_is
