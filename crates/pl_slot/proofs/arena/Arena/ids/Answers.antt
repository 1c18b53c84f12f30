use Rattle.pl_slot.specs.Header.{Header}
use Rattle.pl_slot.proofs.HeaderLaws.{told_of}
use Rattle.pl_slot.proofs.arena.Arena.ids.Goals as goal

pub returns : goal.returns
returns c =
    told_of (λ (h : Header). h.ids)
    (record { page = c.four_at.result; visit = c.four_at-2.result; item = c.four_at-3.result })
    c.self.inside.sheets c.args.self.now
    (λ i. record { page = c.four_at.ensures i; visit = c.four_at-2.ensures i; item = c.four_at-3.ensures i })
    c.self.view_is
