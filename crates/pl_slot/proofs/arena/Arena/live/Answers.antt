use Rattle.pl_slot.specs.Header.{Header}
use Rattle.pl_slot.proofs.HeaderLaws.{told_of}
use Rattle.pl_slot.proofs.arena.Arena.live.Goals as goal

pub returns : goal.returns
returns c =
    told_of (λ (h : Header). h.live) c.four_at.result c.self.inside.sheets c.args.self.now c.four_at.ensures c.self.view_is
