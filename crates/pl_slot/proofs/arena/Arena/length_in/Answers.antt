use Rattle.pl_slot.specs.Header.{Header}
use Rattle.pl_slot.proofs.HeaderLaws.{told_of}
use Rattle.pl_slot.proofs.arena.Arena.length_in.Goals as goal

pub returns : goal.returns
returns c =
    told_of (λ (h : Header). h.pages) c.four_at.result c.args.sheets.now c.args.sheets.now c.four_at.ensures
    (λ _. c.args.sheets.now)
