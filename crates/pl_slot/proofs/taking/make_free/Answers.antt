use Rattle.std.proofs.Common.{◌≡◌, ap, arith}
use Rattle.pl_base.specs.declared.id.Slot.{Slot}
use Rattle.pl_slot.specs.Arena.{header_of}
use Rattle.pl_slot.proofs.HeaderLaws.{first_free_told}
use Rattle.pl_slot.proofs.TakenLaws.{free_already}
use Rattle.pl_slot.proofs.taking.make_free.Goals as goal

pub returns-then-four_at-ne0-clause-ok : goal.returns-then-four_at-ne0-clause-ok
returns-then-four_at-ne0-clause-ok c =
    let first : (header_of c.args.sheets.now).first_free.0 ≡ c.four_at.result =
    ap (λ (s : Slot). s.0) (first_free_told c.four_at.result c.args.sheets.now c.four_at.ensures) in
    free_already c.args.sheets.now (λ none. absurd (omega (arith, first, none, c.if-four_at-ne0.true)))

pub grow-requires-clause-full : goal.grow-requires-clause-full
grow-requires-clause-full c =
    let first : (header_of c.args.sheets.now).first_free.0 ≡ c.four_at.result =
    ap (λ (s : Slot). s.0) (first_free_told c.four_at.result c.args.sheets.now c.four_at.ensures) in
    omega (arith, first, c.if-four_at-ne0.false)
