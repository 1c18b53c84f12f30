use Rattle.std.proofs.Common.{◌∙◌, ap, false, inl, inr, replicate}
use Rattle.std.proofs.lemmas.Bool.{cases_lt}
use Rattle.pl_sheets.proofs.Flags.{all_false}
use Rattle.pl_sheets.proofs.marks.Marks.clear.Goals as goal

pub returns : goal.returns
returns c =
    all_false c.loop-n.self
    (λ k. elim (cases_lt k c.loop-n.from) [
      | inl below ↦ c.loop-n.invariant.cleared k below
      | inr above ↦ c.in_default.ensures.first k above
    ])
    ∙ ap (λ n. replicate n false) c.loop-n.invariant.as_long
