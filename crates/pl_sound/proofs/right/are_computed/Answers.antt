use Rattle.std.proofs.Common.{◌≤◌, ◌∙◌, sym}
use Rattle.std.proofs.lemmas.Bool.{false≢true}
use Rattle.std.proofs.lemmas.Result.{IfOk-weaker}
use Rattle.pl_base.specs.declared.row.Mark.{Mark}
use Rattle.pl_base.specs.Totals.{most_share, share}
use Rattle.pl_sound.proofs.WholeRows.{small_places}
use Rattle.pl_sound.proofs.right.are_computed.Goals as goal

pub returns-then-not-branch : goal.returns-then-not-branch
returns-then-not-branch c = (
  λ never. absurd (false≢true never),
  λ computed.
      absurd (false≢true (sym c.if-not-branch.true
      ∙ c.in_ok-are_marks.ensures.1 (c.deref.ensures.value ∙ c.in_ok-marks.ensures.exact ∙ computed.marks))),
)

pub are_totals-requires-clause-small : goal.are_totals-requires-clause-small
are_totals-requires-clause-small c =
    small_places c.in_ok-marks.marks.items c.args.places.now (λ (m : Mark). share m.frecency ≤ most_share)
    (sym c.deref.ensures.value ∙ c.in_ok-are_marks.ensures.0 c.if-not-branch.false) c.in_ok-marks.ensures.small

pub returns : goal.returns
returns c =
    IfOk-weaker c.are_totals.result _ _
    (λ right told. (
      λ is.
          record {
            marks =
                sym c.in_ok-marks.ensures.exact ∙ sym c.deref.ensures.value
                ∙ c.in_ok-are_marks.ensures.0 c.if-not-branch.false;
            sums = told.0 is;
          },
      λ computed. told.1 computed.sums,
    )) c.are_totals.ensures
