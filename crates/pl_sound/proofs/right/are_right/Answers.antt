use Rattle.std.proofs.Common.{◌≡◌, ◌∙◌, ap, subst, sym}
use Rattle.std.proofs.lemmas.Result.{IfOk-weaker}
use Rattle.pl_load.specs.Reads.{Reads}
use Rattle.pl_sound.specs.Right.{AreComputed}
use Rattle.pl_sound.proofs.WholeRows.{computed_to, marked_from}
use Rattle.pl_sound.proofs.right.are_right.Goals as goal

pub returns : goal.returns
returns c =
    let reads : Reads = c.args.rows.now in
    let parts : AreComputed c.rows.inside.stored c.deref.result.now c.deref-2.result.now c.deref-3.result.now
    ≡ AreComputed reads.stored reads.places reads.origins reads.totals =
    (λ i.
    AreComputed c.rows.inside.stored (c.deref.ensures.value i) (c.deref-2.ensures.value i) (c.deref-3.ensures.value i))
    ∙ ap (λ (r : Reads). AreComputed r.stored r.places r.origins r.totals) c.rows.view_is in
    IfOk-weaker c.are_computed.result _ _
    (λ right told at kept are well. (
      λ is. marked_from at kept reads are well (subst (λ X. X) parts (told.0 is)),
      λ marked. told.1 (subst (λ X. X) (sym parts) (computed_to at kept reads are well marked)),
    )) c.are_computed.ensures
