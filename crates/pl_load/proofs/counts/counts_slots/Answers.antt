use Rattle.std.proofs.Common.{◌≡◌, ◌∙◌, ap, arith, refl}
use Rattle.pl_load.specs.Reads.{Reads}
use Rattle.pl_reading.specs.Texts.{row_texts, wanted}
use Rattle.pl_load.proofs.counts.counts_slots.Goals as goal

pub returns-in_default-clause-no : goal.returns-in_default-clause-no
returns-in_default-clause-no c is same =
    let places = c.deref.ensures.value ∙ ap (λ (r : Reads). r.places) c.rows.view_is in
    let items = c.deref-2.ensures.value ∙ ap (λ (r : Reads). r.items) c.rows.view_is in
    let texts : c.deref-3.result.now ≡ row_texts c.args.rows.now.places c.args.rows.now.items =
    c.deref-3.ensures.value ∙ c.in_ok-texts.ensures ∙ (λ i. row_texts (places i) (items i)) in
    omega (
      arith,
      same,
      ap wanted texts,
      c.in_default.ensures.none refl,
      c.live-live.ensures,
      c.live-live.type_inv,
    )
