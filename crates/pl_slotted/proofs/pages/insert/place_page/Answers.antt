use Rattle.std.proofs.Common.{◌∙◌, ap, is_some, refl}
use Rattle.std.specs.BTreeMap.{insert_entry, is_at}
use Rattle.std.specs.Map.{remove_entry}
use Rattle.std.specs.Ordering.{nat_cmp}
use Rattle.std.proofs.lemmas.Result.{err_from_is_err_and}
use Rattle.pl_base.specs.declared.id.Slot.{Slot}
use Rattle.pl_record.specs.LinkedRows.{Entries}
use Rattle.pl_record.proofs.LastEntry.{inserted_again, removed_last}
use Rattle.pl_slotted.proofs.pages.insert.place_page.Goals as goal

zero : Slot
zero = record { 0 = 0 }

pub returns-in_err-push-clause-err : goal.returns-in_err-push-clause-err
returns-in_err-push-clause-err g c =
    let p = err_from_is_err_and c.from_residual.result c.from_residual.ensures.1 in
    rw p.1 (record {
      live = λ n apart. refl;
      count = refl;
      fields = refl;
      arena = λ is. is;
    })

pub set-requires : goal.set-requires
set-requires g c = record { there = ap is_some c.in_ok-push.ensures.found }

pub returns-in-Ok-clause-placed : goal.returns-in-Ok-clause-placed
unfolding zero
returns-in-Ok-clause-placed g c = (
  c.in-Ok.slot,
  c.in-Ok.ensures.inserted,
  c.set.ensures.entries
      ∙ ap (λ (es : Entries). insert_entry nat_cmp es c.args.page.0 c.in-Ok.slot) c.in_ok-push.ensures.entries
      ∙ inserted_again c.args.pages.now.entries c.args.page.0 zero c.in-Ok.slot c.requires.last,
)

pub returns-in-Err-clause-entries : goal.returns-in-Err-clause-entries
unfolding zero
returns-in-Err-clause-entries g c =
    c.remove.ensures.entries
    ∙ ap (λ (es : Entries). remove_entry (is_at (nat_cmp c.args.page.0)) es) c.in_ok-push.ensures.entries
    ∙ removed_last c.args.pages.now.entries c.args.page.0 zero c.requires.last
