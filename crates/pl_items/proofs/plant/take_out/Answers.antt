use Rattle.std.proofs.Common.{◌∙◌, ap, rules, sym, set, get_or}
use Rattle.std.proofs.lemmas.List.Sorted.{answers_always}
use Rattle.pl_items.proofs.WaitingRows.{NoneWaits, WaitsAt, all_apart, is_equal, none_waits, one_waits}
use Rattle.pl_items.proofs.WaitingRows.{rows_ascend, searchable, waiting_key}
use Rattle.pl_items.proofs.plant.take_out.Goals as goal
use Rattle.pl_items.proofs.plant.take_out.Goals.{In-Err, After-take}

nothing : (c : In-Err) → NoneWaits c.args.waiting.now c.args.id
nothing c =
    none_waits c.args.waiting.now c.args.id
    (all_apart c.args.waiting.now c.args.id.0 c.in-Err.field-0
    (c.in-Err.ensures.position waiting_key (answers_always _ _ _ (λ f a r g h. search rules))
    (searchable c.args.waiting.now c.args.id.0 c.requires.ascending)))

pub returns-in-Err-clause-item : goal.returns-in-Err-clause-item
returns-in-Err-clause-item c = sym (nothing c).0

pub returns-in-Err-clause-waiting : goal.returns-in-Err-clause-waiting
returns-in-Err-clause-waiting c = sym (nothing c).1

found : (c : After-take) → WaitsAt c.args.waiting.now c.args.id c.in-Ok.place c.index-waiting-place.result
found c =
    let rows = c.args.waiting.now in
    let row = c.index-waiting-place.result in
    one_waits rows c.args.id c.in-Ok.place row (rows_ascend rows c.requires.ascending) c.in-Ok.ensures.bound
    (is_equal _ _
    (c.in-Ok.ensures.position waiting_key (answers_always _ _ _ (λ f a r g h. search rules)) row))

pub returns-in-Ok-clause-item : goal.returns-in-Ok-clause-item
returns-in-Ok-clause-item c = c.take.ensures.value ∙ sym (found c).0

pub returns-in-Ok-clause-waiting : goal.returns-in-Ok-clause-waiting
returns-in-Ok-clause-waiting c =
    ap (λ i. set c.args.waiting.now c.in-Ok.place (record {
      id = (get_or c.args.waiting.now c.in-Ok.place c.index-waiting-place.result).id;
      item = i;
    })) c.take.ensures.after
    ∙ sym (found c).1
