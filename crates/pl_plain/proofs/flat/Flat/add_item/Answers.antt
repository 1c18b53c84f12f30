use Rattle.std.proofs.Common.{◌<◌, length}
use Rattle.std.proofs.lemmas.List.Elements.{All-weaker}
use Rattle.pl_base.specs.Store.{Item}
use Rattle.pl_base.proofs.ListLaws.{All-from_map}
use Rattle.pl_plain.specs.Flat.{kept_of}
use Rattle.pl_plain.proofs.ItemChanges.{IsFlat-with_item}
use Rattle.pl_plain.proofs.flat.Flat.add_item.Goals as goal

pub insert-requires-clause-new : goal.insert-requires-clause-new
insert-requires-clause-new c =
    let f = c.args.self.now in
    All-weaker (λ (i : Item). (0 < i.id.0) × (i.id.0 < f.ids.item)) (λ (i : Item). i.id.0 < f.ids.item)
    (λ i given. given.1) f.items
    (All-from_map (λ n. (0 < n) × (n < f.ids.item)) (λ (i : Item). i.id.0) f.items f.rows.item_ids.given)

pub invariant_of-self-2 : goal.invariant_of-self-2
invariant_of-self-2 c =
    let f = c.args.self.now in
    record {
      rows =
          rw (c.in_ok-insert.ensures.inserted, c.in_ok-text.ensures, c.chunks.ensures)
          (IsFlat-with_item c.args.row.now c.args.title.now c.args.after (kept_of f) (length f.totals.items) f.live
          c.requires.id c.requires.live f.rows);
    }
