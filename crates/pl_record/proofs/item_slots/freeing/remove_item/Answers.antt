use Rattle.std.proofs.Common.{◌≡◌, ◌∙◌, ap, subst}
use Rattle.pl_record.specs.declared.rows.Item.{Item}
use Rattle.pl_record.specs.ItemChanges.{FreesItem, HoldsLeaf}
use Rattle.pl_record.proofs.Bases.{no_fewer}
use Rattle.pl_record.proofs.ItemFreed.{item_read, removes_item, title_left}
use Rattle.pl_record.proofs.item_slots.freeing.remove_item.Given.{Over}
use Rattle.pl_record.proofs.item_slots.freeing.remove_item.Goals as goal
use Rattle.pl_record.proofs.item_slots.freeing.remove_item.Goals.{After-free_item}
use Rattle.pl_text.specs.Chunks.{pages_of}

read : (g : Over) (c : After-free_item g) (held : HoldsLeaf c.args.slot c.args.arena.now)
    → c.read_item-item.result ≡ held.item
read g c held =
    item_read c.args.slot c.args.arena.now c.read_item-item.result held.item c.read_item-item.ensures.row held.row

frees : (g : Over) (c : After-free_item g) (held : HoldsLeaf c.args.slot c.args.arena.now)
    → FreesItem held.item c.args.slot c.args.arena.now c.free_item.new.arena
frees g c held =
    subst (λ (i : Item). FreesItem i c.args.slot c.args.arena.now c.free_item.new.arena) (read g c held)
    c.free_item.ensures.freed

pub free-requires : goal.free-requires
free-requires g c =
    let held = c.requires.held in
    record {
      text = (
        held.title,
        record {
          slots = held.text;
          first = ap (λ (i : Item). i.title.slot) (read g c.before.before.before held) ∙ held.begins;
          held =
              title_left c.args.slot c.args.arena.now held c.free_item.new.arena
              (frees g c.before.before.before held);
        },
      );
    }

pub returns-clause-removed : goal.returns-clause-removed
returns-clause-removed g c held =
    let from = c.before.before.before.before in
    let gone = frees g from held in
    let freed =
    c.free.ensures.freed held.text held.title
    (ap (λ (i : Item). i.title.slot) (read g from held) ∙ held.begins)
    (title_left c.args.slot c.args.arena.now held c.free_item.new.arena gone) in
    let whole = c.free_item.ensures.arena in
    removes_item c.args.slot c.args.arena.now held c.free_item.new.arena gone c.free.new.arena freed
    (no_fewer (pages_of held.text) c.free_item.new.arena c.free.new.arena whole.whole
    (c.free.ensures.arena whole).whole freed.pages)
