use Rattle.std.proofs.Common.{◌≡◌, ℕ, List, Some}
use Rattle.std.proofs.lemmas.Result.{IfOk-weaker}
use Rattle.pl_base.specs.Tree.{item_title}
use Rattle.pl_text.specs.Chunks.{HoldsText}
use Rattle.pl_record.specs.LinkedRows.{slot_at}
use Rattle.pl_record.specs.Rows.{item_row, row_in}
use Rattle.pl_record.proofs.Kept.{item_title_text, item_title_told, item_title_utf8, some_and}
use Rattle.pl_linked.proofs.linked.Linked.item_title.Goals as goal

pub load-requires-clause-text : goal.load-requires-clause-text
load-requires-clause-text g c =
    let s = c.args.self.now.slots in
    let h = some_and (λ slot. row_in slot s.arena ≡ Some (item_row c.row_of.result)) (slot_at s.items.entries c.args.item.0) c.row_of.ensures.row in
    item_title_text s.arena s.pages.entries s.visits.entries s.items.entries s.rows c.args.item h.0 c.row_of.result h.1 h.2

pub load-requires-clause-utf8 : goal.load-requires-clause-utf8
load-requires-clause-utf8 g c =
    let s = c.args.self.now.slots in
    let h = some_and (λ slot. row_in slot s.arena ≡ Some (item_row c.row_of.result)) (slot_at s.items.entries c.args.item.0) c.row_of.ensures.row in
    item_title_utf8 s.arena s.pages.entries s.visits.entries s.items.entries s.rows c.args.item h.0 c.row_of.result h.1 h.2

pub returns : goal.returns
returns g c =
    let s = c.args.self.now.slots in
    let h = some_and (λ slot. row_in slot s.arena ≡ Some (item_row c.row_of.result)) (slot_at s.items.entries c.args.item.0) c.row_of.ensures.row in
    record {
      title =
          IfOk-weaker c.load.result
          (λ (loaded : List ℕ). (text : List ℕ) → HoldsText c.row_of.result.title.slot text s.arena → loaded ≡ text)
          (λ (loaded : List ℕ). Some loaded ≡ item_title s.rows.kept.items c.args.item)
          (λ loaded is. item_title_told s.arena s.pages.entries s.visits.entries s.items.entries s.rows c.args.item h.0 c.row_of.result h.1 h.2 loaded is)
          c.load.ensures.text;
    }
