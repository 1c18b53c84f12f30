use Rattle.std.proofs.Common.{arith, refl, sym}
use Rattle.pl_slot.specs.Header.{Header}
use Rattle.pl_slot.proofs.FieldLaws.{FieldSet, both_set, field_set}
use Rattle.pl_slot.proofs.HeaderLaws.{item_id_set, page_id_set, visit_id_set}
use Rattle.pl_slot.proofs.SlotPlaces.{count_put}
use Rattle.pl_slot.proofs.arena.Arena.set_ids.Goals as goal
use Rattle.pl_slot.proofs.arena.Arena.set_ids.Goals.{After-put_four-3}

set_there : (c : After-put_four-3)
    → FieldSet (λ (h : Header). record h { ids = c.args.ids.now }) c.self.inside.sheets c.put_four-3.new.sheets
set_there c =
    let page : Header → Header = λ (h : Header). record h { ids = record h.ids { page = c.args.ids.now.page } } in
    let visit : Header → Header = λ (h : Header). record h { ids = record h.ids { visit = c.args.ids.now.visit } } in
    let item : Header → Header = λ (h : Header). record h { ids = record h.ids { item = c.args.ids.now.item } } in
    let first : FieldSet page c.self.inside.sheets c.put_four.new.sheets =
    field_set 2 c.args.ids.now.page page c.self.inside.sheets c.put_four.new.sheets
    c.self.invariant (omega arith) (omega arith) c.put_four.ensures
    (page_id_set c.args.ids.now.page c.self.inside.sheets) refl refl in
    let second : FieldSet visit c.put_four.new.sheets c.put_four-2.new.sheets =
    field_set 3 c.args.ids.now.visit visit c.put_four.new.sheets c.put_four-2.new.sheets
    first.arena (omega arith) (omega arith) c.put_four-2.ensures
    (visit_id_set c.args.ids.now.visit c.put_four.new.sheets) refl refl in
    let third : FieldSet item c.put_four-2.new.sheets c.put_four-3.new.sheets =
    field_set 4 c.args.ids.now.item item c.put_four-2.new.sheets c.put_four-3.new.sheets
    second.arena (omega arith) (omega arith) c.put_four-3.ensures
    (item_id_set c.args.ids.now.item c.put_four-2.new.sheets) refl refl in
    both_set (λ (h : Header). visit (page h)) item c.self.inside.sheets c.put_four-2.new.sheets c.put_four-3.new.sheets
    (both_set page visit c.self.inside.sheets c.put_four.new.sheets c.put_four-2.new.sheets first second) third

pub put_four-requires-2-clause-there : goal.put_four-requires-2-clause-there
put_four-requires-2-clause-there c = rw (c.put_four.ensures, count_put) c.self.invariant.some_page

pub put_four-requires-3-clause-there : goal.put_four-requires-3-clause-there
put_four-requires-3-clause-there c =
    rw (c.put_four-2.ensures, count_put, c.put_four.ensures, count_put) c.self.invariant.some_page

pub invariant_of-self : goal.invariant_of-self
invariant_of-self c = (set_there c).arena

pub returns : goal.returns
returns c = record { set = rw (sym c.self.view_is) ((set_there c).set); arena = (set_there c).arena }
