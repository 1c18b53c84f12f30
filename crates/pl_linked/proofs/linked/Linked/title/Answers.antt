use Rattle.std.proofs.Common.{◌≡◌, ℕ, List, Some}
use Rattle.std.proofs.lemmas.Result.{IfOk-weaker}
use Rattle.pl_base.specs.Rows.{title_of}
use Rattle.pl_text.specs.Chunks.{HoldsText}
use Rattle.pl_record.specs.LinkedRows.{slot_at}
use Rattle.pl_record.specs.Rows.{place_row, row_in}
use Rattle.pl_record.proofs.Kept.{some_and, title_text, title_told, title_utf8}
use Rattle.pl_linked.proofs.linked.Linked.title.Goals as goal

pub load-requires-clause-text : goal.load-requires-clause-text
load-requires-clause-text g c =
    let s = c.args.self.now.slots in
    let h = some_and (λ slot. row_in slot s.arena ≡ Some (place_row c.place_of.result)) (slot_at s.pages.entries c.args.page.0) c.place_of.ensures.row in
    title_text s.arena s.pages.entries s.visits.entries s.items.entries s.rows c.args.page h.0 c.place_of.result h.1 h.2

pub load-requires-clause-utf8 : goal.load-requires-clause-utf8
load-requires-clause-utf8 g c =
    let s = c.args.self.now.slots in
    let h = some_and (λ slot. row_in slot s.arena ≡ Some (place_row c.place_of.result)) (slot_at s.pages.entries c.args.page.0) c.place_of.ensures.row in
    title_utf8 s.arena s.pages.entries s.visits.entries s.items.entries s.rows c.args.page h.0 c.place_of.result h.1 h.2

pub returns : goal.returns
returns g c =
    let s = c.args.self.now.slots in
    let h = some_and (λ slot. row_in slot s.arena ≡ Some (place_row c.place_of.result)) (slot_at s.pages.entries c.args.page.0) c.place_of.ensures.row in
    record {
      title =
          IfOk-weaker c.load.result
          (λ (loaded : List ℕ). (text : List ℕ) → HoldsText c.place_of.result.title.slot text s.arena → loaded ≡ text)
          (λ (loaded : List ℕ). Some loaded ≡ title_of s.rows.kept c.args.page)
          (λ loaded is. title_told s.arena s.pages.entries s.visits.entries s.items.entries s.rows c.args.page h.0 c.place_of.result h.1 h.2 loaded is)
          c.load.ensures.text;
    }
