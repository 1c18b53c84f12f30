-- Rows, texts and chains where slots hold what they held.
use Rattle.std.proofs.Common.{◌≡◌, ◌∙◌, ℕ, List, ap, is_some, subst, sym}
use Rattle.std.specs.Option.{option_and_then, option_map}
use Rattle.pl_base.specs.declared.id.VisitId.{VisitId}
use Rattle.pl_base.specs.Rows.{Kept}
use Rattle.pl_base.specs.Store.{Visit}
use Rattle.pl_record.proofs.ChainsKept.{alone_all_kept, chains_kept, live_kept, same_header, same_kinds, same_links}
use Rattle.pl_record.proofs.RowSets.{rows_each, texts_each}
use Rattle.pl_record.specs.Form.{IsHeader, IsLaid}
use Rattle.pl_record.specs.Records.{HoldsOnce, HoldsRow, HoldsRows, HoldsTexts, Layout, Record, unlinked}
use Rattle.pl_sheets.specs.Sheets.{Pages}
use Rattle.pl_slot.specs.declared.links.Link.{Link}
use Rattle.pl_slot.specs.declared.links.Rail.{Rail}
use Rattle.pl_slot.specs.Arena.{IsArena, KeepsRows, header_of, live_row}
use Rattle.pl_slot.specs.Links.{kind_at, link_at, link_in}
use Rattle.pl_slot.specs.Slot.{slot_kind}
use Rattle.pl_text.specs.Chunks.{Hold}
use Rattle.pl_text.proofs.HeldTexts.{held_kept}

-- ---- the same rows

module _ (old new : Pages) (rows : KeepsRows old new) where
  row_kept : (r : Record) → HoldsRow r old → HoldsRow r new
  row_kept r held = ap (option_map unlinked) (rows r.slot.0) ∙ held

  text_kept : (ns text : List ℕ) → Hold ns text old → Hold ns text new
  text_kept ns text held = held_kept ns text old new (λ n among. ap (option_and_then live_row) (rows n)) held

  pub link_kept : (rail : Rail) (link : Link) (n : ℕ) → link_at rail link n new ≡ link_at rail link n old
  unfolding link_at
  link_kept rail link n = ap (option_and_then (link_in rail link)) (rows n)

  pub kind_kept : (n : ℕ) → kind_at n new ≡ kind_at n old
  unfolding kind_at
  kind_kept n = ap (option_map slot_kind) (rows n)

  module _ (at : Layout) (kept : Kept) (targets : VisitId → List Visit) where
    pub rows_kept : HoldsRows at kept old → HoldsRows at kept new
    rows_kept held = rows_each at kept old new (λ r _ _. row_kept r) held

    pub texts_kept : HoldsTexts at kept old → HoldsTexts at kept new
    texts_kept held = texts_each at kept old new text_kept held

    pub once_kept : HoldsOnce at kept old → HoldsOnce at kept new
    once_kept held =
        record {
          once = held.once;
          whole = λ n is. held.whole n (sym (ap is_some (ap (option_and_then live_row) (rows n))) ∙ is);
        }

    -- all is laid out as it was, where slots and header hold what they held
    pub laid_kept : header_of new ≡ header_of old → IsArena new → IsLaid at kept targets old
        → IsLaid at kept targets new
    laid_kept header arena laid =
        let members = same_kinds old new kind_kept in
        let links = same_links old new link_kept in
        let ends = same_header old new header in
        record {
          arena = arena;
          header = subst (IsHeader kept) (sym header) laid.header;
          rows = rows_kept laid.rows;
          texts = texts_kept laid.texts;
          slots = once_kept laid.slots;
          live = live_kept old new members links ends at kept targets laid.live;
          chains = chains_kept old new members links ends at kept targets laid.chains;
          alone = alone_all_kept old new members links ends at kept targets laid.alone;
        }
