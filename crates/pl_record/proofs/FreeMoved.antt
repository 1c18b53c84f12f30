-- The rows that linked slots keep where the free slots alone are others.
use Rattle.std.proofs.Common.{◌∙◌, [], List, ap, is_some, refl, sym}
use Rattle.std.proofs.lemmas.Bool.{true≢false}
use Rattle.pl_base.specs.declared.id.VisitId.{VisitId}
use Rattle.pl_base.specs.Rows.{Kept}
use Rattle.pl_base.specs.Store.{Visit}
use Rattle.pl_record.specs.LinkedRows.{AreLinked, Entries}
use Rattle.pl_record.proofs.ChainsKept.{KeepsEnds, fields_ends}
use Rattle.pl_record.proofs.RowSets.{texts_each}
use Rattle.pl_record.proofs.SlotsBeside.{AreIdle}
use Rattle.pl_record.proofs.TitleMoved.{alone_left, chains_left, live_left, rows_left}
use Rattle.pl_sheets.specs.Sheets.{Pages}
use Rattle.pl_slot.specs.Arena.{IsArena, KeepsFields}
use Rattle.pl_text.specs.Chunks.{KeepsLive}
use Rattle.pl_text.proofs.HeldTexts.{held_kept}

pub none_idle : (pages : Pages) → AreIdle [] pages
none_idle pages n row among live = absurd (true≢false (sym among))

module _ (kept : Kept) (targets : VisitId → List Visit) (old new : Pages) (pages visits items : Entries)
    (l : AreLinked kept targets old pages visits items) (live : KeepsLive [] old new) (fields : KeepsFields old new)
    (arena : IsArena new) where
  pub free_moved : AreLinked kept targets new pages visits items
  free_moved =
      let idle : AreIdle [] old = none_idle old in
      let ends : KeepsEnds old new = fields_ends old new fields in
      record {
        at = l.at;
        rows = l.rows;
        laid = record {
          arena = arena;
          header = record {
            form = ap (λ h. h.form) fields ∙ l.laid.header.form;
            day = ap (λ h. h.day) fields ∙ l.laid.header.day;
            ids = ap (λ h. h.ids) fields ∙ l.laid.header.ids;
            live = ap (λ h. h.live) fields ∙ l.laid.header.live;
            rest = ap (λ h. h.rest) fields ∙ l.laid.header.rest;
          };
          rows = rows_left l.at kept targets [] old new live idle ends l.laid.rows;
          texts =
              texts_each l.at kept old new (λ ns text held. held_kept ns text old new (λ n _. live n refl) held)
              l.laid.texts;
          slots = record {
            once = l.laid.slots.once;
            whole = λ n is. l.laid.slots.whole n (sym (ap is_some (live n refl)) ∙ is);
          };
          live = live_left l.at kept targets [] old new live idle ends l.laid.live;
          chains = chains_left l.at kept targets [] old new live idle ends l.laid.chains;
          alone = alone_left l.at kept targets [] old new live idle ends l.laid.alone;
        };
        indexed = l.indexed;
      }
