-- What slots hold and how they are chained, where the header or the free slots alone are others.
use Rattle.std.proofs.Common.{◌∙◌, [], List, ap, is_some, refl, sym}
use Rattle.pl_base.specs.declared.id.VisitId.{VisitId}
use Rattle.pl_base.specs.Rows.{Kept}
use Rattle.pl_base.specs.Store.{Visit}
use Rattle.pl_record.specs.Records.{Layout}
use Rattle.pl_record.proofs.ChainMapsKept.{header_chains, same_live_chains}
use Rattle.pl_record.proofs.ChainsKept.{KeepsEnds, alone_all_kept, same_kinds, same_links}
use Rattle.pl_record.proofs.Filled.{IsFilled}
use Rattle.pl_record.proofs.FreeMoved.{none_idle}
use Rattle.pl_record.proofs.SameRows as same
use Rattle.pl_record.proofs.RowSets.{texts_each}
use Rattle.pl_record.proofs.TitleMoved.{alone_left, rows_left}
use Rattle.pl_sheets.specs.Sheets.{Pages}
use Rattle.pl_slot.specs.Arena.{KeepsRows}
use Rattle.pl_text.specs.Chunks.{KeepsLive}
use Rattle.pl_text.proofs.HeldTexts.{held_kept}

module _ (at : Layout) (kept : Kept) (targets : VisitId → List Visit) (old new : Pages)
    (f : IsFilled at kept targets old) (ends : KeepsEnds old new) where
  -- all slots hold what they held
  pub filled_still : KeepsRows old new → IsFilled at kept targets new
  filled_still rows =
      record {
        chains = f.chains;
        are = header_chains f.chains old new f.are rows ends;
        named = f.named;
        apart = f.apart;
        rows = same.rows_kept old new rows at kept targets f.rows;
        texts = same.texts_kept old new rows at kept targets f.texts;
        slots = same.once_kept old new rows at kept targets f.slots;
        alone =
            alone_all_kept old new (same_kinds old new (same.kind_kept old new rows))
            (same_links old new (same.link_kept old new rows)) ends at kept targets f.alone;
      }

  -- all live slots do
  pub filled_live : KeepsLive [] old new → IsFilled at kept targets new
  filled_live live =
      record {
        chains = f.chains;
        are = same_live_chains f.chains old new f.are live ends;
        named = f.named;
        apart = f.apart;
        rows = rows_left at kept targets [] old new live (none_idle old) ends f.rows;
        texts =
            texts_each at kept old new (λ ns text held. held_kept ns text old new (λ n _. live n refl) held) f.texts;
        slots = record {
          once = f.slots.once;
          whole = λ n is. f.slots.whole n (sym (ap is_some (live n refl)) ∙ is);
        };
        alone = alone_left at kept targets [] old new live (none_idle old) ends f.alone;
      }
