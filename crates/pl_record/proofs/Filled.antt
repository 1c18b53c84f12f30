-- What the slots of a store hold and how they are chained, whatever the header tells beside that.
use Rattle.std.proofs.Common.{◌≡◌, ◌∙◌, ◌==◌, List, Some, ap, eqb-true, refl, sym, true}
use Rattle.std.specs.Option.{IsSome}
use Rattle.pl_base.specs.declared.id.Slot.{Slot}
use Rattle.pl_base.specs.declared.id.VisitId.{VisitId}
use Rattle.pl_base.specs.Rows.{Kept, KeptOrigin, has_origin}
use Rattle.pl_base.specs.Store.{Visit}
use Rattle.pl_base.proofs.LookUps.{found_holds, found_passes}
use Rattle.pl_record.specs.ChainMap.{AreApart, AreChains, ChainMap}
use Rattle.pl_record.specs.Chains.{HasAlone}
use Rattle.pl_record.specs.Form.{AreRows, IsHeader, IsLaid}
use Rattle.pl_record.proofs.NamedSlots.{found_of}
use Rattle.pl_record.specs.Records.{HoldsOnce, HoldsRows, HoldsTexts, Layout}
use Rattle.pl_record.proofs.LaidChains.{NamesChains, chains_laid, chains_named, chains_of, laid_chains, live_laid}
use Rattle.pl_record.proofs.LaidChains.{origins_apart}
use Rattle.pl_record.proofs.LaidSlots.{origin_kinds}
use Rattle.pl_record.proofs.RowKinds.{link_there}
use Rattle.pl_rail.specs.declared.owner.Owner.TheVariants.{At}
use Rattle.pl_rail.specs.declared.owner.Side.TheVariants.{Behind}
use Rattle.pl_rail.specs.Rails.{end_at}
use Rattle.pl_sheets.specs.Sheets.{Pages}
use Rattle.pl_slot.specs.declared.kind.SlotKind.TheVariants as kinds
use Rattle.pl_slot.specs.declared.links.Link.TheVariants.{First}
use Rattle.pl_slot.specs.declared.links.Rail.TheVariants.{OriginPages}
use Rattle.pl_slot.specs.Arena.{IsArena, header_of}
use Rattle.pl_slot.specs.Links.{kind_at}

pub record IsFilled (at : Layout) (kept : Kept) (targets : VisitId → List Visit) (pages : Pages) : Type 0 where
  pub chains : ChainMap
  pub are : AreChains chains pages
  pub named : NamesChains at kept targets chains
  pub apart : AreApart OriginPages chains
  pub rows : HoldsRows at kept pages
  pub texts : HoldsTexts at kept pages
  pub slots : HoldsOnce at kept pages
  pub alone : HasAlone at kept pages

-- what is laid out is filled so
unfoldable pub filled : (at : Layout) (kept : Kept) (targets : VisitId → List Visit) (pages : Pages) → AreRows kept targets
    → IsLaid at kept targets pages → IsFilled at kept targets pages
filled at kept targets pages rows laid =
    record {
      chains = chains_of at kept targets;
      are = laid_chains at kept targets pages rows laid;
      named = chains_named at kept targets pages laid.rows rows.well;
      apart = origins_apart at kept targets pages laid.rows;
      rows = laid.rows;
      texts = laid.texts;
      slots = laid.slots;
      alone = laid.alone;
    }

-- and with the header it is laid out
pub laid_out : (at : Layout) (kept : Kept) (targets : VisitId → List Visit) (pages : Pages)
    → IsFilled at kept targets pages → IsArena pages → IsHeader kept (header_of pages) → IsLaid at kept targets pages
laid_out at kept targets pages f arena header =
    record {
      arena = arena;
      header = header;
      rows = f.rows;
      texts = f.texts;
      slots = f.slots;
      live = live_laid at kept targets f.chains pages f.are f.named;
      chains = chains_laid at kept targets f.chains pages f.are f.named f.rows;
      alone = f.alone;
    }

-- an origin that is there has a chain of pages
pub origin_owns : (at : Layout) (kept : Kept) (pages : Pages) → HoldsRows at kept pages → (origin : Slot)
    → has_origin kept origin ≡ true → IsSome (end_at Behind OriginPages (At origin) pages)
origin_owns at kept pages held origin there =
    let o = found_of (λ (a : KeptOrigin). a.origin.0 == origin.0) kept.origins there in
    link_there OriginPages First origin.0 kinds.Origin 12 pages
    (ap (λ n. kind_at n pages)
    (sym (eqb-true o.0.origin.0 origin.0
    (found_passes (λ (a : KeptOrigin). a.origin.0 == origin.0) kept.origins o.0 o.1)))
    ∙ found_holds (λ (a : KeptOrigin). kind_at a.origin.0 pages ≡ Some kinds.Origin)
    (λ (a : KeptOrigin). a.origin.0 == origin.0) kept.origins o.0 (origin_kinds at kept pages held) o.1) refl
