-- A link of a row that is set: the row that it makes, with its bytes.
use Rattle.std.proofs.Common.{◌≡◌, ◌^◌, ◌<◌, ℕ, true, Some, is_some, refl, sym, w32}
use Rattle.std.specs.Int.{to_le_bytes}
use Rattle.std.proofs.lemmas.Bool.{true≢false}
use Rattle.pl_base.specs.declared.id.Slot.{Slot}
use Rattle.pl_sheets.specs.Sheets.{overwritten}
use Rattle.pl_slot.specs.declared.links.Link.{Link}
use Rattle.pl_slot.specs.declared.links.Link.TheVariants.{First, Last, Previous, Next}
use Rattle.pl_slot.specs.declared.links.Rail.{Rail}
use Rattle.pl_slot.specs.declared.links.Rail.TheVariants.{Live, OriginPages, PageVisits, Targets, Children, References}
use Rattle.pl_slot.specs.declared.row.SlotRow.{SlotRow}
use Rattle.pl_slot.specs.declared.row.SlotRow.TheVariants.{Origin, Place, Visit, Item}
use Rattle.pl_slot.specs.Arena.{IsLiveRow}
use Rattle.pl_slot.specs.Links.{link_place, other_fields}
use Rattle.pl_slot.specs.Slot.{IsSlotRow, slot_bytes, slot_kind}

-- the row with a link set, the place of which is this
pub record SetRow (rail : Rail) (link : Link) (old : SlotRow) (to : Slot) : Type 0 where
  pub place : ℕ
  pub is_place : link_place rail link (slot_kind old) ≡ Some place
  pub row : SlotRow
  pub live : IsLiveRow row
  pub kind : slot_kind row ≡ slot_kind old
  pub bytes : slot_bytes row ≡ overwritten place (to_le_bytes w32 to.0) (slot_bytes old)
  pub fields : other_fields rail row ≡ other_fields rail old

pub set_row : (rail : Rail) (link : Link) (old : SlotRow) (to : Slot)
    → is_some (link_place rail link (slot_kind old)) ≡ true → IsSlotRow old → to.0 < 2 ^ 32 → SetRow rail link old to
set_row Live Previous (Origin a b c d e) to has fits small =
    record {
      place = 4;
      is_place = refl;
      row = Origin to b c d e;
      live = (refl, ((small, fits.0.1), fits.1));
      kind = refl;
      bytes = refl;
      fields = refl;
    }
set_row Live Next (Origin a b c d e) to has fits small =
    record {
      place = 8;
      is_place = refl;
      row = Origin a to c d e;
      live = (refl, ((fits.0.0, (small, fits.0.1.1)), fits.1));
      kind = refl;
      bytes = refl;
      fields = refl;
    }
set_row OriginPages First (Origin a b c d e) to has fits small =
    record {
      place = 12;
      is_place = refl;
      row = Origin a b to d e;
      live = (refl, ((fits.0.0, (fits.0.1.0, (small, fits.0.1.1.1))), fits.1));
      kind = refl;
      bytes = refl;
      fields = refl;
    }
set_row OriginPages Last (Origin a b c d e) to has fits small =
    record {
      place = 16;
      is_place = refl;
      row = Origin a b c to e;
      live = (refl, ((fits.0.0, (fits.0.1.0, (fits.0.1.1.0, (small, fits.0.1.1.1.1)))), fits.1));
      kind = refl;
      bytes = refl;
      fields = refl;
    }
set_row Live Previous (Place a b c d e f g h i j k l m n o p q r) to has fits small =
    record {
      place = 4;
      is_place = refl;
      row = Place a b to d e f g h i j k l m n o p q r;
      live = (refl, ((small, fits.0.1), fits.1));
      kind = refl;
      bytes = refl;
      fields = refl;
    }
set_row Live Next (Place a b c d e f g h i j k l m n o p q r) to has fits small =
    record {
      place = 8;
      is_place = refl;
      row = Place a b c to e f g h i j k l m n o p q r;
      live = (refl, ((fits.0.0, (small, fits.0.1.1)), fits.1));
      kind = refl;
      bytes = refl;
      fields = refl;
    }
set_row OriginPages Previous (Place a b c d e f g h i j k l m n o p q r) to has fits small =
    record {
      place = 20;
      is_place = refl;
      row = Place a b c d e f to h i j k l m n o p q r;
      live = (refl, ((fits.0.0, (fits.0.1.0, (fits.0.1.1.0, (fits.0.1.1.1.0, (small, fits.0.1.1.1.1.1))))), fits.1));
      kind = refl;
      bytes = refl;
      fields = refl;
    }
set_row OriginPages Next (Place a b c d e f g h i j k l m n o p q r) to has fits small =
    record {
      place = 24;
      is_place = refl;
      row = Place a b c d e f g to i j k l m n o p q r;
      live = (refl, ((fits.0.0, (fits.0.1.0, (fits.0.1.1.0, (fits.0.1.1.1.0, (fits.0.1.1.1.1.0, (small, fits.0.1.1.1.1.1.1)))))), fits.1));
      kind = refl;
      bytes = refl;
      fields = refl;
    }
set_row PageVisits First (Place a b c d e f g h i j k l m n o p q r) to has fits small =
    record {
      place = 28;
      is_place = refl;
      row = Place a b c d e f g h to j k l m n o p q r;
      live = (refl, ((fits.0.0, (fits.0.1.0, (fits.0.1.1.0, (fits.0.1.1.1.0, (fits.0.1.1.1.1.0, (fits.0.1.1.1.1.1.0, (small, fits.0.1.1.1.1.1.1.1))))))), fits.1));
      kind = refl;
      bytes = refl;
      fields = refl;
    }
set_row PageVisits Last (Place a b c d e f g h i j k l m n o p q r) to has fits small =
    record {
      place = 32;
      is_place = refl;
      row = Place a b c d e f g h i to k l m n o p q r;
      live = (refl, ((fits.0.0, (fits.0.1.0, (fits.0.1.1.0, (fits.0.1.1.1.0, (fits.0.1.1.1.1.0, (fits.0.1.1.1.1.1.0, (fits.0.1.1.1.1.1.1.0, (small, fits.0.1.1.1.1.1.1.1.1)))))))), fits.1));
      kind = refl;
      bytes = refl;
      fields = refl;
    }
set_row References First (Place a b c d e f g h i j k l m n o p q r) to has fits small =
    record {
      place = 36;
      is_place = refl;
      row = Place a b c d e f g h i j to l m n o p q r;
      live = (refl, ((fits.0.0, (fits.0.1.0, (fits.0.1.1.0, (fits.0.1.1.1.0, (fits.0.1.1.1.1.0, (fits.0.1.1.1.1.1.0, (fits.0.1.1.1.1.1.1.0, (fits.0.1.1.1.1.1.1.1.0, (small, fits.0.1.1.1.1.1.1.1.1.1))))))))), fits.1));
      kind = refl;
      bytes = refl;
      fields = refl;
    }
set_row References Last (Place a b c d e f g h i j k l m n o p q r) to has fits small =
    record {
      place = 40;
      is_place = refl;
      row = Place a b c d e f g h i j k to m n o p q r;
      live = (refl, ((fits.0.0, (fits.0.1.0, (fits.0.1.1.0, (fits.0.1.1.1.0, (fits.0.1.1.1.1.0, (fits.0.1.1.1.1.1.0, (fits.0.1.1.1.1.1.1.0, (fits.0.1.1.1.1.1.1.1.0, (fits.0.1.1.1.1.1.1.1.1.0, (small, fits.0.1.1.1.1.1.1.1.1.1.1)))))))))), fits.1));
      kind = refl;
      bytes = refl;
      fields = refl;
    }
set_row Live Previous (Visit a b c d e f g h i j k l m) to has fits small =
    record {
      place = 4;
      is_place = refl;
      row = Visit a to c d e f g h i j k l m;
      live = (refl, ((small, fits.0.1), fits.1));
      kind = refl;
      bytes = refl;
      fields = refl;
    }
set_row Live Next (Visit a b c d e f g h i j k l m) to has fits small =
    record {
      place = 8;
      is_place = refl;
      row = Visit a b to d e f g h i j k l m;
      live = (refl, ((fits.0.0, (small, fits.0.1.1)), fits.1));
      kind = refl;
      bytes = refl;
      fields = refl;
    }
set_row PageVisits Previous (Visit a b c d e f g h i j k l m) to has fits small =
    record {
      place = 20;
      is_place = refl;
      row = Visit a b c d e to g h i j k l m;
      live = (refl, ((fits.0.0, (fits.0.1.0, (fits.0.1.1.0, (fits.0.1.1.1.0, (small, fits.0.1.1.1.1.1))))), fits.1));
      kind = refl;
      bytes = refl;
      fields = refl;
    }
set_row PageVisits Next (Visit a b c d e f g h i j k l m) to has fits small =
    record {
      place = 24;
      is_place = refl;
      row = Visit a b c d e f to h i j k l m;
      live = (refl, ((fits.0.0, (fits.0.1.0, (fits.0.1.1.0, (fits.0.1.1.1.0, (fits.0.1.1.1.1.0, (small, fits.0.1.1.1.1.1.1)))))), fits.1));
      kind = refl;
      bytes = refl;
      fields = refl;
    }
set_row Targets Previous (Visit a b c d e f g h i j k l m) to has fits small =
    record {
      place = 32;
      is_place = refl;
      row = Visit a b c d e f g h to j k l m;
      live = (refl, ((fits.0.0, (fits.0.1.0, (fits.0.1.1.0, (fits.0.1.1.1.0, (fits.0.1.1.1.1.0, (fits.0.1.1.1.1.1.0, (fits.0.1.1.1.1.1.1.0, (small, fits.0.1.1.1.1.1.1.1.1)))))))), fits.1));
      kind = refl;
      bytes = refl;
      fields = refl;
    }
set_row Targets Next (Visit a b c d e f g h i j k l m) to has fits small =
    record {
      place = 36;
      is_place = refl;
      row = Visit a b c d e f g h i to k l m;
      live = (refl, ((fits.0.0, (fits.0.1.0, (fits.0.1.1.0, (fits.0.1.1.1.0, (fits.0.1.1.1.1.0, (fits.0.1.1.1.1.1.0, (fits.0.1.1.1.1.1.1.0, (fits.0.1.1.1.1.1.1.1.0, (small, fits.0.1.1.1.1.1.1.1.1.1))))))))), fits.1));
      kind = refl;
      bytes = refl;
      fields = refl;
    }
set_row Targets First (Visit a b c d e f g h i j k l m) to has fits small =
    record {
      place = 40;
      is_place = refl;
      row = Visit a b c d e f g h i j to l m;
      live = (refl, ((fits.0.0, (fits.0.1.0, (fits.0.1.1.0, (fits.0.1.1.1.0, (fits.0.1.1.1.1.0, (fits.0.1.1.1.1.1.0, (fits.0.1.1.1.1.1.1.0, (fits.0.1.1.1.1.1.1.1.0, (fits.0.1.1.1.1.1.1.1.1.0, (small, fits.0.1.1.1.1.1.1.1.1.1.1)))))))))), fits.1));
      kind = refl;
      bytes = refl;
      fields = refl;
    }
set_row Targets Last (Visit a b c d e f g h i j k l m) to has fits small =
    record {
      place = 44;
      is_place = refl;
      row = Visit a b c d e f g h i j k to m;
      live = (refl, ((fits.0.0, (fits.0.1.0, (fits.0.1.1.0, (fits.0.1.1.1.0, (fits.0.1.1.1.1.0, (fits.0.1.1.1.1.1.0, (fits.0.1.1.1.1.1.1.0, (fits.0.1.1.1.1.1.1.1.0, (fits.0.1.1.1.1.1.1.1.1.0, (fits.0.1.1.1.1.1.1.1.1.1.0, (small, fits.0.1.1.1.1.1.1.1.1.1.1.1))))))))))), fits.1));
      kind = refl;
      bytes = refl;
      fields = refl;
    }
set_row Live Previous (Item a b c d e f g h i j k l m n o p) to has fits small =
    record {
      place = 4;
      is_place = refl;
      row = Item a to c d e f g h i j k l m n o p;
      live = (refl, ((small, fits.0.1), fits.1, fits.2));
      kind = refl;
      bytes = refl;
      fields = refl;
    }
set_row Live Next (Item a b c d e f g h i j k l m n o p) to has fits small =
    record {
      place = 8;
      is_place = refl;
      row = Item a b to d e f g h i j k l m n o p;
      live = (refl, ((fits.0.0, (small, fits.0.1.1)), fits.1, fits.2));
      kind = refl;
      bytes = refl;
      fields = refl;
    }
set_row Children Previous (Item a b c d e f g h i j k l m n o p) to has fits small =
    record {
      place = 20;
      is_place = refl;
      row = Item a b c d e to g h i j k l m n o p;
      live = (refl, ((fits.0.0, (fits.0.1.0, (fits.0.1.1.0, (fits.0.1.1.1.0, (small, fits.0.1.1.1.1.1))))), fits.1, fits.2));
      kind = refl;
      bytes = refl;
      fields = refl;
    }
set_row Children Next (Item a b c d e f g h i j k l m n o p) to has fits small =
    record {
      place = 24;
      is_place = refl;
      row = Item a b c d e f to h i j k l m n o p;
      live = (refl, ((fits.0.0, (fits.0.1.0, (fits.0.1.1.0, (fits.0.1.1.1.0, (fits.0.1.1.1.1.0, (small, fits.0.1.1.1.1.1.1)))))), fits.1, fits.2));
      kind = refl;
      bytes = refl;
      fields = refl;
    }
set_row Children First (Item a b c d e f g h i j k l m n o p) to has fits small =
    record {
      place = 28;
      is_place = refl;
      row = Item a b c d e f g to i j k l m n o p;
      live = (refl, ((fits.0.0, (fits.0.1.0, (fits.0.1.1.0, (fits.0.1.1.1.0, (fits.0.1.1.1.1.0, (fits.0.1.1.1.1.1.0, (small, fits.0.1.1.1.1.1.1.1))))))), fits.1, fits.2));
      kind = refl;
      bytes = refl;
      fields = refl;
    }
set_row Children Last (Item a b c d e f g h i j k l m n o p) to has fits small =
    record {
      place = 32;
      is_place = refl;
      row = Item a b c d e f g h to j k l m n o p;
      live = (refl, ((fits.0.0, (fits.0.1.0, (fits.0.1.1.0, (fits.0.1.1.1.0, (fits.0.1.1.1.1.0, (fits.0.1.1.1.1.1.0, (fits.0.1.1.1.1.1.1.0, (small, fits.0.1.1.1.1.1.1.1.1)))))))), fits.1, fits.2));
      kind = refl;
      bytes = refl;
      fields = refl;
    }
set_row References Previous (Item a b c d e f g h i j k l m n o p) to has fits small =
    record {
      place = 40;
      is_place = refl;
      row = Item a b c d e f g h i j to l m n o p;
      live = (refl, ((fits.0.0, (fits.0.1.0, (fits.0.1.1.0, (fits.0.1.1.1.0, (fits.0.1.1.1.1.0, (fits.0.1.1.1.1.1.0, (fits.0.1.1.1.1.1.1.0, (fits.0.1.1.1.1.1.1.1.0, (fits.0.1.1.1.1.1.1.1.1.0, (small, fits.0.1.1.1.1.1.1.1.1.1.1)))))))))), fits.1, fits.2));
      kind = refl;
      bytes = refl;
      fields = refl;
    }
set_row References Next (Item a b c d e f g h i j k l m n o p) to has fits small =
    record {
      place = 44;
      is_place = refl;
      row = Item a b c d e f g h i j k to m n o p;
      live = (refl, ((fits.0.0, (fits.0.1.0, (fits.0.1.1.0, (fits.0.1.1.1.0, (fits.0.1.1.1.1.0, (fits.0.1.1.1.1.1.0, (fits.0.1.1.1.1.1.1.0, (fits.0.1.1.1.1.1.1.1.0, (fits.0.1.1.1.1.1.1.1.1.0, (fits.0.1.1.1.1.1.1.1.1.1.0, (small, fits.0.1.1.1.1.1.1.1.1.1.1.1))))))))))), fits.1, fits.2));
      kind = refl;
      bytes = refl;
      fields = refl;
    }
set_row rail link old to has fits small = absurd (true≢false (sym has))
