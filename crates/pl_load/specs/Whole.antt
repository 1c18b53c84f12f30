-- What holds of all that is read from pages that are the form of a store.
use Rattle.std.specs.Prelude.{◌≡◌, ◌+◌, ◌-◌, length, map, replicate}
use Rattle.pl_base.specs.Live.{origin_count}
use Rattle.pl_base.specs.Touched.{page_size}
use Rattle.pl_load.specs.Chained.{HasLoneSlots, HasOwnLists, HasTargetLists}
use Rattle.pl_load.specs.Owners.{NameOwners}
use Rattle.pl_load.specs.Reads.{Reads}
use Rattle.pl_origins.specs.Names.{AreNamed, named}
use Rattle.pl_reading.specs.Texts.{row_texts, wanted}
use Rattle.pl_record.specs.declared.rows.Place.{Place}
use Rattle.pl_record.specs.Form.{form_name, header_size}
use Rattle.pl_sheets.specs.Sheets.{Pages}
use Rattle.pl_slot.specs.Arena.{header_of}
use Rattle.pl_stored.specs.declared.stored.StoredPage.{StoredPage}

-- rows name owners that are there, the lists that they demand are linked, their origins are named
-- and counted, and the header is that of a store with so many slots
pub record HoldsAsForm (pages : Pages) (reads : Reads) : Type 0 where
  pub owners : NameOwners pages reads
  pub own : HasOwnLists pages reads
  pub targets : HasTargetLists pages reads
  pub lone : HasLoneSlots pages reads
  pub names : AreNamed
      (named reads.stored.pages (map (λ (p : Place). p.origin) reads.places))
  pub count : length reads.origins
      ≡ origin_count (map (λ (p : StoredPage). p.url) reads.stored.pages)
  pub live : (header_of pages).live
      ≡ length reads.origins + length reads.places + length reads.visits + length reads.items
      + wanted (row_texts reads.places reads.items)
  pub form : (header_of pages).form ≡ form_name
  pub rest : (header_of pages).rest ≡ replicate (page_size - header_size) 0
