-- The rows that linked slots keep with a page more, and with its origin where that is new.
use Rattle.std.proofs.Common.{◌≡◌, ◌∙◌, ◌++◌, ◌==◌, ◌∷◌, [], ℕ, Bool, List, ap}
use Rattle.std.proofs.Common.{◌-◌, eq-eqb, false, if◌then◌else◌, map, refl, replicate, sym, true}
use Rattle.std.specs.List.{All, AllByRecursion}
use Rattle.std.specs.Option.{IfSome}
use Rattle.pl_base.specs.declared.id.Ids.{Ids}
use Rattle.pl_base.specs.declared.id.Slot.{Slot}
use Rattle.pl_base.specs.declared.id.VisitId.{VisitId}
use Rattle.pl_base.specs.Good.{AreIds}
use Rattle.pl_base.specs.Live.{live_slots}
use Rattle.pl_base.specs.Rows.{Kept, KeptPage, has_page, next_page, store_of, with_new_page}
use Rattle.pl_base.specs.Store.{Item, Visit}
use Rattle.pl_base.specs.Touched.{page_size}
use Rattle.pl_record.specs.Form.{AreRows, form_name, header_size}
use Rattle.pl_record.specs.LinkedRows.{AreIndexed, AreLinked, Entries}
use Rattle.pl_record.specs.Records.{Layout}
use Rattle.pl_record.specs.SlotChanges.{InsertsPlace}
use Rattle.pl_record.proofs.ChainsKept.{KeepsEnds}
use Rattle.pl_record.proofs.Filled.{IsFilled, laid_out}
use Rattle.pl_record.proofs.FilledMoves.{filled_still}
use Rattle.pl_record.proofs.PlaceComes.{each_apart, place_comes, with_page_at}
use Rattle.pl_record.proofs.TitleSet.{live_ends}
use Rattle.pl_sheets.specs.Sheets.{Pages}
use Rattle.pl_slot.specs.declared.kind.LiveKind.{LiveKind}
use Rattle.pl_slot.specs.declared.kind.LiveKind.TheVariants as live
use Rattle.pl_slot.specs.Arena.{IsArena, SetsHeader, header_of}
use Rattle.pl_slot.specs.Header.{ends_of}

pub ids_ends : (ids : Ids) (old new : Pages) → SetsHeader (λ h. record h { ids = ids }) old new → KeepsEnds old new
ids_ends ids old new sets kind = ap (ends_of kind) sets.header ∙ still kind
  where
    still : (k : LiveKind) → ends_of k (record (header_of old) { ids = ids }) ≡ ends_of k (header_of old)
    still live.Origin = refl
    still live.Place = refl
    still live.Visit = refl
    still live.Item = refl

-- the header's other fields are those of rows
pub record HasBody (kept : Kept) (pages : Pages) : Type 0 where
  pub form : (header_of pages).form ≡ form_name
  pub day : (header_of pages).day ≡ kept.day
  pub rest : (header_of pages).rest ≡ replicate (page_size - header_size) 0

module _ (at : Layout) (kept : Kept) (targets : VisitId → List Visit) (url : List ℕ) (origin slot : Slot)
    (old a b c : Pages) (ids : AreIds 1 kept.ids.page (map (λ (p : KeptPage). p.page.id.0) kept.pages))
    (visited : All (λ (v : Visit). has_page kept v.page ≡ true) kept.visits)
    (own : All (λ (i : Item). IfSome i.page (λ page. has_page kept page ≡ true)) kept.items)
    (f : IsFilled at kept targets old)
    (comes : InsertsPlace (next_page url origin kept).page.id url origin slot old a) where
  abbrev next : KeptPage
  next = next_page url origin kept

  abbrev bt : Layout
  bt = with_page_at next.page.id slot comes.text at

  pub entries_more : (ps : List KeptPage)
      → AllByRecursion (λ (p : KeptPage). (p.page.id.0 == next.page.id.0) ≡ false) ps
      → map {B = ℕ × Slot} (λ (p : KeptPage). (p.page.id.0, bt.page p.page.id)) (ps ++ next ∷ [])
      ≡ map {B = ℕ × Slot} (λ (p : KeptPage). (p.page.id.0, at.page p.page.id)) ps
      ++ (next.page.id.0, slot) ∷ []
  entries_more [] all =
      ap (λ (t : Bool). (next.page.id.0, if t then slot else at.page next.page.id) ∷ [])
      (eq-eqb next.page.id.0 next.page.id.0 refl)
  entries_more (p ∷ ps) all =
      λ i.
      (p.page.id.0, ap (λ (t : Bool). if t then slot else at.page p.page.id) all.0 i)
      ∷ entries_more ps all.1 i

  module _ (rows : AreRows (with_new_page url origin kept) targets) (body : HasBody kept old) (number : ℕ)
      (set_ids : SetsHeader (λ h. record h { ids = (with_new_page url origin kept).ids }) a b)
      (counts : SetsHeader (λ h. record h { live = number }) b c)
      (number_is : number ≡ live_slots (store_of (with_new_page url origin kept))) (arena : IsArena c)
      (ps vs is : Entries) (indexed : AreIndexed at kept ps vs is) where
    pub page_inserted
        : AreLinked (with_new_page url origin kept) targets c (ps ++ (next.page.id.0, slot) ∷ []) vs is
    page_inserted =
        let placed : IsFilled bt (with_new_page url origin kept) targets a =
        place_comes at kept targets url origin slot old a ids visited own f comes in
        let named : IsFilled bt (with_new_page url origin kept) targets b =
        filled_still bt (with_new_page url origin kept) targets a b placed
        (ids_ends (with_new_page url origin kept).ids a b set_ids) set_ids.rows in
        let counted : IsFilled bt (with_new_page url origin kept) targets c =
        filled_still bt (with_new_page url origin kept) targets b c named (live_ends number b c counts) counts.rows in
        record {
          at = bt;
          rows = rows;
          laid =
              laid_out bt (with_new_page url origin kept) targets c counted arena
              (record {
                form =
                    ap (λ h. h.form) counts.header ∙ ap (λ h. h.form) set_ids.header ∙ comes.body.form ∙ body.form;
                day = ap (λ h. h.day) counts.header ∙ ap (λ h. h.day) set_ids.header ∙ comes.body.day ∙ body.day;
                ids = ap (λ h. h.ids) counts.header ∙ ap (λ h. h.ids) set_ids.header;
                live = ap (λ h. h.live) counts.header ∙ number_is;
                rest =
                    ap (λ h. h.rest) counts.header ∙ ap (λ h. h.rest) set_ids.header ∙ comes.body.rest ∙ body.rest;
              });
          indexed = record {
            pages =
                ap (λ (es : Entries). es ++ (next.page.id.0, slot) ∷ []) indexed.pages
                ∙ sym (entries_more kept.pages
                (each_apart at kept targets url origin slot old a ids visited own f comes));
            visits = indexed.visits;
            items = indexed.items;
          };
        }
