-- What the pages of a store hold before its first command, computed.
use Rattle.std.proofs.Common.{◌≡◌, ◌<◌, ◌≤◌, ◌∷◌, ◌++◌, [], ℕ, None, arith, refl, suc, true, zero}
use Rattle.std.specs.Option.{IsSome}
use Rattle.std.specs.List.{IsDistinct}
use Rattle.std.proofs.lemmas.List.Elements.{All-from_recursion, All-nil}
use Rattle.pl_base.specs.Rows.{Kept, KeptOrigin, KeptPage, opening_with, page_visits}
use Rattle.pl_base.specs.Store.{Item, Visit, roots}
use Rattle.pl_base.specs.Tree.{parent_of, references}
use Rattle.pl_record.specs.Chains.{HasAlone, HasChains, HasLive, IsAlone, item_slots, page_slots, pages_in, visit_slots}
use Rattle.pl_record.specs.Form.{IsHeader, IsLaid}
use Rattle.pl_record.specs.Opening.{opening_pages}
use Rattle.pl_record.specs.Records.{HoldsOnce, HoldsRow, HoldsRows, HoldsTexts, Layout, item_record, origin_record, page_record, row_slots}
use Rattle.pl_record.specs.Records.{text_slots, visit_record}
use Rattle.pl_rail.specs.declared.owner.Owner.TheVariants.{At}
use Rattle.pl_rail.specs.Rails.{Lists, none}
use Rattle.pl_sheets.specs.Sheets.{ArePages, has_changed, page_count}
use Rattle.pl_slot.specs.Arena.{IsArena, KeepsSlots, header_of, is_among, is_free, is_live, row_at}
use Rattle.pl_slot.specs.declared.links.Rail.TheVariants.{Children, OriginPages, PageVisits, References, Targets}
use Rattle.pl_slot.specs.Links.{kind_at, link_at}
use Rattle.pl_slot.specs.SlotReading.{row_of}
use Rattle.pl_slot.proofs.ArenaLaws.{free_slot, live_slot}
use Rattle.pl_text.specs.Chunks.{Hold}
use Rattle.pl_slot.proofs.SlotPlaces.{slot_bounds}

-- the numbers of eight slots
eight : (P : ℕ → Type 0) → P 1 → P 2 → P 3 → P 4 → P 5 → P 6 → P 7 → P 8 → (n : ℕ) → 1 ≤ n → n ≤ 8 → P n
eight P a b c d e f g h zero some few = absurd (omega (arith, some))
eight P a b c d e f g h (suc zero) some few = a
eight P a b c d e f g h (suc (suc zero)) some few = b
eight P a b c d e f g h (suc (suc (suc zero))) some few = c
eight P a b c d e f g h (suc (suc (suc (suc zero)))) some few = d
eight P a b c d e f g h (suc (suc (suc (suc (suc zero))))) some few = e
eight P a b c d e f g h (suc (suc (suc (suc (suc (suc zero)))))) some few = f
eight P a b c d e f g h (suc (suc (suc (suc (suc (suc (suc zero))))))) some few = g
eight P a b c d e f g h (suc (suc (suc (suc (suc (suc (suc (suc zero)))))))) some few = h
eight P a b c d e f g h (suc (suc (suc (suc (suc (suc (suc (suc (suc n))))))))) some few = absurd (omega (arith, few))

pub opening_slots : KeepsSlots opening_pages
unfolding row_at row_of header_of
opening_slots =
    record {
      rows = λ n there.
          let within = slot_bounds n opening_pages there in
          eight (λ k. IsSome (row_at k opening_pages)) refl refl refl refl refl refl refl refl n within.0 within.1;
      free =
          record {
            chain = 7 ∷ 8 ∷ [];
            first = refl;
            linked = (refl, (refl, tt));
            whole = λ n is.
                let within = slot_bounds n opening_pages (free_slot n opening_pages is) in
                eight (λ k. is_free k opening_pages ≡ true → is_among k (7 ∷ 8 ∷ []) ≡ true) (λ never. never)
                (λ never. never) (λ never. never) (λ never. never) (λ never. never) (λ never. never) (λ there. refl)
                (λ there. refl) n within.0 within.1 is;
          };
    }

-- the header has their number
pub opening_told : (header_of opening_pages).pages ≡ page_count opening_pages
unfolding header_of
opening_told = refl

three : page_count opening_pages ≡ 3
three = refl

opening_whole : ArePages opening_pages
opening_whole =
    record {
      some_page = omega (arith, three);
      few = omega (arith, three);
      whole = refl;
      gate = refl;
      some_before = omega arith;
      before = omega (arith, three);
      added = λ page above below. each page above (omega (arith, three, below));
    }
  where
    each : (page : ℕ) → 1 ≤ page → page < 3 → has_changed page opening_pages ≡ true
    each zero above below = absurd (omega (arith, above))
    each (suc zero) above below = refl
    each (suc (suc zero)) above below = refl
    each (suc (suc (suc page))) above below = absurd (omega (arith, below))

pub opening_is_arena : IsArena opening_pages
opening_is_arena =
    record {
      whole = opening_whole;
      some_page = omega (arith, three);
      few = omega (arith, three);
      told = opening_told;
      slots = opening_slots;
    }

-- ---- the rows of the opening store

abbrev pub opening_layout : Layout
opening_layout =
    record {
      page = λ id. none;
      visit = λ id. none;
      item = λ id. record { 0 = id.0 };
      url = λ id. [];
      title = λ id. [];
      item_title = λ id. [];
    }

abbrev pub opening_kept : Kept
opening_kept = opening_with (record { page = 1; visit = 1; item = 7 })

opening_rows_held : HoldsRows opening_layout opening_kept opening_pages
unfolding row_at row_of
opening_rows_held =
    record {
      origins = All-nil (λ (o : KeptOrigin). HoldsRow (origin_record o) opening_pages);
      places = All-nil (λ (p : KeptPage). HoldsRow (page_record opening_layout p) opening_pages);
      visits = All-nil (λ (v : Visit). HoldsRow (visit_record opening_layout v) opening_pages);
      items =
          All-from_recursion (λ (i : Item). HoldsRow (item_record opening_layout roots i) opening_pages) roots
          (refl, (refl, (refl, (refl, (refl, (refl, tt))))));
    }

opening_texts_held : HoldsTexts opening_layout opening_kept opening_pages
opening_texts_held =
    record {
      urls = All-nil (λ (p : KeptPage). Hold [] p.page.url opening_pages);
      titles = All-nil (λ (p : KeptPage). Hold [] p.page.title opening_pages);
      item_titles =
          All-from_recursion (λ (i : Item). Hold [] i.title opening_pages) roots
          (refl, (refl, (refl, (refl, (refl, (refl, tt))))));
    }

opening_once : HoldsOnce opening_layout opening_kept opening_pages
unfolding row_at row_of IsDistinct
opening_once =
    record {
      once = ((refl, (refl, (refl, (refl, (refl, tt))))), ((refl, (refl, (refl, (refl, tt)))), ((refl, (refl, (refl, tt))), ((refl, (refl, tt)), ((refl, tt), (tt, tt))))));
      whole = λ n is.
          let within = slot_bounds n opening_pages (live_slot n opening_pages is) in
          eight (λ k. is_live k opening_pages ≡ true
          → is_among k (row_slots opening_layout opening_kept ++ text_slots opening_layout opening_kept) ≡ true)
          (λ there. refl) (λ there. refl) (λ there. refl) (λ there. refl) (λ there. refl) (λ there. refl)
          (λ never. never) (λ never. never) n within.0 within.1 is;
    }

opening_live : HasLive opening_layout opening_kept opening_pages
unfolding row_at row_of header_of kind_at link_at
opening_live =
    record {
      origins = record { members = refl; linked = (refl, refl, tt) };
      places = record { members = refl; linked = (refl, refl, tt) };
      visits = record { members = refl; linked = (refl, refl, tt) };
      items =
          record {
            members = refl;
            linked =
                (refl, refl, (refl, refl, (refl, refl, (refl, refl, (refl, refl, (refl, refl, (refl, refl, tt)))))));
          };
    }

opening_chains : HasChains opening_layout opening_kept (λ id. []) opening_pages
unfolding row_at row_of header_of kind_at link_at
opening_chains =
    record {
      origins =
          All-nil (λ (o : KeptOrigin).
          Lists OriginPages (At o.origin) (page_slots opening_layout (pages_in opening_kept o.origin)) opening_pages);
      visits =
          All-nil (λ (p : KeptPage).
          Lists PageVisits (At (opening_layout.page p.page.id))
          (visit_slots opening_layout (page_visits opening_kept p.page.id)) opening_pages);
      references =
          All-nil (λ (p : KeptPage).
          Lists References (At (opening_layout.page p.page.id))
          (item_slots opening_layout (references opening_kept.items p.page.id)) opening_pages);
      targeted =
          All-nil (λ (v : Visit).
          Lists Targets (At (opening_layout.visit v.id)) (visit_slots opening_layout []) opening_pages);
      children =
          All-from_recursion (λ (i : Item).
          Lists Children (At (opening_layout.item i.id)) (item_slots opening_layout i.children) opening_pages) roots (
            record { members = refl; linked = (refl, refl, (refl, refl, (refl, refl, (refl, refl, (refl, refl, (refl, refl, tt)))))) },
            (record { members = refl; linked = (refl, refl, tt) }, (record { members = refl; linked = (refl, refl, tt) }, (record { members = refl; linked = (refl, refl, tt) }, (record { members = refl; linked = (refl, refl, tt) }, (record { members = refl; linked = (refl, refl, tt) }, tt))))),
          );
    }

opening_alone : HasAlone opening_layout opening_kept opening_pages
unfolding row_at row_of kind_at link_at
opening_alone =
    record {
      visits = All-nil (λ (v : Visit). v.source ≡ None → IsAlone Targets (opening_layout.visit v.id) opening_pages);
      roots =
          All-from_recursion (λ (i : Item).
          parent_of opening_kept.items i.id ≡ None → IsAlone Children (opening_layout.item i.id) opening_pages) roots (
            (λ none. record { before = refl; behind = refl }),
            (
              (λ some. absurd (cc)),
              (
                (λ some. absurd (cc)),
                (
                  (λ some. absurd (cc)),
                  (
                    (λ some. absurd (cc)),
                    ((λ some. absurd (cc)), tt),
                  ),
                ),
              ),
            ),
          );
      others =
          All-from_recursion (λ (i : Item).
          i.page ≡ None → IsAlone References (opening_layout.item i.id) opening_pages) roots ((λ none. record { before = refl; behind = refl }), ((λ none. record { before = refl; behind = refl }), ((λ none. record { before = refl; behind = refl }), ((λ none. record { before = refl; behind = refl }), ((λ none. record { before = refl; behind = refl }), ((λ none. record { before = refl; behind = refl }), tt))))));
    }

opening_header : IsHeader opening_kept (header_of opening_pages)
unfolding header_of
opening_header = record { form = refl; day = refl; ids = refl; live = refl; rest = refl }

pub opening_laid : IsLaid opening_layout opening_kept (λ id. []) opening_pages
opening_laid =
    record {
      arena = opening_is_arena;
      header = opening_header;
      rows = opening_rows_held;
      texts = opening_texts_held;
      slots = opening_once;
      live = opening_live;
      chains = opening_chains;
      alone = opening_alone;
    }
