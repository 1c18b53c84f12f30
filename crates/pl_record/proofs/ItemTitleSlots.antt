-- The slots of rows and texts where an item's title lies in other slots, and what these leave of
-- all else, where they go and where they come.
use Rattle.std.proofs.Common.{◌≡◌, ◌∙◌, ◌+◌, ◌==◌, ◌∷◌, ◌<◌, ◌≤◌, [], ℕ, Bool, List, Some, ap, arith, eq-eqb, false}
use Rattle.std.proofs.Common.{get_or, if◌then◌else◌, inl, inr, is_some, length, refl, subst, sym, true}
use Rattle.std.specs.List.{slice_index_or, sum_by}
use Rattle.std.proofs.lemmas.Bool.{cases_Bool, cond_both, true≢false}
use Rattle.std.proofs.lemmas.List.{get_or-map, length-map}
use Rattle.std.proofs.lemmas.List.Elements.{All-map}
use Rattle.pl_base.specs.declared.id.ItemId.{ItemId}
use Rattle.pl_base.specs.declared.id.VisitId.{VisitId}
use Rattle.pl_base.specs.Rows.{IsWellKept, Kept, KeptPage, with_items}
use Rattle.pl_base.specs.Store.{Item, Visit}
use Rattle.pl_base.specs.Tree.{item_at}
use Rattle.pl_base.proofs.OneChanged.{once_by_number, sum_moved}
use Rattle.pl_record.specs.Form.{AreRows, IsLaid}
use Rattle.pl_record.specs.ItemTitles.{entitled}
use Rattle.pl_record.proofs.NamedSlots.{found_all}
use Rattle.pl_record.specs.Records.{HoldsOnce, HoldsTexts, Layout}
use Rattle.pl_record.proofs.ItemMaps.{KeepsTree, at_item, row_slots_same, tree_at, with_titles_at}
use Rattle.pl_base.proofs.ItemLookUps.{id_of_item}
use Rattle.pl_record.proofs.RecordMaps.{beside_records}
use Rattle.pl_record.proofs.RowsBeside.{held_few, once_more}
use Rattle.pl_record.proofs.SlotCounts.{among_some, few_once, item_title_times, live_once, none_times, once_counted}
use Rattle.pl_record.proofs.SlotCounts.{slot_times, texts_times, times, title_times, url_times}
use Rattle.pl_record.proofs.SlotsBeside.{fresh_idle, held_idle, text_beside}
use Rattle.pl_sheets.specs.Sheets.{Pages}
use Rattle.pl_slot.specs.Arena.{is_among, is_live}
use Rattle.pl_slot.proofs.ArenaLaws.{not_free}
use Rattle.pl_text.specs.Chunks.{FreesSlots, Hold, KeepsLive}
use Rattle.pl_text.proofs.HeldTexts.{member_live}

-- ---- an item with another title

abbrev pub titled : List ℕ → Item → Item
titled title i = record i { title = title }

pub keeps_titled : (title : List ℕ) → KeepsTree (titled title)
keeps_titled title i = refl

-- the slots of titles, where the title of an item lies in these
abbrev pub title_there : Layout → ItemId → List ℕ → ItemId → List ℕ
title_there at id slots i = if i.0 == id.0 then slots else at.item_title i

abbrev pub with_title_there : ItemId → List ℕ → Layout → Layout
with_title_there id slots at = with_titles_at (title_there at id slots) at

abbrev pub with_entitled : ItemId → List ℕ → Kept → Kept
with_entitled id title kept = with_items (entitled id title kept.items) kept

titling_id : (id : ItemId) (title : List ℕ) (i : Item) → (at_item id (titled title) i).id ≡ i.id
titling_id id title i =
    cond_both (i.id.0 == id.0) (titled title i) i (λ (j : Item). j.id ≡ i.id) (λ _. refl) (λ _. refl)

module _ (at : Layout) (kept : Kept) (id : ItemId) (title slots : List ℕ) (owner : Item) (n : ℕ) where
  beside : (i : Item) → (i.id.0 == id.0) ≡ false
      → times n (title_there at id slots (at_item id (titled title) i).id) ≡ times n (at.item_title i.id)
  beside i apart =
      ap (λ c. times n (title_there at id slots c)) (titling_id id title i)
      ∙ ap (λ (b : Bool). times n (if b then slots else at.item_title i.id)) apart

  here : item_at kept.items id ≡ Some owner
      → times n (title_there at id slots (at_item id (titled title) owner).id) ≡ times n slots
  here found =
      ap (λ c. times n (title_there at id slots c)) (titling_id id title owner)
      ∙ ap (λ (b : Bool). times n (if b then slots else at.item_title owner.id))
      (eq-eqb owner.id.0 id.0 (ap (λ (c : ItemId). c.0) (id_of_item kept.items id owner found)))

  -- the slots of the old title go, and these come
  pub titled_times : IsWellKept kept → item_at kept.items id ≡ Some owner
      → slot_times (with_title_there id slots at) (with_entitled id title kept) n + times n (at.item_title owner.id)
      ≡ slot_times at kept n + times n slots
  titled_times well found =
      let sums : sum_by (λ (i : Item). times n (title_there at id slots i.id)) (entitled id title kept.items)
      + times n (at.item_title owner.id)
      ≡ sum_by (λ (i : Item). times n (at.item_title i.id)) kept.items
      + times n (title_there at id slots (at_item id (titled title) owner).id) =
      sum_moved (λ (i : Item). i.id.0 == id.0) (at_item id (titled title)) (λ (i : Item). times n (at.item_title i.id))
      (λ (i : Item). times n (title_there at id slots i.id)) beside kept.items owner
      (once_by_number (λ (i : Item). i.id.0) id.0 kept.items well.item_ids.ascending) found in
      omega (
        arith,
        texts_times at kept n,
        texts_times (with_title_there id slots at) (with_entitled id title kept) n,
        ap (times n)
            (row_slots_same (at_item id (titled title)) (tree_at id (titled title) (keeps_titled title)) kept at
            (title_there at id slots)),
        sums,
        here found,
      )

  -- each other title lies among the slots that are left
  pub title_left : (k : ℕ) (d : Item) → k < length kept.items
      → ((get_or kept.items k d).id.0 == id.0) ≡ false
      → times n (at.item_title (get_or kept.items k d).id)
      ≤ slot_times (with_title_there id slots at) (with_entitled id title kept) n
  title_left k d within apart =
      subst (λ t. times n t ≤ slot_times (with_title_there id slots at) (with_entitled id title kept) n)
      (ap (λ (b : Bool). if b then slots else at.item_title (get_or kept.items k d).id) apart)
      (subst (λ c. times n (title_there at id slots c)
      ≤ slot_times (with_title_there id slots at) (with_entitled id title kept) n)
      (ap (λ (i : Item). i.id) (get_or-map (at_item id (titled title)) kept.items k d d within)
      ∙ titling_id id title (get_or kept.items k d))
      (item_title_times (with_title_there id slots at) (with_entitled id title kept) n k d (rw length-map within)))

module _ (at : Layout) (kept : Kept) (targets : VisitId → List Visit) (old new : Pages) (rows : AreRows kept targets)
    (laid : IsLaid at kept targets old) (id : ItemId) (owner : Item) (found : item_at kept.items id ≡ Some owner) where
  -- the slots of the title
  pub owned : Hold (at.item_title owner.id) owner.title old
  owned =
      found_all (λ (i : Item). Hold (at.item_title i.id) i.title old) (λ (i : Item). i.id.0 == id.0) kept.items owner
      laid.texts.item_titles found

  -- texts, where each is held apart from that title
  module _ (title slots : List ℕ) (own : Hold slots title new)
      (moved : (ms bytes : List ℕ) → ((n : ℕ) → times n ms ≤ slot_times (with_title_there id slots at)
      (with_entitled id title kept) n) → Hold ms bytes old → Hold ms bytes new) where
    texts_moved : HoldsTexts (with_title_there id slots at) (with_entitled id title kept) new
    texts_moved =
        record {
          urls = λ k d within.
              let p : KeptPage = slice_index_or kept.pages k d in
              moved (at.url p.page.id) p.page.url
              (λ n. url_times (with_title_there id slots at) (with_entitled id title kept) n k d within)
              (laid.texts.urls k d within);
          titles = λ k d within.
              let p : KeptPage = slice_index_or kept.pages k d in
              moved (at.title p.page.id) p.page.title
              (λ n. title_times (with_title_there id slots at) (with_entitled id title kept) n k d within)
              (laid.texts.titles k d within);
          item_titles =
              All-map (λ (i : Item). Hold (title_there at id slots i.id) i.title new) (at_item id (titled title))
              kept.items
              (λ k d within.
              let i : Item = slice_index_or kept.items k d in
              subst (λ c. Hold (title_there at id slots c) (at_item id (titled title) i).title new)
              (sym (titling_id id title i))
              (choose i (i.id.0 == id.0) (λ apart.
              moved (at.item_title i.id) i.title
              (λ n. title_left at kept id title slots owner n k d within apart) (laid.texts.item_titles k d within))));
        }
      where
        choose : (i : Item) (b : Bool) → (b ≡ false → Hold (at.item_title i.id) i.title new)
            → Hold (if b then slots else at.item_title i.id) (if b then titled title i else i).title new
        choose i true other = own
        choose i false other = other refl

  -- ---- the title goes

  module _ (freed : FreesSlots (at.item_title owner.id) old new) where
    left_times : (n : ℕ)
        → slot_times (with_title_there id [] at) (with_entitled id [] kept) n + times n (at.item_title owner.id)
        ≡ slot_times at kept n + 0
    left_times n = titled_times at kept id [] [] owner n rows.well found

    pub dropped_texts : HoldsTexts (with_title_there id [] at) (with_entitled id [] kept) new
    dropped_texts =
        texts_moved [] [] refl (λ ms bytes few is.
        text_beside (at.item_title owner.id) old new freed.others
        (held_idle (at.item_title owner.id) owner.title old owned)
        ms bytes (λ n among. apart n ms (few n) among) is)
      where
        apart : (n : ℕ) (ms : List ℕ)
            → times n ms ≤ slot_times (with_title_there id [] at) (with_entitled id [] kept) n
            → is_among n ms ≡ true → is_among n (at.item_title owner.id) ≡ false
        apart n ms few among = elim (cases_Bool (is_among n (at.item_title owner.id))) [
          | inl too ↦
              absurd (omega (
                arith,
                few,
                among_some n ms among,
                among_some n (at.item_title owner.id) too,
                left_times n,
                few_once at kept old laid.slots n,
              ))
          | inr none ↦ none
        ]

    pub dropped_once : HoldsOnce (with_title_there id [] at) (with_entitled id [] kept) new
    dropped_once =
        once_counted (with_title_there id [] at) (with_entitled id [] kept) new
        (λ n. omega (arith, left_times n, few_once at kept old laid.slots n))
        (λ n live. elim (cases_Bool (is_among n (at.item_title owner.id))) [
          | inl gone ↦ absurd (not_free n new live (freed.free n gone))
          | inr stays ↦
              omega (
                arith,
                left_times n,
                none_times n (at.item_title owner.id) stays,
                live_once at kept old laid.slots n (sym (ap is_some (freed.others n stays)) ∙ live),
              )
        ])

  -- ---- a title comes, where there was none

  module _ (title : List ℕ) (empty : owner.title ≡ []) (slots : List ℕ) (own : Hold slots title new)
      (fresh : (n : ℕ) → is_among n slots ≡ true → is_live n old ≡ false) (others : KeepsLive slots old new) where
    none_there : (ns : List ℕ) → Hold ns owner.title old → ns ≡ []
    none_there [] held = refl
    none_there (n ∷ ns) held = absurd (omega (arith, held.0, ap (λ (l : List ℕ). length l) empty))

    more_times : (n : ℕ)
        → slot_times (with_title_there id slots at) (with_entitled id title kept) n + 0
        ≡ slot_times at kept n + times n slots
    more_times n =
        ap (λ ns. slot_times (with_title_there id slots at) (with_entitled id title kept) n + times n ns)
        (sym (none_there (at.item_title owner.id) owned))
        ∙ titled_times at kept id title slots owner n rows.well found

    pub given_texts : HoldsTexts (with_title_there id slots at) (with_entitled id title kept) new
    given_texts =
        texts_moved title slots own (λ ms bytes few is.
        text_beside slots old new others (fresh_idle slots old fresh) ms bytes
        (λ n among. apart n (member_live n ms bytes old is among)) is)
      where
        apart : (n : ℕ) → is_live n old ≡ true → is_among n slots ≡ false
        apart n live = elim (cases_Bool (is_among n slots)) [
          | inl new_one ↦ absurd (true≢false (sym live ∙ fresh n new_one))
          | inr none ↦ none
        ]

    pub given_once : HoldsOnce (with_title_there id slots at) (with_entitled id title kept) new
    given_once =
        once_more at kept slots old new laid.rows laid.texts fresh (beside_records slots old new others)
        (with_title_there id slots at) (with_entitled id title kept) laid.slots (held_few slots title new own)
        (λ n. omega (arith, more_times n))
