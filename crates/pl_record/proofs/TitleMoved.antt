-- What the slots of a page's title leave of all else, where they go and where they come.
use Rattle.std.proofs.Common.{◌≡◌, ◌∙◌, ◌==◌, ◌+◌, ◌≤◌, ◌∷◌, [], ℕ, Bool, List, Some, ap, arith, false, if◌then◌else◌}
use Rattle.std.proofs.Common.{inl, inr, is_some, length, refl, subst, sym, true}
use Rattle.std.specs.List.{slice_index_or}
use Rattle.std.proofs.lemmas.Bool.{cases_Bool, true≢false}
use Rattle.std.proofs.lemmas.List.Elements.{All-map}
use Rattle.pl_base.specs.declared.id.PageId.{PageId}
use Rattle.pl_base.specs.declared.id.VisitId.{VisitId}
use Rattle.pl_base.specs.Rows.{Kept, KeptPage, page_at, titled, with_title}
use Rattle.pl_base.specs.Store.{Item, Visit}
use Rattle.pl_record.specs.Chains.{HasAlone, HasChains, HasLive}
use Rattle.pl_record.specs.Form.{AreRows, IsLaid}
use Rattle.pl_record.specs.Records.{HoldsOnce, HoldsRows, HoldsTexts, Layout}
use Rattle.pl_record.proofs.NamedSlots.{found_all}
use Rattle.pl_record.proofs.ChainsKept as held
use Rattle.pl_record.proofs.ChainsKept.{KeepsEnds}
use Rattle.pl_record.proofs.RowsBeside.{held_few, once_more}
use Rattle.pl_record.proofs.RecordMaps.{beside_records}
use Rattle.pl_record.proofs.RowSets.{rows_each}
use Rattle.pl_record.proofs.SlotCounts.{among_some, few_once, item_title_times, live_once, none_times, once_counted}
use Rattle.pl_record.proofs.SlotCounts.{slot_times, times}
use Rattle.pl_record.proofs.SlotsBeside.{AreIdle, fresh_idle, held_idle, links_beside, members_beside, row_beside}
use Rattle.pl_record.proofs.SlotsBeside.{text_beside}
use Rattle.pl_record.proofs.TitleSlots.{title_left, titled_times, titling, titling_id, titling_url, url_left}
use Rattle.pl_record.proofs.TitleSlots.{with_title_at}
use Rattle.pl_sheets.specs.Sheets.{Pages}
use Rattle.pl_slot.specs.Arena.{is_among, is_live}
use Rattle.pl_slot.proofs.ArenaLaws.{not_free}
use Rattle.pl_text.specs.Chunks.{FreesSlots, Hold, KeepsLive}
use Rattle.pl_text.proofs.HeldTexts.{member_live}

-- ---- what idle slots leave

module _ (at : Layout) (kept : Kept) (targets : VisitId → List Visit) (ns : List ℕ) (old new : Pages)
    (others : KeepsLive ns old new) (idle : AreIdle ns old) (ends : KeepsEnds old new) where
  pub rows_left : HoldsRows at kept old → HoldsRows at kept new
  rows_left rows = rows_each at kept old new (row_beside ns old new others idle) rows

  pub live_left : HasLive at kept old → HasLive at kept new
  live_left =
      held.live_kept old new (members_beside ns old new others idle) (links_beside ns old new others idle) ends at kept
      targets

  pub chains_left : HasChains at kept targets old → HasChains at kept targets new
  chains_left =
      held.chains_kept old new (members_beside ns old new others idle) (links_beside ns old new others idle) ends at
      kept targets

  pub alone_left : HasAlone at kept old → HasAlone at kept new
  alone_left =
      held.alone_all_kept old new (members_beside ns old new others idle) (links_beside ns old new others idle) ends at
      kept targets

module _ (at : Layout) (kept : Kept) (targets : VisitId → List Visit) (old new : Pages) (rows : AreRows kept targets)
    (laid : IsLaid at kept targets old) (id : PageId) (owner : KeptPage) (found : page_at kept id ≡ Some owner) where
  -- the slots of the title
  pub owned : Hold (at.title owner.page.id) owner.page.title old
  owned =
      found_all (λ (p : KeptPage). Hold (at.title p.page.id) p.page.title old) (λ (p : KeptPage). p.page.id.0 == id.0)
      kept.pages owner laid.texts.titles found

  -- texts, where each is held apart from that title
  module _ (title slots : List ℕ) (own : Hold slots title new)
      (moved : (ms bytes : List ℕ) → ((n : ℕ) → times n ms ≤ slot_times (with_title_at id slots at)
      (with_title id title kept) n) → Hold ms bytes old → Hold ms bytes new) where
    texts_moved : HoldsTexts (with_title_at id slots at) (with_title id title kept) new
    texts_moved =
        record {
          urls =
              All-map (λ (p : KeptPage). Hold (at.url p.page.id) p.page.url new) (titling id title) kept.pages
              (λ k d within.
              let p : KeptPage = slice_index_or kept.pages k d in
              subst (λ url. Hold (at.url (titling id title p).page.id) url new) (sym (titling_url id title p))
              (subst (λ i. Hold (at.url i) p.page.url new) (sym (titling_id id title p))
              (moved (at.url p.page.id) p.page.url (λ n. url_left at kept id title slots owner n k d within)
              (laid.texts.urls k d within))));
          titles =
              All-map (λ (p : KeptPage). Hold ((with_title_at id slots at).title p.page.id) p.page.title new)
              (titling id title) kept.pages
              (λ k d within.
              let p : KeptPage = slice_index_or kept.pages k d in
              subst (λ i. Hold ((with_title_at id slots at).title i) (titling id title p).page.title new)
              (sym (titling_id id title p))
              (title_at p (λ apart.
              moved (at.title p.page.id) p.page.title
              (λ n. title_left at kept id title slots owner n k d within apart) (laid.texts.titles k d within))));
          item_titles = λ k d within.
              let i : Item = slice_index_or kept.items k d in
              moved (at.item_title i.id) i.title
              (λ n. item_title_times (with_title_at id slots at) (with_title id title kept) n k d within)
              (laid.texts.item_titles k d within);
        }
      where
        choose : (p : KeptPage) (b : Bool) → (b ≡ false → Hold (at.title p.page.id) p.page.title new)
            → Hold (if b then slots else at.title p.page.id) (if b then titled title p else p).page.title new
        choose p true other = own
        choose p false other = other refl

        title_at : (p : KeptPage)
            → ((p.page.id.0 == id.0) ≡ false → Hold (at.title p.page.id) p.page.title new)
            → Hold (if p.page.id.0 == id.0 then slots else at.title p.page.id) (titling id title p).page.title new
        title_at p other = choose p (p.page.id.0 == id.0) other

  -- ---- the title goes

  module _ (freed : FreesSlots (at.title owner.page.id) old new) where
    left_times : (n : ℕ)
        → slot_times (with_title_at id [] at) (with_title id [] kept) n + times n (at.title owner.page.id)
        ≡ slot_times at kept n + 0
    left_times n = titled_times at kept id [] [] owner n rows.well found

    pub dropped_texts : HoldsTexts (with_title_at id [] at) (with_title id [] kept) new
    dropped_texts =
        texts_moved [] [] refl (λ ms bytes few is.
        text_beside (at.title owner.page.id) old new freed.others
        (held_idle (at.title owner.page.id) owner.page.title old owned)
        ms bytes (λ n among. apart n ms (few n) among) is)
      where
        apart : (n : ℕ) (ms : List ℕ) → times n ms ≤ slot_times (with_title_at id [] at) (with_title id [] kept) n
            → is_among n ms ≡ true → is_among n (at.title owner.page.id) ≡ false
        apart n ms few among = elim (cases_Bool (is_among n (at.title owner.page.id))) [
          | inl too ↦
              absurd (omega (
                arith,
                few,
                among_some n ms among,
                among_some n (at.title owner.page.id) too,
                left_times n,
                few_once at kept old laid.slots n,
              ))
          | inr none ↦ none
        ]

    pub dropped_once : HoldsOnce (with_title_at id [] at) (with_title id [] kept) new
    dropped_once =
        once_counted (with_title_at id [] at) (with_title id [] kept) new
        (λ n. omega (arith, left_times n, few_once at kept old laid.slots n))
        (λ n live. elim (cases_Bool (is_among n (at.title owner.page.id))) [
          | inl gone ↦ absurd (not_free n new live (freed.free n gone))
          | inr stays ↦
              omega (
                arith,
                left_times n,
                none_times n (at.title owner.page.id) stays,
                live_once at kept old laid.slots n (sym (ap is_some (freed.others n stays)) ∙ live),
              )
        ])

  -- ---- a title comes, where there was none

  module _ (title : List ℕ) (empty : owner.page.title ≡ []) (slots : List ℕ) (own : Hold slots title new)
      (fresh : (n : ℕ) → is_among n slots ≡ true → is_live n old ≡ false) (others : KeepsLive slots old new) where
    none_there : (ns : List ℕ) → Hold ns owner.page.title old → ns ≡ []
    none_there [] held = refl
    none_there (n ∷ ns) held = absurd (omega (arith, held.0, ap (λ (l : List ℕ). length l) empty))

    more_times : (n : ℕ)
        → slot_times (with_title_at id slots at) (with_title id title kept) n + 0
        ≡ slot_times at kept n + times n slots
    more_times n =
        ap (λ ns. slot_times (with_title_at id slots at) (with_title id title kept) n + times n ns)
        (sym (none_there (at.title owner.page.id) owned))
        ∙ titled_times at kept id title slots owner n rows.well found

    pub given_texts : HoldsTexts (with_title_at id slots at) (with_title id title kept) new
    given_texts =
        texts_moved title slots own (λ ms bytes few is.
        text_beside slots old new others (fresh_idle slots old fresh) ms bytes
        (λ n among. apart n (member_live n ms bytes old is among)) is)
      where
        apart : (n : ℕ) → is_live n old ≡ true → is_among n slots ≡ false
        apart n live = elim (cases_Bool (is_among n slots)) [
          | inl new_one ↦ absurd (true≢false (sym live ∙ fresh n new_one))
          | inr none ↦ none
        ]

    pub given_once : HoldsOnce (with_title_at id slots at) (with_title id title kept) new
    given_once =
        once_more at kept slots old new laid.rows laid.texts fresh (beside_records slots old new others)
        (with_title_at id slots at) (with_title id title kept) laid.slots (held_few slots title new own)
        (λ n. omega (arith, more_times n))
