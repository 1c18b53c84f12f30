-- The slots of rows and texts where a page's title lies in other slots.
use Rattle.std.proofs.Common.{◌≡◌, ◌∙◌, ◌+◌, ◌++◌, ◌==◌, ℕ, Bool, List, Some, ap, arith, eq-eqb, false}
use Rattle.std.proofs.Common.{if◌then◌else◌}
use Rattle.std.proofs.Common.{◌<◌, ◌≤◌, get_or, length, map, refl, subst}
use Rattle.std.specs.List.{sum_by}
use Rattle.std.proofs.lemmas.List.{get_or-map, length-map}
use Rattle.pl_base.specs.declared.id.PageId.{PageId}
use Rattle.pl_base.specs.Rows.{IsWellKept, Kept, KeptPage, page_at, titled, with_title}
use Rattle.pl_base.proofs.KeyCounts.{count-append}
use Rattle.pl_base.proofs.OneChanged.{once_by_number, sum_moved}
use Rattle.pl_base.proofs.PageLaws.{id_at}
use Rattle.pl_record.specs.Records.{Layout, row_slots}
use Rattle.pl_record.proofs.PageMaps.{numbers_same}
use Rattle.pl_record.proofs.PagesChanged.{at_page, keeps_at}
use Rattle.pl_record.proofs.SlotCounts.{page_texts, slot_times, texts_times, times, title_times, url_times}

-- the layout in which the title of a page lies in these slots
abbrev pub with_title_at : PageId → List ℕ → Layout → Layout
with_title_at id slots at = record at { title = λ i. if i.0 == id.0 then slots else at.title i }

-- ---- a page with another title

abbrev pub titling : PageId → List ℕ → KeptPage → KeptPage
titling id title = at_page id (titled title)

pub titling_id : (id : PageId) (title : List ℕ) (p : KeptPage) → (titling id title p).page.id ≡ p.page.id
titling_id id title p = ap (λ (q : KeptPage). q.page.id) (keeps_at id (titled title) (λ q. refl) p)

pub titling_origin : (id : PageId) (title : List ℕ) (p : KeptPage) → (titling id title p).origin ≡ p.origin
titling_origin id title p = ap (λ (q : KeptPage). q.origin) (keeps_at id (titled title) (λ q. refl) p)

pub titling_url : (id : PageId) (title : List ℕ) (p : KeptPage) → (titling id title p).page.url ≡ p.page.url
titling_url id title p = ap (λ (q : KeptPage). q.page.url) (keeps_at id (titled title) (λ q. refl) p)

module _ (at : Layout) (kept : Kept) (id : PageId) (title slots : List ℕ) (owner : KeptPage) (n : ℕ) where
  beside : (p : KeptPage) → (p.page.id.0 == id.0) ≡ false
      → times n (page_texts (with_title_at id slots at) (titling id title p)) ≡ times n (page_texts at p)
  beside p apart =
      ap (λ i. times n (at.url i ++ (if i.0 == id.0 then slots else at.title i))) (titling_id id title p)
      ∙ ap (λ (b : Bool). times n (at.url p.page.id ++ (if b then slots else at.title p.page.id))) apart

  here : page_at kept id ≡ Some owner
      → times n (page_texts (with_title_at id slots at) (titling id title owner))
      ≡ times n (at.url owner.page.id ++ slots)
  here found =
      ap (λ i. times n (at.url i ++ (if i.0 == id.0 then slots else at.title i))) (titling_id id title owner)
      ∙ ap (λ (b : Bool). times n (at.url owner.page.id ++ (if b then slots else at.title owner.page.id)))
      (eq-eqb owner.page.id.0 id.0 (ap (λ (i : PageId). i.0) (id_at kept id owner found)))

  -- the slots of the old title go, and these come
  pub titled_times : IsWellKept kept → page_at kept id ≡ Some owner
      → slot_times (with_title_at id slots at) (with_title id title kept) n + times n (at.title owner.page.id)
      ≡ slot_times at kept n + times n slots
  titled_times well found =
      let sums : sum_by (λ (p : KeptPage). times n (page_texts (with_title_at id slots at) p))
      (map (titling id title) kept.pages) + times n (page_texts at owner)
      ≡ sum_by (λ (p : KeptPage). times n (page_texts at p)) kept.pages
      + times n (page_texts (with_title_at id slots at) (titling id title owner)) =
      sum_moved (λ (p : KeptPage). p.page.id.0 == id.0) (titling id title) (λ (p : KeptPage). times n (page_texts at p))
      (λ (p : KeptPage). times n (page_texts (with_title_at id slots at) p)) beside kept.pages owner
      (once_by_number (λ (p : KeptPage). p.page.id.0) id.0 kept.pages well.page_ids.ascending) found in
      omega (
        arith,
        texts_times at kept n,
        texts_times (with_title_at id slots at) (with_title id title kept) n,
        rows_same,
        sums,
        here found,
        count-append (λ (k : ℕ). k) n (at.url owner.page.id) slots,
        count-append (λ (k : ℕ). k) n (at.url owner.page.id) (at.title owner.page.id),
      )
    where
      rows_same : times n (row_slots (with_title_at id slots at) (with_title id title kept)) ≡ times n
          (row_slots at kept)
      rows_same =
          ap (λ numbers. times n
          (map (λ o. o.origin.0) kept.origins ++ numbers ++ map (λ v. (at.visit v.id).0) kept.visits
          ++ map (λ i. (at.item i.id).0) kept.items))
          (numbers_same (titling id title) (titling_id id title) (titling_origin id title) at kept.pages)

  -- each other text lies among the slots that are left
  pub url_left : (k : ℕ) (d : KeptPage) → k < length kept.pages
      → times n (at.url (get_or kept.pages k d).page.id)
      ≤ slot_times (with_title_at id slots at) (with_title id title kept) n
  url_left k d within =
      subst (λ i. times n (at.url i) ≤ slot_times (with_title_at id slots at) (with_title id title kept) n)
      (ap (λ (p : KeptPage). p.page.id) (get_or-map (titling id title) kept.pages k d d within)
      ∙ titling_id id title (get_or kept.pages k d))
      (url_times (with_title_at id slots at) (with_title id title kept) n k d (rw length-map within))

  pub title_left : (k : ℕ) (d : KeptPage) → k < length kept.pages
      → ((get_or kept.pages k d).page.id.0 == id.0) ≡ false
      → times n (at.title (get_or kept.pages k d).page.id)
      ≤ slot_times (with_title_at id slots at) (with_title id title kept) n
  title_left k d within apart =
      subst (λ t. times n t ≤ slot_times (with_title_at id slots at) (with_title id title kept) n)
      (ap (λ (b : Bool). if b then slots else at.title (get_or kept.pages k d).page.id) apart)
      (subst (λ i. times n (if i.0 == id.0 then slots else at.title i)
      ≤ slot_times (with_title_at id slots at) (with_title id title kept) n)
      (ap (λ (p : KeptPage). p.page.id) (get_or-map (titling id title) kept.pages k d d within)
      ∙ titling_id id title (get_or kept.pages k d))
      (title_times (with_title_at id slots at) (with_title id title kept) n k d (rw length-map within)))
