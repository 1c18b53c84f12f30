-- What a list of changed pages makes of the bytes before, and what these may have been.
use Rattle.std.proofs.Common.{◌≡◌, ◌≢◌, ◌∙◌, ◌+◌, ◌-◌, ◌*◌, ◌<◌, ◌≤◌, ◌∷◌, ◌++◌, [], ℕ, Bool, List, ap, append_assoc, arith}
use Rattle.std.proofs.Common.{cond, drop, false, length, length-append, length-drop, length-take, map, refl, suc}
use Rattle.std.proofs.Common.{sym, take, true, zero}
use Rattle.std.proofs.Math.Seq.{drop-append-add, drop-append_seam, take-add, take-append_seam}
use Rattle.std.proofs.lemmas.List.{append-nil, drop-append-le, drop-drop, drop-take, length-take-le, map-append, take-append-drop, take-append-le, take-take, take_all}
use Rattle.std.proofs.Common.{inl, inr, replicate}
use Rattle.std.proofs.Common.{ltb-true, nat_lt}
use Rattle.std.proofs.Math.ListN.{drop_of_length-le}
use Rattle.std.proofs.lemmas.Bool.{cases_Bool, cases_eq, ltb-false, ne_eqb, true≢false}
use Rattle.std.proofs.Common.{◌↔◌, ◌==◌, eq-eqb, find, if◌then◌else◌, Some}
use Rattle.std.specs.List.{All, list_any, range_with_len}
use Rattle.std.proofs.lemmas.List.{get_or-replicate, get_or_past, length-map, length-replicate}
use Rattle.std.proofs.lemmas.List.Elements.{All-from_recursion, All-same}
use Rattle.pl_base.specs.Touched.{IsWithin, MayDiffer, PageImage, bytes_before, changed, page_numbers, page_of, page_size, with_page, with_pages}
use Rattle.pl_base.proofs.ListLaws.{everyone}
use Rattle.pl_base.proofs.ChangedPages.{with_more}
use Rattle.pl_base.proofs.LookUps.{none_kept, where_passes}
use Rattle.pl_record.specs.Form.{bytes_in}
use Rattle.pl_record.specs.LinkedRows.{IsBaseOf}
use Rattle.pl_sheets.specs.Sheets.{ArePages, Pages, change_of, changed_below, has_changed, image_of, page_count, settled}
use Rattle.pl_record.proofs.Splits.{any_kept}
use Rattle.pl_slot.proofs.Settled.{settled_are, settled_count}
use Rattle.pl_sheets.proofs.Listing.{below_more, numbers_same}

-- ---- pages among bytes

module _ (pages : Pages) (are : ArePages pages) where
  pub bytes_long : length (bytes_in pages) ≡ bytes_before (page_count pages)
  bytes_long = omega (arith, length-drop page_size pages.bytes, are.whole, are.some_page)

  image_is : (k : ℕ) → 1 ≤ k → (image_of pages k).image ≡ page_of k (bytes_in pages)
  image_is k some =
      ap (λ n. take page_size (drop n pages.bytes)) (place k some)
      ∙ ap (take page_size) (sym (drop-drop (bytes_before k) page_size pages.bytes))
    where
      place : (k : ℕ) → 1 ≤ k → page_size * k ≡ page_size + bytes_before k
      place k some = omega arith

  -- the first pages, and behind them what the bytes were before
  laid : ℕ → List ℕ → List ℕ
  laid k base = take (bytes_before k) (bytes_in pages) ++ drop (bytes_before k) base

  laid_here : (k : ℕ) → k ≤ page_count pages → length (take (bytes_before k) (bytes_in pages)) ≡ bytes_before k
  laid_here k within = length-take-le (bytes_before k) (bytes_in pages) (omega (arith, bytes_long))

  -- with one page more
  grown : (k : ℕ) → 1 ≤ k
      → take (bytes_before (k + 1)) (bytes_in pages)
      ≡ take (bytes_before k) (bytes_in pages) ++ page_of k (bytes_in pages)
  grown k some =
      ap (λ n. take n (bytes_in pages)) (further k some) ∙ take-add (bytes_before k) page_size (bytes_in pages)
    where
      further : (k : ℕ) → 1 ≤ k → bytes_before (k + 1) ≡ bytes_before k + page_size
      further k some = omega arith

  behind : (k : ℕ) (base : List ℕ) → 1 ≤ k → drop page_size (drop (bytes_before k) base) ≡ drop (bytes_before (k + 1)) base
  behind k base some = drop-drop page_size (bytes_before k) base ∙ ap (λ n. drop n base) (further k some)
    where
      further : (k : ℕ) → 1 ≤ k → bytes_before k + page_size ≡ bytes_before (k + 1)
      further k some = omega arith

  -- a changed page is put in its place
  laid_with : (k : ℕ) (base : List ℕ) → 1 ≤ k → k < page_count pages
      → with_page (image_of pages k) (laid k base) ≡ laid (k + 1) base
  unfolding laid
  laid_with k base some within =
      let front : List ℕ = take (bytes_before k) (bytes_in pages) in
      let rest : List ℕ = drop (bytes_before k) base in
      let long : length front ≡ bytes_before k = laid_here k (omega (arith, within)) in
      let start : take (bytes_before k) (front ++ rest) ≡ front =
      ap (λ n. take n (front ++ rest)) (sym long) ∙ take-append_seam front rest in
      let end : drop (bytes_before k + page_size) (front ++ rest) ≡ drop (bytes_before (k + 1)) base =
      ap (λ n. drop (n + page_size) (front ++ rest)) (sym long) ∙ drop-append-add front rest page_size
      ∙ behind k base some in
      ap (λ (l : List ℕ). l ++ (image_of pages k).image ++ drop (bytes_before k + page_size) (front ++ rest)) start
      ∙ ap (λ (l : List ℕ). front ++ (image_of pages k).image ++ l) end
      ∙ ap (λ (l : List ℕ). front ++ l ++ drop (bytes_before (k + 1)) base) (image_is k some)
      ∙ ap (λ (l : List ℕ). l ++ drop (bytes_before (k + 1)) base) (sym (grown k some))

  -- a page that has not changed stands there
  laid_same : (k : ℕ) (base : List ℕ) → 1 ≤ k → page_of k base ≡ (image_of pages k).image
      → laid k base ≡ laid (k + 1) base
  unfolding laid
  laid_same k base some same =
      let front : List ℕ = take (bytes_before k) (bytes_in pages) in
      ap (λ (l : List ℕ). front ++ l) (sym (take-append-drop page_size (drop (bytes_before k) base)))
      ∙ sym (append_assoc front (page_of k base) (drop page_size (drop (bytes_before k) base)))
      ∙ ap (λ (l : List ℕ). front ++ page_of k base ++ l) (behind k base some)
      ∙ ap (λ (l : List ℕ). front ++ l ++ drop (bytes_before (k + 1)) base) (same ∙ image_is k some)
      ∙ ap (λ (l : List ℕ). l ++ drop (bytes_before (k + 1)) base) (sym (grown k some))

  -- ---- the change

  -- a page that has not changed was there
  there_before : (k : ℕ) → has_changed k pages ≡ false → k < page_count pages → k < pages.before
  there_before k same within = elim (cases_Bool (nat_lt k pages.before)) [
    | inl below ↦ ltb-true k pages.before below
    | inr above ↦ absurd (true≢false (sym (are.added k (ltb-false k pages.before above) within) ∙ same))
  ]

  -- the changed pages below a number
  laid_below : (k : ℕ) (base : List ℕ) → IsBaseOf pages base → 1 ≤ k → k ≤ page_count pages
      → with_pages (map (image_of pages) (changed_below k pages)) base ≡ laid k base
  unfolding laid
  laid_below zero base is some within = absurd (omega (arith, some))
  laid_below (suc zero) base is some within =
      ap (λ ns. with_pages (map (image_of pages) ns) base) (none_at_first)
    where
      none_at_first : changed_below 1 pages ≡ []
      none_at_first = ap (λ b. cond b (0 ∷ []) []) are.gate
  laid_below (suc (suc k)) base is some within =
      let more : suc (suc k) ≡ suc k + 1 = omega arith in
      let so_far : with_pages (map (image_of pages) (changed_below (suc k) pages)) base ≡ laid (suc k) base =
      laid_below (suc k) base is (omega arith) (omega (arith, within)) in
      ap (λ n. with_pages (map (image_of pages) (changed_below n pages)) base) more
      ∙ ap (λ ns. with_pages (map (image_of pages) ns) base) (below_more (suc k) pages)
      ∙ choose (has_changed (suc k) pages) refl so_far
      ∙ ap (λ n. laid n base) (sym more)
    where
      choose : (b : Bool) → has_changed (suc k) pages ≡ b
          → with_pages (map (image_of pages) (changed_below (suc k) pages)) base ≡ laid (suc k) base
          → with_pages (map (image_of pages) (changed_below (suc k) pages ++ cond b (suc k ∷ []) [])) base
          ≡ laid (suc k + 1) base
      choose true marked so_far =
          ap (λ (l : List PageImage). with_pages l base) (map-append (image_of pages) (changed_below (suc k) pages) (suc k ∷ []))
          ∙ with_more (map (image_of pages) (changed_below (suc k) pages)) (image_of pages (suc k)) base
          ∙ ap (with_page (image_of pages (suc k))) so_far
          ∙ laid_with (suc k) base (omega arith) (omega (arith, within))
      choose false same so_far =
          ap (λ (l : List ℕ). with_pages (map (image_of pages) l) base) (append-nil (changed_below (suc k) pages))
          ∙ so_far ∙ laid_same (suc k) base (omega arith) (is.same (suc k) (omega arith) (there_before (suc k) same (omega (arith, within))) same)

  pub changed_all : (base : List ℕ) → IsBaseOf pages base → changed (change_of pages) base ≡ bytes_in pages
  unfolding laid
  changed_all base is =
      let whole : take (bytes_before (page_count pages)) base ≡ base =
      take_all (bytes_before (page_count pages)) base (omega (arith, is.len, are.before)) in
      ap (with_pages (map (image_of pages) (changed_below (page_count pages) pages))) whole
      ∙ laid_below (page_count pages) base is are.some_page (omega arith)
      ∙ ap (λ (l : List ℕ). l ++ drop (bytes_before (page_count pages)) base)
      (take_all (bytes_before (page_count pages)) (bytes_in pages) (omega (arith, bytes_long)))
      ∙ ap (λ (l : List ℕ). bytes_in pages ++ l)
      (drop_of_length-le base (omega (arith, is.len, are.before)))
      ∙ append-nil (bytes_in pages)

  -- ---- what the bytes may have been

  page_within : (k t : ℕ) → 1 ≤ k → bytes_before k + page_size ≤ t → (bytes : List ℕ)
      → page_of k (take t bytes) ≡ page_of k bytes
  page_within k t some within bytes =
      let room : bytes_before k + (t - bytes_before k) ≡ t = omega (arith, within) in
      ap (λ n. page_of k (take n bytes)) (sym room)
      ∙ ap (take page_size) (drop-take (bytes_before k) (t - bytes_before k) bytes)
      ∙ take-take page_size (t - bytes_before k) (drop (bytes_before k) bytes) (omega (arith, within))

  -- the pages as they are, as many as there were
  abbrev pub as_now : List ℕ
  as_now = take (bytes_before pages.before) (bytes_in pages)

  as_now_long : length as_now ≡ bytes_before pages.before
  as_now_long =
      length-take-le (bytes_before pages.before) (bytes_in pages) (omega (arith, bytes_long, are.before))

  pub base_now : IsBaseOf pages as_now
  base_now =
      record {
        len = as_now_long;
        same = λ k some below unchanged.
            page_within k (bytes_before pages.before) some (room k pages.before some below) (bytes_in pages)
            ∙ sym (image_is k some);
      }
    where
      room : (k n : ℕ) → 1 ≤ k → k < n → bytes_before k + page_size ≤ bytes_before n
      room k n some below = omega arith

  -- a page that is laid over bytes leaves the others
  page_beside : (k q : ℕ) (image bytes : List ℕ) → 1 ≤ k → 1 ≤ q → q ≢ k → length image ≡ page_size
      → bytes_before k + page_size ≤ length bytes
      → page_of q (with_page (record { page = k; image = image }) bytes) ≡ page_of q bytes
  page_beside k q image bytes some_k some_q apart whole room = elim (cases_Bool (nat_lt q k)) [
    | inl below ↦ in_front (ltb-true q k below)
    | inr above ↦ behind_it (further (ltb-false q k above) apart)
  ]
    where
      order : (k q : ℕ) → 1 ≤ k → k < q → bytes_before k + page_size ≤ bytes_before q
      order k q some below = omega arith

      whole_gap : bytes_before k + page_size ≤ bytes_before q
          → bytes_before k + page_size + (bytes_before q - (bytes_before k + page_size)) ≡ bytes_before q
      whole_gap after = omega (arith, after)

      further : k ≤ q → q ≢ k → k + 1 ≤ q
      further above apart = elim (cases_Bool (nat_lt k q)) [
        | inl less ↦ omega (arith, ltb-true k q less)
        | inr more ↦ absurd (apart (omega (arith, above, ltb-false k q more)))
      ]

      in_front : q < k → page_of q (with_page (record { page = k; image = image }) bytes) ≡ page_of q bytes
      in_front below =
          let front : List ℕ = take (bytes_before k) bytes in
          let rest : List ℕ = drop (bytes_before k + page_size) bytes in
          let long : length front ≡ bytes_before k = length-take-le (bytes_before k) bytes (omega (arith, room)) in
          let before : bytes_before q + page_size ≤ bytes_before k = order q k some_q below in
          ap (page_of q) (append_assoc front image rest)
          ∙ ap (take page_size) (drop-append-le (bytes_before q) front (image ++ rest) (omega (arith, long, before)))
          ∙ take-append-le page_size (drop (bytes_before q) front) (image ++ rest)
          (omega (arith, length-drop (bytes_before q) front, long, before))
          ∙ page_within q (bytes_before k) some_q before bytes

      behind_it : k + 1 ≤ q → page_of q (with_page (record { page = k; image = image }) bytes) ≡ page_of q bytes
      behind_it above =
          let front : List ℕ = take (bytes_before k) bytes in
          let rest : List ℕ = drop (bytes_before k + page_size) bytes in
          let long : length front ≡ bytes_before k = length-take-le (bytes_before k) bytes (omega (arith, room)) in
          let both : length (front ++ image) ≡ bytes_before k + page_size =
          omega (arith, length-append front image, long, whole) in
          let after : bytes_before k + page_size ≤ bytes_before q = order k q some_k (omega (arith, above)) in
          let gap : length (front ++ image) + (bytes_before q - (bytes_before k + page_size)) ≡ bytes_before q =
          omega (arith, both, after) in
          ap (λ n. take page_size (drop n ((front ++ image) ++ rest))) (sym gap)
          ∙ ap (take page_size)
          (drop-append-add (front ++ image) rest (bytes_before q - (bytes_before k + page_size))
          ∙ drop-drop (bytes_before q - (bytes_before k + page_size)) (bytes_before k + page_size) bytes)
          ∙ ap (λ n. take page_size (drop n bytes)) (whole_gap after)

  -- ---- each changed page may have been another

  page_here : (k : ℕ) (image bytes : List ℕ) → length image ≡ page_size → bytes_before k + page_size ≤ length bytes
      → page_of k (with_page (record { page = k; image = image }) bytes) ≡ image
  page_here k image bytes whole room =
      let front : List ℕ = take (bytes_before k) bytes in
      let rest : List ℕ = drop (bytes_before k + page_size) bytes in
      let long : length front ≡ bytes_before k = length-take-le (bytes_before k) bytes (omega (arith, room)) in
      ap (page_of k) (append_assoc front image rest)
      ∙ ap (λ n. take page_size (drop n (front ++ (image ++ rest)))) (sym long)
      ∙ ap (take page_size) (drop-append_seam front (image ++ rest))
      ∙ ap (λ n. take n (image ++ rest)) (sym whole) ∙ take-append_seam image rest

  length-with_page : (k : ℕ) (image bytes : List ℕ) → length image ≡ page_size
      → bytes_before k + page_size ≤ length bytes
      → length (with_page (record { page = k; image = image }) bytes) ≡ length bytes
  length-with_page k image bytes whole room =
      omega (
        arith,
        length-append (take (bytes_before k) bytes ++ image) (drop (bytes_before k + page_size) bytes),
        length-append (take (bytes_before k) bytes) image,
        length-take-le (bytes_before k) bytes (omega (arith, room)),
        length-drop (bytes_before k + page_size) bytes,
        whole,
        room,
      )

  page_room : (k n : ℕ) → 1 ≤ k → k < n → bytes_before k + page_size ≤ bytes_before n
  page_room k n some below = omega arith

  before_less : (m n : ℕ) → m ≤ n → bytes_before m ≤ bytes_before n
  before_less m n within = omega arith

  page_long : (k : ℕ) → 1 ≤ k → k < page_count pages → length (page_of k (bytes_in pages)) ≡ page_size
  page_long k some within =
      omega (
        arith,
        length-take page_size (drop (bytes_before k) (bytes_in pages)),
        length-drop (bytes_before k) (bytes_in pages),
        bytes_long,
        page_room k (page_count pages) some within,
      )

  marked_within : (k : ℕ) → has_changed k pages ≡ true → k < page_count pages
  marked_within k marked = elim (cases_Bool (nat_lt k (page_count pages))) [
    | inl below ↦ ltb-true k (page_count pages) below
    | inr above ↦
        absurd (true≢false (sym marked
        ∙ get_or_past pages.changed k false (ltb-false k (page_count pages) above)))
  ]

  -- bytes that are all others
  others : List ℕ → List ℕ
  others bytes = map (λ b. b + 1) bytes

  others_long : (bytes : List ℕ) → length (others bytes) ≡ length bytes
  unfolding others
  others_long bytes = length-map bytes (λ b. b + 1)

  none_same : (bytes : List ℕ) → 0 < length bytes → others bytes ≡ bytes → ⊥
  unfolding others
  none_same [] some same = absurd (omega (arith, some))
  none_same (b ∷ bytes) some same =
      let first : b + 1 ≡ b = cc in
      omega (arith, first)

  marked_differs : (k : ℕ) → has_changed k pages ≡ true → MayDiffer (IsBaseOf pages) (bytes_in pages) k
  marked_differs k marked same = elim (cases_Bool (nat_lt k pages.before)) [
    | inl below ↦ was_another (ltb-true k pages.before below)
    | inr above ↦ was_none (ltb-false k pages.before above)
  ]
    where
      some : 1 ≤ k
      some = elim (cases_Bool (nat_lt 0 k)) [
        | inl above ↦ ltb-true 0 k above
        | inr zero_is ↦
            absurd (true≢false (sym marked ∙ ap (λ n. has_changed n pages) (none k (ltb-false 0 k zero_is)) ∙ are.gate))
      ]
        where
          none : (k : ℕ) → k ≤ 0 → k ≡ 0
          none k zero_is = omega (arith, zero_is)

      was_none : pages.before ≤ k → ⊥
      was_none above =
          let long : length (page_of k (bytes_in pages)) ≡ page_size = page_long k some (marked_within k marked) in
          let none_there : length (page_of k as_now) ≡ 0 =
          omega (
            arith,
            length-take page_size (drop (bytes_before k) as_now),
            length-drop (bytes_before k) as_now,
            as_now_long,
            before_less pages.before k above,
          ) in
          omega (arith, long, none_there, ap (λ (l : List ℕ). length l) (same as_now base_now))

      was_another : k < pages.before → ⊥
      was_another below =
          let image : List ℕ = page_of k (bytes_in pages) in
          let long : length image ≡ page_size = page_long k some (marked_within k marked) in
          let other_long : length (others image) ≡ page_size = others_long image ∙ long in
          let room : bytes_before k + page_size ≤ length as_now =
          omega (arith, as_now_long, page_room k pages.before some below) in
          let other : List ℕ = with_page (record { page = k; image = others image }) as_now in
          let base : IsBaseOf pages other =
          record {
            len = length-with_page k (others image) as_now other_long room ∙ as_now_long;
            same = λ q some_q within unchanged.
                page_beside k q (others image) as_now some some_q (λ is.
                true≢false (sym marked ∙ ap (λ n. has_changed n pages) (sym is) ∙ unchanged)) other_long room
                ∙ base_now.same q some_q within unchanged;
          } in
          none_same image (omega (arith, long))
          (sym (page_here k (others image) as_now other_long room) ∙ same other base)

  pub needed : All (MayDiffer (IsBaseOf pages) (bytes_in pages)) (page_numbers (change_of pages).pages)
  needed =
      All-same (MayDiffer (IsBaseOf pages) (bytes_in pages)) (page_numbers (change_of pages).pages)
      (changed_below (page_count pages) pages) (numbers_same pages (changed_below (page_count pages) pages))
      (All-from_recursion (MayDiffer (IsBaseOf pages) (bytes_in pages)) (changed_below (page_count pages) pages)
      (where_passes (MayDiffer (IsBaseOf pages) (bytes_in pages)) (λ k. has_changed k pages)
      (range_with_len 0 (page_count pages))
      (everyone (λ k. has_changed k pages ≡ true → MayDiffer (IsBaseOf pages) (bytes_in pages) k)
      (range_with_len 0 (page_count pages)) marked_differs)))

  -- ---- what is listed

  find_in_range : (n from count : ℕ) → from ≤ n → n < from + count
      → find (λ m. m == n) (range_with_len from count) ≡ Some n
  find_in_range n from zero above below = absurd (omega (arith, above, below))
  find_in_range n from (suc count) above below = elim (cases_eq from n) [
    | inl here ↦
        ap (λ b. if b then Some from else find (λ m. m == n) (range_with_len (from + 1) count)) (eq-eqb from n here)
        ∙ ap Some here
    | inr apart ↦
        ap (λ b. if b then Some from else find (λ m. m == n) (range_with_len (from + 1) count)) (ne_eqb from n apart)
        ∙ find_in_range n (from + 1) count (less from n above apart) (omega (arith, below))
  ]
    where
      less : (from n : ℕ) → from ≤ n → from ≢ n → from + 1 ≤ n
      less from n above apart = elim (cases_Bool (nat_lt from n)) [
        | inl below ↦ omega (arith, ltb-true from n below)
        | inr not_below ↦ absurd (apart (omega (arith, above, ltb-false from n not_below)))
      ]

  -- a page that was added is listed, and no page past the last one is
  pub within : IsWithin (change_of pages)
  within =
      record {
        some_page = are.some_page;
        below =
            All-same (λ n. n < page_count pages) (page_numbers (change_of pages).pages)
            (changed_below (page_count pages) pages) (numbers_same pages (changed_below (page_count pages) pages))
            (All-from_recursion (λ n. n < page_count pages) (changed_below (page_count pages) pages)
            (where_passes (λ n. n < page_count pages) (λ k. has_changed k pages) (range_with_len 0 (page_count pages))
            (everyone (λ k. has_changed k pages ≡ true → k < page_count pages) (range_with_len 0 (page_count pages))
            marked_within)));
        added = λ n above below.
            ap (list_any (λ m. m == n)) (numbers_same pages (changed_below (page_count pages) pages))
            ∙ any_kept (λ m. m == n) (λ k. has_changed k pages) (range_with_len 0 (page_count pages)) n
            (find_in_range n 0 (page_count pages) (omega arith) (omega (arith, below))) (are.added n above below);
      }

-- ---- once they are listed

none_changed : (pages : Pages) (k : ℕ) → has_changed k (settled pages) ≡ false
none_changed pages k = elim (cases_Bool (nat_lt k (page_count pages))) [
  | inl below ↦ get_or-replicate (page_count pages) k false false (ltb-true k (page_count pages) below)
  | inr above ↦
      get_or_past (replicate (page_count pages) false) k false
      (omega (arith, length-replicate (page_count pages) false, ltb-false k (page_count pages) above))
]

pub none_listed : (pages : Pages) → changed_below (page_count (settled pages)) (settled pages) ≡ []
none_listed pages =
    none_kept (λ k. has_changed k (settled pages)) (range_with_len 0 (page_count (settled pages)))
    (everyone (λ k. has_changed k (settled pages) ≡ false) (range_with_len 0 (page_count (settled pages)))
    (none_changed pages))

pub settled_base : (pages : Pages) → ArePages pages → (bytes : List ℕ)
    → IsBaseOf (settled pages) bytes ↔ (bytes ≡ bytes_in pages)
settled_base pages are bytes = (was_there, is_there)
  where
    was_there : IsBaseOf (settled pages) bytes → bytes ≡ bytes_in pages
    was_there is =
        let same : changed (change_of (settled pages)) bytes ≡ bytes =
        ap (λ ns. with_pages (map (image_of (settled pages)) ns) (take (bytes_before (page_count (settled pages))) bytes))
        (none_listed pages)
        ∙ take_all (bytes_before (page_count (settled pages))) bytes (omega (arith, is.len, settled_count pages)) in
        sym same ∙ changed_all (settled pages) (settled_are pages are) bytes is

    is_there : bytes ≡ bytes_in pages → IsBaseOf (settled pages) bytes
    is_there same =
        record {
          len = ap (λ (l : List ℕ). length l) same ∙ bytes_long pages are;
          same = λ k some below unchanged. ap (page_of k) same ∙ sym (image_is pages are k some);
        }
