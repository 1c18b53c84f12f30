-- Pages put into their places.
use Rattle.std.proofs.Common.{◌≡◌, ◌≢◌, ℕ, zero, suc, ◌+◌, ◌-◌, ◌≤◌, ◌<◌, ◌==◌, true, Contains, List, [], ◌∷◌, ◌++◌}
use Rattle.std.proofs.Common.{length, take, drop, get_or, nat_lt, inl, inr, refl, sym, ◌∙◌, ap, subst, arith}
use Rattle.std.proofs.Common.{append_assoc, length-append}
use Rattle.std.proofs.lemmas.Bool.{and_parts, cases_eq, cases_lt, cases_order, eqb-true, ltb-true}
use Rattle.std.proofs.lemmas.List.{take-take, drop-drop, drop-take, take-append-le, drop-append-le, length-take}
use Rattle.std.proofs.lemmas.List.{length-drop, take_all, drop_all}
use Rattle.std.proofs.lemmas.List.Folds.{Any-from_list_any}
use Rattle.std.proofs.Math.Seq.{take-append-add, drop-append-add}
use Rattle.pl_base.specs.Touched.{PageImage, bytes_before, page_size, page_numbers, ascends_above, has_number}
use Rattle.pl_base.specs.Touched.{with_page, with_pages}
use Rattle.pl_gate.proofs.Bytes.{drop_further}

-- the page ends within the bytes, and its image is whole
pub record Fits (p : PageImage) (n : ℕ) : Type 0 where
  pub within : bytes_before p.page + page_size ≤ n
  pub whole : length p.image ≡ page_size

module _ (p : PageImage) (bytes : List ℕ) (fits : Fits p (length bytes)) where
  front : length (take (bytes_before p.page) bytes) ≡ bytes_before p.page
  front = omega (arith, length-take (bytes_before p.page) bytes, fits.within)

  pub length-with_page : length (with_page p bytes) ≡ length bytes
  length-with_page =
      omega (
        arith,
        fits.within,
        fits.whole,
        front,
        length-append (take (bytes_before p.page) bytes ++ p.image) (drop (bytes_before p.page + page_size) bytes),
        length-append (take (bytes_before p.page) bytes) p.image,
        length-drop (bytes_before p.page + page_size) bytes,
      )

  -- before the page nothing changes
  pub take_before : (m : ℕ) → m ≤ bytes_before p.page → take m (with_page p bytes) ≡ take m bytes
  take_before m le =
      ap (take m) (append_assoc (take (bytes_before p.page) bytes) p.image
      (drop (bytes_before p.page + page_size) bytes))
      ∙ take-append-le m (take (bytes_before p.page) bytes) (p.image ++ drop (bytes_before p.page + page_size) bytes)
      (omega (arith, front, le))
      ∙ take-take m (bytes_before p.page) bytes le

  -- the bytes up to the page's end
  abbrev head : List ℕ
  head = take (bytes_before p.page) bytes ++ p.image

  abbrev pub end : ℕ
  end = bytes_before p.page + page_size

  length-head : length head ≡ end
  length-head = omega (arith, front, fits.whole, length-append (take (bytes_before p.page) bytes) p.image)

  -- nor behind it
  pub drop_behind : (n : ℕ) → bytes_before p.page + page_size ≤ n → drop n (with_page p bytes) ≡ drop n bytes
  drop_behind n le =
      let more : n ≡ length head + (n - end) = omega (arith, le, length-head) in
      let again : end + (n - end) ≡ n = omega (arith, le) in
      ap (λ (k : ℕ). drop k (head ++ drop end bytes)) more
      ∙ drop-append-add head (drop end bytes) (n - end)
      ∙ drop-drop (n - end) end bytes
      ∙ ap (λ (k : ℕ). drop k bytes) again

  -- up to a length behind it
  pub take_behind : (m : ℕ) → bytes_before p.page + page_size ≤ m
      → take m (with_page p bytes) ≡ with_page p (take m bytes)
  take_behind m le =
      let more : m ≡ length head + (m - end) = omega (arith, le, length-head) in
      let again : m ≡ end + (m - end) = omega (arith, le) in
      ap (λ (k : ℕ). take k (head ++ drop end bytes)) more
      ∙ take-append-add head (drop end bytes) (m - end)
      ∙ ap (λ (l : List ℕ). head ++ l)
      (sym (drop-take end (m - end) bytes) ∙ ap (λ (k : ℕ). drop end (take k bytes)) (sym again))
      ∙ ap (λ (l : List ℕ). l ++ p.image ++ drop end (take m bytes))
      (sym (take-take (bytes_before p.page) m bytes (omega (arith, le))))

  -- from an offset before it on
  pub drop_before : (n : ℕ) → n ≤ bytes_before p.page
      → drop n (with_page p bytes) ≡ take (bytes_before p.page - n) (drop n bytes) ++ p.image ++ drop end bytes
  drop_before n le =
      let more : n + (bytes_before p.page - n) ≡ bytes_before p.page = omega (arith, le) in
      ap (drop n) (append_assoc (take (bytes_before p.page) bytes) p.image (drop end bytes))
      ∙ drop-append-le n (take (bytes_before p.page) bytes) (p.image ++ drop end bytes) (omega (arith, le, front))
      ∙ ap (λ (l : List ℕ). l ++ (p.image ++ drop end bytes))
      (ap (λ (k : ℕ). drop n (take k bytes)) (sym more) ∙ drop-take n (bytes_before p.page - n) bytes)
      ∙ sym (append_assoc (take (bytes_before p.page - n) (drop n bytes)) p.image (drop end bytes))

-- the same but for one page
pub record TornPage (page : ℕ) (old new : List ℕ) : Type 0 where
  pub len : length new ≡ length old
  pub before : take (bytes_before page) new ≡ take (bytes_before page) old
  pub after : drop (bytes_before page + page_size) new ≡ drop (bytes_before page + page_size) old

-- that page's image makes them the same
pub torn_same_page : (p : PageImage) (old new : List ℕ) → TornPage p.page old new → with_page p new ≡ with_page p old
torn_same_page p old new torn =
    ap (λ (l : List ℕ). l ++ p.image ++ drop (bytes_before p.page + page_size) new) torn.before
    ∙ ap (λ (l : List ℕ). take (bytes_before p.page) old ++ p.image ++ l) torn.after

-- another page's image leaves them so
pub torn_other_page : (p : PageImage) (page : ℕ) (old new : List ℕ) → Fits p (length old) → 1 ≤ p.page → 1 ≤ page
    → p.page ≢ page → TornPage page old new → TornPage page (with_page p old) (with_page p new)
torn_other_page p page old new fits one some other torn =
    let fits_new : Fits p (length new) = record { within = omega (arith, fits.within, torn.len); whole = fits.whole } in
    let len = length-with_page p new fits_new ∙ torn.len ∙ sym (length-with_page p old fits) in
    elim (cases_order p.page page) [
      | inl same ↦ absurd (other same)
      | inr (inl less) ↦ record {
        len = len;
        before =
            let le : bytes_before p.page + page_size ≤ bytes_before page = omega (arith, less, one) in
            take_behind p new fits_new (bytes_before page) le ∙ ap (with_page p) torn.before
            ∙ sym (take_behind p old fits (bytes_before page) le);
        after =
            let le : bytes_before p.page + page_size ≤ bytes_before page + page_size = omega (arith, less) in
            drop_behind p new fits_new (bytes_before page + page_size) le ∙ torn.after
            ∙ sym (drop_behind p old fits (bytes_before page + page_size) le);
      }
      | inr (inr more) ↦ record {
        len = len;
        before =
            let le : bytes_before page ≤ bytes_before p.page = omega (arith, more) in
            take_before p new fits_new (bytes_before page) le ∙ torn.before
            ∙ sym (take_before p old fits (bytes_before page) le);
        after =
            let n = bytes_before page + page_size in
            let le : n ≤ bytes_before p.page = omega (arith, more, some) in
            let further : drop (bytes_before p.page + page_size) new ≡ drop (bytes_before p.page + page_size) old =
            drop_further old new n (bytes_before p.page + page_size) (omega (arith, le)) torn.after in
            drop_before p new fits_new n le
            ∙ ap (λ (l : List ℕ). take (bytes_before p.page - n) l ++ p.image
            ++ drop (bytes_before p.page + page_size) new) torn.after
            ∙ ap (λ (l : List ℕ). take (bytes_before p.page - n) (drop n old) ++ p.image ++ l) further
            ∙ sym (drop_before p old fits n le);
      }
    ]

-- each page ends within the bytes, and none is the gate's
abbrev pub AllFit : List PageImage → ℕ → Type 0
AllFit [] n = Unit {0}
AllFit (p ∷ pages) n = Fits p n × (1 ≤ p.page) × AllFit pages n

pub length-with_pages : (pages : List PageImage) (bytes : List ℕ) → AllFit pages (length bytes)
    → length (with_pages pages bytes) ≡ length bytes
length-with_pages [] bytes fit = refl
length-with_pages (p ∷ pages) bytes (fits, one, fit) =
    let len = length-with_page p bytes fits in
    length-with_pages pages (with_page p bytes) (subst (AllFit pages) (sym len) fit) ∙ len

-- up to a length that they fit into
pub with_pages_take : (pages : List PageImage) (bytes : List ℕ) (m : ℕ) → AllFit pages m → m ≤ length bytes
    → take m (with_pages pages bytes) ≡ with_pages pages (take m bytes)
with_pages_take [] bytes m fit le = refl
with_pages_take (p ∷ pages) bytes m (fits, one, fit) le =
    let fits_bytes : Fits p (length bytes) = record { within = omega (arith, fits.within, le); whole = fits.whole } in
    with_pages_take pages (with_page p bytes) m fit (omega (arith, le, length-with_page p bytes fits_bytes))
    ∙ ap (with_pages pages) (take_behind p bytes fits_bytes m fits.within)

tail_contains : (p : PageImage) (pages : List PageImage) (page : ℕ) → (p.page ≡ page → ⊥)
    → Contains (page_numbers (p ∷ pages)) page → Contains (page_numbers pages) page
tail_contains p pages page other (zero, lt, is) = absurd (other is)
tail_contains p pages page other (suc k, lt, is) = (k, omega (arith, lt), is)

pub none_contains : (page : ℕ) → Contains (page_numbers []) page → ⊥
none_contains page (k, lt, is) = omega (arith, lt)

-- a number that is found is one of the pages' numbers
pub has_in : (n : ℕ) (pages : List PageImage) → has_number n pages ≡ true → Contains (page_numbers pages) n
has_in n pages found =
    let (k, m, lt, at, is) = Any-from_list_any (λ j. j == n) (page_numbers pages) found in
    (k, lt, subst (λ j. get_or (page_numbers pages) k j ≡ j) (eqb-true m n is) at)

-- a page that is torn doesn't matter where its image is among those that are put into their places
pub torn_pages : (pages : List PageImage) (page : ℕ) (old new : List ℕ) → AllFit pages (length old) → 1 ≤ page
    → Contains (page_numbers pages) page → TornPage page old new → with_pages pages new ≡ with_pages pages old
torn_pages [] page old new fit some has torn = absurd (none_contains page has)
torn_pages (p ∷ pages) page old new (fits, one, fit) some has torn = elim (cases_eq p.page page) [
  | inl same ↦ ap (with_pages pages) (torn_same_page p old new (subst (λ (n : ℕ). TornPage n old new) (sym same) torn))
  | inr other ↦
      torn_pages pages page (with_page p old) (with_page p new)
      (subst (AllFit pages) (sym (length-with_page p old fits)) fit) some
      (tail_contains p pages page other has) (torn_other_page p page old new fits one some other torn)
]

-- ---- ascending numbers

pub ascends_first : (last n : ℕ) (ns : List ℕ) → ascends_above last (n ∷ ns) ≡ true
    → (last < n) × (ascends_above n ns ≡ true)
ascends_first last n ns ascends = let both = and_parts (nat_lt last n) (ascends_above n ns) ascends in
    (ltb-true last n both.0, both.1)

pub none_below : (last n : ℕ) (ns : List ℕ) → ascends_above last ns ≡ true → n ≤ last → Contains ns n → ⊥
none_below last n [] ascends le (k, lt, is) = omega (arith, lt)
none_below last n (m ∷ ns) ascends le (zero, lt, is) = let first = ascends_first last m ns ascends in
    omega (arith, first.0, le, is)
none_below last n (m ∷ ns) ascends le (suc k, lt, is) = let first = ascends_first last m ns ascends in
    none_below m n ns first.1 (omega (arith, first.0, le)) (k, omega (arith, lt), is)

-- ---- a change of the store's pages

-- Bytes that begin with others, up to the store's length after a change, which lists each page past
-- these: with the listed images both are the same.
pub grown : (pages : List PageImage) (last before after : ℕ) (bytes longer : List ℕ)
    → length bytes ≡ bytes_before before → length longer ≡ bytes_before after → 1 ≤ before → before ≤ after
    → take (length bytes) longer ≡ bytes
    → ascends_above last (page_numbers pages) ≡ true → AllFit pages (length longer)
    → ((n : ℕ) → before ≤ n → n < after → Contains (page_numbers pages) n)
    → with_pages pages longer ≡ with_pages pages bytes
grown [] last before after bytes longer len len_longer some le same ascends fit added = elim (cases_lt before after) [
  | inl less ↦ absurd (none_contains before (added before (omega arith) less))
  | inr more ↦ sym (take_all (length bytes) longer (omega (arith, len, len_longer, more))) ∙ same
]
grown (p ∷ pages) last before after bytes longer len len_longer some le same ascends (fits, one, fit) added =
    let first = ascends_first last p.page (page_numbers pages) ascends in
    let len_more = length-with_page p longer fits in
    let fit_more = subst (AllFit pages) (sym len_more) fit in
    elim (cases_order p.page before) [
      | inl equal ↦
          let here : bytes_before p.page ≡ bytes_before before = ap bytes_before equal in
          let end = bytes_before p.page + page_size in
          let further : bytes_before (before + 1) ≡ bytes_before before + page_size = omega (arith, some) in
          let start : take (bytes_before p.page) longer ≡ bytes =
          ap (λ (k : ℕ). take k longer) (here ∙ sym len) ∙ same in
          let rest : drop end bytes ≡ [] = drop_all end bytes (omega (arith, len, here)) in
          let rest_longer : drop end (take end longer) ≡ [] =
          drop_all end (take end longer) (omega (arith, length-take end longer)) in
          let len_bytes : length (with_page p bytes) ≡ end =
          omega (
            arith,
            length-append (take (bytes_before p.page) bytes ++ p.image) (drop end bytes),
            length-append (take (bytes_before p.page) bytes) p.image,
            length-take (bytes_before p.page) bytes,
            length-drop end bytes,
            fits.whole,
            len,
            here,
          ) in
          let begins : take (length (with_page p bytes)) (with_page p longer) ≡ with_page p bytes =
          ap (λ (k : ℕ). take k (with_page p longer)) len_bytes
          ∙ take_behind p longer fits end (omega arith)
          ∙ ap (λ (l : List ℕ). l ++ p.image ++ drop end (take end longer))
          (take-take (bytes_before p.page) end longer (omega arith) ∙ start
          ∙ sym (take_all (bytes_before p.page) bytes (omega (arith, len, here))))
          ∙ ap (λ (l : List ℕ). take (bytes_before p.page) bytes ++ p.image ++ l) (rest_longer ∙ sym rest) in
          grown pages p.page (before + 1) after (with_page p bytes) (with_page p longer)
          (omega (arith, len_bytes, further, here)) (len_more ∙ len_longer) (omega arith)
          (omega (arith, fits.within, len_longer, here, le, some)) begins first.1 fit_more
          (λ n above below. tail_contains p pages n (λ (is : p.page ≡ n). omega (arith, is, above, equal))
          (added n (omega (arith, above)) below))
      | inr (inl less) ↦
          let fits_bytes : Fits p (length bytes) =
          record { within = omega (arith, len, less, one); whole = fits.whole } in
          let len_bytes = length-with_page p bytes fits_bytes in
          let begins : take (length (with_page p bytes)) (with_page p longer) ≡ with_page p bytes =
          ap (λ (k : ℕ). take k (with_page p longer)) len_bytes
          ∙ take_behind p longer fits (length bytes) fits_bytes.within
          ∙ ap (with_page p) same in
          grown pages p.page before after (with_page p bytes) (with_page p longer)
          (len_bytes ∙ len) (len_more ∙ len_longer) some le begins first.1 fit_more
          (λ n above below. tail_contains p pages n (λ (is : p.page ≡ n). omega (arith, is, above, less))
          (added n above below))
      | inr (inr more) ↦
          let below : before < after = omega (arith, fits.within, len_longer, more, one, some, le) in
          let has =
          tail_contains p pages before (λ (is : p.page ≡ before). omega (arith, is, more))
          (added before (omega arith) below) in
          absurd (none_below p.page before (page_numbers pages) first.1 (omega (arith, more)) has)
    ]
