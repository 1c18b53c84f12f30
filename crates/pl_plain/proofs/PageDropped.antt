-- The rows stay well kept where a page goes, and its origin with its last page.
use Rattle.std.proofs.Common.{◌≡◌, ◌≢◌, ◌+◌, ◌-◌, ◌<◌, ◌≤◌, ◌==◌, ◌||◌, ◌∙◌, ℕ, All, Bool, true, false}
use Rattle.std.proofs.Common.{IsTrue, List, [], ◌∷◌, Some, ap, arith, eq-eqb, filter, get_or}
use Rattle.std.proofs.Common.{if◌then◌else◌, length, map, not, refl, subst, sym}
use Rattle.std.specs.List.{list_any, swap_remove}
use Rattle.std.proofs.lemmas.Bool.{eqb-true, false≢true, ne_eqb}
use Rattle.std.proofs.lemmas.List.{length-map}
use Rattle.std.proofs.lemmas.List.Elements.{All-filter, All-head, All-map, All-tail}
use Rattle.std.proofs.lemmas.List.Kept.{AllPairs-filter, IsStrictlyIncreasing-filter}
use Rattle.pl_base.specs.declared.id.PageId.{PageId}
use Rattle.pl_base.specs.declared.id.Slot.{Slot}
use Rattle.pl_base.specs.Address.{is_store_url, same_origin}
use Rattle.pl_base.specs.Good.{AreIds, IsTitle, is_visited}
use Rattle.pl_base.specs.Live.{chunks, live_slots, origin_count}
use Rattle.pl_base.specs.Rows.{AreAlike, Kept, KeptOrigin, KeptPage, WithoutPage, has_page, other_pages, page_at}
use Rattle.pl_base.specs.Rows.{store_of, total_at, totals_of, unnamed}
use Rattle.pl_base.specs.Store.{Visit}
use Rattle.pl_base.proofs.IdsLaws.{same_slot}
use Rattle.pl_base.proofs.ItemLaws.{map-filter}
use Rattle.pl_base.proofs.ListLaws.{AllPairs-map, list_any-map, map-map, sum_by-map}
use Rattle.pl_base.proofs.LookUps.{found_passes, none_at}
use Rattle.pl_base.proofs.OriginLaws.{same_origin-self}
use Rattle.pl_base.proofs.Truths.{same_tests}
use Rattle.pl_plain.specs.declared.flat.row.FlatPage.{FlatPage}
use Rattle.pl_plain.specs.FlatRows.{IsFlat, has_name, name_left, origins_from, page_of, renamed_row, totals_left}
use Rattle.pl_plain.proofs.FlatChanges.{one_page, slots_of}
use Rattle.pl_plain.proofs.OriginTotals.{length-swap_remove, swapped_here, swapped_other, total_named}
use Rattle.pl_plain.proofs.OriginsLeft.{is_new}
use Rattle.pl_plain.proofs.PagesButOne.{AreWithin, IsFree}
use Rattle.pl_plain.proofs.PagesButOne.{IsSplit, split, any_split, length_split, sum_split, urls}
use Rattle.pl_plain.proofs.PagesButOne.{count_split, names_left, renamed, in_use, left_within, left_apart, free, any_where}
use Rattle.pl_plain.proofs.PagesButOne.{found_holds}

-- ---- what is left

-- what holds of the pages that are left and of their names
record IsLeft (origins : ℕ) (p : KeptPage) (used : Bool) (rest : List KeptPage) : Type 0 where
  within : All (λ (q : KeptPage). (0 < (name_left used origins p.origin q.origin).0)
      × ((name_left used origins p.origin q.origin).0 ≤ names_left used origins)) rest
  named : (n : ℕ) → 0 < n → n ≤ names_left used origins
      → list_any (λ (q : KeptPage). (name_left used origins p.origin q.origin).0 == n) rest ≡ true
  apart : All (λ (q : KeptPage). All (λ (r : KeptPage).
      name_left used origins p.origin q.origin ≡ name_left used origins p.origin r.origin → q.origin ≡ r.origin)
      rest) rest

-- what was known of the names
record WereNamed (origins : ℕ) (p : KeptPage) (rest : List KeptPage) : Type 0 where
  own : (0 < p.origin.0) × (p.origin.0 ≤ origins)
  within : AreWithin origins rest
  named : (n : ℕ) → 0 < n → n ≤ origins
      → ((p.origin.0 == n) || list_any (λ (q : KeptPage). q.origin.0 == n) rest) ≡ true

other_of : (a b : Bool) → a ≡ false → (a || b) ≡ true → b ≡ true
other_of true b none some = absurd (false≢true (sym none))
other_of false b none some = some

left : (origins : ℕ) (p : KeptPage) (rest : List KeptPage) (used : Bool) → in_use p.origin rest ≡ used
    → WereNamed origins p rest → IsLeft origins p used rest
left origins p rest true is were =
    record {
      within = were.within;
      named = λ n some few. choose n some few (p.origin.0 == n) refl;
      apart = λ k d within j e inside same. same;
    }
  where
    choose : (n : ℕ) → 0 < n → n ≤ origins → (b : Bool) → (p.origin.0 == n) ≡ b
        → list_any (λ (q : KeptPage). q.origin.0 == n) rest ≡ true
    choose n some few true own =
        subst (λ m. list_any (λ (q : KeptPage). q.origin.0 == m) rest ≡ true) (eqb-true p.origin.0 n own) is
    choose n some few false other =
        other_of (p.origin.0 == n) (list_any (λ (q : KeptPage). q.origin.0 == n) rest) other (were.named n some few)
left origins p rest false is were =
    let none : IsFree p.origin rest = free p.origin rest is in
    record {
      within =
          λ k d within.
          left_within p.origin (get_or rest k d).origin origins were.own.0 were.own.1 (none k d within)
          (were.within k d within);
      named = λ n some few. choose n some few (p.origin.0 == n) refl;
      apart =
          λ k d within j e inside.
          left_apart p.origin (get_or rest k d).origin (get_or rest j e).origin origins (none k d within)
          (none j e inside);
    }
  where
    taken : (q : KeptPage) → (q.origin.0 == origins) ≡ true → (name_left false origins p.origin q.origin).0 ≡ p.origin.0
    taken q last = ap (λ b. (if b then p.origin else q.origin).0) last

    kept_name : (q : KeptPage) → (q.origin.0 == origins) ≡ false
        → (name_left false origins p.origin q.origin).0 ≡ q.origin.0
    kept_name q other = ap (λ b. (if b then p.origin else q.origin).0) other

    choose : (n : ℕ) → 0 < n → n ≤ origins - 1 → (b : Bool) → (p.origin.0 == n) ≡ b
        → list_any (λ (q : KeptPage). (name_left false origins p.origin q.origin).0 == n) rest ≡ true
    choose n some few true own =
        let number : p.origin.0 ≡ n = eqb-true p.origin.0 n own in
        any_where (λ (q : KeptPage). q.origin.0 == origins)
        (λ (q : KeptPage). (name_left false origins p.origin q.origin).0 == n) rest
        (λ k d within last.
        eq-eqb (name_left false origins p.origin (get_or rest k d).origin).0 n
        (taken (get_or rest k d) last ∙ number))
        (other_of (p.origin.0 == origins) (list_any (λ (q : KeptPage). q.origin.0 == origins) rest)
        (ne_eqb p.origin.0 origins (λ same. omega (arith, number, few, some)))
        (were.named origins (omega (arith, some, few)) (omega arith)))
    choose n some few false other =
        any_where (λ (q : KeptPage). q.origin.0 == n)
        (λ (q : KeptPage). (name_left false origins p.origin q.origin).0 == n) rest
        (λ k d within here.
        let q : KeptPage = get_or rest k d in
        let number : q.origin.0 ≡ n = eqb-true q.origin.0 n here in
        eq-eqb (name_left false origins p.origin q.origin).0 n
        (kept_name q (ne_eqb q.origin.0 origins (λ same. omega (arith, number, few, some))) ∙ number))
        (other_of (p.origin.0 == n) (list_any (λ (q : KeptPage). q.origin.0 == n) rest) other
        (were.named n some (omega (arith, few))))

-- ---- the totals that are left

left_length : (used : Bool) (name : Slot) (totals : List ℕ)
    → length (totals_left used name totals) ≡ names_left used (length totals)
left_length true name totals = refl
left_length false name totals = length-swap_remove totals (name.0 - 1)

-- an origin has the same total by the name that it has from then on
left_total : (totals : List ℕ) (name origin : Slot) (used : Bool) (old new : Kept) → old.origins ≡ origins_from totals
    → new.origins ≡ origins_from (totals_left used name totals) → (0 < name.0) × (name.0 ≤ length totals)
    → (0 < origin.0) × (origin.0 ≤ length totals) → (used ≡ false → origin.0 ≢ name.0)
    → total_at new (name_left used (length totals) name origin) ≡ total_at old origin
left_total totals name origin true old new was is within bounds apart =
    ap (λ (os : List KeptOrigin). total_at (record old { origins = os }) origin) (is ∙ sym was)
left_total totals name origin false old new was is within bounds apart = choose (origin.0 == length totals) refl
  where
    few : length (swap_remove totals (name.0 - 1) 0) ≡ length totals - 1
    few = length-swap_remove totals (name.0 - 1)

    choose : (b : Bool) → (origin.0 == length totals) ≡ b
        → total_at new (if b then name else origin) ≡ total_at old origin
    choose true at_end =
        let number : origin.0 ≡ length totals = eqb-true origin.0 (length totals) at_end in
        let inside : name.0 - 1 < length totals - 1 = omega (arith, number, apart refl, within.0, within.1) in
        total_named (swap_remove totals (name.0 - 1) 0) new name is within.0 (omega (arith, few, inside))
        ∙ ap Some (swapped_here totals (name.0 - 1) inside ∙ ap (λ n. get_or totals (n - 1) 0) (sym number))
        ∙ sym (total_named totals old origin was bounds.0 bounds.1)
    choose false before =
        let other : origin.0 ≢ length totals =
        λ same. false≢true (sym before ∙ eq-eqb origin.0 (length totals) same) in
        let inside : origin.0 - 1 < length totals - 1 = omega (arith, other, bounds.0, bounds.1) in
        let away : origin.0 - 1 ≢ name.0 - 1 =
        λ same. apart refl (omega (arith, same, bounds.0, within.0)) in
        total_named (swap_remove totals (name.0 - 1) 0) new origin is bounds.0 (omega (arith, few, inside))
        ∙ ap Some (swapped_other totals (name.0 - 1) (origin.0 - 1) inside away)
        ∙ sym (total_named totals old origin was bounds.0 bounds.1)

map_where : {X Y : Type 0} (f g : X → Y) (xs : List X) → All (λ x. f x ≡ g x) xs → map f xs ≡ map g xs
map_where f g [] same = refl
map_where f g (x ∷ xs) same =
    rw (All-head (λ y. f y ≡ g y) x xs same, map_where f g xs (All-tail (λ y. f y ≡ g y) x xs same)) refl

-- ---- the rows without the page

-- the rows without a page, whose origin's name goes to the last one where no other page has it
abbrev pub dropped : PageId → Bool → ℕ → Slot → List KeptOrigin → Kept → Kept
dropped id used origins name named kept =
    record kept {
      pages = map (renamed used origins name) (other_pages id kept.pages);
      origins = named;
    }

-- the slots that go with a page
abbrev pub slots_of_page : KeptPage → ℕ
slots_of_page p = 1 + chunks p.page.url + chunks p.page.title

one_of : (kept : Kept) (origins live : ℕ) (id : PageId) (p : KeptPage) → IsFlat kept origins live
    → page_at kept id ≡ Some p → IsSplit kept.pages (other_pages id kept.pages) p
one_of kept origins live id p h found = split id kept.pages p (one_page id kept.pages h.page_ids.ascending) found

-- what holds of each page holds of this one
holds_of : (P : KeptPage → Type 0) (kept : Kept) (id : PageId) (p : KeptPage) → page_at kept id ≡ Some p
    → All P kept.pages → P p
holds_of P kept id p found all = found_holds (λ (q : KeptPage). q.page.id.0 == id.0) P kept.pages p found all

were : (kept : Kept) (origins live : ℕ) (id : PageId) (p : KeptPage) → IsFlat kept origins live
    → page_at kept id ≡ Some p → WereNamed origins p (other_pages id kept.pages)
were kept origins live id p h found =
    record {
      own =
          holds_of (λ (q : KeptPage). (0 < q.origin.0) × (q.origin.0 ≤ origins)) kept id p found h.named;
      within =
          All-filter (λ (q : KeptPage). not (q.page.id.0 == id.0))
          (λ (q : KeptPage). (0 < q.origin.0) × (q.origin.0 ≤ origins)) kept.pages h.named;
      named =
          λ n some few.
          sym (any_split (λ (q : KeptPage). q.origin.0 == n) kept.pages (other_pages id kept.pages) p
          (one_of kept origins live id p h found)) ∙ h.used n some few;
    }

-- another page has the name where another has the origin
used_where : (kept : Kept) (origins live : ℕ) (id : PageId) (p : KeptPage) → IsFlat kept origins live
    → page_at kept id ≡ Some p → in_use p.origin (other_pages id kept.pages)
    ≡ list_any (λ (q : KeptPage). same_origin p.page.url q.page.url) (other_pages id kept.pages)
used_where kept origins live id p h found =
    let rest : List KeptPage = other_pages id kept.pages in
    let all : All (AreAlike p) rest =
    All-filter (λ (q : KeptPage). not (q.page.id.0 == id.0)) (AreAlike p) kept.pages
    (holds_of (λ (q : KeptPage). All (AreAlike q) kept.pages) kept id p found h.same) in
    same_tests (in_use p.origin rest)
    (list_any (λ (q : KeptPage). same_origin p.page.url q.page.url) rest)
    (any_where (λ (q : KeptPage). q.origin.0 == p.origin.0)
    (λ (q : KeptPage). same_origin p.page.url q.page.url) rest
    (λ k d within named. (all k d within).0
    (same_slot p.origin (get_or rest k d).origin (sym (eqb-true (get_or rest k d).origin.0 p.origin.0 named)))))
    (any_where (λ (q : KeptPage). same_origin p.page.url q.page.url)
    (λ (q : KeptPage). q.origin.0 == p.origin.0) rest
    (λ k d within same. eq-eqb (get_or rest k d).origin.0 p.origin.0
    (ap (λ (s : Slot). s.0) (sym ((all k d within).1 same)))))

names_few : (b : Bool) (n : ℕ) → names_left b n ≤ n
names_few true n = omega arith
names_few false n = omega arith

left_count : (b : Bool) (n m : ℕ) → n ≡ m + is_new b → names_left b n ≡ m
left_count true n m is = omega (arith, is)
left_count false n m is = omega (arith, is)

-- the names that are left are as many as the origins of the pages that are left
counted : (kept : Kept) (origins live : ℕ) (id : PageId) (p : KeptPage) → IsFlat kept origins live
    → page_at kept id ≡ Some p → names_left (in_use p.origin (other_pages id kept.pages)) origins
    ≡ origin_count (urls (other_pages id kept.pages))
counted kept origins live id p h found =
    let rest : List KeptPage = other_pages id kept.pages in
    left_count (in_use p.origin rest) origins (origin_count (urls rest))
    (h.counted
    ∙ count_split kept.pages rest p (one_of kept origins live id p h found)
    (same_origin-self p.page.url (holds_of (λ (q : KeptPage). IsTrue (is_store_url q.page.url)) kept id p found h.urls))
    ∙ ap (λ b. origin_count (urls rest) + is_new b) (sym (used_where kept origins live id p h found)))

-- the slots of the rows, and those without the page
pub slots_dropped : (kept : Kept) (origins live : ℕ) (id : PageId) (p : KeptPage) (named : List KeptOrigin)
    → IsFlat kept origins live → page_at kept id ≡ Some p
    → let used = in_use p.origin (other_pages id kept.pages) in
    live ≡ live_slots (store_of (dropped id used origins p.origin named kept))
    + (slots_of_page p + (origins - names_left used origins))
slots_dropped kept origins live id p named h found =
    let rest : List KeptPage = other_pages id kept.pages in
    let used : Bool = in_use p.origin rest in
    let f : KeptPage → KeptPage = renamed used origins p.origin in
    let s = one_of kept origins live id p h found in
    omega (
      arith,
      h.filled,
      slots_of kept,
      slots_of (dropped id used origins p.origin named kept),
      h.counted,
      counted kept origins live id p h found,
      ap origin_count (map-map (λ (q : KeptPage). q.page.url) f rest),
      length-map rest f,
      length_split kept.pages rest p s,
      sum_by-map (λ (q : KeptPage). chunks q.page.url + chunks q.page.title) f rest,
      sum_split (λ (q : KeptPage). chunks q.page.url + chunks q.page.title) kept.pages rest p s,
      names_few used origins,
    )

-- the pages that are left have the totals that they had
pub totals_dropped : (kept : Kept) (totals : List ℕ) (live : ℕ) (id : PageId) (p : KeptPage)
    → IsFlat kept (length totals) live → page_at kept id ≡ Some p → kept.origins ≡ origins_from totals
    → let used = in_use p.origin (other_pages id kept.pages) in
    let new = dropped id used (length totals) p.origin (origins_from (totals_left used p.origin totals)) kept in
    totals_of new new.pages ≡ totals_of kept (other_pages id kept.pages)
totals_dropped kept totals live id p h found was =
    let rest : List KeptPage = other_pages id kept.pages in
    let used : Bool = in_use p.origin rest in
    let new : Kept =
    dropped id used (length totals) p.origin (origins_from (totals_left used p.origin totals)) kept in
    let w = were kept (length totals) live id p h found in
    map-map (λ (q : KeptPage). total_at new q.origin) (renamed used (length totals) p.origin) rest
    ∙ map_where (λ (q : KeptPage). total_at new (name_left used (length totals) p.origin q.origin))
    (λ (q : KeptPage). total_at kept q.origin) rest
    (λ k d within. left_total totals p.origin (get_or rest k d).origin used kept new was refl w.own
    (w.within k d within) (λ none. free p.origin rest none k d within))

pub IsFlat-dropped : (kept : Kept) (origins live : ℕ) (id : PageId) (p : KeptPage) (named : List KeptOrigin)
    → IsFlat kept origins live → page_at kept id ≡ Some p → is_visited (store_of kept) id ≡ false
    → let used = in_use p.origin (other_pages id kept.pages) in
    IsFlat (dropped id used origins p.origin named kept) (names_left used origins)
    (live - (slots_of_page p + (origins - names_left used origins)))
IsFlat-dropped kept origins live id p named h found unvisited =
    let others : KeptPage → Bool = λ (q : KeptPage). not (q.page.id.0 == id.0) in
    let rest : List KeptPage = other_pages id kept.pages in
    let used : Bool = in_use p.origin rest in
    let f : KeptPage → KeptPage = renamed used origins p.origin in
    let whole : Kept = dropped id used origins p.origin named kept in
    let at : IsLeft origins p used rest = left origins p rest used refl (were kept origins live id p h found) in
    let slots = slots_dropped kept origins live id p named h found in
    let ids : map (λ (q : KeptPage). q.page.id.0) (map f rest)
    ≡ filter (λ n. not (n == id.0)) (map (λ (q : KeptPage). q.page.id.0) kept.pages) =
    map-map (λ (q : KeptPage). q.page.id.0) f rest
    ∙ map-filter (λ (q : KeptPage). q.page.id.0) (λ n. not (n == id.0)) kept.pages in
    let each : (P : KeptPage → Type 0) → All P kept.pages → All P rest =
    λ P all. All-filter others P kept.pages all in
    record {
      day = h.day;
      page_ids = subst (AreIds 1 kept.ids.page) (sym ids) (record {
        ascending =
            IsStrictlyIncreasing-filter (λ n. not (n == id.0)) (map (λ (q : KeptPage). q.page.id.0) kept.pages)
            h.page_ids.ascending;
        given =
            All-filter (λ n. not (n == id.0)) (λ n. (0 < n) × (n < kept.ids.page))
            (map (λ (q : KeptPage). q.page.id.0) kept.pages) h.page_ids.given;
        next_first = h.page_ids.next_first;
        next_last = h.page_ids.next_last;
      });
      visit_ids = h.visit_ids;
      item_ids = h.item_ids;
      urls =
          All-map (λ (q : KeptPage). IsTrue (is_store_url q.page.url)) f rest
          (each (λ (q : KeptPage). IsTrue (is_store_url q.page.url)) h.urls);
      distinct_urls =
          AllPairs-map (λ (q r : KeptPage). q.page.url ≢ r.page.url) f rest
          (AllPairs-filter (λ (q r : KeptPage). q.page.url ≢ r.page.url) others kept.pages h.distinct_urls);
      titles =
          All-map (λ (q : KeptPage). IsTitle q.page.title) f rest
          (each (λ (q : KeptPage). IsTitle q.page.title) h.titles);
      visits =
          λ k d within. (
            (h.visits k d within).0,
            list_any-map (λ (q : KeptPage). q.page.id.0 == (get_or kept.visits k d).page.0) f rest
                ∙ still (get_or kept.visits k d) (visited_not k d within) (h.visits k d within).1,
          );
      sources = h.sources;
      named =
          All-map (λ (q : KeptPage). (0 < q.origin.0) × (q.origin.0 ≤ names_left used origins)) f rest at.within;
      used = λ n some few. list_any-map (λ (q : KeptPage). q.origin.0 == n) f rest ∙ at.named n some few;
      same =
          All-map (λ (q : KeptPage). All (AreAlike q) (map f rest)) f rest
          (λ k d within.
          All-map (AreAlike (f (get_or rest k d))) f rest
          (λ j e inside. alike (get_or rest k d) (get_or rest j e) (at.apart k d within j e inside)
          (each (AreAlike (get_or rest k d))
          (each (λ (q : KeptPage). All (AreAlike q) kept.pages) h.same k d within) j e inside)));
      counted =
          counted kept origins live id p h found
          ∙ ap origin_count (sym (map-map (λ (q : KeptPage). q.page.url) f rest));
      filled = omega (arith, slots);
      few = omega (arith, h.few);
    }
  where
    rest : List KeptPage
    rest = other_pages id kept.pages

    used : Bool
    used = in_use p.origin rest

    alike : (q r : KeptPage)
        → (name_left used origins p.origin q.origin ≡ name_left used origins p.origin r.origin → q.origin ≡ r.origin)
        → AreAlike q r → AreAlike (renamed used origins p.origin q) (renamed used origins p.origin r)
    alike q r apart before = (
      λ same. before.0 (apart same),
      λ same. ap (name_left used origins p.origin) (before.1 same),
    )

    visited_not : (k : ℕ) (d : Visit) → k < length kept.visits → ((get_or kept.visits k d).page.0 == id.0) ≡ false
    visited_not k d within =
        none_at (λ (v : Visit). v.page.0 == id.0) kept.visits unvisited k d within

    still : (v : Visit) → (v.page.0 == id.0) ≡ false → has_page kept v.page ≡ true
        → list_any (λ (q : KeptPage). q.page.id.0 == v.page.0) rest ≡ true
    still v other there =
        other_of (p.page.id.0 == v.page.0) (list_any (λ (q : KeptPage). q.page.id.0 == v.page.0) rest)
        (ne_eqb p.page.id.0 v.page.0
        (λ same.
        false≢true (sym other ∙ eq-eqb v.page.0 id.0
        (sym same ∙ eqb-true p.page.id.0 id.0 (found_passes (λ (q : KeptPage). q.page.id.0 == id.0) kept.pages p found)))))
        (sym (any_split (λ (q : KeptPage). q.page.id.0 == v.page.0) kept.pages rest p
        (one_of kept origins live id p h found)) ∙ there)

-- the rows that are left are well kept, where the totals are those that are left
pub flat_dropped : (kept : Kept) (totals : List ℕ) (live : ℕ) (id : PageId) (p : KeptPage)
    → IsFlat kept (length totals) live → page_at kept id ≡ Some p → is_visited (store_of kept) id ≡ false
    → let used = in_use p.origin (other_pages id kept.pages) in
    let left = totals_left used p.origin totals in
    IsFlat (dropped id used (length totals) p.origin (origins_from left) kept) (length left)
    (live - (slots_of_page p + (length totals - length left)))
flat_dropped kept totals live id p h found unvisited =
    let used : Bool = in_use p.origin (other_pages id kept.pages) in
    let left : List ℕ = totals_left used p.origin totals in
    subst (λ n. IsFlat (dropped id used (length totals) p.origin (origins_from left) kept) n
    (live - (slots_of_page p + (length totals - n)))) (sym (left_length used p.origin totals))
    (IsFlat-dropped kept (length totals) live id p (origins_from left) h found unvisited)

-- the slots that go are there
pub slots_there : (kept : Kept) (totals : List ℕ) (live : ℕ) (id : PageId) (p : KeptPage)
    → IsFlat kept (length totals) live → page_at kept id ≡ Some p
    → let left = totals_left (in_use p.origin (other_pages id kept.pages)) p.origin totals in
    (length left ≤ length totals) × (slots_of_page p + (length totals - length left) ≤ live)
slots_there kept totals live id p h found =
    let used : Bool = in_use p.origin (other_pages id kept.pages) in (
      omega (arith, left_length used p.origin totals, names_few used (length totals)),
      omega (
        arith,
        left_length used p.origin totals,
        slots_dropped kept (length totals) live id p [] h found,
      ),
    )

-- a page that is there has a name for its origin
pub some_name : (kept : Kept) (origins live : ℕ) (id : PageId) (p : KeptPage) → IsFlat kept origins live
    → page_at kept id ≡ Some p → (0 < p.origin.0) × (p.origin.0 ≤ origins)
some_name kept origins live id p h found =
    holds_of (λ (q : KeptPage). (0 < q.origin.0) × (q.origin.0 ≤ origins)) kept id p found h.named

-- ---- over rows

pub pages_dropped : (id : PageId) (ps : List FlatPage)
    → map page_of (filter (λ (p : FlatPage). not (p.id.0 == id.0)) ps) ≡ other_pages id (map page_of ps)
pages_dropped id [] = refl
pages_dropped id (p ∷ ps) = choose (p.id.0 == id.0) (pages_dropped id ps)
  where
    choose : (b : Bool)
        → map page_of (filter (λ (p : FlatPage). not (p.id.0 == id.0)) ps) ≡ other_pages id (map page_of ps)
        → map page_of (if not b then p ∷ filter (λ (p : FlatPage). not (p.id.0 == id.0)) ps
        else filter (λ (p : FlatPage). not (p.id.0 == id.0)) ps)
        ≡ (if not b then page_of p ∷ other_pages id (map page_of ps) else other_pages id (map page_of ps))
    choose true rest = rest
    choose false rest = ap (λ (qs : List KeptPage). page_of p ∷ qs) rest

-- the rows that are left, seen as what is kept
pub rows_dropped : (id : PageId) (name : Slot) (last : ℕ) (ps left new : List FlatPage)
    → left ≡ filter (λ (p : FlatPage). not (p.id.0 == id.0)) ps
    → new ≡ map (renamed_row (has_name name left) last name) left
    → map page_of new
    ≡ map (renamed (in_use name (other_pages id (map page_of ps))) last name) (other_pages id (map page_of ps))
rows_dropped id name last ps left new is renamed_is =
    let others : map page_of left ≡ other_pages id (map page_of ps) = ap (map page_of) is ∙ pages_dropped id ps in
    let used : has_name name left ≡ in_use name (other_pages id (map page_of ps)) =
    sym (list_any-map (λ (q : KeptPage). q.origin.0 == name.0) page_of left) ∙ ap (in_use name) others in
    ap (map page_of) renamed_is
    ∙ map-map page_of (renamed_row (has_name name left) last name) left
    ∙ sym (map-map (renamed (has_name name left) last name) page_of left)
    ∙ ap (λ b. map (renamed b last name) (map page_of left)) used
    ∙ ap (map (renamed (in_use name (other_pages id (map page_of ps))) last name)) others

pub used_dropped : (id : PageId) (name : Slot) (ps left : List FlatPage)
    → left ≡ filter (λ (p : FlatPage). not (p.id.0 == id.0)) ps
    → has_name name left ≡ in_use name (other_pages id (map page_of ps))
used_dropped id name ps left is =
    sym (list_any-map (λ (q : KeptPage). q.origin.0 == name.0) page_of left)
    ∙ ap (in_use name) (ap (map page_of) is ∙ pages_dropped id ps)

-- but for their names the pages are the others
pub without_dropped : (id : PageId) (used : Bool) (last : ℕ) (name : Slot) (named : List KeptOrigin) (kept : Kept)
    → totals_of (dropped id used last name named kept) (map (renamed used last name) (other_pages id kept.pages))
    ≡ totals_of kept (other_pages id kept.pages)
    → WithoutPage id kept (dropped id used last name named kept)
without_dropped id used last name named kept totals =
    record {
      day = refl;
      ids = refl;
      pages = map-map unnamed (renamed used last name) (other_pages id kept.pages);
      totals = totals;
      visits = refl;
      items = refl;
    }
