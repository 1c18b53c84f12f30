-- The pages that were passed, with their names.
use Rattle.std.proofs.Common.{◌≡◌, ◌≢◌, ◌∙◌, ◌<◌, ◌≤◌, ◌++◌, ◌+◌, ℕ, List, [], ◌∷◌, All, Bor, Iter}
use Rattle.std.proofs.Common.{None, Option, Some, ap, arith, get_or, length, map, subst, sym, take}
use Rattle.std.specs.declared.iter.Zip.{Zip}
use Rattle.std.specs.Iterator.{Yields}
use Rattle.std.specs.Iterator.Adapters.{zip_first, zip_second}
use Rattle.std.specs.List.{position_or_len, zip}
use Rattle.std.specs.Slice.Iter.{iter_rest}
use Rattle.std.proofs.iter.Yields.{fronts}
use Rattle.std.proofs.lemmas.Iterator.{zips}
use Rattle.std.proofs.lemmas.List.{get_or-map, length-map, take_all, take_more}
use Rattle.std.proofs.lemmas.List.Elements.{All-take, All-weaker}
use Rattle.std.proofs.lemmas.Slice.Zip.{firsts-zip, get_or-zip, length-zip, zip_end, zip_turn}
use Rattle.indexmap.specs.IndexSet.{insert_key}
use Rattle.pl_base.specs.declared.id.Slot.{Slot}
use Rattle.pl_base.specs.Address.{origin_of_url}
use Rattle.pl_base.specs.Live.{origin_count}
use Rattle.pl_base.proofs.ListLaws.{map-map}
use Rattle.pl_stored.specs.declared.stored.StoredPage.{StoredPage}
use Rattle.pl_origins.specs.declared.names.Origin.{Origin}
use Rattle.pl_origins.specs.Keys.{key_of}
use Rattle.pl_origins.specs.Names.{AreAlike, AreNamed, Named, named, named_url}
use Rattle.pl_origins.proofs.Standing.{Stands, all_named, counts, is_equal, is_slot, no_more}
use Rattle.pl_origins.proofs.Standing.{numbers_same, stands_more}

all_length : (pages : List StoredPage) (names : List Slot) → length pages ≡ length names
    → length (named pages names) ≡ length pages
all_length pages names as_many =
    length-map (zip pages names) named_url ∙ omega (arith, length-zip pages names, as_many)

-- a page stands at this place, and its name
pub record StandAt (pages : List StoredPage) (names : List Slot) (k : ℕ) (page : StoredPage) (name : Slot)
    : Type 0 where
  pub within : k < length pages
  pub page_is : (d : StoredPage) → page ≡ get_or pages k d
  pub name_is : (d : Slot) → name ≡ get_or names k d

pub next_is : (pages : List StoredPage) (names : List Slot) (k : ℕ) (page : StoredPage) (name : Slot)
    → length pages ≡ length names → StandAt pages names k page name
    → take (k + 1) (named pages names) ≡ take k (named pages names) ++ named_url (page, name) ∷ []
next_is pages names k page name as_many h =
    let d : StoredPage × Slot = (page, name) in
    let here : get_or (named pages names) k (named_url d) ≡ named_url d =
    get_or-map named_url (zip pages names) k d (named_url d) (omega (arith, length-zip pages names, as_many, h.within))
    ∙ ap named_url (get_or-zip pages names k d h.within (omega (arith, as_many, h.within))
    ∙ ap (λ p. (p, get_or names k name)) (sym (h.page_is page)) ∙ ap (λ n. (page, n)) (sym (h.name_is name))) in
    take_more (named pages names) k (named_url d) (omega (arith, all_length pages names as_many, h.within))
    ∙ ap (λ a. take k (named pages names) ++ a ∷ []) here

front_named : (n : ℕ) (urls : List Named) → AreNamed urls → AreNamed (take n urls)
front_named n urls h =
    All-weaker (λ a. All (AreAlike a) urls) (λ a. All (AreAlike a) (take n urls))
    (λ a alike. All-take (AreAlike a) n urls alike) (take n urls) (All-take (λ a. All (AreAlike a) urls) n urls h)

-- a page whose origin and name have two numbers
pub not_named : (pages : List StoredPage) (names : List Slot) (k : ℕ) (page : StoredPage) (name : Slot)
    (origins : List Origin) (known : List Slot) (origin : Origin) → length pages ≡ length names
    → StandAt pages names k page name → Stands origins known (take k (named pages names))
    → origin_of_url page.url ≡ Some (key_of origin)
    → position_or_len (is_equal origin) origins ≢ position_or_len (is_slot name) known
    → AreNamed (named pages names) → ⊥
not_named pages names k page name origins known origin as_many at h own differ all =
    differ (numbers_same origins known (take k (named pages names)) origin (named_url (page, name)) h own
    (subst AreNamed (next_is pages names k page name as_many at) (front_named (k + 1) (named pages names) all)))

-- a page whose origin and name have the same number
pub page_more : (pages : List StoredPage) (names : List Slot) (k : ℕ) (page : StoredPage) (name : Slot)
    (origins newer : List Origin) (known others : List Slot) (origin : Origin) → length pages ≡ length names
    → StandAt pages names k page name → Stands origins known (take k (named pages names))
    → origin_of_url page.url ≡ Some (key_of origin)
    → position_or_len (is_equal origin) origins ≡ position_or_len (is_slot name) known
    → newer ≡ insert_key is_equal origins origin → others ≡ insert_key is_slot known name
    → Stands newer others (take (k + 1) (named pages names))
page_more pages names k page name origins newer known others origin as_many at h own same first second =
    subst (Stands newer others) (sym (next_is pages names k page name as_many at))
    (stands_more origins newer known others (take k (named pages names)) origin (named_url (page, name)) h own same
    first second)

-- ---- all pages

pub all_passed : (pages : List StoredPage) (names : List Slot) (k : ℕ) (origins : List Origin) (known : List Slot)
    → length pages ≡ length names → length pages ≤ k → Stands origins known (take k (named pages names))
    → Stands origins known (named pages names)
all_passed pages names k origins known as_many past h =
    subst (Stands origins known) (take_all k (named pages names) (omega (arith, all_length pages names as_many, past))) h

pub are_named : (pages : List StoredPage) (names : List Slot) (k : ℕ) (origins : List Origin) (known : List Slot)
    → length pages ≡ length names → length pages ≤ k → Stands origins known (take k (named pages names))
    → AreNamed (named pages names)
are_named pages names k origins known as_many past h =
    all_named origins known (named pages names) (all_passed pages names k origins known as_many past h)

pub page_count : (pages : List StoredPage) (names : List Slot) (k : ℕ) (origins : List Origin) (known : List Slot)
    → length pages ≡ length names → length pages ≤ k → Stands origins known (take k (named pages names))
    → length origins ≡ origin_count (map (λ (p : StoredPage). p.url) pages)
page_count pages names k origins known as_many past h =
    counts origins known (named pages names) (all_passed pages names k origins known as_many past h)
    ∙ ap origin_count (map-map (λ (f : Named). f.url) named_url (zip pages names)
    ∙ sym (map-map (λ (p : StoredPage). p.url) (λ (p : StoredPage × Slot). p.0) (zip pages names))
    ∙ ap (map (λ (p : StoredPage). p.url)) (firsts-zip pages names (sym as_many)))

pub no_more_than_pages : (pages : List StoredPage) (names : List Slot) (k : ℕ) (origins : List Origin)
    (known : List Slot) → length pages ≡ length names → length pages ≤ k
    → Stands origins known (take k (named pages names)) → length origins ≤ length pages
no_more_than_pages pages names k origins known as_many past h =
    omega (
      arith,
      no_more origins known (named pages names) (all_passed pages names k origins known as_many past h),
      all_length pages names as_many,
    )

-- ---- the loop over both

-- an iterator that has all pages and names left
pub record Begins (pages : List StoredPage) (names : List Slot) (s : Zip (Iter StoredPage) (Iter Slot)) : Type 0 where
  pub pages_left : iter_rest (zip_first s) ≡ pages
  pub names_left : iter_rest (zip_second s) ≡ names

pub begins : {pages : List StoredPage} {names : List Slot} {i : Iter StoredPage} {s t : Zip (Iter StoredPage) (Iter Slot)}
    → t ≡ s → zip_first s ≡ i → iter_rest i ≡ pages → iter_rest (zip_second s) ≡ names → Begins pages names t
begins same first rest second =
    record {
      pages_left = ap (λ z. iter_rest (zip_first z)) same ∙ ap iter_rest first ∙ rest;
      names_left = ap (λ z. iter_rest (zip_second z)) same ∙ second;
    }

pub turned : {pages : List StoredPage} {names : List Slot} (xs : List (Bor StoredPage × Bor Slot))
    {s : Zip (Iter StoredPage) (Iter Slot)} (t u : Zip (Iter StoredPage) (Iter Slot))
    {r : Option (Bor StoredPage × Bor Slot)} (p : Bor StoredPage × Bor Slot) → Begins pages names s → Yields (zips fronts fronts) s xs t → r ≡ Some p
    → zips fronts fronts t r u → StandAt pages names (length xs) p.0.now p.1.now
turned {pages} {names} xs {s} t u {r} p h yielded is steps =
    let turn = zip_turn pages names xs s t u r h.pages_left h.names_left yielded p is steps in
    record { within = turn.0; page_is = turn.2; name_is = turn.3 }

pub ended : {pages : List StoredPage} {names : List Slot} (xs : List (Bor StoredPage × Bor Slot))
    {s : Zip (Iter StoredPage) (Iter Slot)} (t u : Zip (Iter StoredPage) (Iter Slot))
    {r : Option (Bor StoredPage × Bor Slot)} → length pages ≡ length names
    → Begins pages names s → Yields (zips fronts fronts) s xs t → r ≡ None → zips fronts fronts t r u
    → length pages ≤ length xs
ended {pages} {names} xs {s} t u {r} as_many h yielded is steps =
    omega (arith, zip_end pages names xs s t u r h.pages_left h.names_left yielded is steps, as_many)
