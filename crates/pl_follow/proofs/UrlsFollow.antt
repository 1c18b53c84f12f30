-- What the look-up by URLs stands for where views come and go.
use Rattle.std.proofs.Common.{◌≡◌, ◌≢◌, ◌∙◌, ℕ, Bool, true, false, Global, List, Option, Some, None, String}
use Rattle.std.proofs.Common.{ap, bytes_eq, cond, refl, string_bytes, subst, sym}
use Rattle.std.specs.BTreeMap.{Updates, UpdatesBy, get, get_by_text, is_at}
use Rattle.std.specs.Cmp.Lexicographic.{slice_cmp}
use Rattle.std.specs.List.{AllPairs, Contains}
use Rattle.std.specs.Map.{lookup, update}
use Rattle.std.specs.Option.{IsSome, option_or}
use Rattle.std.specs.Ordering.{nat_cmp}
use Rattle.std.specs.String.{string_cmp}
use Rattle.std.proofs.lemmas.Bool.{false_from_ne_true}
use Rattle.std.proofs.lemmas.Map.Text.{btree_map_updates_text}
use Rattle.std.proofs.lemmas.Slice.Eq.{bytes_eq-Decides}
use Rattle.pl_base.specs.declared.id.PageId.{PageId}
use Rattle.pl_base.specs.declared.view.View.{View}
use Rattle.pl_base.proofs.Truths.{neither}
use Rattle.pl_digest.specs.Digest.{digest_of}
use Rattle.pl_follow.specs.Changes.{Suits, changed, has_view, with_view, without_id}
use Rattle.pl_follow.specs.Urls.{IndexesUrls, found_by, hashed_page, other_page, page_of}
use Rattle.pl_follow.specs.declared.urls.UrlIndex.{UrlIndex}
use Rattle.pl_follow.specs.declared.urls.UrlPage.{UrlPage}
use Rattle.pl_follow.proofs.ChangedLists.{added_in_order, old_parted, parted_pairs, parted_url}
use Rattle.pl_follow.proofs.Parted.{Parted, added_parted, ascend, removed_in_order, removed_parted}
use Rattle.pl_follow.proofs.Told.{IsOnly, none_told, told_others, told_same, told_with}
use Rattle.pl_follow.proofs.UrlMaps.{Hashed, HasNoOther, Others, first_changed, found_its_own, only_its_own}
use Rattle.pl_follow.proofs.UrlMaps.{page_changed, second_changed}

-- the views have distinct URLs
abbrev AreApart : List View → Type 0
AreApart views = AllPairs (λ (v w : View). v.url ≢ w.url) views

-- no URL is in both maps
abbrev IsOnce : UrlIndex → Type 0
IsOnce index = (url : List ℕ) → IsSome (hashed_page index url) → other_page index url ≡ None

-- the index finds another page by the URL, or none, and all else as before
abbrev FindsAt : List ℕ → Option PageId → UrlIndex → UrlIndex → Type 0
FindsAt url page before after =
    (text : List ℕ) → found_by after text ≡ cond (bytes_eq url text) page (found_by before text)

-- no other view has the URL
only_url : (url : List ℕ) (views others : List View) (view : View) → Parted views view others → AreApart views
    → IsOnly (λ (v : View). bytes_eq v.url url) view others
only_url url views others view p urls is k d within =
    false_from_ne_true (bytes_eq _ url) (λ same.
    parted_url views others view p urls k d within
    ((bytes_eq-Decides _ url).0 same ∙ sym ((bytes_eq-Decides view.url url).0 is)))

same_text : (url : List ℕ) → bytes_eq url url ≡ true
same_text url = (bytes_eq-Decides url url).1 refl

-- ---- one of the two maps changes

-- in the map by digests
finds_hashed : (index : UrlIndex) (hashed : Hashed) (url : List ℕ) (known : Option UrlPage)
    → UpdatesBy nat_cmp (nat_cmp (digest_of url)) index.hashed hashed known
    → HasNoOther url (get nat_cmp index.hashed (digest_of url)) → HasNoOther url known → other_page index url ≡ None
    → FindsAt url (page_of url known) index (record { hashed = hashed; others = index.others })
finds_hashed index hashed url known updates before_is after_is none text =
    ap (λ (p : Option PageId). option_or p (other_page index text))
    (page_changed url index.hashed hashed known updates before_is after_is text)
    ∙ first_changed (bytes_eq url text) (page_of url known) (hashed_page index text) (other_page index text)
    (λ same. at_it (page_of url known) (ap (other_page index) (sym ((bytes_eq-Decides url text).0 same)) ∙ none))
  where
    at_it : (page : Option PageId) → other_page index text ≡ None → option_or page (other_page index text) ≡ page
    at_it None is = is
    at_it (Some page) is = refl

once_hashed : (index : UrlIndex) (hashed : Hashed) (url : List ℕ) (known : Option UrlPage)
    → UpdatesBy nat_cmp (nat_cmp (digest_of url)) index.hashed hashed known
    → HasNoOther url (get nat_cmp index.hashed (digest_of url)) → HasNoOther url known → other_page index url ≡ None
    → IsOnce index → IsOnce (record { hashed = hashed; others = index.others })
once_hashed index hashed url known updates before_is after_is none once text =
    choose (bytes_eq url text) refl (page_changed url index.hashed hashed known updates before_is after_is text)
  where
    choose : (b : Bool) → bytes_eq url text ≡ b
        → page_of text (get nat_cmp hashed (digest_of text)) ≡ cond b (page_of url known) (hashed_page index text)
        → IsSome (page_of text (get nat_cmp hashed (digest_of text))) → other_page index text ≡ None
    choose true same is some = ap (other_page index) (sym ((bytes_eq-Decides url text).0 same)) ∙ none
    choose false apart is some = once text (subst IsSome is some)

-- in the map by URLs
finds_other : (index : UrlIndex) (others : Others) (url : List ℕ) (page : Option PageId)
    → ((text : List ℕ) → get_by_text others text ≡ update bytes_eq (other_page index) url page text)
    → hashed_page index url ≡ None → FindsAt url page index (record { hashed = index.hashed; others = others })
finds_other index others url page updates none text =
    ap (option_or (hashed_page index text)) (updates text)
    ∙ second_changed (bytes_eq url text) page (hashed_page index text) (other_page index text)
    (λ same. ap (hashed_page index) (sym ((bytes_eq-Decides url text).0 same)) ∙ none)

once_other : (index : UrlIndex) (others : Others) (url : List ℕ) (page : Option PageId)
    → ((text : List ℕ) → get_by_text others text ≡ update bytes_eq (other_page index) url page text)
    → hashed_page index url ≡ None → IsOnce index → IsOnce (record { hashed = index.hashed; others = others })
once_other index others url page updates none once text some =
    updates text ∙ choose (bytes_eq url text) refl
  where
    choose : (b : Bool) → bytes_eq url text ≡ b → cond b page (other_page index text) ≡ None
    choose true same =
        let none_here : hashed_page index text ≡ None =
        ap (hashed_page index) (sym ((bytes_eq-Decides url text).0 same)) ∙ none in
        absurd (cc)
    choose false apart = once text some

-- ---- views come and go

-- the old view goes
gone : (before after : UrlIndex) (old : View) (views : List View) → FindsAt old.url None before after → IsOnce after
    → IndexesUrls before views → Contains views old → IndexesUrls after (without_id old.id views)
gone before after old views finds once stands has =
    let p : Parted views old (without_id old.id views) = removed_parted old views (ascend views stands.order) has in
    record {
      order = removed_in_order old.id views stands.order;
      urls = parted_pairs (λ (v w : View). v.url ≢ w.url) views (without_id old.id views) old p stands.urls;
      once = once;
      ids =
          λ url.
          told_others (λ (v : View). bytes_eq v.url url) (λ (v : View). v.id) views (without_id old.id views) old
          (found_by before url) (found_by after url) p
          (only_url url views (without_id old.id views) old p stands.urls) (stands.ids url) (finds url);
    }

-- the new view comes
come : (before after : UrlIndex) (new : View) (views : List View) → FindsAt new.url (Some new.id) before after
    → IsOnce after → IndexesUrls before views → has_view new.id views ≡ false → AreApart (with_view new views)
    → IndexesUrls after (with_view new views)
come before after new views finds once stands none urls =
    let p : Parted (with_view new views) new views = added_parted new views in
    record {
      order = added_in_order new views stands.order none;
      urls = urls;
      once = once;
      ids =
          λ url.
          told_with (λ (v : View). bytes_eq v.url url) (λ (v : View). v.id) (with_view new views) views new
          (found_by before url) (found_by after url) p (only_url url (with_view new views) views new p urls)
          (stands.ids url) (finds url);
    }

-- before the new view comes, its URL is in neither map
not_there : (index : UrlIndex) (new : View) (views : List View) → IndexesUrls index views
    → AreApart (with_view new views) → (hashed_page index new.url ≡ None) × (other_page index new.url ≡ None)
not_there index new views stands urls =
    neither (hashed_page index new.url) (other_page index new.url)
    (stands.ids new.url
    ∙ none_told (λ (v : View). bytes_eq v.url new.url) (λ (v : View). v.id) views new
    (only_url new.url (with_view new views) views new (added_parted new views) urls) (same_text new.url))

pub taken_out_hashed : (index : UrlIndex) (hashed : Hashed) (old : View) (views : List View)
    → UpdatesBy nat_cmp (nat_cmp (digest_of old.url)) index.hashed hashed None
    → IsSome (hashed_page index old.url) → IndexesUrls index views → Contains views old
    → IndexesUrls (record { hashed = hashed; others = index.others }) (without_id old.id views)
taken_out_hashed index hashed old views updates some stands =
    let known : Option UrlPage = get nat_cmp index.hashed (digest_of old.url) in
    let own : HasNoOther old.url known = found_its_own old.url known some in
    let none : HasNoOther old.url None = λ text apart. refl in
    gone index (record { hashed = hashed; others = index.others }) old views
    (finds_hashed index hashed old.url None updates own none (stands.once old.url some))
    (once_hashed index hashed old.url None updates own none (stands.once old.url some) stands.once) stands

pub taken_out_other : (index : UrlIndex) (others : Others) (old : View) (views : List View)
    → UpdatesBy string_cmp (λ k. slice_cmp nat_cmp old.url (string_bytes k)) index.others others None
    → hashed_page index old.url ≡ None → IndexesUrls index views → Contains views old
    → IndexesUrls (record { hashed = index.hashed; others = others }) (without_id old.id views)
taken_out_other index others old views updates none stands =
    let changes = btree_map_updates_text old.url index.others others None updates in
    gone index (record { hashed = index.hashed; others = others }) old views
    (finds_other index others old.url None changes none) (once_other index others old.url None changes none stands.once)
    stands

pub put_in_hashed : (index : UrlIndex) (hashed : Hashed) (url : String Global) (new : View) (views : List View)
    → string_bytes url ≡ new.url
    → Updates nat_cmp index.hashed hashed (digest_of new.url) (Some (record { url = url; page = new.id }))
    → get nat_cmp index.hashed (digest_of new.url) ≡ None → IndexesUrls index views → has_view new.id views ≡ false
    → AreApart (with_view new views)
    → IndexesUrls (record { hashed = hashed; others = index.others }) (with_view new views)
put_in_hashed index hashed url new views is updates free stands none urls =
    let known : UrlPage = record { url = url; page = new.id } in
    let clear : HasNoOther new.url (get nat_cmp index.hashed (digest_of new.url)) =
    λ text apart. ap (page_of text) free in
    let own : HasNoOther new.url (Some known) = only_its_own new.url known is in
    let there : other_page index new.url ≡ None = (not_there index new views stands urls).1 in
    let page : page_of new.url (Some known) ≡ Some new.id =
    rw (ap (λ (u : List ℕ). bytes_eq u new.url) is ∙ same_text new.url) refl in
    come index (record { hashed = hashed; others = index.others }) new views
    (λ text.
    finds_hashed index hashed new.url (Some known) updates clear own there text
    ∙ ap (λ (p : Option PageId). cond (bytes_eq new.url text) p (found_by index text)) page)
    (once_hashed index hashed new.url (Some known) updates clear own there stands.once) stands none urls

-- the same entries in another map
pub kept_entries : (index : UrlIndex) (hashed : Hashed) (views : List View) → hashed.entries ≡ index.hashed.entries
    → IndexesUrls index views → IndexesUrls (record { hashed = hashed; others = index.others }) views
kept_entries index hashed views same stands =
    record {
      order = stands.order;
      urls = stands.urls;
      once = λ url some. stands.once url (subst IsSome (kept url) some);
      ids = λ url. ap (λ (p : Option PageId). option_or p (other_page index url)) (kept url) ∙ stands.ids url;
    }
  where
    kept : (url : List ℕ) → page_of url (get nat_cmp hashed (digest_of url)) ≡ hashed_page index url
    kept url =
        ap (λ (es : List (ℕ × UrlPage)). page_of url (lookup (is_at (nat_cmp (digest_of url))) es)) same

pub put_in_others : (index : UrlIndex) (others : Others) (url : String Global) (new : View) (views : List View)
    → string_bytes url ≡ new.url → Updates string_cmp index.others others url (Some new.id) → IndexesUrls index views
    → has_view new.id views ≡ false → AreApart (with_view new views)
    → IndexesUrls (record { hashed = index.hashed; others = others }) (with_view new views)
put_in_others index others url new views is updates stands none urls =
    let changes : (text : List ℕ)
    → get_by_text others text ≡ update bytes_eq (other_page index) new.url (Some new.id) text =
    λ text.
    btree_map_updates_text (string_bytes url) index.others others (Some new.id) updates text
    ∙ ap (λ (u : List ℕ). update bytes_eq (other_page index) u (Some new.id) text) is in
    let there : hashed_page index new.url ≡ None = (not_there index new views stands urls).0 in
    come index (record { hashed = index.hashed; others = others }) new views
    (finds_other index others new.url (Some new.id) changes there)
    (once_other index others new.url (Some new.id) changes there stands.once) stands none urls

-- a view of the same URL and id takes the place of the old one
pub left_alone : (index : UrlIndex) (old new : View) (views : List View) → IndexesUrls index views
    → Suits (Some old) (Some new) views → old.id ≡ new.id → old.url ≡ new.url
    → IndexesUrls index (changed (Some old) (Some new) views)
left_alone index old new views stands suits id url =
    let others : List View = without_id old.id views in
    let p : Parted views old others = old_parted old (Some new) views stands.order suits in
    let q : Parted (with_view new others) new others = added_parted new others in
    record {
      order = added_in_order new others (removed_in_order old.id views stands.order) suits.comes;
      urls = suits.becomes.urls;
      once = stands.once;
      ids =
          λ text.
          stands.ids text
          ∙ told_same (λ (v : View). bytes_eq v.url text) (λ (v : View). v.id) views others (with_view new others)
          old new p q (only_url text views others old p stands.urls)
          (only_url text (with_view new others) others new q suits.becomes.urls)
          (ap (λ (u : List ℕ). bytes_eq u text) url) id;
    }
