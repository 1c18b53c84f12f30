-- The view of a page tells whether its URL is a query.
use Rattle.std.proofs.Common.{◌≡◌, ◌∙◌, ◌==◌, ◌++◌, ◌||◌, Bool, true, false, IsSome, ℕ, List}
use Rattle.std.proofs.Common.{Option, Some, None, Result, Ok, Err, ap, arith, bytes_eq, codes, find, get_or}
use Rattle.std.proofs.Common.{if◌then◌else◌, refl, reverse, subst, sym}
use Rattle.std.specs.List.{slice_get}
use Rattle.std.specs.Option.{option_map}
use Rattle.std.proofs.lemmas.Bool.{false≢true}
use Rattle.std.proofs.lemmas.List.{append_cancel_right, reverse-append}
use Rattle.std.proofs.lemmas.List.Elements.{recursion_from_All}
use Rattle.std.proofs.lemmas.Option.{get_or_from_slice_get, slice_get_within}
use Rattle.std.proofs.lemmas.Slice.Eq.{bytes_eq-Decides}
use Rattle.pl_base.specs.declared.id.PageId.{PageId}
use Rattle.pl_base.specs.declared.view.View.{View}
use Rattle.pl_base.specs.Address.{host_and_port, is_place, is_place_url, origin_of_url, prefix, record_of}
use Rattle.pl_base.specs.Rows.{Kept, KeptPage, has_page, url_of}
use Rattle.pl_base.proofs.IdsLaws.{same_page}
use Rattle.pl_base.proofs.ListLaws.{found_in}
use Rattle.pl_base.proofs.LookUps.{found_holds, found_passes}
use Rattle.pl_base.proofs.Truths.{same_tests}
use Rattle.pl_history.specs.Addresses.{HasAddress, HaveAddresses}
use Rattle.pl_link.proofs.PlaceUrls.{passes}

-- ---- the prefix of a query

-- the text is one of the two prefixes of a query
abbrev pub has_place : List ℕ → Bool
has_place text = bytes_eq text (codes "place:") || bytes_eq text (codes "place://")

-- texts with different last bytes differ
last_differ : (front back whole : List ℕ) → front ++ back ≡ whole
    → get_or (reverse back ++ reverse front) 0 0 ≡ get_or (reverse whole) 0 0
last_differ front back whole same =
    sym (ap (λ (l : List ℕ). get_or l 0 0) (reverse-append front back))
    ∙ ap (λ (l : List ℕ). get_or (reverse l) 0 0) same

one_of_two : (a b : Bool) (P : Type 0) → (a ≡ true → P) → (b ≡ true → P) → (a || b) ≡ true → P
one_of_two true b P first second is = first refl
one_of_two false b P first second is = second is

place_text : (scheme : List ℕ) (deep : Bool)
    → has_place (scheme ++ (if deep then codes "://" else codes ":")) ≡ bytes_eq scheme (codes "place")
place_text scheme true =
    let text : List ℕ = scheme ++ codes "://" in
    same_tests (has_place text) (bytes_eq scheme (codes "place"))
    (one_of_two (bytes_eq text (codes "place:")) (bytes_eq text (codes "place://"))
    (bytes_eq scheme (codes "place") ≡ true)
    (λ is.
    let last : 47 ≡ 58 =
    last_differ scheme (codes "://") (codes "place:") ((bytes_eq-Decides text (codes "place:")).0 is) in
    absurd (omega (arith, last)))
    (λ is. (bytes_eq-Decides scheme (codes "place")).1
    (append_cancel_right scheme (codes "place") (codes "://") ((bytes_eq-Decides text (codes "place://")).0 is))))
    (λ is. ap (λ (l : List ℕ). has_place (l ++ codes "://")) ((bytes_eq-Decides scheme (codes "place")).0 is))
place_text scheme false =
    let text : List ℕ = scheme ++ codes ":" in
    same_tests (has_place text) (bytes_eq scheme (codes "place"))
    (one_of_two (bytes_eq text (codes "place:")) (bytes_eq text (codes "place://"))
    (bytes_eq scheme (codes "place") ≡ true)
    (λ is. (bytes_eq-Decides scheme (codes "place")).1
    (append_cancel_right scheme (codes "place") (codes ":") ((bytes_eq-Decides text (codes "place:")).0 is)))
    (λ is.
    let last : 58 ≡ 47 =
    last_differ scheme (codes ":") (codes "place://") ((bytes_eq-Decides text (codes "place://")).0 is) in
    absurd (omega (arith, last))))
    (λ is. ap (λ (l : List ℕ). has_place (l ++ codes ":")) ((bytes_eq-Decides scheme (codes "place")).0 is))

-- what a function makes of a URL that was parsed
abbrev gives : {T E O : Type 0} → (T → O) → Result T E → Option O
gives f (Ok found) = Some (f found)
gives f (Err e) = None

told_by : {T E O : Type 0} (r : Result T E) (f : T → O) (told : O → Bool) (test : T → Bool) (o : O)
    → ((x : T) → told (f x) ≡ test x) → gives f r ≡ Some o → told o ≡ passes test r
told_by (Ok found) f told test o tells is =
    let same : f found ≡ o = cc in
    ap told (sym same) ∙ tells found
told_by (Err e) f told test o tells is = absurd (cc)

place_url : (url own host : List ℕ) → origin_of_url url ≡ Some (own, host) → has_place own ≡ is_place_url url
place_url url own host is =
    told_by (record_of url) (λ u. (prefix u, host_and_port u)) (λ (o : List ℕ × List ℕ). has_place o.0) is_place
    (own, host) (λ u. place_text u.scheme _) is

-- ---- the view of a page

-- what is told of each URL with the view's origin is told of the page's
view_tells : (kept : Kept) (view : View) (told : Bool)
    → ((url : List ℕ) → origin_of_url url ≡ Some (view.prefix, view.host) → told ≡ is_place_url url)
    → HasAddress kept view → has_page kept view.id ≡ true
    → Some told ≡ option_map is_place_url (url_of kept view.id)
view_tells kept view told tells has there =
    choose (find test kept.pages) refl (found_in test kept.pages there)
  where
    test : KeptPage → Bool
    test p = p.page.id.0 == view.id.0

    choose : (o : Option KeptPage) → find test kept.pages ≡ o → IsSome o
        → Some told ≡ option_map is_place_url (option_map (λ (p : KeptPage). p.page.url) o)
    choose None at some = absurd (false≢true some)
    choose (Some p) at some =
        let id : p.page.id ≡ view.id = same_page p.page.id view.id (found_passes test kept.pages p at) in
        let own : origin_of_url p.page.url ≡ Some (view.prefix, view.host) =
        found_holds (λ (q : KeptPage). q.page.id ≡ view.id → origin_of_url q.page.url ≡ Some (view.prefix, view.host))
        test kept.pages p
        (recursion_from_All (λ (q : KeptPage). q.page.id ≡ view.id
        → origin_of_url q.page.url ≡ Some (view.prefix, view.host)) kept.pages has)
        at id in
        ap (λ (b : Bool). Some b) (tells p.page.url own)

either : (a b : Bool) → a ≡ true → a ≡ (a || b)
either true b is = refl
either false b is = absurd (false≢true is)

neither : (a b : Bool) → a ≡ false → b ≡ (a || b)
neither true b is = absurd (false≢true (sym is))
neither false b is = refl

-- by the first of the two prefixes
pub by_first : (view : View) (text url : List ℕ) (told : Bool) → text ≡ view.prefix
    → told ≡ bytes_eq text (codes "place:") → told ≡ true → origin_of_url url ≡ Some (view.prefix, view.host)
    → told ≡ is_place_url url
by_first view text url told same is here own =
    is ∙ either (bytes_eq text (codes "place:")) (bytes_eq text (codes "place://")) (sym is ∙ here)
    ∙ ap has_place same ∙ place_url url view.prefix view.host own

-- by the second of them
pub by_second : (view : View) (text url : List ℕ) (first told : Bool) → text ≡ view.prefix
    → first ≡ bytes_eq text (codes "place:") → first ≡ false → told ≡ bytes_eq text (codes "place://")
    → origin_of_url url ≡ Some (view.prefix, view.host) → told ≡ is_place_url url
by_second view text url first told same other none is own =
    is ∙ neither (bytes_eq text (codes "place:")) (bytes_eq text (codes "place://")) (sym other ∙ none)
    ∙ ap has_place same ∙ place_url url view.prefix view.host own

pub found_tells : (kept : Kept) (views : List View) (place : ℕ) (view : View) (page : PageId) (told : Bool)
    → slice_get views place ≡ Some view → (view.id.0 == page.0) ≡ true
    → ((url : List ℕ) → origin_of_url url ≡ Some (view.prefix, view.host) → told ≡ is_place_url url)
    → HaveAddresses views kept → has_page kept page ≡ true
    → Some told ≡ option_map is_place_url (url_of kept page)
found_tells kept views place view page told at same tells all there =
    let id : view.id ≡ page = same_page view.id page same in
    subst (λ (i : PageId). Some told ≡ option_map is_place_url (url_of kept i)) id
    (view_tells kept view told tells
    (subst (HasAddress kept) (get_or_from_slice_get views place view view at)
    (all place view (slice_get_within views place view at)))
    (subst (λ (i : PageId). has_page kept i ≡ true) (sym id) there))
