-- The views of a store: the one of each page, of which there is only one, and those of all.
use Rattle.std.proofs.Common.{◌≡◌, ◌≢◌, ◌∙◌, ◌<◌, ◌==◌, ◌⊎◌, inl, inr, ℕ, Bool, false, List, [], ◌∷◌}
use Rattle.std.proofs.Common.{Option, Some, None, ap, map, refl, subst, sym}
use Rattle.std.proofs.lemmas.Bool.{cases_order, eq-eqb, false≢true}
use Rattle.std.proofs.lemmas.Option.{some_pair_parts}
use Rattle.pl_base.specs.declared.date.Day.{Day}
use Rattle.pl_base.specs.declared.id.PageId.{PageId}
use Rattle.pl_base.specs.declared.view.View.{View}
use Rattle.pl_base.specs.Due.{IsFirst, IsFirstDay, some_weighs_anew}
use Rattle.pl_base.specs.Good.{has_page_at}
use Rattle.pl_base.specs.Store.{Page, Store, Visit}
use Rattle.pl_base.specs.View.{AreViews, AreViewsOf, IsViewOf}
use Rattle.pl_base.specs.Visits.{sample_of}
use Rattle.pl_base.proofs.Among.{In, all_from_in, at_in, in_from_contains}
use Rattle.pl_base.proofs.LookUps.{none_pass}
use Rattle.pl_follow.specs.Changes.{AreInOrder}
use Rattle.pl_follow.proofs.Parted.{ascend}
use Rattle.pl_changes.specs.Brings.{IsViewAt}
use Rattle.pl_changes.proofs.Seen.{in_seen, none_seen, seen}

-- ---- one view a page

no_sooner : (holds : ℕ → Bool) (after a b : Day) → IsFirst holds after a → IsFirst holds after b → a.0 < b.0 → ⊥
no_sooner holds after a b one two before = false≢true (sym (two.first a.0 one.later before) ∙ one.found)

one_due : (holds : ℕ → Bool) (after : Day) (a b : Option Day) → IsFirstDay holds after a → IsFirstDay holds after b
    → a ≡ b
one_due holds after None None one two = refl
one_due holds after None (Some b) one two =
    absurd (false≢true (sym (one b.0 two.later two.within) ∙ two.found))
one_due holds after (Some a) None one two =
    absurd (false≢true (sym (two a.0 one.later one.within) ∙ one.found))
one_due holds after (Some a) (Some b) one two = choose (cases_order a.0 b.0)
  where
    choose : (a.0 ≡ b.0) ⊎ ((a.0 < b.0) ⊎ (b.0 < a.0)) → Some a ≡ Some b
    choose (inl same) = ap (λ (n : ℕ). Some (record { 0 = n })) same
    choose (inr (inl before)) = absurd (no_sooner holds after a b one two before)
    choose (inr (inr behind)) = absurd (no_sooner holds after b a two one behind)

-- the prefix and the host of two views that have the same origin
same_origins : (v w : View) → ◌≡◌ {A = Option (List ℕ × List ℕ)} (Some (v.prefix, v.host)) (Some (w.prefix, w.host))
    → (v.prefix ≡ w.prefix) × (v.host ≡ w.host)
same_origins v w same = some_pair_parts v.prefix w.prefix v.host w.host same

pub one_view : (store : Store) (p : Page) (v w : View) → IsViewOf store p v → IsViewOf store p w → v ≡ w
one_view store p v w one two =
    let origins = same_origins v w (sym one.origin ∙ two.origin) in
    let due : v.due ≡ w.due =
    one_due (some_weighs_anew (map (λ (x : Visit). x.date) (sample_of store p.id))) store.day v.due w.due one.due
    two.due in
    λ i. record {
      id = (one.id ∙ sym two.id) i;
      url = (one.url ∙ sym two.url) i;
      title = (one.title ∙ sym two.title) i;
      mark_title = (one.mark_title ∙ sym two.mark_title) i;
      tags = (one.tags ∙ sym two.tags) i;
      prefix = origins.0 i;
      host = origins.1 i;
      frecency = (one.frecency ∙ sym two.frecency) i;
      count = (one.count ∙ sym two.count) i;
      last = (one.last ∙ sym two.last) i;
      due = due i;
      typed = (one.typed ∙ sym two.typed) i;
      hidden = (one.hidden ∙ sym two.hidden) i;
      bookmarked = (one.bookmarked ∙ sym two.bookmarked) i;
      referenced = (one.referenced ∙ sym two.referenced) i;
    }

-- ---- pages and views

pub page_of : (store : Store) (ps : List Page) (vs : List View) → AreViews store ps vs → (v : View) → In v vs
    → (p : Page) × In p ps × IsViewOf store p v
page_of store [] [] are v h = absurd h
page_of store [] (w ∷ vs) are v h = absurd are
page_of store (p ∷ ps) [] are v h = absurd are
page_of store (p ∷ ps) (w ∷ vs) are v (inl e) = (p, inl refl, subst (IsViewOf store p) (sym e) are.0)
page_of store (p ∷ ps) (w ∷ vs) are v (inr h) =
    let rest = page_of store ps vs are.1 v h in
    (rest.0, inr rest.1, rest.2)

pub view_of_page : (store : Store) (ps : List Page) (vs : List View) → AreViews store ps vs → (p : Page) → In p ps
    → (v : View) × In v vs × IsViewOf store p v
view_of_page store [] [] are p h = absurd h
view_of_page store [] (w ∷ vs) are p h = absurd are
view_of_page store (q ∷ ps) [] are p h = absurd are
view_of_page store (q ∷ ps) (w ∷ vs) are p (inl e) =
    (w, inl refl, subst (λ (r : Page). IsViewOf store r w) (sym e) are.0)
view_of_page store (q ∷ ps) (w ∷ vs) are p (inr h) =
    let rest = view_of_page store ps vs are.1 p h in
    (rest.0, inr rest.1, rest.2)

-- views of some pages, each of which has one
pub built : (store : Store) (ps : List Page) → ((p : Page) → In p ps → (v : View) × IsViewOf store p v)
    → (vs : List View) × AreViews store ps vs
built store [] each = ([], tt)
built store (p ∷ ps) each =
    let one = each p (inl refl) in
    let rest = built store ps (λ q h. each q (inr h)) in
    (one.0 ∷ rest.0, (one.1, rest.1))

-- no page has the id
pub no_page : (store : Store) (page : PageId) → has_page_at store page ≡ false → (p : Page) → In p store.pages
    → p.id.0 ≢ page.0
no_page store page none p h same =
    false≢true (sym (at_in (λ (q : Page). (q.id.0 == page.0) ≡ false) store.pages p
    (none_pass (λ (q : Page). q.id.0 == page.0) store.pages none) h)
    ∙ eq-eqb p.id.0 page.0 same)

-- what the views of a store tell of an id
pub told : (store : Store) (views : List View) → AreViewsOf store views → AreInOrder views → (page : PageId)
    → (o : Option View) → IsViewAt store page o → o ≡ seen page.0 views
told store views are ordered page None none =
    sym (none_seen page.0 views (all_from_in (λ (v : View). v.id.0 ≢ page.0) views (λ v h.
    let p = page_of store store.pages views are v h in
    no_other p.0 v p.1 p.2)))
  where
    no_other : (p : Page) (v : View) → In p store.pages → IsViewOf store p v → v.id.0 ≢ page.0
    no_other p v h is same = no_page store page none p h (ap (λ (id : PageId). id.0) (sym is.id) ∙ same)
told store views are ordered page (Some v) has =
    let there =
    view_of_page store store.pages views are has.element
    (in_from_contains store.pages has.element has.there) in
    found there.0 there.1 there.2
  where
    found : (w : View) → In w views → IsViewOf store has.element w → Some v ≡ seen page.0 views
    found w h is =
        let same : w ≡ v = one_view store has.element w v is has.seen in
        let named : w.id.0 ≡ page.0 = ap (λ (id : PageId). id.0) (is.id ∙ has.named) in
        ap (λ (x : View). Some x) (sym same) ∙ sym (in_seen views (ascend views ordered) w h)
        ∙ ap (λ (n : ℕ). seen n views) named
