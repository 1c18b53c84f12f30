-- As many changes lead to another frecency as pages have one on the day.
use Rattle.std.proofs.Common.{◌≡◌, ◌≤◌, ◌∙◌, ◌+◌, ◌⊎◌, inl, inr, Bool, true, false, ℕ, ℤ, List, [], ◌∷◌}
use Rattle.std.proofs.Common.{Option, Some, None, ap, arith, count_by, filter, if◌then◌else◌, int_eq, map, not}
use Rattle.std.proofs.Common.{refl, subst, sym}
use Rattle.std.proofs.lemmas.Bool.Decides.{Decides-int_eq}
use Rattle.std.proofs.lemmas.List.Sums.{sum_by-cons}
use Rattle.pl_base.specs.declared.change.Change.{Change}
use Rattle.pl_base.specs.declared.date.Day.{Day}
use Rattle.pl_base.specs.declared.id.PageId.{PageId}
use Rattle.pl_base.specs.declared.view.View.{View}
use Rattle.pl_base.specs.Date.{IsDay}
use Rattle.pl_base.specs.Days.{on_day, pages_moved}
use Rattle.pl_base.specs.Frecency.{frecency_of}
use Rattle.pl_base.specs.Store.{Page, Store}
use Rattle.pl_base.specs.View.{AreViews, AreViewsOf, IsViewOf}
use Rattle.pl_base.proofs.Among.{In, contains_from_in}
use Rattle.pl_base.proofs.KeyCounts.{tick}
use Rattle.pl_calendar.specs.Days.{due_pages, is_due_by}
use Rattle.pl_follow.specs.Changes.{AreInOrder}
use Rattle.pl_follow.proofs.Parted.{ascend}
use Rattle.pl_known.specs.Known.{view_of}
use Rattle.pl_history.proofs.NotDue.{frecency_still}
use Rattle.pl_history.proofs.OthersAlike.{AreOnce}
use Rattle.pl_changes.specs.Brings.{HasView, IsChangeTo, IsViewAt}
use Rattle.pl_changes.proofs.Brought.{Brought, kept, moved, nothing}
use Rattle.pl_changes.proofs.NewViews.{no_page}
use Rattle.pl_changes.proofs.Seen.{in_seen}
use Rattle.pl_visiting.specs.NewDay.{is_moved}
use Rattle.pl_visiting.proofs.DuePages.{still_by_view}

-- a frecency is not another than itself
same_not : (z : ℤ) → not (int_eq z z) ≡ false
same_not z = ap not ((Decides-int_eq z z).1 refl)

-- what is brought of the first of some pages, and of the rest
record Kept (store : Store) (views : List View) (page : PageId) (pages : List PageId) (changes : List Change)
    : Type 0 where
  pub is : IsViewAt store page (view_of page views)
  pub rest : Brought store views pages changes

record Moved (store : Store) (views : List View) (page : PageId) (pages : List PageId) (changes : List Change)
    : Type 0 where
  pub first : Change
  pub others : List Change
  pub whole : changes ≡ first ∷ others
  pub is : IsChangeTo store page (view_of page views) first
  pub rest : Brought store views pages others

abbrev Parts : Store → List View → List PageId → List Change → Type 0
Parts store views [] changes = changes ≡ []
Parts store views (page ∷ pages) changes =
    Kept store views page pages changes ⊎ Moved store views page pages changes

parts : (store : Store) (views : List View) (pages : List PageId) (changes : List Change)
    → Brought store views pages changes → Parts store views pages changes
parts store views pages changes nothing = refl
parts store views pages changes (kept {page = p} {pages = ps} {changes = cs} is rest) =
    inl (record { is = is; rest = rest })
parts store views pages changes (moved {page = p} {pages = ps} {change = c} {changes = cs} is rest) =
    inr (record { first = c; others = cs; whole = refl; is = is; rest = rest })

module _ (day : Day) (store : Store) (views : List View) (within : IsDay day) (later : store.day.0 ≤ day.0)
    (once : AreOnce store) (ordered : AreInOrder views) where
  abbrev moves : Page → Bool
  moves p = not (int_eq (frecency_of store p) (frecency_of (on_day day store) p))

  -- the page of a view on the day
  scored : (p : Page) (page : PageId) (view : View) → In p store.pages → p.id ≡ page
      → HasView (on_day day store) page view → view.frecency ≡ frecency_of (on_day day store) p
  scored p page view h same has =
      has.seen.frecency
      ∙ ap (frecency_of (on_day day store))
      (once p has.element (contains_from_in store.pages p h) has.there (has.named ∙ sym same))

  still : (p : Page) (view : View) → In p store.pages → IsViewOf store p view
      → IsViewAt (on_day day store) view.id (Some view) → moves p ≡ false
  still p view h is has =
      ap (λ (z : ℤ). not (int_eq z (frecency_of (on_day day store) p)))
      (sym is.frecency ∙ scored p view.id view h (sym is.id) has)
      ∙ same_not (frecency_of (on_day day store) p)

  turned : (p : Page) (view : View) (change : Change) → In p store.pages → IsViewOf store p view
      → IsChangeTo (on_day day store) view.id (Some view) change → is_moved change ≡ moves p
  turned p view change h is c = choose change.new c.new c.old
    where
      choose : (new : Option View) → IsViewAt (on_day day store) view.id new → change.old ≡ Some view
          → is_moved (record { old = change.old; new = new }) ≡ moves p
      choose None none was =
          absurd (no_page (on_day day store) view.id none p h (ap (λ (id : PageId). id.0) (sym is.id)))
      choose (Some new) has was =
          ap (λ (o : Option View). is_moved (record { old = o; new = Some new })) was
          ∙ ap (λ (z : ℤ). not (int_eq z new.frecency)) is.frecency
          ∙ ap (λ (z : ℤ). not (int_eq (frecency_of store p) z)) (scored p view.id new h (sym is.id) has)

  counts : (ps : List Page) (vs : List View) → AreViews store ps vs → ((p : Page) → In p ps → In p store.pages)
      → ((v : View) → In v vs → In v views) → (changes : List Change)
      → Brought (on_day day store) views (due_pages day vs) changes → count_by is_moved changes ≡ count_by moves ps
  counts [] [] are pages seen changes brought =
      ap (count_by is_moved) (parts (on_day day store) views [] changes brought)
  counts [] (v ∷ vs) are pages seen changes brought = absurd are
  counts (p ∷ ps) [] are pages seen changes brought = absurd are
  counts (p ∷ ps) (v ∷ vs) are pages seen changes brought =
      choose (is_due_by day v) refl brought
      (counts ps vs are.1 (λ q h. pages q (inr h)) (λ w h. seen w (inr h)))
    where
      here : In p store.pages
      here = pages p (inl refl)

      known : view_of v.id views ≡ Some v
      known = in_seen views (ascend views ordered) v (seen v (inl refl))

      more : (total n : ℕ) (cs : List Change) → total ≡ n + count_by is_moved cs → n ≡ tick (moves p)
          → count_by is_moved cs ≡ count_by moves ps → total ≡ count_by moves (p ∷ ps)
      more total n cs whole one rest =
          omega (arith, whole, one, rest, sum_by-cons (λ (q : Page). tick (moves q)) p ps)

      either : Kept (on_day day store) views v.id (due_pages day vs) changes
          ⊎ Moved (on_day day store) views v.id (due_pages day vs) changes
          → ((cs : List Change) → Brought (on_day day store) views (due_pages day vs) cs
          → count_by is_moved cs ≡ count_by moves ps)
          → count_by is_moved changes ≡ count_by moves (p ∷ ps)
      either (inl k) rest =
          more (count_by is_moved changes) 0 changes (omega arith)
          (sym (ap tick (still p v here are.0 (subst (IsViewAt (on_day day store) v.id) known k.is))))
          (rest changes k.rest)
      either (inr m) rest =
          more (count_by is_moved changes) (tick (is_moved m.first)) m.others
          (ap (count_by is_moved) m.whole ∙ sum_by-cons (λ (c : Change). tick (is_moved c)) m.first m.others)
          (ap tick (turned p v m.first here are.0
          (subst (λ (o : Option View). IsChangeTo (on_day day store) v.id o m.first) known m.is)))
          (rest m.others m.rest)

      choose : (b : Bool) → is_due_by day v ≡ b
          → Brought (on_day day store) views
          (map (λ (w : View). w.id) (if b then v ∷ filter (is_due_by day) vs else filter (is_due_by day) vs)) changes
          → ((cs : List Change) → Brought (on_day day store) views (due_pages day vs) cs
          → count_by is_moved cs ≡ count_by moves ps)
          → count_by is_moved changes ≡ count_by moves (p ∷ ps)
      choose true is all rest =
          either (parts (on_day day store) views (v.id ∷ due_pages day vs) changes all) rest
      choose false is all rest =
          more (count_by is_moved changes) 0 changes (omega arith)
          (sym (ap tick
          (ap (λ (z : ℤ). not (int_eq (frecency_of store p) z))
          (frecency_still day store later p (still_by_view day store p v within are.0 is))
          ∙ same_not (frecency_of store p))))
          (rest changes all)

  pub all_moved : AreViewsOf store views → (changes : List Change)
      → Brought (on_day day store) views (due_pages day views) changes
      → count_by is_moved changes ≡ pages_moved day store
  all_moved are changes brought = counts store.pages views are (λ p h. h) (λ v h. h) changes brought
