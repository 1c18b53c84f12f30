-- Pages stand there by a visit or an item, and are typed where a visit was, once a page is visited.
use Rattle.std.proofs.Common.{◌≡◌, ◌∙◌, ◌++◌, ◌==◌, ◌||◌, All, Bool, true, false}
use Rattle.std.proofs.Common.{List, [], ◌∷◌, ap, eq-eqb}
use Rattle.std.proofs.Common.{IsTrue, get_or, refl, subst, sym}
use Rattle.std.specs.List.{list_any}
use Rattle.std.proofs.lemmas.Bool.{eqb-true, false≢true, or_left}
use Rattle.std.proofs.lemmas.List.Elements.{All-map, All-push}
use Rattle.pl_base.specs.declared.id.PageId.{PageId}
use Rattle.pl_base.specs.declared.row.Mark.{Mark}
use Rattle.pl_base.specs.declared.row.VisitRow.{VisitRow}
use Rattle.pl_base.specs.declared.transition.Transition.{Transition}
use Rattle.pl_base.specs.declared.transition.Transition.TheVariants.{Typed}
use Rattle.pl_base.specs.Good.{is_visited}
use Rattle.pl_base.specs.Marks.{is_referenced, is_typed}
use Rattle.pl_base.specs.Rows.{Kept, KeptPage}
use Rattle.pl_base.specs.Rows.{next_visit, store_of, with_mark, with_visit}
use Rattle.pl_base.specs.Store.{Page, Store, Visit}
use Rattle.pl_history.specs.Sound.{AreStanding}
use Rattle.pl_base.specs.Removal.{is_standing}
use Rattle.pl_history.proofs.RightAfter.{each_marked, other_way}
use Rattle.pl_base.proofs.ListLaws.{All-from_map, list_any_last, list_any_push}
use Rattle.pl_base.proofs.Truths.{or_more}

pub typed_by : (t : Transition) (b : Bool) → t ≡ Typed → (b || is_typed t) ≡ true
typed_by t true is = refl
typed_by t false is = ap is_typed is

pub typed_still : (a b c : Bool) → a ≡ b → a ≡ true → (b || c) ≡ true
typed_still a b c same is = ap (λ (x : Bool). x || c) (sym same ∙ is)

-- a page is typed where a visit to it was
abbrev IsTypedBy : List Visit → KeptPage → Type 0
IsTypedBy visits p = All (λ (v : Visit). v.page ≡ p.page.id → v.transition ≡ Typed → IsTrue p.page.typed) visits

-- a visit is to the page
abbrev visited_in : List Visit → PageId → Bool
visited_in visits id = list_any (λ (w : Visit). w.page.0 == id.0) visits

pub standing_after : (old : Kept) (row : VisitRow) (mark : Mark) → (row.transition ≡ Typed → IsTrue mark.typed)
    → All (λ (p : KeptPage). (p.page.id.0 == row.page.0) ≡ true → IsTrue p.page.typed → IsTrue mark.typed) old.pages
    → All (λ (p : KeptPage). (p.page.id.0 == row.page.0) ≡ false → IsTrue (is_standing (store_of old) p.page.id))
    old.pages → All (IsTypedBy old.visits) old.pages → AreStanding (with_mark row.page mark (with_visit row old))
standing_after old row mark by_visit stays others typed =
    let v : Visit = next_visit row old in
    let visits : List Visit = old.visits ++ v ∷ [] in
    record {
      by_row =
          each_marked (λ (p : KeptPage). IsTrue (visited_in visits p.page.id || is_referenced (store_of old) p.page.id))
          row.page mark old.pages
          (λ k d within same.
          let id : PageId = (get_or old.pages k d).page.id in
          or_left (visited_in visits id) (is_referenced (store_of old) id)
          (list_any_last (λ (w : Visit). w.page.0 == id.0) old.visits v
          (eq-eqb row.page.0 id.0 (sym (eqb-true id.0 row.page.0 same)))))
          (λ k d within other.
          let id : PageId = (get_or old.pages k d).page.id in
          or_more (is_visited (store_of old) id) (visited_in visits id) (is_referenced (store_of old) id)
          (list_any_push (λ (w : Visit). w.page.0 == id.0) old.visits v) (others k d within other));
      typed =
          each_marked (IsTypedBy visits) row.page mark old.pages
          (λ k d within same.
          let p : KeptPage = get_or old.pages k d in
          All-push (λ (w : Visit). w.page ≡ p.page.id → w.transition ≡ Typed → IsTrue mark.typed) old.visits v
          (λ j e inside of by. stays k d within same (typed k d within j e inside of by))
          (λ _ by. by_visit by))
          (λ k d within other.
          let p : KeptPage = get_or old.pages k d in
          All-push (λ (w : Visit). w.page ≡ p.page.id → w.transition ≡ Typed → IsTrue p.page.typed) old.visits v
          (typed k d within)
          (λ of by. absurd (false≢true
          (sym (other_way p.page.id row.page other)
          ∙ eq-eqb row.page.0 p.page.id.0 (ap (λ (i : PageId). i.0) of)))));
    }

-- what holds of the pages in a store holds of the pages of other rows of the same store
pub pages_alike : (P : Store → Page → Type 0) (old new : Kept) → store_of new ≡ store_of old
    → All (λ (p : KeptPage). P (store_of old) p.page) old.pages
    → All (λ (p : KeptPage). P (store_of new) p.page) new.pages
pages_alike P old new same all =
    All-from_map (P (store_of new)) (λ (p : KeptPage). p.page) new.pages
    (subst (λ (s : Store). All (P s) s.pages) (sym same)
    (All-map (P (store_of old)) (λ (p : KeptPage). p.page) old.pages all))

-- in the same store the same pages stand
pub standing_alike : (old new : Kept) → store_of new ≡ store_of old → AreStanding old → AreStanding new
standing_alike old new same v =
    record {
      by_row =
          pages_alike (λ (s : Store) (p : Page). IsTrue (is_standing s p.id)) old new same v.by_row;
      typed =
          pages_alike (λ (s : Store) (p : Page).
          All (λ (w : Visit). w.page ≡ p.id → w.transition ≡ Typed → IsTrue p.typed) s.visits) old new same v.typed;
    }
