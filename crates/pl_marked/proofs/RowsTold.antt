-- What is told of the bookmarks that are found, one by one.
use Rattle.std.proofs.Common.{◌≡◌, ◌∙◌, ◌+◌, ◌++◌, ◌<◌, ℕ, ℤ, All, List, [], ◌∷◌, Option, Some, ap, get_or, is_some, length}
use Rattle.std.proofs.Common.{map, subst, sym, take, true}
use Rattle.std.specs.Option.{option_map}
use Rattle.std.proofs.lemmas.List.{map-append, map_more}
use Rattle.pl_base.specs.declared.id.ItemId.{ItemId}
use Rattle.pl_base.specs.declared.view.View.{View}
use Rattle.pl_base.specs.Frecency.{frecency_of}
use Rattle.pl_base.specs.Marks.{visit_count}
use Rattle.pl_base.specs.Rows.{Kept, store_of}
use Rattle.pl_base.specs.Tags.{tag_text}
use Rattle.pl_base.specs.Tree.{item_title}
use Rattle.pl_base.specs.View.{IsViewOf}
use Rattle.pl_base.proofs.ItemLookUps.{item_title_is}
use Rattle.pl_query.specs.declared.result_row.ResultRow.{ResultRow}
use Rattle.pl_query.specs.declared.shown.Subject.TheVariants.{Bookmark}
use Rattle.pl_query.specs.Order.{Row}
use Rattle.pl_query.specs.QueryAnswer.{told_row}
use Rattle.pl_query.specs.Subjects.{row_at}
use Rattle.pl_query.proofs.AnsweredRows.{told_alike}
use Rattle.pl_query.proofs.RowsShown.{IsMarkRow, mark_row, row_there, shown_row_id}
use Rattle.pl_marked.specs.declared.found.Found.{Found}
use Rattle.pl_marked.specs.Found.{IsOwnView, subject_found}

-- ---- one row

pub told_mark : (kept : Kept) (item : ItemId) (view : View) (row : Row) → row_at kept (Bookmark item view.id) ≡ Some row
    → IsOwnView kept view → (url title tags : List ℕ) (frecency : ℤ) → url ≡ view.url
    → Some title ≡ item_title kept.items item → tags ≡ view.tags → frecency ≡ view.frecency
    → ◌≡◌ {A = ResultRow}
    (record {
      id = item.0;
      url = url;
      title = title;
      date = view.last;
      count = view.count;
      frecency = frecency;
      tags = tags;
    })
    (told_row (store_of kept) row)
told_mark kept item view row at own url title tags frecency url_is title_is tags_are score_is =
    let r : IsMarkRow kept item view.id row = mark_row kept item view.id row at in
    let of : IsViewOf (store_of kept) r.p.page view = own r.p r.page_is in
    told_alike (store_of kept) row item.0 url title tags view.last view.count frecency
    (shown_row_id kept (Bookmark item view.id) row at)
    (url_is ∙ of.url ∙ ap (λ (w : Row). w.page.url) (sym r.is))
    (item_title_is kept.items item r.i title r.item_is title_is ∙ ap (λ (w : Row). w.title) (sym r.is))
    (of.last ∙ ap (λ (w : Row). w.date) (sym r.is))
    (of.count ∙ ap (λ (w : Row). visit_count (store_of kept) w.page.id) (sym r.is))
    (score_is ∙ of.frecency ∙ ap (λ (w : Row). frecency_of (store_of kept) w.page) (sym r.is))
    (tags_are ∙ of.tags ∙ ap (λ (w : Row). tag_text (store_of kept) w.page.id) (sym r.is))

-- ---- a row more

-- so many bookmarks were told
abbrev pub AreTold : Kept → List Found → ℕ → List ResultRow → Type 0
AreTold kept found index told =
    map Some told
    ≡ map (λ (f : Found). option_map (told_row (store_of kept)) (row_at kept (subject_found f))) (take index found)

pub told_more : (kept : Kept) (found : List Found) (index : ℕ) (now new : List ResultRow) (row : ResultRow) (f : Found)
    → AreTold kept found index now → index < length found → f ≡ get_or found index f
    → All (λ (g : Found). is_some (row_at kept (subject_found g)) ≡ true) found
    → ((r : Row) → row_at kept (subject_found f) ≡ Some r → row ≡ told_row (store_of kept) r)
    → new ≡ now ++ row ∷ [] → AreTold kept found (index + 1) new
told_more kept found index now new row f so_far within at there is pushed =
    let here = row_there kept (subject_found f)
    (subst (λ (g : Found). is_some (row_at kept (subject_found g)) ≡ true) (sym at) (there index f within)) in
    ap (map Some) pushed ∙ map-append Some now (row ∷ [])
    ∙ ap (λ (os : List (Option ResultRow)). os ++ Some row ∷ []) so_far
    ∙ ap (λ (o : Option ResultRow). map told (take index found) ++ o ∷ [])
    (ap Some (is here.0 here.1) ∙ sym (ap (option_map (told_row (store_of kept))) here.1) ∙ ap told at)
    ∙ sym (map_more told found index f within)
  where
    told : Found → Option ResultRow
    told g = option_map (told_row (store_of kept)) (row_at kept (subject_found g))
