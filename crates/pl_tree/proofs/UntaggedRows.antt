-- The rows of the tags where a tag folder or an entry is removed.
use Rattle.std.proofs.Common.{◌≡◌, ◌≢◌, ◌==◌, Bool, List, filter, subst, sym}
use Rattle.std.specs.Prelude.{not}
use Rattle.std.specs.List.{AllPairs}
use Rattle.std.proofs.lemmas.Bool.{eqb-false, not-true}
use Rattle.std.proofs.lemmas.List.Kept.{AllPairs-filter}
use Rattle.pl_base.specs.declared.id.ItemId.{ItemId}
use Rattle.pl_base.specs.Fold.{folded}
use Rattle.pl_base.specs.Store.{Item}
use Rattle.pl_base.specs.Tags.{tags_root}
use Rattle.pl_base.specs.Tree.{removed}
use Rattle.pl_base.proofs.Among.{In, from_filter}
use Rattle.pl_tree.proofs.RemovedChildren.{rows_left}
use Rattle.pl_tree.proofs.TagRows.{HasTagRows, IsTagRow, child_rows}

module _ (items : List Item) (item : ItemId) where
  abbrev stays : Item → Bool
  stays i = not (i.id.0 == item.0)

  abbrev news : List Item
  news = removed item items

  left_row : (t : Item) → t.id.0 ≢ item.0 → IsTagRow items t → IsTagRow news t
  left_row t other r =
      let rows : List Item = child_rows items t.id in
      let left : child_rows news t.id ≡ filter stays rows = rows_left items item t.id other in
      record {
        kind = r.kind;
        name = r.name;
        entries = λ i h. r.entries i (from_filter stays rows i (subst (In i) left h)).0;
        pages =
            subst (AllPairs (λ (i j : Item). i.page ≢ j.page)) (sym left)
            (AllPairs-filter (λ (i j : Item). i.page ≢ j.page) stays rows r.pages);
      }

  pub rows_without : item.0 ≢ 4 → HasTagRows items → HasTagRows news
  rows_without other rows =
      let tags : List Item = child_rows items tags_root in
      let left : child_rows news tags_root ≡ filter stays tags =
      rows_left items item tags_root (λ same. other (sym same))
      in
      record {
        folders =
            λ t h.
            let r = from_filter stays tags t (subst (In t) left h) in
            left_row t (eqb-false t.id.0 item.0 (not-true (t.id.0 == item.0) r.1)) (rows.folders t r.0);
        names =
            subst (AllPairs (λ (a b : Item). folded a.title ≢ folded b.title)) (sym left)
            (AllPairs-filter (λ (a b : Item). folded a.title ≢ folded b.title) stays tags rows.names);
      }
