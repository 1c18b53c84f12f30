-- The rows of the tags where a tag folder or an entry is new.
use Rattle.std.proofs.Common.{◌≡◌, ◌≢◌, ◌<◌, ◌++◌, ◌∙◌, inl, inr, ℕ, List, [], ◌∷◌, Some, ap, arith, refl, subst, sym}
use Rattle.std.specs.List.{AllPairs}
use Rattle.std.proofs.lemmas.Bool.{cases_eq}
use Rattle.std.proofs.lemmas.List.Elements.{All-from_recursion}
use Rattle.std.proofs.lemmas.List.Quantifiers.{all_pairs_push}
use Rattle.pl_base.specs.declared.id.ItemId.{ItemId}
use Rattle.pl_base.specs.declared.id.PageId.{PageId}
use Rattle.pl_base.specs.declared.date.Micros.{Micros}
use Rattle.pl_base.specs.declared.item.ItemKind.TheVariants.{Bookmark}
use Rattle.pl_base.specs.Fold.{folded}
use Rattle.pl_base.specs.Good.{IsTagName, child_ids}
use Rattle.pl_base.specs.Store.{Item}
use Rattle.pl_base.specs.Tags.{tags_root}
use Rattle.pl_base.specs.Tree.{children_of, item_at}
use Rattle.pl_base.proofs.Among.{In, all_from_in, in_either}
use Rattle.pl_base.proofs.ItemLookUps.{same_item_number}
use Rattle.pl_tree.specs.declared.place.Place.TheVariants.{End}
use Rattle.pl_tree.specs.Changes.{item_of, with_new}
use Rattle.pl_tree.specs.Tagged.{new_entry, new_tag}
use Rattle.pl_base.proofs.KeyCounts.{Ascends}
use Rattle.pl_tree.proofs.InsertedChildren.{rows_new, rows_other, rows_parent}
use Rattle.pl_tree.proofs.LookedUp.{child_of, in_child_ids, item_key}
use Rattle.pl_tree.proofs.TagRows.{HasTagRows, IsTagRow, child_rows, row_child}

pub pairs_push : (R : Item → Item → Type 0) (xs : List Item) (y : Item) → AllPairs R xs
    → ((x : Item) → In x xs → R x y) → AllPairs R (xs ++ y ∷ [])
pairs_push R xs y pairs last =
    all_pairs_push R xs y pairs (All-from_recursion (λ x. R x y) xs (all_from_in (λ x. R x y) xs last))

-- a tag with the same entries in other items
same_row : (olds news : List Item) (t : Item) → child_rows news t.id ≡ child_rows olds t.id → IsTagRow olds t
    → IsTagRow news t
same_row olds news t same r =
    record {
      kind = r.kind;
      name = r.name;
      entries = λ i h. r.entries i (subst (In i) same h);
      pages = subst (AllPairs (λ (i j : Item). i.page ≢ j.page)) (sym same) r.pages;
    }

module _ (items : List Item) (id : ItemId) (date : Micros) (up : Ascends item_key items)
    (fresh : (i : Item) → In i items → i.id.0 < id.0)
    (known : (c : ItemId) → In c (child_ids items) → c.0 < id.0) (rows : HasTagRows items)
    (root : Item) (root_there : item_at items tags_root ≡ Some root) (root_below : 4 < id.0)
    (apart : (c : ItemId) → In c (children_of items tags_root) → c.0 ≢ 4) where
  tag_below : (t : Item) → In t (child_rows items tags_root) → t.id.0 < id.0
  tag_below t h =
      let c = row_child items tags_root t h in
      let r = child_of items tags_root t.id c in
      known t.id (in_child_ids items r.0 t.id r.1 r.3)

  -- a new folder, with no entry yet
  module _ (name : List ℕ) (named : IsTagName name)
      (distinct : (t : Item) → In t (child_rows items tags_root) → folded t.title ≢ folded name) where
    abbrev folder : Item
    folder = item_of id (new_tag name date)

    abbrev news : List Item
    news = with_new id tags_root End (new_tag name date) items

    all_tags : child_rows news tags_root ≡ child_rows items tags_root ++ folder ∷ []
    all_tags = rows_parent items id tags_root folder refl refl up fresh known root root_there root_below

    no_entries : child_rows news id ≡ []
    no_entries = rows_new items id tags_root folder refl refl up fresh known

    pub rows_with_folder : HasTagRows news
    rows_with_folder =
        record {
          folders =
              λ t h.
              elim (in_either (child_rows items tags_root) (folder ∷ []) t (subst (In t) all_tags h))
              as (λ _. IsTagRow news t) [
                | inl g ↦
                    same_row items news t
                    (rows_other items id tags_root folder refl refl up fresh known t.id (tag_below t g)
                    (apart t.id (row_child items tags_root t g)))
                    (rows.folders t g)
                | inr (inl e) ↦ subst (IsTagRow news) (sym e) new_row
                | inr (inr g) ↦ absurd g
              ];
          names =
              subst (AllPairs (λ (a b : Item). folded a.title ≢ folded b.title)) (sym all_tags)
              (pairs_push (λ (a b : Item). folded a.title ≢ folded b.title) (child_rows items tags_root) folder
              rows.names distinct);
        }
      where
        new_row : IsTagRow news folder
        new_row =
            record {
              kind = refl;
              name = named;
              entries = λ i h. absurd (subst (In i) no_entries h);
              pages =
                  subst (AllPairs (λ (i j : Item). i.page ≢ j.page)) (sym no_entries)
                  (λ i j d before within. absurd (omega arith));
            }

  -- a new entry in a folder
  module _ (page : PageId) (tag : Item) (there : item_at items tag.id ≡ Some tag)
      (child : In tag.id (children_of items tags_root))
      (other_pages : (i : Item) → In i (child_rows items tag.id) → i.page ≢ Some page) where
    abbrev entry : Item
    entry = item_of id (new_entry page date)

    abbrev entered : List Item
    entered = with_new id tag.id End (new_entry page date) items

    below : tag.id.0 < id.0
    below =
        let r = child_of items tags_root tag.id child in
        known tag.id (in_child_ids items r.0 tag.id r.1 r.3)

    same_tags : child_rows entered tags_root ≡ child_rows items tags_root
    same_tags =
        rows_other items id tag.id entry refl refl up fresh known tags_root root_below
        (λ same. apart tag.id child (sym same))

    all_entries : child_rows entered tag.id ≡ child_rows items tag.id ++ entry ∷ []
    all_entries = rows_parent items id tag.id entry refl refl up fresh known tag there below

    pub rows_with_entry : HasTagRows entered
    rows_with_entry =
        record {
          folders =
              λ t h.
              let g : In t (child_rows items tags_root) = subst (In t) same_tags h in
              elim (cases_eq t.id.0 tag.id.0) as (λ _. IsTagRow entered t) [
                | inl e ↦ tag_row t (same_item_number t.id tag.id e) (rows.folders t g)
                | inr other ↦
                    same_row items entered t
                    (rows_other items id tag.id entry refl refl up fresh known t.id (tag_below t g) other)
                    (rows.folders t g)
              ];
          names =
              subst (AllPairs (λ (a b : Item). folded a.title ≢ folded b.title)) (sym same_tags) rows.names;
        }
      where
        tag_row : (t : Item) → t.id ≡ tag.id → IsTagRow items t → IsTagRow entered t
        tag_row t e r =
            let all : child_rows entered t.id ≡ child_rows items tag.id ++ entry ∷ [] =
            ap (child_rows entered) e ∙ all_entries
            in
            let old : child_rows items t.id ≡ child_rows items tag.id = ap (child_rows items) e in
            record {
              kind = r.kind;
              name = r.name;
              entries =
                  λ i h.
                  elim (in_either (child_rows items tag.id) (entry ∷ []) i (subst (In i) all h))
                  as (λ _. (i.kind ≡ Bookmark) × (i.title ≡ [])) [
                    | inl g ↦ r.entries i (subst (In i) (sym old) g)
                    | inr (inl same) ↦
                        subst (λ (k : Item). (k.kind ≡ Bookmark) × (k.title ≡ [])) (sym same) (refl, refl)
                    | inr (inr g) ↦ absurd g
                  ];
              pages =
                  subst (AllPairs (λ (i j : Item). i.page ≢ j.page)) (sym all)
                  (pairs_push (λ (i j : Item). i.page ≢ j.page) (child_rows items tag.id) entry
                  (subst (AllPairs (λ (i j : Item). i.page ≢ j.page)) old r.pages) other_pages);
            }
