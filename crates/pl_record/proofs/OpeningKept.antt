-- The rows of the store before its first command.
use Rattle.std.proofs.Common.{◌≡◌, ◌<◌, ◌∷◌, [], ap, arith, map, refl, subst, suc, sym, true}
use Rattle.std.specs.Prelude.{IfSome}
use Rattle.std.specs.List.{All, range_with_len}
use Rattle.std.proofs.lemmas.List.Elements.{All-from_recursion, All-nil}
use Rattle.std.proofs.lemmas.List.Sorted.{IsPermutation-refl}
use Rattle.std.proofs.lemmas.Str.{IsUtf8-nil}
use Rattle.pl_base.specs.declared.id.ItemId.{ItemId}
use Rattle.pl_base.specs.Good.{AreIds, IsTitle}
use Rattle.pl_base.specs.Rows.{IsSound, IsWellKept, has_page, store_of}
use Rattle.pl_base.specs.Store.{Item, item_id, roots}
use Rattle.pl_base.specs.Tree.{has_item}
use Rattle.pl_base.proofs.RootsLaws.{has_roots, no_tags, roots_are_good, roots_are_tree, roots_ascend}
use Rattle.pl_record.specs.Form.{AreRows}
use Rattle.pl_record.specs.LinkedRows.{AreLinked, Entries, Keeps}
use Rattle.pl_record.proofs.OneKept.{keeps_once}
use Rattle.pl_record.specs.Opening.{opening_items, opening_pages}
use Rattle.pl_record.proofs.OpeningRows.{opening_kept, opening_laid, opening_layout}
use Rattle.pl_sheets.specs.Sheets.{Pages}

first_ids : AreIds 1 1 []
first_ids =
    record {
      ascending = λ k h. absurd (omega arith);
      given = All-nil _;
      next_first = omega arith;
      next_last = omega arith;
    }

ids_of_roots : AreIds 7 7 (map (λ (i : Item). i.id.0) roots)
ids_of_roots =
    record {
      ascending = roots_ascend;
      given =
          All-from_recursion (λ id. (0 < id) × (id < 7)) (1 ∷ 2 ∷ 3 ∷ 4 ∷ 5 ∷ 6 ∷ []) (
            (omega arith, omega arith),
            (
              (omega arith, omega arith),
              (
                (omega arith, omega arith),
                (
                  (omega arith, omega arith),
                  ((omega arith, omega arith), ((omega arith, omega arith), tt)),
                ),
              ),
            ),
          );
      next_first = omega arith;
      next_last = omega arith;
    }

opening_well : IsWellKept opening_kept
opening_well =
    record {
      day = omega arith;
      page_ids = first_ids;
      visit_ids = first_ids;
      item_ids = ids_of_roots;
      urls = All-nil _;
      distinct_urls = λ i j d before within same. absurd (omega arith);
      titles = All-nil _;
      visits = All-nil _;
      sources = All-nil _;
      origins =
          record {
            distinct = λ i j d before within same. absurd (omega arith);
            some = All-nil _;
            known = All-nil _;
            used = All-nil _;
            same = All-nil _;
          };
      live = omega arith;
    }

pub opening_are_rows : AreRows opening_kept (λ id. [])
opening_are_rows =
    record {
      well = opening_well;
      targeted = λ source. record {
        redirects = [];
        others = [];
        is = refl;
        all_redirects = IsPermutation-refl [];
        all_others = IsPermutation-refl [];
      };
      titles = All-from_recursion (λ (i : Item). IsTitle i.title) roots (own, (own, (own, (own, (own, (own, tt))))));
      own = All-from_recursion (λ (i : Item). IfSome i.page (λ id. has_page opening_kept id ≡ true)) roots (tt, (tt, (tt, (tt, (tt, (tt, tt))))));
      children = All-from_recursion (λ (i : Item). All (λ c. has_item roots c ≡ true) i.children) roots (
        All-from_recursion (λ (c : ItemId). has_item roots c ≡ true) (map item_id (range_with_len 2 5)) (refl, (refl, (refl, (refl, (refl, tt))))),
        (All-nil _, (All-nil _, (All-nil _, (All-nil _, (All-nil _, tt))))),
      );
      once = λ i j d before within. roots_are_tree.once (suc i) (suc j) d (omega arith) (omega arith);
    }
  where
    own : IsTitle []
    own = (IsUtf8-nil, omega arith)

pub opening_sound : IsSound opening_kept
opening_sound =
    record {
      good =
          record {
            day = omega arith;
            page_ids = first_ids;
            visit_ids = first_ids;
            item_ids = ids_of_roots;
            pages = All-nil _;
            urls = λ i j d before within same. absurd (omega arith);
            visits = All-nil _;
            items = roots_are_good (store_of opening_kept);
            roots = has_roots (store_of opening_kept);
            tree = roots_are_tree;
            tags = no_tags (store_of opening_kept);
          };
      right = record { frecencies = All-nil _; counts = All-nil _; hidden = All-nil _ };
      totals = All-nil _;
    }

opening_linked : AreLinked opening_kept (λ id. []) opening_pages [] [] opening_items
opening_linked =
    record {
      at = opening_layout;
      rows = opening_are_rows;
      laid = opening_laid;
      indexed = record { pages = refl; visits = refl; items = refl };
    }

-- pages and maps that are those of the opening store keep its rows
pub opening_keeps : (sheets : Pages) (pages visits items : Entries) → sheets ≡ opening_pages → pages ≡ [] → visits ≡ []
    → items ≡ opening_items → Keeps sheets pages visits items
opening_keeps sheets pages visits items sheets_are pages_are visits_are items_are =
    record {
      kept = opening_kept;
      targets = λ id. [];
      linked = ∣ same ∣₁;
    }
  where
    same : AreLinked opening_kept (λ id. []) sheets pages visits items
    same =
        subst (λ (s : Pages). AreLinked opening_kept (λ id. []) s pages visits items) (sym sheets_are)
        (subst (λ (p : Entries). AreLinked opening_kept (λ id. []) opening_pages p visits items) (sym pages_are)
        (subst (λ (v : Entries). AreLinked opening_kept (λ id. []) opening_pages [] v items) (sym visits_are)
        (subst (λ (i : Entries). AreLinked opening_kept (λ id. []) opening_pages [] [] i) (sym items_are)
        opening_linked)))

-- and no others
pub only_roots : (sheets : Pages) (pages visits items : Entries) → sheets ≡ opening_pages → pages ≡ [] → visits ≡ []
    → items ≡ opening_items → (k : Keeps sheets pages visits items) → k.kept ≡ opening_kept
unfolding opening_keeps
only_roots sheets pages visits items sheets_are pages_are visits_are items_are k =
    ap (λ (j : Keeps sheets pages visits items). j.kept)
    (keeps_once sheets pages visits items k
    (opening_keeps sheets pages visits items sheets_are pages_are visits_are items_are))
