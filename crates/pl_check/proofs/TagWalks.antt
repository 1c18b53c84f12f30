-- Walks over references to items.
use Rattle.std.proofs.Common.{Bor, ◌≡◌, ◌↔◌, ◌∙◌, ◌+◌, ◌<◌, ◌≤◌, ℕ, All, Bool, true, false, IsTrue, List, []}
use Rattle.std.proofs.Common.{◌∷◌, ◌++◌, Option, Some, None, ap, get_or, length, refl, subst, sym, take}
use Rattle.std.specs.List.{cons_option, filter_map}
use Rattle.std.specs.Option.{option_copied}
use Rattle.std.proofs.lemmas.Bool.{false≢true, true≢false}
use Rattle.std.proofs.lemmas.List.{map-append, take_all, take_more}
use Rattle.std.proofs.lemmas.List.Elements.{All-map, All-push, filter_map-append}
use Rattle.pl_base.specs.declared.id.ItemId.{ItemId}
use Rattle.pl_base.specs.Store.{Item}
use Rattle.pl_base.specs.Tags.{tags_root}
use Rattle.pl_base.specs.Tree.{child_items, item_at}
use Rattle.pl_check.specs.Items.{item_ids}
use Rattle.pl_check.specs.Tags.{AreDistinct, HaveGoodTags, IsGoodTag, targets}
use Rattle.pl_base.proofs.ListLaws.{All-from_map}
use Rattle.pl_check.proofs.TagTests.{distinct_ids}

-- one did not pass
pub bad_one : {X : Type 0} (P : X → Type 0) (refs : List (Bor X)) (i : ℕ) (r : Bor X) (pass : Bool) → i < length refs
    → r ≡ get_or refs i r → IsTrue pass ↔ P r.now → pass ≡ false → IsTrue false ↔ All P (targets refs)
bad_one {X} P refs i r pass within at means failed = (
  λ f. absurd (false≢true f),
  λ all. absurd (true≢false (sym (means.1
      (subst (λ (s : Bor X). P s.now) (sym at) (All-from_map P (λ (s : Bor X). s.now) refs all i r within)))
      ∙ failed)),
)

-- one more passed
pub all_more : {X : Type 0} (P : X → Type 0) (xs : List X) (i : ℕ) (x : X) (pass : Bool) → i < length xs
    → x ≡ get_or xs i x → All P (take i xs) → IsTrue pass ↔ P x → pass ≡ true → All P (take (i + 1) xs)
all_more P xs i x pass within at all means passed =
    subst (All P) (sym (take_more xs i x within ∙ ap (λ y. take i xs ++ y ∷ []) (sym at)))
    (All-push P (take i xs) x all (means.0 passed))

-- all passed
pub all_end : {X : Type 0} (P : X → Type 0) (refs : List (Bor X)) (i : ℕ) → length refs ≤ i
    → All (λ (r : Bor X). P r.now) (take i refs) → IsTrue true ↔ All P (targets refs)
all_end {X} P refs i past all = (
  λ t. All-map P (λ (r : Bor X). r.now) refs
      (subst (All (λ (r : Bor X). P r.now)) (take_all i refs past) all),
  λ h. refl,
)

-- the tags are not all tag folders
pub no_tags : (items : List Item) (tags : List (Bor Item)) (pass : Bool)
    → targets tags ≡ child_items items tags_root → IsTrue pass ↔ All (IsGoodTag items) (targets tags)
    → pass ≡ false → IsTrue false ↔ HaveGoodTags items
no_tags items tags pass are means failed = (
  λ f. absurd (false≢true f),
  λ h. absurd (true≢false (sym (means.1 (subst (All (IsGoodTag items)) (sym are) h.folders)) ∙ failed)),
)

-- two of the tags have one id
pub one_id : (items : List Item) (tags : List (Bor Item)) (numbers : List ℕ) (pass : Bool)
    → targets tags ≡ child_items items tags_root → numbers ≡ item_ids (targets tags)
    → IsTrue pass ↔ AreDistinct numbers → pass ≡ false → IsTrue false ↔ HaveGoodTags items
one_id items tags numbers pass are named means failed = (
  λ f. absurd (false≢true f),
  λ h. absurd (true≢false (sym (means.1
      (subst AreDistinct (sym (named ∙ ap item_ids are)) (distinct_ids items h))) ∙ failed)),
)

-- the found items, with what was found of one more id
pub found_more : (items : List Item) (ids : List ItemId) (i : ℕ) (id : ItemId) (old new : List (Bor Item))
    (found : Option (Bor Item)) → i < length ids → targets old ≡ filter_map (item_at items) (take i ids)
    → option_copied found ≡ item_at items (get_or ids i id) → new ≡ old ++ cons_option found []
    → targets new ≡ filter_map (item_at items) (take (i + 1) ids)
found_more items ids i id old new found within so_far is more =
    ap targets more ∙ apart found ∙ ap (λ os. os ++ cons_option (option_copied found) []) so_far
    ∙ ap (λ o. filter_map (item_at items) (take i ids) ++ cons_option o []) is
    ∙ sym (filter_map-append (item_at items) (take i ids) (get_or ids i id ∷ []))
    ∙ ap (filter_map (item_at items)) (sym (take_more ids i id within))
  where
    apart : (o : Option (Bor Item))
        → targets (old ++ cons_option o []) ≡ targets old ++ cons_option (option_copied o) []
    apart None = map-append (λ (r : Bor Item). r.now) old []
    apart (Some r) = map-append (λ (s : Bor Item). s.now) old (r ∷ [])
