-- Items in their order, each one once: where it stands first.
use Rattle.std.proofs.Common.{◌≡◌, ◌∙◌, ℕ, true, false, List, [], ◌∷◌, ◌++◌, ap, eq-eqb, eqb-true}
use Rattle.std.proofs.Common.{get_or, length, sym, take, ◌+◌, ◌<◌}
use Rattle.std.specs.List.{list_any}
use Rattle.std.proofs.lemmas.List.{take_more}
use Rattle.pl_base.specs.declared.id.ItemId.{ItemId}
use Rattle.pl_words.proofs.TagListLaws.{firsts-known, firsts-new}
use Rattle.pl_words.specs.TagLists.{firsts}
use Rattle.pl_place.specs.QueryForm.{is_same_item}

pub same_items : (a b c : ItemId) → is_same_item a b ≡ true → is_same_item b c ≡ true → is_same_item a c ≡ true
same_items a b c ab bc = eq-eqb a.0 c.0 (eqb-true a.0 b.0 ab ∙ eqb-true b.0 c.0 bc)

module _ (told items : List ItemId) (i : ℕ) (d : ItemId) (within : i < length told)
    (is : items ≡ firsts is_same_item (take i told)) where
  pub items_known : true ≡ list_any (λ known. is_same_item known (get_or told i d)) items
      → items ≡ firsts is_same_item (take (i + 1) told)
  items_known known =
      is ∙ sym (firsts-known is_same_item same_items (take i told) (get_or told i d)
      (ap (list_any (λ y. is_same_item y (get_or told i d))) (sym is) ∙ sym known))
      ∙ ap (firsts is_same_item) (sym (take_more told i d within))

  pub items_new : false ≡ list_any (λ known. is_same_item known (get_or told i d)) items
      → items ++ get_or told i d ∷ [] ≡ firsts is_same_item (take (i + 1) told)
  items_new new =
      ap (λ l. l ++ get_or told i d ∷ []) is
      ∙ sym (firsts-new is_same_item same_items (take i told) (get_or told i d)
      (ap (list_any (λ y. is_same_item y (get_or told i d))) (sym is) ∙ sym new))
      ∙ ap (firsts is_same_item) (sym (take_more told i d within))
