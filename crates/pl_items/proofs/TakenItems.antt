-- The items of a list, some of which were taken out.
use Rattle.std.proofs.Common.{◌≡◌, ◌==◌, ◌||◌, ◌++◌, ◌∙◌, inl, inr, Bool, true, false, List, [], ◌∷◌, map}
use Rattle.std.proofs.Common.{Some, None, ap, sym, subst, refl, if◌then◌else◌}
use Rattle.std.specs.List.{list_any}
use Rattle.std.proofs.lemmas.Bool.{cases_Bool, eqb-true, eqb-false, eq-eqb, ne_eqb, both_ways}
use Rattle.std.proofs.lemmas.List.Folds.{list_any-append}
use Rattle.std.proofs.lemmas.Option.{none-some, same_Some}
use Rattle.pl_base.specs.declared.id.ItemId.{ItemId}
use Rattle.pl_base.specs.Store.{Item}
use Rattle.pl_base.specs.Tree.{has_item}
use Rattle.pl_base.proofs.ListLaws.{list_any_last}
use Rattle.pl_base.proofs.Among.{In}
use Rattle.pl_items.specs.TakenOut.{emptied, item_waiting, taken_out}
use Rattle.pl_items.specs.declared.plant.Waiting.{Waiting}

-- ---- the ids of items

pub in_has : (items : List Item) (id : ItemId) → has_item items id ≡ true → (i : Item) × In i items × (i.id.0 ≡ id.0)
in_has [] id has = absurd (both_ways false refl has)
in_has (j ∷ js) id has = at_test (j.id.0 == id.0) refl (in_has js id) has
  where
    at_test : (b : Bool) → (j.id.0 == id.0) ≡ b → (has_item js id ≡ true → (i : Item) × In i js × (i.id.0 ≡ id.0))
        → (b || has_item js id) ≡ true → (i : Item) × In i (j ∷ js) × (i.id.0 ≡ id.0)
    at_test true test rest some = (j, inl refl, eqb-true j.id.0 id.0 test)
    at_test false test rest some = let r = rest some in (r.0, inr r.1, r.2)

-- ---- their places

-- the place of an item, after these were taken out
abbrev pub place_of : List Item → Item → Waiting
place_of taken i = record { id = i.id; item = if has_item taken i.id then None else Some i }

abbrev pub IsWaiting : List Item → List Item → ItemId → Item → Type 0
IsWaiting taken items id t = In t items × (t.id.0 ≡ id.0) × (has_item taken t.id ≡ false)

pub waited_is : (taken items : List Item) (id : ItemId) (t : Item)
    → item_waiting (map (place_of taken) items) id ≡ Some t → IsWaiting taken items id t
waited_is taken [] id t is = absurd (none-some t is)
waited_is taken (i ∷ is) id t found =
    elim (cases_Bool (i.id.0 == id.0)) as (λ _. IsWaiting taken (i ∷ is) id t) [
      | inl test ↦ here test (has_item taken i.id) refl (rw test at found)
      | inr test ↦ let r = waited_is taken is id t (rw test at found) in (inr r.0, r.1, r.2)
    ]
  where
    here : (i.id.0 == id.0) ≡ true → (b : Bool) → has_item taken i.id ≡ b → (if b then None else Some i) ≡ Some t
        → IsWaiting taken (i ∷ is) id t
    here test true gone e = absurd (none-some t e)
    here test false stays e =
        let same : i ≡ t = same_Some i t e in (
          inl (sym same),
          ap (λ (k : Item). k.id.0) (sym same) ∙ eqb-true i.id.0 id.0 test,
          subst (λ (k : Item). has_item taken k.id ≡ false) same stays,
        )

pub unwaited : (taken items : List Item) (id : ItemId) → item_waiting (map (place_of taken) items) id ≡ None
    → has_item items id ≡ true → has_item taken id ≡ true
unwaited taken [] id none has = absurd (both_ways false refl has)
unwaited taken (i ∷ is) id none has =
    elim (cases_Bool (i.id.0 == id.0)) as (λ _. has_item taken id ≡ true) [
      | inl test ↦ here test (has_item taken i.id) refl (rw test at none)
      | inr test ↦ unwaited taken is id (rw test at none) (rw test at has)
    ]
  where
    here : (i.id.0 == id.0) ≡ true → (b : Bool) → has_item taken i.id ≡ b → (if b then None else Some i) ≡ None
        → has_item taken id ≡ true
    here test true gone e =
        ap (λ k. list_any (λ (t : Item). t.id.0 == k) taken) (sym (eqb-true i.id.0 id.0 test)) ∙ gone
    here test false stays e = absurd (none-some i (sym e))

-- ---- taking one more out

emptied_is : (taken : List Item) (t : Item) (id : ItemId) (i : Item) → t.id.0 ≡ id.0
    → emptied id (place_of taken i) ≡ place_of (taken ++ t ∷ []) i
emptied_is taken t id i is =
    elim (cases_Bool (i.id.0 == id.0)) as (λ _. emptied id (place_of taken i) ≡ place_of (taken ++ t ∷ []) i) [
      | inl test ↦
          let at_last : (t.id.0 == i.id.0) ≡ true = eq-eqb t.id.0 i.id.0 (is ∙ sym (eqb-true i.id.0 id.0 test)) in
          let gone : has_item (taken ++ t ∷ []) i.id ≡ true =
          list_any_last (λ (k : Item). k.id.0 == i.id.0) taken t at_last
          in
          rw (test, gone)
      | inr test ↦
          let not_last : (t.id.0 == i.id.0) ≡ false =
          ne_eqb t.id.0 i.id.0 (λ e. eqb-false i.id.0 id.0 test (sym e ∙ is))
          in
          let rest : (false || has_item taken i.id) ≡ has_item taken i.id = refl in
          let like : has_item (taken ++ t ∷ []) i.id ≡ has_item taken i.id =
          list_any-append (λ (k : Item). k.id.0 == i.id.0) taken (t ∷ [])
          ∙ ap (λ b. has_item taken i.id || (b || false)) not_last ∙ or_false (has_item taken i.id)
          in
          rw (test, like)
    ]
  where
    or_false : (b : Bool) → (b || (false || false)) ≡ b
    or_false true = refl
    or_false false = refl

pub taken_out_is : (taken items : List Item) (t : Item) (id : ItemId) → t.id.0 ≡ id.0
    → taken_out id (map (place_of taken) items) ≡ map (place_of (taken ++ t ∷ [])) items
taken_out_is taken [] t id is = refl
taken_out_is taken (i ∷ is) t id same = rw (emptied_is taken t id i same, taken_out_is taken is t id same)

-- each item whose place is empty was taken out
pub empty_place : (taken : List Item) (i : Item) → (place_of taken i).item ≡ None → has_item taken i.id ≡ true
empty_place taken i = at_test (has_item taken i.id) refl
  where
    at_test : (b : Bool) → has_item taken i.id ≡ b → (if b then None else Some i) ≡ None → has_item taken i.id ≡ true
    at_test true gone e = gone
    at_test false stays e = absurd (none-some i (sym e))
