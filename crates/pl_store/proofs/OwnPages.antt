-- Pages whose bytes may have been those of now alone when their changes were told last: none has
-- changed since.
use Rattle.std.proofs.Common.{◌≡◌, ◌↔◌, ◌∙◌, ◌+◌, ◌-◌, ◌*◌, ◌<◌, ◌≤◌, ◌∷◌, [], ℕ, List, ap, arith, false, inl, inr}
use Rattle.std.proofs.Common.{length, refl, sym, true}
use Rattle.std.proofs.lemmas.Bool.{cases_Bool, cases_lt, cases_order, true≢false}
use Rattle.std.proofs.lemmas.List.{get_or_past, length-drop}
use Rattle.pl_base.specs.Touched.{bytes_before, page_size}
use Rattle.pl_linked.specs.declared.linked.Linked.{Linked}
use Rattle.pl_linked.specs.Linked.{sheets_of}
use Rattle.pl_linked.specs.LinkedLaws.{are_pages}
use Rattle.pl_record.specs.Form.{bytes_in}
use Rattle.pl_record.specs.LinkedRows.{IsBaseOf, changes}
use Rattle.pl_sheets.specs.Sheets.{ArePages, Pages, bytes_at, has_changed, overwritten, page_count}
use Rattle.pl_slot.proofs.BytesAt.{at_place, before_place, behind_place, length-overwritten}
use Rattle.pl_slot.proofs.CountLaws.{passed, passed_past}
use Rattle.pl_store.specs.OwnBase.{HasOwnBase}

one_of : (a b : ℕ) → a ∷ [] ≡ b ∷ [] → a ≡ b
one_of a b same = cc

module _ (sheets : Pages) (are : ArePages sheets)
    (own : (bytes : List ℕ) → IsBaseOf sheets bytes ↔ (bytes ≡ bytes_in sheets)) where
  base : IsBaseOf sheets (bytes_in sheets)
  base = (own (bytes_in sheets)).1 refl

  long : length (bytes_in sheets) ≡ page_size * (page_count sheets - 1)
  long = omega (arith, length-drop page_size sheets.bytes, are.whole, are.some_page)

  none_more : sheets.before ≡ page_count sheets
  none_more = omega (arith, base.len, long, are.some_before, are.some_page)

  -- the bytes with another one at the beginning of a page
  abbrev other : ℕ → ℕ → List ℕ
  other page byte = overwritten (bytes_before page) (byte ∷ []) (bytes_in sheets)

  -- they may have been the bytes too, if the page has changed
  other_base : (page byte : ℕ) → 1 ≤ page → page < page_count sheets → has_changed page sheets ≡ true
      → IsBaseOf sheets (other page byte)
  other_base page byte some within changed = record {
    len = length-overwritten (bytes_before page) (byte ∷ []) (bytes_in sheets) (omega (arith, long)) ∙ base.len;
    same = λ q first below none. elim (cases_order q page) [
      | inl is ↦ absurd (true≢false (sym changed ∙ ap (λ p. has_changed p sheets) (sym is) ∙ none))
      | inr apart ↦ elim apart [
        | inl before ↦
            before_place (bytes_before q) page_size (bytes_before page) (byte ∷ []) (bytes_in sheets)
            (omega (arith, before)) (omega (arith, long)) ∙ base.same q first below none
        | inr behind ↦
            behind_place (bytes_before q) page_size (bytes_before page) (byte ∷ []) (bytes_in sheets)
            (omega (arith, behind)) (omega (arith, long)) ∙ base.same q first below none
      ]
    ];
  }

  -- so that no page has changed
  one_byte : (page byte : ℕ) → 1 ≤ page → page < page_count sheets → has_changed page sheets ≡ true
      → bytes_at (bytes_before page) 1 (bytes_in sheets) ≡ byte ∷ []
  one_byte page byte some within changed =
      ap (bytes_at (bytes_before page) 1) (sym ((own (other page byte)).0 (other_base page byte some within changed)))
      ∙ at_place (bytes_before page) (byte ∷ []) (bytes_in sheets) (omega (arith, long))

  unchanged : (page : ℕ) → 1 ≤ page → page < page_count sheets → has_changed page sheets ≡ false
  unchanged page some within = elim (cases_Bool (has_changed page sheets)) [
    | inl changed ↦
        let same = one_of 0 1 (sym (one_byte page 0 some within changed) ∙ one_byte page 1 some within changed) in
        absurd (omega (arith, same))
    | inr none ↦ none
  ]

  nowhere : (page : ℕ) → has_changed page sheets ≡ false
  nowhere page = elim (cases_lt page (page_count sheets)) [
    | inl within ↦ elim (cases_lt 0 page) [
      | inl some ↦ unchanged page (omega (arith, some)) within
      | inr first ↦
          let is : page ≡ 0 = omega (arith, first) in
          ap (λ p. has_changed p sheets) is ∙ are.gate
    ]
    | inr past ↦ get_or_past sheets.changed page false past
  ]

  none_changed : changes sheets ≡ 0
  none_changed =
      let p = λ (page : ℕ). has_changed page sheets in
      let all : 0 + page_count sheets ≡ page_count sheets = omega arith in
      ap (passed p 0) (sym all) ∙ passed_past p 0 0 (page_count sheets) (λ page above. nowhere page)

pub none_pending : (rows : Linked) → HasOwnBase rows → changes (sheets_of rows) ≡ 0
none_pending rows own = none_changed (sheets_of rows) (are_pages rows) own
