-- URLs that are held stay so while others are stored.
use Rattle.std.proofs.Common.{◌≡◌, ◌∙◌, ◌++◌, ◌∷◌, [], ℕ, List, false, inl, inr, length, sym, true}
use Rattle.std.proofs.lemmas.Bool.{cases_Bool, true≢false}
use Rattle.std.proofs.lemmas.List.Elements.{All-push, All-weaker}
use Rattle.pl_base.specs.declared.id.Slot.{Slot}
use Rattle.pl_sheets.specs.Sheets.{Pages}
use Rattle.pl_slot.specs.Arena.{is_among}
use Rattle.pl_text.specs.Chunks.{HasText, StoresText}
use Rattle.pl_text.proofs.HeldTexts.{held_kept, member_live}
use Rattle.slots_main.specs.Texts.{HaveUrls, url_size}

text_kept : (s slot : Slot) (size : ℕ) (text : List ℕ) (old new : Pages) → StoresText slot text old new
    → HasText s size old → HasText s size new
text_kept s slot size text old new stores has =
    let held = has.1 in (
      has.0,
      record {
        slots = held.slots;
        first = held.first;
        held = held_kept held.slots has.0 old new (λ n among. stores.others n (apart n among)) held.held;
      },
      has.2,
    )
  where
    apart : (n : ℕ) → is_among n has.1.slots ≡ true → is_among n stores.slots ≡ false
    apart n among = elim (cases_Bool (is_among n stores.slots)) [
      | inl taken ↦
          absurd (true≢false (sym (member_live n has.1.slots has.0 old has.1.held among) ∙ stores.fresh n taken))
      | inr other ↦ other
    ]

pub urls_more : (slots : List Slot) (slot : Slot) (text : List ℕ) (old new : Pages) → StoresText slot text old new
    → length text ≡ url_size → HaveUrls slots old → HaveUrls (slots ++ slot ∷ []) new
urls_more slots slot text old new stores size urls =
    All-push (λ s. HasText s url_size new) slots slot
    (All-weaker (λ s. HasText s url_size old) (λ s. HasText s url_size new)
    (λ s has. text_kept s slot url_size text old new stores has) slots urls)
    (text, record { slots = stores.slots; first = stores.first; held = stores.held }, size)
