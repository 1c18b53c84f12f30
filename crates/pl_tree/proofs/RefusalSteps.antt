-- What makes a change refused, one cause after another.
use Rattle.std.proofs.Common.{◌≡◌, ◌∙◌, Bool, true, false, List, Option, Some, None, ap, if◌then◌else◌, not, sym}
use Rattle.std.specs.Option.{option_or}
use Rattle.pl_base.specs.declared.id.ItemId.{ItemId}
use Rattle.pl_base.specs.declared.refusal.Refusal.{Refusal}
use Rattle.pl_base.specs.declared.refusal.Refusal.TheVariants.{NoItem, Fixed}
use Rattle.pl_base.specs.Store.{Item}
use Rattle.pl_base.specs.Tree.{has_item}
use Rattle.pl_tree.specs.Refused.{is_fixed, item_refusal}

-- as `item_refusal` has it
abbrev of_item : ItemId → Bool → Bool → Option Refusal
of_item id there fixed =
    if not there then Some (NoItem id) else if fixed then Some (Fixed id) else None

pub item_none : (items : List Item) (id : ItemId) → has_item items id ≡ false → Some (NoItem id) ≡ item_refusal items id
item_none items id none = sym (ap (λ (b : Bool). of_item id b (is_fixed items id)) none)

pub item_fixed : (items : List Item) (id : ItemId) → has_item items id ≡ true → is_fixed items id ≡ true
    → Some (Fixed id) ≡ item_refusal items id
item_fixed items id there fixed =
    sym (ap (λ (b : Bool). of_item id b (is_fixed items id)) there ∙ ap (of_item id true) fixed)

pub item_free : (items : List Item) (id : ItemId) → has_item items id ≡ true → is_fixed items id ≡ false
    → None ≡ item_refusal items id
item_free items id there free =
    sym (ap (λ (b : Bool). of_item id b (is_fixed items id)) there ∙ ap (of_item id true) free)

-- where the first cause is none, the next ones decide
pub next_cause : (o first rest : Option Refusal) → None ≡ first → o ≡ rest → o ≡ option_or first rest
next_cause o first rest none is = is ∙ ap (λ (r : Option Refusal). option_or r rest) none
