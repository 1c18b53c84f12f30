-- No two links of a slot stand at bytes that both have.
use Rattle.std.proofs.Common.{◌≡◌, ◌∙◌, ◌+◌, ◌≤◌, ◌&&◌, ◌||◌, ◌⊎◌, ℕ, List, [], ◌∷◌, Bool, true, false, Some, None, Option, ap}
use Rattle.std.proofs.Common.{inl, inr, leb-true, nat_le, refl, sym}
use Rattle.std.specs.List.{list_all}
use Rattle.std.proofs.lemmas.Bool.{and_parts, or_cases, true≢false}
use Rattle.pl_slot.specs.declared.kind.SlotKind.{SlotKind}
use Rattle.pl_slot.specs.declared.kind.SlotKind.TheVariants as kinds
use Rattle.pl_slot.specs.declared.links.Link.{Link}
use Rattle.pl_slot.specs.declared.links.Link.TheVariants.{First, Last, Previous, Next}
use Rattle.pl_slot.specs.declared.links.Rail.{Rail}
use Rattle.pl_slot.specs.declared.links.Rail.TheVariants.{Live, OriginPages, PageVisits, Targets, Children, References}
use Rattle.pl_slot.specs.Links.{is_link, is_rail, link_place}
use Rattle.pl_slot.specs.SlotKind.{slot_kinds}

abbrev rails : List Rail
rails = Live ∷ OriginPages ∷ PageVisits ∷ Targets ∷ Children ∷ References ∷ []

abbrev all_links : List Link
all_links = First ∷ Last ∷ Previous ∷ Next ∷ []

of_rails : (p : Rail → Bool) → list_all p rails ≡ true → (x : Rail) → p x ≡ true
of_rails p all Live =
    (and_parts (p Live) (list_all p (OriginPages ∷ PageVisits ∷ Targets ∷ Children ∷ References ∷ [])) all).0
of_rails p all OriginPages =
    let r0 = (and_parts (p Live) (list_all p (OriginPages ∷ PageVisits ∷ Targets ∷ Children ∷ References ∷ [])) all).1 in
    (and_parts (p OriginPages) (list_all p (PageVisits ∷ Targets ∷ Children ∷ References ∷ [])) r0).0
of_rails p all PageVisits =
    let r0 = (and_parts (p Live) (list_all p (OriginPages ∷ PageVisits ∷ Targets ∷ Children ∷ References ∷ [])) all).1 in
    let r1 = (and_parts (p OriginPages) (list_all p (PageVisits ∷ Targets ∷ Children ∷ References ∷ [])) r0).1 in
    (and_parts (p PageVisits) (list_all p (Targets ∷ Children ∷ References ∷ [])) r1).0
of_rails p all Targets =
    let r0 = (and_parts (p Live) (list_all p (OriginPages ∷ PageVisits ∷ Targets ∷ Children ∷ References ∷ [])) all).1 in
    let r1 = (and_parts (p OriginPages) (list_all p (PageVisits ∷ Targets ∷ Children ∷ References ∷ [])) r0).1 in
    let r2 = (and_parts (p PageVisits) (list_all p (Targets ∷ Children ∷ References ∷ [])) r1).1 in
    (and_parts (p Targets) (list_all p (Children ∷ References ∷ [])) r2).0
of_rails p all Children =
    let r0 = (and_parts (p Live) (list_all p (OriginPages ∷ PageVisits ∷ Targets ∷ Children ∷ References ∷ [])) all).1 in
    let r1 = (and_parts (p OriginPages) (list_all p (PageVisits ∷ Targets ∷ Children ∷ References ∷ [])) r0).1 in
    let r2 = (and_parts (p PageVisits) (list_all p (Targets ∷ Children ∷ References ∷ [])) r1).1 in
    let r3 = (and_parts (p Targets) (list_all p (Children ∷ References ∷ [])) r2).1 in
    (and_parts (p Children) (list_all p (References ∷ [])) r3).0
of_rails p all References =
    let r0 = (and_parts (p Live) (list_all p (OriginPages ∷ PageVisits ∷ Targets ∷ Children ∷ References ∷ [])) all).1 in
    let r1 = (and_parts (p OriginPages) (list_all p (PageVisits ∷ Targets ∷ Children ∷ References ∷ [])) r0).1 in
    let r2 = (and_parts (p PageVisits) (list_all p (Targets ∷ Children ∷ References ∷ [])) r1).1 in
    let r3 = (and_parts (p Targets) (list_all p (Children ∷ References ∷ [])) r2).1 in
    let r4 = (and_parts (p Children) (list_all p (References ∷ [])) r3).1 in
    (and_parts (p References) (list_all p []) r4).0

of_links : (p : Link → Bool) → list_all p all_links ≡ true → (x : Link) → p x ≡ true
of_links p all First =
    (and_parts (p First) (list_all p (Last ∷ Previous ∷ Next ∷ [])) all).0
of_links p all Last =
    let r0 = (and_parts (p First) (list_all p (Last ∷ Previous ∷ Next ∷ [])) all).1 in
    (and_parts (p Last) (list_all p (Previous ∷ Next ∷ [])) r0).0
of_links p all Previous =
    let r0 = (and_parts (p First) (list_all p (Last ∷ Previous ∷ Next ∷ [])) all).1 in
    let r1 = (and_parts (p Last) (list_all p (Previous ∷ Next ∷ [])) r0).1 in
    (and_parts (p Previous) (list_all p (Next ∷ [])) r1).0
of_links p all Next =
    let r0 = (and_parts (p First) (list_all p (Last ∷ Previous ∷ Next ∷ [])) all).1 in
    let r1 = (and_parts (p Last) (list_all p (Previous ∷ Next ∷ [])) r0).1 in
    let r2 = (and_parts (p Previous) (list_all p (Next ∷ [])) r1).1 in
    (and_parts (p Next) (list_all p []) r2).0

of_kinds : (p : SlotKind → Bool) → list_all p slot_kinds ≡ true → (x : SlotKind) → p x ≡ true
of_kinds p all kinds.Free =
    (and_parts (p kinds.Free) (list_all p (kinds.Origin ∷ kinds.Place ∷ kinds.Visit ∷ kinds.Item ∷ kinds.Text ∷ [])) all).0
of_kinds p all kinds.Origin =
    let r0 = (and_parts (p kinds.Free) (list_all p (kinds.Origin ∷ kinds.Place ∷ kinds.Visit ∷ kinds.Item ∷ kinds.Text ∷ [])) all).1 in
    (and_parts (p kinds.Origin) (list_all p (kinds.Place ∷ kinds.Visit ∷ kinds.Item ∷ kinds.Text ∷ [])) r0).0
of_kinds p all kinds.Place =
    let r0 = (and_parts (p kinds.Free) (list_all p (kinds.Origin ∷ kinds.Place ∷ kinds.Visit ∷ kinds.Item ∷ kinds.Text ∷ [])) all).1 in
    let r1 = (and_parts (p kinds.Origin) (list_all p (kinds.Place ∷ kinds.Visit ∷ kinds.Item ∷ kinds.Text ∷ [])) r0).1 in
    (and_parts (p kinds.Place) (list_all p (kinds.Visit ∷ kinds.Item ∷ kinds.Text ∷ [])) r1).0
of_kinds p all kinds.Visit =
    let r0 = (and_parts (p kinds.Free) (list_all p (kinds.Origin ∷ kinds.Place ∷ kinds.Visit ∷ kinds.Item ∷ kinds.Text ∷ [])) all).1 in
    let r1 = (and_parts (p kinds.Origin) (list_all p (kinds.Place ∷ kinds.Visit ∷ kinds.Item ∷ kinds.Text ∷ [])) r0).1 in
    let r2 = (and_parts (p kinds.Place) (list_all p (kinds.Visit ∷ kinds.Item ∷ kinds.Text ∷ [])) r1).1 in
    (and_parts (p kinds.Visit) (list_all p (kinds.Item ∷ kinds.Text ∷ [])) r2).0
of_kinds p all kinds.Item =
    let r0 = (and_parts (p kinds.Free) (list_all p (kinds.Origin ∷ kinds.Place ∷ kinds.Visit ∷ kinds.Item ∷ kinds.Text ∷ [])) all).1 in
    let r1 = (and_parts (p kinds.Origin) (list_all p (kinds.Place ∷ kinds.Visit ∷ kinds.Item ∷ kinds.Text ∷ [])) r0).1 in
    let r2 = (and_parts (p kinds.Place) (list_all p (kinds.Visit ∷ kinds.Item ∷ kinds.Text ∷ [])) r1).1 in
    let r3 = (and_parts (p kinds.Visit) (list_all p (kinds.Item ∷ kinds.Text ∷ [])) r2).1 in
    (and_parts (p kinds.Item) (list_all p (kinds.Text ∷ [])) r3).0
of_kinds p all kinds.Text =
    let r0 = (and_parts (p kinds.Free) (list_all p (kinds.Origin ∷ kinds.Place ∷ kinds.Visit ∷ kinds.Item ∷ kinds.Text ∷ [])) all).1 in
    let r1 = (and_parts (p kinds.Origin) (list_all p (kinds.Place ∷ kinds.Visit ∷ kinds.Item ∷ kinds.Text ∷ [])) r0).1 in
    let r2 = (and_parts (p kinds.Place) (list_all p (kinds.Visit ∷ kinds.Item ∷ kinds.Text ∷ [])) r1).1 in
    let r3 = (and_parts (p kinds.Visit) (list_all p (kinds.Item ∷ kinds.Text ∷ [])) r2).1 in
    let r4 = (and_parts (p kinds.Item) (list_all p (kinds.Text ∷ [])) r3).1 in
    (and_parts (p kinds.Text) (list_all p []) r4).0

-- no byte is in both
abbrev clear : Option ℕ → Option ℕ → Bool
clear None other = true
clear (Some a) None = true
clear (Some a) (Some b) = nat_le (a + 4) b || nat_le (b + 4) a

-- the two are one link, or no byte is in both
abbrev are_clear : Rail → Link → SlotKind → Rail → Link → Bool
are_clear rail link kind r l =
    (is_rail r rail && is_link l link) || clear (link_place rail link kind) (link_place r l kind)

abbrev clear_of : Rail → Link → SlotKind → Bool
clear_of rail link kind = list_all (λ r. list_all (are_clear rail link kind r) all_links) rails

all_clear : list_all (λ rail. list_all (λ link. list_all (clear_of rail link) slot_kinds) all_links) rails ≡ true
all_clear = refl

is_clear : (rail : Rail) (link : Link) (kind : SlotKind) (r : Rail) (l : Link) → are_clear rail link kind r l ≡ true
is_clear rail link kind r l =
    of_links (are_clear rail link kind r)
    (of_rails (λ r. list_all (are_clear rail link kind r) all_links)
    (of_kinds (clear_of rail link)
    (of_links (λ link. list_all (clear_of rail link) slot_kinds)
    (of_rails (λ rail. list_all (λ link. list_all (clear_of rail link) slot_kinds) all_links) all_clear rail) link)
    kind) r) l

pub places_apart : (rail : Rail) (link : Link) (kind : SlotKind) (r : Rail) (l : Link) (a b : ℕ)
    → (is_rail r rail && is_link l link) ≡ false → link_place rail link kind ≡ Some a → link_place r l kind ≡ Some b
    → (a + 4 ≤ b) ⊎ (b + 4 ≤ a)
places_apart rail link kind r l a b other is_a is_b =
    let apart : (nat_le (a + 4) b || nat_le (b + 4) a) ≡ true =
    sym (λ i. clear (is_a i) (is_b i))
    ∙ sym (ap (λ same. same || clear (link_place rail link kind) (link_place r l kind)) other)
    ∙ is_clear rail link kind r l in
    elim (or_cases (nat_le (a + 4) b) (nat_le (b + 4) a) apart) [
      | inl before ↦ inl (leb-true (a + 4) b before)
      | inr behind ↦ inr (leb-true (b + 4) a behind)
    ]

pub same_rail : (a b : Rail) → is_rail a b ≡ true → a ≡ b
same_rail Live Live is = refl
same_rail OriginPages OriginPages is = refl
same_rail PageVisits PageVisits is = refl
same_rail Targets Targets is = refl
same_rail Children Children is = refl
same_rail References References is = refl
same_rail a b is = absurd (true≢false (sym is))

pub same_link : (a b : Link) → is_link a b ≡ true → a ≡ b
same_link First First is = refl
same_link Last Last is = refl
same_link Previous Previous is = refl
same_link Next Next is = refl
same_link a b is = absurd (true≢false (sym is))
