-- What the pages of rows tell of their origins.
use Rattle.std.proofs.Common.{◌≡◌, ◌==◌, ◌∙◌, ℕ, All, Bool, true, false, List, Option, Some, None, ap, cond, eqb-true}
use Rattle.std.proofs.Common.{Err, IfOk, Ok, Result, refl, sym}
use Rattle.std.specs.HashMap.{Updates, get_by}
use Rattle.std.specs.Option.{option_map}
use Rattle.std.proofs.lemmas.List.Elements.{recursion_from_All}
use Rattle.std.proofs.lemmas.Option.{same_Some}
use Rattle.pl_base.specs.declared.id.PageId.{PageId}
use Rattle.pl_base.specs.declared.id.Slot.{Slot}
use Rattle.pl_base.specs.Address.{origin_of_url}
use Rattle.pl_base.specs.Rows.{AreAlike, IsWellKept, Kept, KeptPage, origin_of, page_at, url_of}
use Rattle.pl_base.proofs.LookUps.{found_holds}
use Rattle.pl_base.proofs.OriginLaws.{origins_equal}
use Rattle.pl_link.specs.declared.parts.Parts.{Parts}
use Rattle.pl_changes.specs.Origins.{AreTold}
use Rattle.pl_changes.specs.declared.origins.Origin.{Origin}
use Rattle.pl_changes.specs.declared.origins.Origins.{Origins}

-- names with the same number
abbrev pub same_slot : Slot → Slot → Bool
same_slot a b = a.0 == b.0

-- pages with the same name of their origin have the same origin
alike : (kept : Kept) (page other : PageId) (p q : KeptPage) → IsWellKept kept → page_at kept page ≡ Some p
    → page_at kept other ≡ Some q → q.origin ≡ p.origin → origin_of_url q.page.url ≡ origin_of_url p.page.url
alike kept page other p q h at there same =
    let all : All (AreAlike q) kept.pages =
    found_holds (λ (r : KeptPage). All (AreAlike r) kept.pages) (λ (r : KeptPage). r.page.id.0 == other.0) kept.pages q
    (recursion_from_All (λ (r : KeptPage). All (AreAlike r) kept.pages) kept.pages h.origins.same) there in
    origins_equal q.page.url p.page.url
    ((found_holds (AreAlike q) (λ (r : KeptPage). r.page.id.0 == page.0) kept.pages p
    (recursion_from_All (AreAlike q) kept.pages all) at).0 same)

-- what is told of the origin of a page
pub told_here : (kept : Kept) (origins : Origins) (slot : Slot) (parts : Parts) (page : PageId) (text : List ℕ)
    → AreTold kept origins → get_by (same_slot slot) origins.parts ≡ Some parts → Some slot ≡ origin_of kept page
    → Some text ≡ url_of kept page → origin_of_url text ≡ Some (parts.prefix, parts.host)
told_here kept origins slot parts page text told has of url = choose (page_at kept page) refl of url
  where
    choose : (found : Option KeptPage) → page_at kept page ≡ found
        → Some slot ≡ option_map (λ (p : KeptPage). p.origin) found
        → Some text ≡ option_map (λ (p : KeptPage). p.page.url) found
        → origin_of_url text ≡ Some (parts.prefix, parts.host)
    choose None at here there = absurd (cc)
    choose (Some p) at here there =
        ap origin_of_url (same_Some text p.page.url there)
        ∙ told slot parts has page p at (sym (same_Some slot p.origin here))

-- one origin more is told, by the parts of the URL of a page in it
pub told_more : (kept : Kept) (origins after : Origins) (slot : Slot) (parts : Parts) (page : PageId) (text : List ℕ)
    → IsWellKept kept → AreTold kept origins → Updates same_slot origins.parts after.parts slot (Some parts)
    → Some slot ≡ origin_of kept page → Some text ≡ url_of kept page
    → origin_of_url text ≡ Some (parts.prefix, parts.host) → AreTold kept after
told_more kept origins after slot parts page text h told updates of url are other found has there q at in_it =
    choose (slot.0 == other.0) refl (sym (updates.0 other) ∙ has)
  where
    own : (found_page : Option KeptPage) → page_at kept page ≡ found_page
        → Some slot ≡ option_map (λ (p : KeptPage). p.origin) found_page
        → Some text ≡ option_map (λ (p : KeptPage). p.page.url) found_page → slot ≡ other
        → origin_of_url q.page.url ≡ Some (parts.prefix, parts.host)
    own None stands here there_url same = absurd (cc)
    own (Some p) stands here there_url same =
        alike kept page there p q h stands at (in_it ∙ sym same ∙ same_Some slot p.origin here)
        ∙ ap origin_of_url (sym (same_Some text p.page.url there_url)) ∙ are

    choose : (b : Bool) → (slot.0 == other.0) ≡ b
        → cond b (Some parts) (get_by (same_slot other) origins.parts) ≡ Some found
        → origin_of_url q.page.url ≡ Some (found.prefix, found.host)
    choose true same some =
        own (page_at kept page) refl of url (ap (λ (n : ℕ). record { 0 = n }) (eqb-true slot.0 other.0 same))
        ∙ ap (λ (x : Parts). Some (x.prefix, x.host)) (same_Some parts found some)
    choose false apart some = told other found some there q at in_it

-- a copy of the prefix and the host is the origin too
pub copied_from : {E : Type 0} (r : Result Origin E) (parts : Parts) (text : List ℕ)
    → IfOk r (λ origin. origin.prefix ≡ parts.prefix) → IfOk r (λ origin. origin.host ≡ parts.host)
    → origin_of_url text ≡ Some (parts.prefix, parts.host)
    → IfOk r (λ origin. origin_of_url text ≡ Some (origin.prefix, origin.host))
copied_from (Err e) parts text prefix host is = tt
copied_from (Ok origin) parts text prefix host is = rw (prefix, host) is
