-- A loop that takes the targets of a visit out of their chain, one by one.
use Rattle.std.proofs.Common.{◌≡◌, ◌≢◌, ◌∙◌, ◌==◌, ◌≤◌, ◌<◌, ◌&&◌, ◌||◌, ◌∷◌, ◌++◌, [], ℕ, Bool, List}
use Rattle.std.proofs.Common.{None, Option, Some, ap, append_assoc, arith, cond, eq-eqb, eqb-true, false, inl, inr}
use Rattle.std.proofs.Common.{length, refl, subst, suc, sym, true, zero}
use Rattle.std.proofs.Common.{if◌then◌else◌}
use Rattle.std.proofs.Math.Path.{fun_ext}
use Rattle.std.specs.List.{list_all}
use Rattle.std.specs.Option.{option_map}
use Rattle.std.proofs.lemmas.Bool.{and_parts, cases_Bool, cases_eq, ne_eqb, or_cases, or_parts, true≢false}
use Rattle.std.proofs.lemmas.List.{append-nil}
use Rattle.std.proofs.lemmas.List.Folds.{list_any-append}
use Rattle.pl_base.specs.declared.id.Slot.{Slot}
use Rattle.pl_base.proofs.Truths.{no_test}
use Rattle.pl_record.specs.ChainMap.{AreApart, AreChains, ChainMap, is_owner, with_chain}
use Rattle.pl_record.specs.Chains.{IsAlone}
use Rattle.pl_record.specs.Rows.{SetsRow, record_at, with_source}
use Rattle.pl_record.specs.SlotChanges.{KeepsBody}
use Rattle.pl_record.specs.VisitChanges.{DropsTargets, Leaves}
use Rattle.pl_record.proofs.Bases.{both_only}
use Rattle.pl_record.proofs.ChainMaps.{chain_beside, chain_here, not_in, one_chain, same_owner}
use Rattle.pl_record.proofs.ChainMaps.{unlinked_apart, unlinked_chains}
use Rattle.pl_record.proofs.ChainMapsKept.{alone_rail, same_links_chains}
use Rattle.pl_record.proofs.ChainsKept.{list_kept, same_header, same_kinds, same_links}
use Rattle.pl_record.proofs.RecordMaps.{rail_records, record_of, set_records}
use Rattle.pl_record.proofs.SlotSteps.{body_then}
use Rattle.pl_record.proofs.VisitPlace.{visit_by_kind}
use Rattle.pl_rail.specs.declared.owner.Owner.{Owner}
use Rattle.pl_rail.specs.declared.owner.Owner.TheVariants.{At}
use Rattle.pl_rail.specs.declared.owner.Side.TheVariants.{Before, Behind}
use Rattle.pl_rail.specs.Rails.{HasMember, Lists, first_of, is_in, is_member, none, or_none, page_by}
use Rattle.pl_rail.proofs.ChainLaws.{stands}
use Rattle.pl_rail.proofs.ListLaws.{before_in, behind_in, members_some, one_list}
use Rattle.pl_rail.proofs.Rings.{Differ, Ends, Named, parted}
use Rattle.pl_rail.proofs.SideLaws.{numbered, other_number}
use Rattle.pl_rail.proofs.Walks.{met_few}
use Rattle.pl_sheets.specs.Sheets.{Pages, page_count}
use Rattle.pl_slot.specs.declared.kind.SlotKind.TheVariants as kinds
use Rattle.pl_slot.specs.declared.links.Link.TheVariants.{Next, Previous}
use Rattle.pl_slot.specs.declared.links.Rail.{Rail}
use Rattle.pl_slot.specs.declared.links.Rail.TheVariants.{Targets}
use Rattle.pl_slot.specs.declared.row.SlotRow.{SlotRow}
use Rattle.pl_slot.specs.declared.row.SlotRow.TheVariants as rows
use Rattle.pl_slot.specs.Arena.{ChangesOnly, IsArena, header_of, live_count, slot_page}
use Rattle.pl_slot.specs.Header.{Header as Head}
use Rattle.pl_slot.specs.Links.{is_rail, kind_at}
use Rattle.pl_slot.proofs.LinkPlaces.{same_rail}

-- ---- how many are left

-- how many slots there are from one on up to 0, counted no further than so many
abbrev pub count_from : ℕ → Named → Option Slot → ℕ
count_from zero f o = 0
count_from (suc k) f None = 0
count_from (suc k) f (Some s) = cond (s.0 == 0) 0 (suc (count_from k f (f s)))

count_listed : (k : ℕ) (f b : Named) (a : Slot) (xs : List Slot) → Ends f b a xs → Differ none xs → length xs ≤ k
    → count_from k f (f a) ≡ length xs
count_listed zero f b a [] ends some few = refl
count_listed zero f b a (x ∷ xs) ends some few = absurd (omega arith)
count_listed (suc k) f b a [] ends some few = ap (count_from (suc k) f) ends.0
count_listed (suc k) f b a (x ∷ xs) ends some few =
    ap (count_from (suc k) f) ends.0
    ∙ ap (λ c. cond c 0 (suc (count_from k f (f x)))) (ne_eqb x.0 0 (other_number x none some.0))
    ∙ ap (λ n. suc n) (count_listed k f b x xs ends.2 some.1 (less k (length xs) few))
  where
    less : (k n : ℕ) → suc n ≤ suc k → n ≤ k
    less k n few = omega arith

abbrev pub left_in : Slot → Pages → ℕ
left_in slot pages =
    count_from (live_count pages) (behind_in Targets (At slot) pages) (behind_in Targets (At slot) pages none)

pub left_is : (slot : Slot) (pages : Pages) (rest : List Slot) → Lists Targets (At slot) rest pages
    → left_in slot pages ≡ length rest
left_is slot pages rest lists =
    let f : Named = behind_in Targets (At slot) pages in
    let b : Named = before_in Targets (At slot) pages in
    count_listed (live_count pages) f b none rest lists.linked
    (members_some Targets (At slot) pages rest lists.members)
    (met_few Targets (At slot) pages rest lists.members (parted f b none rest (none ∷ []) lists.linked).0)

-- ---- the loop

-- of the targets of a visit those in front come from none and stand alone, and the others are left
pub record Drops (slot : Slot) (old new : Pages) : Type 0 where
  pub front : List Slot
  pub rest : List Slot
  pub whole : Lists Targets (At slot) (front ++ rest) old
  pub listed : Lists Targets (At slot) rest new
  pub apart : (s : Slot) → is_in s front ≡ true → is_in s rest ≡ false
  pub records : (n : ℕ)
      → record_at n new
      ≡ (if is_in (numbered n) front then option_map (with_source none) (record_at n old) else record_at n old)
  pub chains : (chains : ChainMap) → AreChains chains old → AreApart Targets chains
      → AreChains (with_chain Targets (At slot) rest chains) new
      × AreApart Targets (with_chain Targets (At slot) rest chains)
  pub loose : (s : Slot) → is_in s front ≡ true → IsAlone Targets s new
  pub alone : (r : Rail) (s : Slot) → (is_rail r Targets ≡ true → is_in s (front ++ rest) ≡ false)
      → IsAlone r s old → IsAlone r s new
  pub count : live_count new ≡ live_count old
  pub body : KeepsBody old new
  pub as_many : page_count new ≡ page_count old
  pub arena : IsArena new
  pub these : List ℕ
  pub pages : ChangesOnly these old new

pub by_header : (old new : Pages) → header_of new ≡ header_of old → KeepsBody old new
by_header old new same =
    record {
      form = ap (λ (h : Head). h.form) same;
      day = ap (λ (h : Head). h.day) same;
      ids = ap (λ (h : Head). h.ids) same;
      live = ap (λ (h : Head). h.live) same;
      rest = ap (λ (h : Head). h.rest) same;
    }

-- an owner's own list in place of itself
own_list : (rail : Rail) (owner : Owner) (chains : ChainMap) → chains ≡ with_chain rail owner (chains rail owner) chains
own_list rail owner chains = fun_ext (λ r. fun_ext (λ o. choose r o))
  where
    choose : (r : Rail) (o : Owner) → chains r o ≡ with_chain rail owner (chains rail owner) chains r o
    choose r o = elim (cases_Bool (is_rail r rail && is_owner o owner)) [
      | inl here ↦
          let parts = and_parts (is_rail r rail) (is_owner o owner) here in
          let same : chains r o ≡ chains rail owner =
          λ i. chains (same_rail r rail parts.0 i) (same_owner o owner parts.1 i) in
          same ∙ sym (ap (λ b. cond b (chains rail owner) (chains r o)) here)
      | inr other ↦ sym (chain_beside rail owner (chains rail owner) chains r o other)
    ]

-- a list in place of another one that was put there
twice : (rail : Rail) (owner : Owner) (xs ys : List Slot) (chains : ChainMap)
    → with_chain rail owner xs (with_chain rail owner ys chains) ≡ with_chain rail owner xs chains
twice rail owner xs ys chains =
    fun_ext (λ r. fun_ext (λ o. once (is_rail r rail && is_owner o owner) (chains r o)))
  where
    once : (b : Bool) (z : List Slot) → cond b xs (cond b ys z) ≡ cond b xs z
    once true z = refl
    once false z = refl

pub drops_none : (slot : Slot) (pages : Pages) (targets : List Slot) → IsArena pages
    → Lists Targets (At slot) targets pages → Drops slot pages pages
drops_none slot pages targets arena lists =
    record {
      front = [];
      rest = targets;
      whole = lists;
      listed = lists;
      apart = λ s among. absurd (true≢false (sym among));
      records = λ n. refl;
      chains = λ chains are apart.
          let is : targets ≡ chains Targets (At slot) = one_chain chains pages are Targets (At slot) targets lists in
          let same : chains ≡ with_chain Targets (At slot) targets chains =
          own_list Targets (At slot) chains ∙ ap (λ l. with_chain Targets (At slot) l chains) (sym is) in
          (subst (λ c. AreChains c pages) same are, subst (λ c. AreApart Targets c) same apart);
      loose = λ s among. absurd (true≢false (sym among));
      alone = λ r s never alone. alone;
      count = refl;
      body = by_header pages pages refl;
      as_many = refl;
      arena = arena;
      these = [];
      pages = record {
        before = refl;
        marks = λ p other. refl;
        images = λ p other below. refl;
        unmarked = λ p below none. (none, refl);
      };
    }

-- ---- one more of them

-- the first one, and those behind it
pub record Begins (slots : List Slot) (first : Slot) : Type 0 where
  pub rest : List Slot
  pub is : slots ≡ first ∷ rest

pub begins : (slots : List Slot) (first : Slot) → Some first ≡ first_of slots → Begins slots first
begins [] first is = absurd (cc)
begins (x ∷ xs) first is =
    let same : x ≡ first = cc in
    record { rest = xs; is = ap (λ k. k ∷ xs) same }

source_record : (source : Slot) (o : Option SlotRow)
    → record_of (option_map (with_source source) o) ≡ option_map (with_source source) (record_of o)
source_record source None = refl
source_record source (Some (rows.Free next)) = refl
source_record source (Some (rows.Origin a b c d e)) = refl
source_record source (Some (rows.Place a b c d e f g h i j k l m n o p q r)) = refl
source_record source (Some (rows.Visit a b c d e f g h i j k l m)) = refl
source_record source (Some (rows.Item a b c d e f g h i j k l m n o p)) = refl
source_record source (Some (rows.Text a b c)) = refl

turned_test : (n m : ℕ) → (n == m) ≡ (m == n)
turned_test n m = elim (cases_eq n m) [
  | inl same ↦ eq-eqb n m same ∙ sym (eq-eqb m n (sym same))
  | inr apart ↦ ne_eqb n m apart ∙ sym (ne_eqb m n (λ same. apart (sym same)))
]

-- what holds of the front and of the one behind it
each_in : (P : Slot → Type 0) (front : List Slot) (last : Slot) → ((s : Slot) → is_in s front ≡ true → P s) → P last
    → (s : Slot) → is_in s (front ++ last ∷ []) ≡ true → P s
each_in P front last early late s among =
    elim (or_cases (is_in s front) (is_in s (last ∷ []))
    (sym (list_any-append (λ (k : Slot). k.0 == s.0) front (last ∷ [])) ∙ among)) [
      | inl before ↦ early s before
      | inr end ↦ elim (or_cases (last.0 == s.0) false end) [
        | inl here ↦ subst P (ap numbered (eqb-true last.0 s.0 here)) late
        | inr never ↦ absurd (true≢false (sym never))
      ]
    ]

module _ (slot target : Slot) (old mid : Pages) (drops : Drops slot old mid) (begin : Begins drops.rest target) where
  pub here : Lists Targets (At slot) (target ∷ begin.rest) mid
  here = subst (λ l. Lists Targets (At slot) l mid) begin.is drops.listed

  pub has : HasMember Targets (At slot) target mid
  has = record { front = []; back = begin.rest; lists = here }

  pub target_kind : kind_at target.0 mid ≡ Some kinds.Visit
  target_kind =
      visit_by_kind (kind_at target.0 mid)
      (and_parts (is_member Targets (At slot) mid target) (list_all (is_member Targets (At slot) mid) begin.rest)
      here.members).0

  whole_is : drops.front ++ drops.rest ≡ (drops.front ++ target ∷ []) ++ begin.rest
  whole_is =
      ap (λ l. drops.front ++ l) begin.is ∙ sym (append_assoc drops.front (target ∷ []) begin.rest)

  early_apart : (s : Slot) → is_in s drops.front ≡ true → is_in s (target ∷ begin.rest) ≡ false
  early_apart s early = ap (is_in s) (sym begin.is) ∙ drops.apart s early

  other_target : (s : Slot) → is_in s (target ∷ begin.rest) ≡ false → s ≢ target
  other_target s never same =
      true≢false (sym (eq-eqb target.0 s.0 (sym (ap (λ (k : Slot). k.0) same)))
      ∙ (or_parts (target.0 == s.0) (is_in s begin.rest) never).0)

  -- the target was not in the front
  target_apart : is_in target drops.front ≡ false
  target_apart =
      no_test (is_in target drops.front) (λ early. other_target target (early_apart target early) refl)

  module _ (out new : Pages) (leaves : Leaves Targets (At slot) target mid out)
      (sets : SetsRow target (with_source none) out new) where
    abbrev around : List ℕ
    around =
        page_by (At slot) none ∷ page_by (At slot) target ∷ page_by (At slot) (or_none (first_of begin.rest)) ∷ []

    -- a slot beside the chain names the neighbours that it named
    still_alone : (s : Slot) → is_in s (target ∷ begin.rest) ≡ false → IsAlone Targets s mid → IsAlone Targets s out
    still_alone s never alone =
        let same = leaves.beside (target ∷ begin.rest) here in
        record {
          before = same Before s (other_target s never) never ∙ alone.before;
          behind = same Behind s (other_target s never) never ∙ alone.behind;
        }

    set_alone : (r : Rail) (s : Slot) → IsAlone r s out → IsAlone r s new
    set_alone r s alone =
        record {
          before = sets.links r Previous s.0 ∙ alone.before;
          behind = sets.links r Next s.0 ∙ alone.behind;
        }

    still_apart : (s : Slot) → is_in s (drops.front ++ target ∷ []) ≡ true → is_in s begin.rest ≡ false
    still_apart s among =
        each_in (λ k. is_in k begin.rest ≡ false) drops.front target
        (λ k early. (or_parts (target.0 == k.0) (is_in k begin.rest) (early_apart k early)).1)
        (not_in target begin.rest (stands Targets (At slot) [] target begin.rest mid here).back_differs) s among

    records_then : (n : ℕ)
        → record_at n new
        ≡ (if is_in (numbered n) (drops.front ++ target ∷ []) then option_map (with_source none) (record_at n old)
        else record_at n old)
    records_then n =
        let row : Option SlotRow = record_at n old in
        let gone : Option SlotRow = option_map (with_source none) row in
        let early : Bool = is_in (numbered n) drops.front in
        let mine : record_at n out ≡ cond early gone row =
        rail_records Targets (At slot) mid out leaves.rest n ∙ drops.records n in
        set_records target (with_source none) out new sets (source_record none) n
        ∙ ap (λ o. cond (n == target.0) (option_map (with_source none) o) o) mine
        ∙ ap (λ b. cond b (option_map (with_source none) (cond early gone row)) (cond early gone row))
        (turned_test n target.0)
        ∙ both early (target.0 == n) row
        (λ same. ap (λ k. is_in k drops.front) (ap numbered (sym (eqb-true target.0 n same))) ∙ target_apart)
        ∙ ap (λ b. cond b gone row)
        (sym (list_any-append (λ (k : Slot). k.0 == n) drops.front (target ∷ [])))
      where
        both : (a b : Bool) (row : Option SlotRow) → (b ≡ true → a ≡ false)
            → cond b (option_map (with_source none) (cond a (option_map (with_source none) row) row))
            (cond a (option_map (with_source none) row) row)
            ≡ cond (a || (b || false)) (option_map (with_source none) row) row
        both true true row never = absurd (true≢false (never refl))
        both true false row never = refl
        both false true row never = refl
        both false false row never = refl

    chains_then : (chains : ChainMap) → AreChains chains old → AreApart Targets chains
        → AreChains (with_chain Targets (At slot) begin.rest chains) new
        × AreApart Targets (with_chain Targets (At slot) begin.rest chains)
    chains_then chains are apart =
        let before : ChainMap = with_chain Targets (At slot) (target ∷ begin.rest) chains in
        let was = drops.chains chains are apart in
        let known : AreChains before mid =
        subst (λ l. AreChains (with_chain Targets (At slot) l chains) mid) begin.is was.0 in
        let known_apart : AreApart Targets before =
        subst (λ l. AreApart Targets (with_chain Targets (At slot) l chains)) begin.is was.1 in
        let is : before Targets (At slot) ≡ target ∷ begin.rest =
        chain_here Targets (At slot) (target ∷ begin.rest) chains in
        let left : AreChains (with_chain Targets (At slot) begin.rest before) out =
        unlinked_chains Targets (At slot) target [] begin.rest before known_apart is mid out known leaves.list
        leaves.owners leaves.others leaves.rest in
        let same = twice Targets (At slot) begin.rest (target ∷ begin.rest) chains in (
          subst (λ c. AreChains c new) same
              (same_links_chains (with_chain Targets (At slot) begin.rest before) out new left sets.kinds sets.links
              (same_header out new sets.header)),
          subst (λ c. AreApart Targets c) same
              (unlinked_apart Targets (At slot) target [] begin.rest before known_apart is),
        )

    alone_then : (r : Rail) (s : Slot)
        → (is_rail r Targets ≡ true → is_in s ((drops.front ++ target ∷ []) ++ begin.rest) ≡ false)
        → IsAlone r s old → IsAlone r s new
    alone_then r s never alone =
        let before : IsAlone r s mid =
        drops.alone r s (λ same. ap (is_in s) whole_is ∙ never same) alone in
        set_alone r s (elim (cases_Bool (is_rail r Targets)) [
          | inl same ↦
              let is : r ≡ Targets = same_rail r Targets same in
              let parts =
              or_parts (is_in s drops.front) (is_in s (target ∷ begin.rest))
              (sym (list_any-append (λ (k : Slot). k.0 == s.0) drops.front (target ∷ begin.rest))
              ∙ ap (is_in s) (sym (append_assoc drops.front (target ∷ []) begin.rest)) ∙ never same) in
              subst (λ k. IsAlone k s out) (sym is) (still_alone s parts.1 (subst (λ k. IsAlone k s mid) is before))
          | inr differ ↦ alone_rail Targets (At slot) mid out r s leaves.rest differ before
        ])

    listed_then : Lists Targets (At slot) begin.rest new
    listed_then =
        list_kept out new (same_kinds out new sets.kinds) (same_links out new sets.links)
        (same_header out new sets.header) Targets (At slot) begin.rest (leaves.list [] begin.rest here)

    header_then : header_of new ≡ header_of mid
    header_then = sets.header ∙ leaves.rest.header

    pub drops_more : Drops slot old new
    drops_more =
        record {
          front = drops.front ++ target ∷ [];
          rest = begin.rest;
          whole = subst (λ l. Lists Targets (At slot) l old) whole_is drops.whole;
          listed = listed_then;
          apart = still_apart;
          records = records_then;
          chains = chains_then;
          loose = λ s among.
              each_in (λ k. IsAlone Targets k new) drops.front target
              (λ k early. set_alone Targets k (still_alone k (early_apart k early) (drops.loose k early)))
              (set_alone Targets target leaves.own) s among;
          alone = alone_then;
          count = sets.count ∙ leaves.rest.count ∙ drops.count;
          body = body_then old mid new drops.body (by_header mid new header_then);
          as_many =
              sym sets.arena.told ∙ ap (λ (h : Head). h.pages) header_then ∙ drops.arena.told ∙ drops.as_many;
          arena = sets.arena;
          these = drops.these ++ (around ++ slot_page target.0 ∷ []);
          pages =
              both_only drops.these (around ++ slot_page target.0 ∷ []) old mid new (omega (arith, drops.as_many))
              drops.pages
              (both_only around (slot_page target.0 ∷ []) mid out new (omega (arith, leaves.rest.as_many))
              (leaves.pages [] begin.rest here) sets.pages);
        }

    -- one less is left
    pub fewer : left_in slot new < left_in slot mid
    fewer =
        less (left_in slot new) (left_in slot mid) (length begin.rest) (left_is slot new begin.rest listed_then)
        (left_is slot mid (target ∷ begin.rest) here)
      where
        less : (a b n : ℕ) → a ≡ n → b ≡ suc n → a < b
        less a b n first second = omega (arith, first, second)

-- ---- all of them

none_left : (slots : List Slot) → None ≡ first_of slots → slots ≡ []
none_left [] is = refl
none_left (x ∷ xs) is = absurd (cc)

pub drops_all : (slot : Slot) (old new : Pages) (drops : Drops slot old new) → None ≡ first_of drops.rest
    → (targets : List Slot) → Lists Targets (At slot) targets old → DropsTargets slot targets old new
drops_all slot old new drops last targets lists =
    let none_more : drops.rest ≡ [] = none_left drops.rest last in
    let front_is : drops.front ++ drops.rest ≡ drops.front =
    ap (λ l. drops.front ++ l) none_more ∙ append-nil drops.front in
    let same : targets ≡ drops.front =
    one_list Targets (At slot) targets (drops.front ++ drops.rest) old lists drops.whole ∙ front_is in
    subst (λ l. DropsTargets slot l old new) (sym same)
    (record {
      records = drops.records;
      chains = λ chains are apart.
          subst (λ l. AreChains (with_chain Targets (At slot) l chains) new) none_more
          (drops.chains chains are apart).0;
      loose = drops.loose;
      alone = λ r s never alone. drops.alone r s (λ same. ap (is_in s) front_is ∙ never same) alone;
      count = drops.count;
      body = drops.body;
      as_many = drops.as_many;
      these = drops.these;
      pages = drops.pages;
    })
